use Rattle.cdf_vars.proofs.Common.{Frame, List, PutsUpTo, R, SomePutting, ap, extent, false, index_at, max_rec_at, number, shape, shapes_of, subst, sym, true, variable_at, vdr_vxr_head, vdrs, ℕ, ◌+◌, ◌∙◌, ◌≡◌}
use Rattle.cdf_cuts.specs.Past.{CutPast, cut_off}
use Rattle.cdf_edits.specs.Index.Blocks.{cuts_before_put}
use Rattle.cdf_puts.specs.Starts.{IsKnownStart}
use Rattle.cdf_puts.specs.TidyIndex.{IsTidy}
use Rattle.cdf_trim.specs.Trimming.{KeepsBlocks}
use Rattle.cdf_vars.proofs.PutPast.{follows, known_now, now_extent, now_good, now_places, now_short, now_vdr, some_putting, start_yet, starts_now, starts_yet, tidy_now, tops}
use Rattle.cdf_vars.proofs.PutRead.{WasRead, cuts_there, expects_there, form_vdr, is_read, within}
use Rattle.cdf_vars.proofs.vars.Vars.write_unpacked_past.Given.{Over}
use Rattle.cdf_vars.proofs.vars.Vars.write_unpacked_past.Goals.{In_ok-stays, In_ok-put, In_ok-put_records}
use Rattle.cdf_vars.proofs.vars.Vars.write_unpacked_past.Goals as goal

-- the image that was read
here : (g : Over) (c : In_ok-put g) → WasRead (g.A.Area.image c.read_new_record.new.area) c.args.target.now c.in_ok-put.put.rec c.args.bytes.items c.in_ok-put.put (g.A.Area.frame c.read_new_record.new.area).limit false
here g c = is_read c.read_new_record.ensures.area.image (ap (λ (f : Frame _). f.limit) c.read_new_record.ensures.area.frame) c.requires.good c.requires.unpacked c.requires.can c.requires.room c.requires.limit c.in_ok-put.ensures.put

-- something is cut
cuts : (g : Over) (c : In_ok-put g) → cuts_before_put (variable_at (g.A.Area.image c.read_new_record.new.area) c.args.target.now.form.place.vdr) c.in_ok-put.put.rec ≡ true
cuts g c = cuts_there c.args.target.now.form.place.vdr c.read_new_record.ensures.area.image c.in_ok-put.ensures.put.rec_is c.requires.cuts

count : (g : Over) (c : In_ok-put g) → c.args.count ≡ extent (max_rec_at (g.A.Area.image c.read_new_record.new.area) c.args.target.now.form.place.vdr)
count g c = c.requires.count ∙ ap (λ (x : List ℕ). extent (max_rec_at x c.args.target.now.form.place.vdr)) (sym c.read_new_record.ensures.area.image)

pub cut_end-requires-clause-good : goal.cut_end-requires-clause-good
cut_end-requires-clause-good g c = (here g (goal.at.cut_end-requires-clause-good g c).In_ok-put).good

pub cut_end-requires-clause-vdr : goal.cut_end-requires-clause-vdr
cut_end-requires-clause-vdr g c =
    let k = here g (goal.at.cut_end-requires-clause-vdr g c).In_ok-put in
    rw (c.in_ok-put.ensures.put.vdr_is) (form_vdr k.good k.can.is.is_form)

pub cut_end-requires-clause-unpacked : goal.cut_end-requires-clause-unpacked
cut_end-requires-clause-unpacked g c = let k = here g (goal.at.cut_end-requires-clause-unpacked g c).In_ok-put in rw (c.in_ok-put.ensures.put.vdr_is) k.rle_is

pub cut_end-requires-clause-short : goal.cut_end-requires-clause-short
cut_end-requires-clause-short g c = (here g (goal.at.cut_end-requires-clause-short g c).In_ok-put).short

-- what is past MaxRec was cut
abbrev IsCut : (g : Over) → In_ok-stays g → Type 0
IsCut g c =
    let is = (here g (goal.at.In_ok-stays g c).In_ok-put).can.is in
    CutPast (g.A.Area.image c.read_new_record.new.area) (g.A.Area.image c.cut_end.new.area) c.args.target.now.id.kind is.before is.own (cut_off is.own c.args.count) is.after c.args.count

cut : (g : Over) (c : In_ok-stays g) → IsCut g c
cut g c =
    let is = (here g (goal.at.In_ok-stays g c).In_ok-put).can.is in
    c.in_ok-stays.ensures.past c.args.target.now.id.kind is.before is.own is.after is.among (is.vdr_is ∙ sym c.in_ok-put.ensures.put.vdr_is)

limit_is : (g : Over) (c : In_ok-stays g) → (g.A.Area.frame c.cut_end.new.area).limit ≡ (g.A.Area.frame c.read_new_record.new.area).limit
limit_is g c = ap (λ (f : Frame _). f.limit) c.in_ok-stays.ensures.area.frame

pub put_records-requires-clause-some : goal.put_records-requires-clause-some
put_records-requires-clause-some g c =
    let p = (goal.at.put_records-requires-clause-some g c).In_ok-put in
    let x = (goal.at.put_records-requires-clause-some g c).In_ok-stays in
    subst (λ (n : ℕ). SomePutting (g.A.Area.image c.cut_end.new.area) c.in_ok-put.put c.args.rec n) (sym (limit_is g x)) (some_putting (here g p) (count g p) (cuts g p) (cut g x) (sym c.in_ok-put.ensures.put.rec_is))

-- all were put
upto : (g : Over) (c : In_ok-put_records g) → PutsUpTo (g.A.Area.image c.cut_end.new.area) (g.A.Area.image c.put_records.new.area) (g.A.Area.frame c.read_new_record.new.area).limit c.in_ok-put.put (c.in_ok-put.put.rec + 1)
upto g c = subst (λ (n : ℕ). PutsUpTo (g.A.Area.image c.cut_end.new.area) (g.A.Area.image c.put_records.new.area) n c.in_ok-put.put (c.in_ok-put.put.rec + 1)) (limit_is g (goal.at.In_ok-put_records g c).In_ok-stays) c.in_ok-put_records.ensures.put

pub raise_max_rec-requires-clause-good : goal.raise_max_rec-requires-clause-good
raise_max_rec-requires-clause-good g c =
    let p = (goal.at.raise_max_rec-requires-clause-good g c).In_ok-put in
    let x = (goal.at.raise_max_rec-requires-clause-good g c).In_ok-stays in
    now_good (here g p) (count g p) (cuts g p) (cut g x) (upto g (goal.at.raise_max_rec-requires-clause-good g c).In_ok-put_records)

pub raise_max_rec-requires-clause-places : goal.raise_max_rec-requires-clause-places
raise_max_rec-requires-clause-places g c =
    let p = (goal.at.raise_max_rec-requires-clause-places g c).In_ok-put in
    let x = (goal.at.raise_max_rec-requires-clause-places g c).In_ok-stays in
    let stays = now_places (here g p) (count g p) (cuts g p) (cut g x) (upto g (goal.at.raise_max_rec-requires-clause-places g c).In_ok-put_records) R in
    c.requires.known.r_known.places_are ∙ ap (λ (x : List ℕ). vdrs (shapes_of (shape x) R)) (sym c.read_new_record.ensures.area.image) ∙ stays

pub raise_max_rec-requires-clause-short : goal.raise_max_rec-requires-clause-short
raise_max_rec-requires-clause-short g c =
    let p = (goal.at.raise_max_rec-requires-clause-short g c).In_ok-put in
    let x = (goal.at.raise_max_rec-requires-clause-short g c).In_ok-stays in
    now_short (here g p) (count g p) (cuts g p) (cut g x) (upto g (goal.at.raise_max_rec-requires-clause-short g c).In_ok-put_records)

pub raise_max_rec-requires-clause-vdr : goal.raise_max_rec-requires-clause-vdr
raise_max_rec-requires-clause-vdr g c =
    let p = (goal.at.raise_max_rec-requires-clause-vdr g c).In_ok-put in
    let x = (goal.at.raise_max_rec-requires-clause-vdr g c).In_ok-stays in
    now_vdr (here g p) (count g p) (cuts g p) (cut g x) (upto g (goal.at.raise_max_rec-requires-clause-vdr g c).In_ok-put_records)

pub raise_max_rec-requires-clause-count : goal.raise_max_rec-requires-clause-count
raise_max_rec-requires-clause-count g c =
    let p = (goal.at.raise_max_rec-requires-clause-count g c).In_ok-put in
    let x = (goal.at.raise_max_rec-requires-clause-count g c).In_ok-stays in
    count g p ∙ now_extent (here g p) (count g p) (cuts g p) (cut g x) (upto g (goal.at.raise_max_rec-requires-clause-count g c).In_ok-put_records)

pub raise_max_rec-requires-clause-within : goal.raise_max_rec-requires-clause-within
raise_max_rec-requires-clause-within g c = within (variable_at (g.A.Area.image c.args.area.now) c.args.target.now.form.place.vdr) c.args.rec c.requires.can.can

pub returns-clause-follows : goal.returns-clause-follows
returns-clause-follows g c =
    let p = (goal.at.returns-clause-follows g c).In_ok-put in
    let x = (goal.at.returns-clause-follows g c).In_ok-stays in
    let all = upto g (goal.at.returns-clause-follows g c).In_ok-put_records in
    let rec_is = c.in_ok-put.ensures.put.rec_is in
    rw (rec_is, c.read_new_record.ensures.area.image) at (follows (here g p) (count g p) (cuts g p) (cut g x) all (rw (← rec_is) at c.in_ok-raise_max_rec.ensures.raised))

pub returns-clause-known : goal.returns-clause-known
returns-clause-known g c =
    let p = (goal.at.returns-clause-known g c).In_ok-put in
    let x = (goal.at.returns-clause-known g c).In_ok-stays in
    let all = upto g (goal.at.returns-clause-known g c).In_ok-put_records in
    known_now (here g p) (count g p) (cuts g p) (cut g x) all (rw (← c.in_ok-put.ensures.put.rec_is) at c.in_ok-raise_max_rec.ensures.raised) (rw (c.read_new_record.ensures.area.image) c.requires.known)

pub returns-clause-forgotten : goal.returns-clause-forgotten
returns-clause-forgotten g c starts knows forgotten =
    let p = (goal.at.returns-clause-forgotten g c).In_ok-put in
    let x = (goal.at.returns-clause-forgotten g c).In_ok-stays in
    let all = upto g (goal.at.returns-clause-forgotten g c).In_ok-put_records in
    starts_now (here g p) (count g p) (cuts g p) (cut g x) all (rw (← c.in_ok-put.ensures.put.rec_is) at c.in_ok-raise_max_rec.ensures.raised) (rw (c.read_new_record.ensures.area.image) knows) forgotten

-- ---- what is known of the index

pub cut_end-requires-clause-start : goal.cut_end-requires-clause-start
cut_end-requires-clause-start g c = rw (c.in_ok-put.ensures.put.vdr_is, c.read_new_record.ensures.area.image) c.requires.start

pub cut_end-requires-clause-tidy : goal.cut_end-requires-clause-tidy
cut_end-requires-clause-tidy g c says = rw (c.in_ok-put.ensures.put.vdr_is, c.read_new_record.ensures.area.image) (c.requires.tidy says)

tidy_there : (g : Over) (c : In_ok-stays g) → c.in_ok-stays.stays ≡ true → IsTidy (index_at (g.A.Area.image c.read_new_record.new.area) (number (g.A.Area.image c.read_new_record.new.area) c.args.target.now.form.place.vdr vdr_vxr_head))
tidy_there g c says = rw (c.read_new_record.ensures.area.image) (c.requires.tidy (c.in_ok-stays.ensures.tidy says))

blocks_there : (g : Over) (c : In_ok-stays g) → c.in_ok-stays.stays ≡ true → KeepsBlocks c.args.count (index_at (g.A.Area.image c.read_new_record.new.area) (number (g.A.Area.image c.read_new_record.new.area) c.args.target.now.form.place.vdr vdr_vxr_head))
blocks_there g c says = rw (c.in_ok-put.ensures.put.vdr_is) at (c.in_ok-stays.ensures.stays says)

pub put_records-requires-clause-known : goal.put_records-requires-clause-known
put_records-requires-clause-known g c =
    let p = (goal.at.put_records-requires-clause-known g c).In_ok-put in
    let x = (goal.at.put_records-requires-clause-known g c).In_ok-stays in
    let mid = g.A.Area.image c.cut_end.new.area in
    let vdr = c.args.target.now.form.place.vdr in
    let start : IsKnownStart (g.A.Area.image c.read_new_record.new.area) vdr c.args.end.node = rw (c.read_new_record.ensures.area.image) c.requires.start in
    rw (c.in_ok-put.ensures.put.vdr_is) (c.known_yet.ensures (index_at mid (number mid vdr vdr_vxr_head)) (λ says. start_yet (here g p) (count g p) (cuts g p) (cut g x) (tidy_there g x says) (blocks_there g x says) c.args.end.node start))

pub returns-clause-starts : goal.returns-clause-starts
returns-clause-starts g c says starts knows expects =
    let p = (goal.at.returns-clause-starts g c).In_ok-put in
    let x = (goal.at.returns-clause-starts g c).In_ok-stays in
    let all = upto g (goal.at.returns-clause-starts g c).In_ok-put_records in
    let there = expects_there c.args.target.now.form.place.vdr starts c.read_new_record.ensures.area.image c.in_ok-put.ensures.put.rec_is expects in
    let stay = tops (here g p) (count g p) (cuts g p) (cut g x) (tidy_there g x says) (blocks_there g x says) in
    starts_yet (here g p) (count g p) (cuts g p) (cut g x) all (rw (← c.in_ok-put.ensures.put.rec_is) at c.in_ok-raise_max_rec.ensures.raised) stay (rw (c.read_new_record.ensures.area.image) knows) there

pub returns-clause-tidy : goal.returns-clause-tidy
returns-clause-tidy g c =
    let p = (goal.at.returns-clause-tidy g c).In_ok-put in
    let x = (goal.at.returns-clause-tidy g c).In_ok-stays in
    let all = upto g (goal.at.returns-clause-tidy g c).In_ok-put_records in
    tidy_now (here g p) (count g p) (cuts g p) (cut g x) all (rw (← c.in_ok-put.ensures.put.rec_is) at c.in_ok-raise_max_rec.ensures.raised)
