use Rattle.cdf_vars.proofs.Common.{Frame, Kind, List, NewRecord, R, VariableShape, ap, extent, max_rec_at, on_ok_weaker, record_bytes, shape, shapes_of, subst, sym, true, variable_at, vdrs, ℕ, ◌∙◌, ◌≡◌}
use Rattle.cdf_edits.specs.Index.Blocks.{cuts_before_put}
use Rattle.cdf_packed_cuts.specs.Past.{PackedPast}
use Rattle.cdf_packed_puts.specs.Putting.{PackedPut, Packing, SomePacking}
use Rattle.cdf_var_records.proofs.RecordReading.{record_size_is}
use Rattle.cdf_vars.proofs.PackedPast.{cut_room, follows, known_now, now_extent, now_good, now_places, now_short, now_vdr, some_packing, starts_now}
use Rattle.cdf_vars.proofs.PutRead.{WasRead, cuts_there, form_vdr, is_read, within}
use Rattle.cdf_vars.proofs.vars.Vars.write_packed_past.Given.{Over}
use Rattle.cdf_vars.proofs.vars.Vars.write_packed_past.Goals.{In_ok-cut_packed_past, In_ok-put, In_ok-put_packed}
use Rattle.cdf_vars.proofs.vars.Vars.write_packed_past.Goals as goal

-- the image that was read
here : (g : Over) (c : In_ok-put g) → WasRead (g.A.Area.image c.read_new_record.new.area) c.args.target.now c.in_ok-put.put.rec c.args.bytes.items c.in_ok-put.put (g.A.Area.frame c.read_new_record.new.area).limit true
here g c = is_read c.read_new_record.ensures.area.image (ap (λ (f : Frame _). f.limit) c.read_new_record.ensures.area.frame) c.requires.good c.requires.packed c.requires.can c.requires.room c.requires.limit c.in_ok-put.ensures.put

-- something is cut
cuts : (g : Over) (c : In_ok-put g) → cuts_before_put (variable_at (g.A.Area.image c.read_new_record.new.area) c.args.target.now.form.place.vdr) c.in_ok-put.put.rec ≡ true
cuts g c = cuts_there c.args.target.now.form.place.vdr c.read_new_record.ensures.area.image c.in_ok-put.ensures.put.rec_is c.requires.cuts

count : (g : Over) (c : In_ok-put g) → c.args.count ≡ extent (max_rec_at (g.A.Area.image c.read_new_record.new.area) c.args.target.now.form.place.vdr)
count g c = c.requires.count ∙ ap (λ (x : List ℕ). extent (max_rec_at x c.args.target.now.form.place.vdr)) (sym c.read_new_record.ensures.area.image)

sized : (g : Over) (c : In_ok-put g) → c.record_size_of-rec_bytes.result ≡ record_bytes (g.A.Area.image c.read_new_record.new.area) c.args.target.now.form.place.vdr
sized g c = let k = here g c in c.record_size_of-rec_bytes.ensures ∙ record_size_is k.good k.can.is.is_form

pub cut_packed_past-requires-clause-good : goal.cut_packed_past-requires-clause-good
cut_packed_past-requires-clause-good g c = (here g (goal.at.cut_packed_past-requires-clause-good g c).In_ok-put).good

pub cut_packed_past-requires-clause-vdr : goal.cut_packed_past-requires-clause-vdr
cut_packed_past-requires-clause-vdr g c =
    let k = here g (goal.at.cut_packed_past-requires-clause-vdr g c).In_ok-put in
    rw (c.in_ok-put.ensures.put.vdr_is) (form_vdr k.good k.can.is.is_form)

pub cut_packed_past-requires-clause-packed : goal.cut_packed_past-requires-clause-packed
cut_packed_past-requires-clause-packed g c = let k = here g (goal.at.cut_packed_past-requires-clause-packed g c).In_ok-put in rw (c.in_ok-put.ensures.put.vdr_is) k.rle_is

pub cut_packed_past-requires-clause-size : goal.cut_packed_past-requires-clause-size
cut_packed_past-requires-clause-size g c = rw (c.in_ok-put.ensures.put.vdr_is) (sized g (goal.at.cut_packed_past-requires-clause-size g c).In_ok-put)

pub cut_packed_past-requires-clause-room : goal.cut_packed_past-requires-clause-room
cut_packed_past-requires-clause-room g c =
    let p = (goal.at.cut_packed_past-requires-clause-room g c).In_ok-put in
    rw (c.in_ok-put.ensures.put.vdr_is) (cut_room (here g p) (count g p) (cuts g p) (sized g p))

pub cut_packed_past-requires-clause-short : goal.cut_packed_past-requires-clause-short
cut_packed_past-requires-clause-short g c = (here g (goal.at.cut_packed_past-requires-clause-short g c).In_ok-put).short

pub cut_packed_past-requires-clause-limit : goal.cut_packed_past-requires-clause-limit
cut_packed_past-requires-clause-limit g c = (here g (goal.at.cut_packed_past-requires-clause-limit g c).In_ok-put).bound

-- what is past MaxRec was cut
abbrev IsCut : (g : Over) → In_ok-cut_packed_past g → Type 0
IsCut g c =
    let is = (here g (goal.at.In_ok-cut_packed_past g c).In_ok-put).can.is in
    PackedPast (g.A.Area.image c.read_new_record.new.area) (g.A.Area.image c.cut_packed_past.new.area) c.args.target.now.id.kind is.before is.own is.after c.args.count

cut : (g : Over) (c : In_ok-cut_packed_past g) → IsCut g c
cut g c =
    let is = (here g (goal.at.In_ok-cut_packed_past g c).In_ok-put).can.is in
    c.in_ok-cut_packed_past.ensures.past c.args.target.now.id.kind is.before is.own is.after is.among (is.vdr_is ∙ sym c.in_ok-put.ensures.put.vdr_is)

limit_is : (g : Over) (c : In_ok-cut_packed_past g) → (g.A.Area.frame c.cut_packed_past.new.area).limit ≡ (g.A.Area.frame c.read_new_record.new.area).limit
limit_is g c = ap (λ (f : Frame _). f.limit) c.in_ok-cut_packed_past.ensures.area.frame

pub put_packed-requires-clause-some : goal.put_packed-requires-clause-some
put_packed-requires-clause-some g c =
    let p = (goal.at.put_packed-requires-clause-some g c).In_ok-put in
    let x = (goal.at.put_packed-requires-clause-some g c).In_ok-cut_packed_past in
    subst (λ (n : ℕ). SomePacking (g.A.Area.image c.cut_packed_past.new.area) c.in_ok-put.put c.args.rec n) (sym (limit_is g x)) (some_packing (here g p) (count g p) (cuts g p) (cut g x) (sym c.in_ok-put.ensures.put.rec_is))

pub put_packed-requires-clause-limit : goal.put_packed-requires-clause-limit
put_packed-requires-clause-limit g c = rw (limit_is g (goal.at.put_packed-requires-clause-limit g c).In_ok-cut_packed_past) (here g (goal.at.put_packed-requires-clause-limit g c).In_ok-put).bound

-- all were put
abbrev Puts : List ℕ → List ℕ → NewRecord → ℕ → Type 0
Puts mid now put limit = (kind : Kind) (before : List VariableShape) (own : VariableShape) (after : List VariableShape) → Packing mid kind before own after put limit → PackedPut mid now kind before own after put

puts : (g : Over) (c : In_ok-put_packed g) → Puts (g.A.Area.image c.cut_packed_past.new.area) (g.A.Area.image c.put_packed.new.area) c.in_ok-put.put (g.A.Area.frame c.read_new_record.new.area).limit
puts g c = subst (Puts (g.A.Area.image c.cut_packed_past.new.area) (g.A.Area.image c.put_packed.new.area) c.in_ok-put.put) (limit_is g (goal.at.In_ok-put_packed g c).In_ok-cut_packed_past) c.in_ok-put_packed.ensures.put

pub raise_max_rec-requires-clause-good : goal.raise_max_rec-requires-clause-good
raise_max_rec-requires-clause-good g c =
    let p = (goal.at.raise_max_rec-requires-clause-good g c).In_ok-put in
    let x = (goal.at.raise_max_rec-requires-clause-good g c).In_ok-cut_packed_past in
    now_good (here g p) (count g p) (cuts g p) (cut g x) (puts g (goal.at.raise_max_rec-requires-clause-good g c).In_ok-put_packed)

pub raise_max_rec-requires-clause-places : goal.raise_max_rec-requires-clause-places
raise_max_rec-requires-clause-places g c =
    let p = (goal.at.raise_max_rec-requires-clause-places g c).In_ok-put in
    let x = (goal.at.raise_max_rec-requires-clause-places g c).In_ok-cut_packed_past in
    let stays = now_places (here g p) (count g p) (cuts g p) (cut g x) (puts g (goal.at.raise_max_rec-requires-clause-places g c).In_ok-put_packed) R in
    c.requires.known.r_known.places_are ∙ ap (λ (x : List ℕ). vdrs (shapes_of (shape x) R)) (sym c.read_new_record.ensures.area.image) ∙ stays

pub raise_max_rec-requires-clause-short : goal.raise_max_rec-requires-clause-short
raise_max_rec-requires-clause-short g c =
    let p = (goal.at.raise_max_rec-requires-clause-short g c).In_ok-put in
    let x = (goal.at.raise_max_rec-requires-clause-short g c).In_ok-cut_packed_past in
    now_short (here g p) (count g p) (cuts g p) (cut g x) (puts g (goal.at.raise_max_rec-requires-clause-short g c).In_ok-put_packed)

pub raise_max_rec-requires-clause-vdr : goal.raise_max_rec-requires-clause-vdr
raise_max_rec-requires-clause-vdr g c =
    let p = (goal.at.raise_max_rec-requires-clause-vdr g c).In_ok-put in
    let x = (goal.at.raise_max_rec-requires-clause-vdr g c).In_ok-cut_packed_past in
    now_vdr (here g p) (count g p) (cuts g p) (cut g x) (puts g (goal.at.raise_max_rec-requires-clause-vdr g c).In_ok-put_packed)

pub raise_max_rec-requires-clause-count : goal.raise_max_rec-requires-clause-count
raise_max_rec-requires-clause-count g c =
    let p = (goal.at.raise_max_rec-requires-clause-count g c).In_ok-put in
    let x = (goal.at.raise_max_rec-requires-clause-count g c).In_ok-cut_packed_past in
    count g p ∙ now_extent (here g p) (count g p) (cuts g p) (cut g x) (puts g (goal.at.raise_max_rec-requires-clause-count g c).In_ok-put_packed)

pub raise_max_rec-requires-clause-within : goal.raise_max_rec-requires-clause-within
raise_max_rec-requires-clause-within g c = within (variable_at (g.A.Area.image c.args.area.now) c.args.target.now.form.place.vdr) c.args.rec c.requires.can.can

pub returns-clause-follows : goal.returns-clause-follows
returns-clause-follows g c =
    let p = (goal.at.returns-clause-follows g c).In_ok-put in
    let x = (goal.at.returns-clause-follows g c).In_ok-cut_packed_past in
    let all = puts g (goal.at.returns-clause-follows g c).In_ok-put_packed in
    let rec_is = c.in_ok-put.ensures.put.rec_is in
    on_ok_weaker c.raise_max_rec.result (λ raises. rw (rec_is, c.read_new_record.ensures.area.image) at (follows (here g p) (count g p) (cuts g p) (cut g x) all (rw (← rec_is) at raises))) c.raise_max_rec.ensures.raised

pub returns-clause-known : goal.returns-clause-known
returns-clause-known g c =
    let p = (goal.at.returns-clause-known g c).In_ok-put in
    let x = (goal.at.returns-clause-known g c).In_ok-cut_packed_past in
    let all = puts g (goal.at.returns-clause-known g c).In_ok-put_packed in
    on_ok_weaker c.raise_max_rec.result (λ raises. known_now (here g p) (count g p) (cuts g p) (cut g x) all (rw (← c.in_ok-put.ensures.put.rec_is) at raises) (rw (c.read_new_record.ensures.area.image) c.requires.known)) c.raise_max_rec.ensures.raised

pub returns-clause-forgotten : goal.returns-clause-forgotten
returns-clause-forgotten g c =
    let p = (goal.at.returns-clause-forgotten g c).In_ok-put in
    let x = (goal.at.returns-clause-forgotten g c).In_ok-cut_packed_past in
    let all = puts g (goal.at.returns-clause-forgotten g c).In_ok-put_packed in
    on_ok_weaker c.raise_max_rec.result (λ raises starts knows forgotten. starts_now (here g p) (count g p) (cuts g p) (cut g x) all (rw (← c.in_ok-put.ensures.put.rec_is) at raises) (rw (c.read_new_record.ensures.area.image) knows) forgotten) c.raise_max_rec.ensures.raised
