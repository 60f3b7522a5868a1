use Rattle.cdf_edits.specs.Index.Blocks.{cuts_before_put}
use Rattle.cdf_vars.proofs.Common.{Frame, List, R, ap, extent, max_rec_at, min, on_ok_weaker, shape, shapes_of, sym, true, variable_at, vdrs, ℕ, ◌∙◌, ◌≡◌, false}
use Rattle.cdf_vars.proofs.PutRead.{WasRead, cuts_own, cuts_there, expects_there, from_is, is_read, within}
use Rattle.cdf_vars.proofs.PackedWhole.{follows, known_now, now_extent, now_good, now_places, now_short, now_vdr, some_packing, starts_now}
use Rattle.cdf_vars.proofs.vars.Vars.write_packed.Given.{Over}
use Rattle.cdf_vars.proofs.vars.Vars.write_packed.Goals.{In_ok-put}
use Rattle.cdf_vars.proofs.vars.Vars.write_packed.Goals as goal

-- the image that was read
here : (g : Over) (c : In_ok-put g) → WasRead (g.A.Area.image c.read_new_record.new.area) c.args.target.now c.in_ok-put.put.rec c.args.bytes.items c.in_ok-put.put (g.A.Area.frame c.read_new_record.new.area).limit true
here g c = is_read c.read_new_record.ensures.area.image (ap (λ (f : Frame _). f.limit) c.read_new_record.ensures.area.frame) c.requires.good c.requires.packed c.requires.can c.requires.room c.requires.limit c.in_ok-put.ensures.put

-- nothing is cut
whole : (g : Over) (c : In_ok-put g) → cuts_before_put (variable_at (g.A.Area.image c.read_new_record.new.area) c.args.target.now.form.place.vdr) c.in_ok-put.put.rec ≡ false
whole g c = cuts_there c.args.target.now.form.place.vdr c.read_new_record.ensures.area.image c.in_ok-put.ensures.put.rec_is c.requires.uncut

pub put_packed-requires-clause-some : goal.put_packed-requires-clause-some
put_packed-requires-clause-some g c =
    let k = here g (goal.at.put_packed-requires-clause-some g c).In_ok-put in
    let count = c.requires.count ∙ ap (λ (x : List ℕ). extent (max_rec_at x c.args.target.now.form.place.vdr)) (sym c.read_new_record.ensures.area.image) in
    let w = whole g (goal.at.put_packed-requires-clause-some g c).In_ok-put in
    some_packing k w (c.min.ensures ∙ ap (λ (n : ℕ). min n c.args.count) (sym c.in_ok-put.ensures.put.rec_is) ∙ from_is k.good k.can.is c.in_ok-put.put.rec count (cuts_own k w))

pub raise_max_rec-requires-clause-good : goal.raise_max_rec-requires-clause-good
raise_max_rec-requires-clause-good g c = now_good (here g (goal.at.raise_max_rec-requires-clause-good g c).In_ok-put) (whole g (goal.at.raise_max_rec-requires-clause-good g c).In_ok-put) c.in_ok-put_packed.ensures.put

pub raise_max_rec-requires-clause-places : goal.raise_max_rec-requires-clause-places
raise_max_rec-requires-clause-places g c =
    let stays = now_places (here g (goal.at.raise_max_rec-requires-clause-places g c).In_ok-put) (whole g (goal.at.raise_max_rec-requires-clause-places g c).In_ok-put) c.in_ok-put_packed.ensures.put R in
    c.requires.known.r_known.places_are ∙ ap (λ (x : List ℕ). vdrs (shapes_of (shape x) R)) (sym c.read_new_record.ensures.area.image) ∙ stays

pub raise_max_rec-requires-clause-short : goal.raise_max_rec-requires-clause-short
raise_max_rec-requires-clause-short g c = now_short (here g (goal.at.raise_max_rec-requires-clause-short g c).In_ok-put) (whole g (goal.at.raise_max_rec-requires-clause-short g c).In_ok-put) c.in_ok-put_packed.ensures.put

pub raise_max_rec-requires-clause-vdr : goal.raise_max_rec-requires-clause-vdr
raise_max_rec-requires-clause-vdr g c = now_vdr (here g (goal.at.raise_max_rec-requires-clause-vdr g c).In_ok-put) (whole g (goal.at.raise_max_rec-requires-clause-vdr g c).In_ok-put) c.in_ok-put_packed.ensures.put

pub raise_max_rec-requires-clause-count : goal.raise_max_rec-requires-clause-count
raise_max_rec-requires-clause-count g c =
    let stays = now_extent (here g (goal.at.raise_max_rec-requires-clause-count g c).In_ok-put) (whole g (goal.at.raise_max_rec-requires-clause-count g c).In_ok-put) c.in_ok-put_packed.ensures.put in
    c.requires.count ∙ ap (λ (x : List ℕ). extent (max_rec_at x c.args.target.now.form.place.vdr)) (sym c.read_new_record.ensures.area.image) ∙ stays

pub raise_max_rec-requires-clause-within : goal.raise_max_rec-requires-clause-within
raise_max_rec-requires-clause-within g c = within (variable_at (g.A.Area.image c.args.area.now) c.args.target.now.form.place.vdr) c.args.rec c.requires.can.can

pub returns-clause-follows : goal.returns-clause-follows
returns-clause-follows g c =
    let k = here g (goal.at.returns-clause-follows g c).In_ok-put in
    let w = whole g (goal.at.returns-clause-follows g c).In_ok-put in
    let rec_is = c.in_ok-put.ensures.put.rec_is in
    on_ok_weaker c.raise_max_rec.result (λ raises. rw (rec_is, c.read_new_record.ensures.area.image) at (follows k w c.in_ok-put_packed.ensures.put (rw (← rec_is) at raises))) c.raise_max_rec.ensures.raised

pub returns-clause-known : goal.returns-clause-known
returns-clause-known g c =
    let k = here g (goal.at.returns-clause-known g c).In_ok-put in
    let w = whole g (goal.at.returns-clause-known g c).In_ok-put in
    on_ok_weaker c.raise_max_rec.result (λ raises. known_now k w c.in_ok-put_packed.ensures.put (rw (← c.in_ok-put.ensures.put.rec_is) at raises) (rw (c.read_new_record.ensures.area.image) c.requires.known)) c.raise_max_rec.ensures.raised

pub put_packed-requires-clause-known : goal.put_packed-requires-clause-known
put_packed-requires-clause-known g c = rw (c.in_ok-put.ensures.put.vdr_is, c.read_new_record.ensures.area.image) c.requires.start

pub returns-clause-starts : goal.returns-clause-starts
returns-clause-starts g c =
    let k = here g (goal.at.returns-clause-starts g c).In_ok-put in
    let w = whole g (goal.at.returns-clause-starts g c).In_ok-put in
    on_ok_weaker c.raise_max_rec.result (λ raises starts knows expects. starts_now k w c.in_ok-put_packed.ensures.put (rw (← c.in_ok-put.ensures.put.rec_is) at raises) (rw (c.read_new_record.ensures.area.image) knows) (expects_there c.args.target.now.form.place.vdr starts c.read_new_record.ensures.area.image c.in_ok-put.ensures.put.rec_is expects)) c.raise_max_rec.ensures.raised
