use Rattle.cdf_vars.proofs.Common.{Frame, Good, IsVdr, List, None, ap, arith, before, edit_done, edit_failed, edit_more, keeps_by_read, last_got, last_or, length, members_of, padded_flags, read_once, subst, sym, take, variables_chain, ℕ, ◌+◌, ◌∙◌, ◌≡◌}
use Rattle.cdf_vars.proofs.PadSet.{body_long, is_vdr, old_long, place_in, stands_behind}
use Rattle.cdf_vars.proofs.pad_record.move_vdr.Goals as goal

pub overflow_add-place : goal.overflow_add-place
overflow_add-place g c = let l = place_in (g.A.Area.image c.args.area.now) c.args.kind c.requires.good c.requires.places c.requires.within c.requires.vdr c.requires.place in omega (arith, l, c.requires.room, c.requires.limit)

pub read_bytes-requires : goal.read_bytes-requires
read_bytes-requires g c = let l = place_in (g.A.Area.image c.args.area.now) c.args.kind c.requires.good c.requires.places c.requires.within c.requires.vdr c.requires.place in omega (arith, l)

pub padded_bytes-requires : goal.padded_bytes-requires
padded_bytes-requires g c = old_long (g.A.Area.image c.args.area.now) c.args.kind c.requires.good c.requires.places c.requires.within c.requires.vdr c.requires.place c.deref-2.result.now (c.deref-2.ensures.value ∙ c.in_ok-old.ensures.bytes)

pub replace_vdr-requires-clause-good : goal.replace_vdr-requires-clause-good
replace_vdr-requires-clause-good g c = subst Good (sym c.read_bytes.ensures.area.image) c.requires.good

pub replace_vdr-requires-clause-vdr : goal.replace_vdr-requires-clause-vdr
replace_vdr-requires-clause-vdr g c = subst (λ (x : List ℕ). IsVdr x c.args.kind c.args.place.vdr) (sym c.read_bytes.ensures.area.image) (is_vdr (g.A.Area.image c.args.area.now) c.args.kind c.requires.good c.requires.places c.requires.within c.requires.vdr)

pub replace_vdr-requires-clause-behind : goal.replace_vdr-requires-clause-behind
replace_vdr-requires-clause-behind g c =
    c.copied-behind.ensures ∙ c.last.ensures.value ∙ last_got (take c.args.num c.deref.result.now) ∙ ap (λ (xs : List ℕ). last_or None (take c.args.num xs)) c.deref.ensures.value
    ∙ stands_behind (g.A.Area.image c.args.area.now) c.args.kind c.requires.good c.requires.places c.requires.within c.requires.vdr
    ∙ ap (λ (x : List ℕ). last_or None (before c.args.place.vdr (members_of x (variables_chain c.args.kind)))) (sym c.read_bytes.ensures.area.image)

pub replace_vdr-requires-clause-room : goal.replace_vdr-requires-clause-room
replace_vdr-requires-clause-room g c =
    let long : 8 + length c.deref-3.result.now ≡ c.args.place.at + length c.args.value.now =
    body_long (g.A.Area.image c.args.area.now) c.args.kind c.requires.good c.requires.places c.requires.within c.requires.vdr c.requires.place c.deref-2.result.now c.deref-3.result.now c.args.value.now (padded_flags c.args.place.flags) (c.deref-2.ensures.value ∙ c.in_ok-old.ensures.bytes) (c.deref-3.ensures.value ∙ c.in_ok-bytes.ensures) in
    let same = ap (λ (x : List ℕ). length x) c.read_bytes.ensures.area.image in
    let bound = ap (λ (f : Frame _). f.limit) c.read_bytes.ensures.area.frame in
    omega (arith, long, same, bound, c.requires.room)

pub returns-in_err-by-clause-area : goal.returns-in_err-by-clause-area
returns-in_err-by-clause-area g c = edit_failed (keeps_by_read (read_once c.in_ok-old.ensures.area)) c.in_err-by.ensures.area c.from_residual-in_err-by.ensures.1

pub returns-clause-area : goal.returns-clause-area
returns-clause-area g c = edit_done (edit_more (keeps_by_read (read_once c.in_ok-old.ensures.area)) c.in_ok-by.ensures.area)
