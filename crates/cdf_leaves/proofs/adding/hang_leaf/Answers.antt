use Rattle.cdf_leaves.proofs.Common.{Frame, refl, edit_done, edit_failed, edit_more, edit_once, ap, arith, eqb-true, inl, inr, length, nil_from_length, rules, sym, ◌∙◌}
use Rattle.cdf_leaves.proofs.AddCalls.{end_ready, end_there, put_added, room_ready, stands_ready, still_ends, tail_added, vdr_still}
use Rattle.cdf_leaves.proofs.adding.hang_leaf.Goals.{then-at-eq0-via-then-at-eq0, then-at-eq0-via-else-at-eq0+then-not-is_empty}
use Rattle.cdf_leaves.proofs.adding.hang_leaf.Goals as goal

pub put_along-requires-clause-eof : goal.put_along-requires-clause-eof
put_along-requires-clause-eof g c = still_ends c.requires.may_add c.in_ok-place.ensures.placed

pub put_along-requires-clause-end : goal.put_along-requires-clause-end
put_along-requires-clause-end g c = end_ready c.requires.may_add c.in_ok-place.ensures.placed c.requires.way

pub put_along-requires-clause-stands : goal.put_along-requires-clause-stands
put_along-requires-clause-stands g c = λ now at put. stands_ready c.requires.may_add c.in_ok-place.ensures.placed c.requires.way put

pub put_along-requires-clause-room : goal.put_along-requires-clause-room
put_along-requires-clause-room g c = omega (arith, room_ready c.requires.may_add c.in_ok-place.ensures.placed c.requires.way, ap (λ (f : Frame _). f.limit) c.in_ok-place.ensures.area.frame)

pub returns-then-at-eq0-clause-added : goal.returns-then-at-eq0-clause-added
returns-then-at-eq0-clause-added g c = put_added c.requires.may_add c.in_ok-place.ensures.placed c.requires.way c.in_ok-at.ensures.put (elim c.then-at-eq0.branch [
  | then-at-eq0-via-then-at-eq0 w ↦ inl w.if-at-eq0.true
  | then-at-eq0-via-else-at-eq0+then-not-is_empty w ↦ inr (λ z. absurd (search (rules, ap length z, c.in_ok-at.ensures.counted, w.is_empty.ensures, w.if-not-is_empty.true)))
])

pub set_tail-requires-clause-chain : goal.set_tail-requires-clause-chain
set_tail-requires-clause-chain g c = end_there c.requires.may_add c.in_ok-place.ensures.placed c.requires.way c.in_ok-at.ensures.put (nil_from_length _ (sym c.in_ok-at.ensures.counted ∙ eqb-true _ 0 (sym c.is_empty.ensures ∙ c.if-not-is_empty.false)))

pub set_tail-requires-clause-lies : goal.set_tail-requires-clause-lies
set_tail-requires-clause-lies g c = vdr_still c.requires.may_add c.in_ok-place.ensures.placed c.requires.way c.in_ok-at.ensures.put

pub returns-clause-added : goal.returns-clause-added
returns-clause-added g c = tail_added c.requires.may_add c.in_ok-place.ensures.placed c.requires.way c.in_ok-at.ensures.put c.if-at-eq0.false (nil_from_length _ (sym c.in_ok-at.ensures.counted ∙ eqb-true _ 0 (sym c.is_empty.ensures ∙ c.if-not-is_empty.false))) c.in_ok-set_tail.ensures.set

pub returns-in_err-at-clause-area : goal.returns-in_err-at-clause-area
returns-in_err-at-clause-area g c = edit_failed (edit_once c.in_ok-place.ensures.area) c.in_err-at.ensures.area c.from_residual-in_err-at.ensures.1

pub returns-then-at-eq0-clause-area : goal.returns-then-at-eq0-clause-area
returns-then-at-eq0-clause-area g c = edit_done (edit_more (edit_once c.in_ok-place.ensures.area) c.in_ok-at.ensures.area)

pub returns-in_err-set_tail-clause-area : goal.returns-in_err-set_tail-clause-area
returns-in_err-set_tail-clause-area g c = edit_failed (edit_more (edit_once c.in_ok-place.ensures.area) c.in_ok-at.ensures.area) c.in_err-set_tail.ensures.area c.from_residual-in_err-set_tail.ensures.1

pub returns-clause-area : goal.returns-clause-area
returns-clause-area g c = edit_done (edit_more (edit_more (edit_once c.in_ok-place.ensures.area) c.in_ok-at.ensures.area) c.in_ok-set_tail.ensures.area)

pub returns-in_err-place-clause-area : goal.returns-in_err-place-clause-area
returns-in_err-place-clause-area g c = edit_failed (record { frame = refl; faults = refl }) c.in_err-place.ensures.area c.from_residual.ensures.1
