use Rattle.cdf_check.proofs.Common.{Hold, List, cpr_at, map, take, unread_variables, ℕ, ◌≡◌}
use Rattle.cdf_check.proofs.image_rules.check_read.Given as goal

abbrev pub invariant-loop-i : goal.invariant-loop-i
invariant-loop-i l = (b : List ℕ) → l.cprs ≡ map (cpr_at b) l.vdrs → Hold (unread_variables b (take l.i l.vdrs))
