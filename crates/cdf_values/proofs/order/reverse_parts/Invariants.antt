use Rattle.cdf_values.proofs.Common.{drop, flat_map, parts, reverse, ◌*◌, ◌++◌, ◌≡◌}
use Rattle.cdf_values.proofs.order.reverse_parts.Given as goal

abbrev pub invariant-loop-i : goal.invariant-loop-i
invariant-loop-i l = l.bytes ≡ flat_map reverse (parts l.size l.i l.fn.bytes) ++ drop (l.i * l.size) l.fn.bytes
