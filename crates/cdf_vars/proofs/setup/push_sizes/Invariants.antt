use Rattle.cdf_vars.proofs.Common.{of_4_bytes, take, ◌++◌, ◌≡◌}
use Rattle.cdf_vars.proofs.setup.push_sizes.Given as goal

abbrev pub invariant-loop-size : goal.invariant-loop-size
invariant-loop-size l = l.bytes.items ≡ l.fn.bytes.items ++ of_4_bytes (take l.size-index l.sizes)
