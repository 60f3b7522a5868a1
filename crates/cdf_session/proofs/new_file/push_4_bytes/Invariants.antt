use Rattle.cdf_session.proofs.Common.{of_4_bytes, take, ◌++◌, ◌≡◌}
use Rattle.cdf_session.proofs.new_file.push_4_bytes.Given as goal

abbrev pub invariant-loop-number : goal.invariant-loop-number
invariant-loop-number l = l.bytes.items ≡ l.fn.bytes.items ++ of_4_bytes (take l.number-index l.numbers)
