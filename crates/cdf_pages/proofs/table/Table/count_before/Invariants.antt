use Rattle.cdf_pages.proofs.Common.{pages_held, take, ◌≡◌}
use Rattle.cdf_pages.proofs.table.Table.count_before.Given as goal

abbrev pub invariant-loop-at : goal.invariant-loop-at
invariant-loop-at l = l.count ≡ pages_held (take l.at l.self)
