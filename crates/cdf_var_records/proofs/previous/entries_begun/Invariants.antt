use Rattle.cdf_index.proofs.Common.{Stays, in_column, ℕ, ◌+◌, ◌-◌, ◌<◌, ◌≡◌, ◌≤◌}
use Rattle.cdf_var_records.proofs.previous.entries_begun.Given as goal

abbrev pub invariant-loop-low : goal.invariant-loop-low
invariant-loop-low g l = record {
  order : l.low ≤ l.high;
  most : l.high ≤ l.fn.head.used;
  between : l.low < l.high → (l.low ≤ l.middle) × (l.middle < l.high);
  before : (j : ℕ) → j + 1 ≡ l.low → in_column (g.A.Area.image l.fn.area) l.at 28 j ≤ l.rec;
  stop : l.high < l.fn.head.used → l.rec < in_column (g.A.Area.image l.fn.area) l.at 28 l.high;
  area : Stays g.A.Area.image g.A.Area.frame g.A.Area.faults g.A.Area.edited l.fn.area l.area;
}

abbrev pub decreases-loop-low : goal.decreases-loop-low
decreases-loop-low g l = l.high - l.low
