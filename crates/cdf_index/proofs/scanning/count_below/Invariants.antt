use Rattle.cdf_index.proofs.Common.{Stays, in_column, ℕ, ◌+◌, ◌-◌, ◌<◌, ◌≡◌, ◌≤◌}
use Rattle.cdf_index.proofs.scanning.count_below.Given as goal

abbrev pub invariant-loop-low : goal.invariant-loop-low
invariant-loop-low g l = record {
  order : l.low ≤ l.high;
  most : l.high ≤ l.used;
  between : l.low < l.high → (l.low ≤ l.middle) × (l.middle < l.high);
  before : (j : ℕ) → j + 1 ≡ l.low → in_column (g.A.Area.image l.fn.area) l.at l.field j < l.bound;
  stop : l.high < l.used → l.bound ≤ in_column (g.A.Area.image l.fn.area) l.at l.field l.high;
  area : Stays g.A.Area.image g.A.Area.frame g.A.Area.faults g.A.Area.edited l.fn.area l.area;
}

abbrev pub decreases-loop-low : goal.decreases-loop-low
decreases-loop-low g l = l.high - l.low
