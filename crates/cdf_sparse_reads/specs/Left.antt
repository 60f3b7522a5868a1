-- Where the records before a bound end that leaves have (own).
use Rattle.std.specs.Prelude.{◌≡◌, ◌≢◌, ◌≤◌, ◌<◌, ◌-◌, ℕ, List, None}
use Rattle.cdf_format.specs.Index.{Leaf}
use Rattle.cdf_index.specs.Order.{leaf_of}

-- one past the last record before a bound that a leaf has, or 0 where none has any
pub record IsEnd (leaves : List Leaf) (bound end : ℕ) : Type 0 where
  pub inside : end ≤ bound
  pub none : (k : ℕ) → end ≤ k → k < bound → leaf_of k leaves ≡ None
  pub has : 0 < end → leaf_of (end - 1) leaves ≢ None
