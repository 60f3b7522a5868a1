-- Records that were counted.
use Rattle.std.specs.Prelude.{◌≡◌, ℕ, List, length}
use Rattle.cdf_format.specs.Owners.{bytes_in}
use Rattle.cdf_space.specs.declared.measuring.Tally.{Tally}

-- it has the number of these records, and their bytes
pub record Tallies (b records : List ℕ) (tally : Tally) : Type 0 where
  pub count_is : tally.count ≡ length records
  pub bytes_are : tally.bytes ≡ bytes_in b records
