-- When packings of a block of at most 67,108,864 bytes are worth it.
use Rattle.std.proofs.Common.{◌≡◌, ◌≤◌, ◌+◌, ℕ, List, false, arith, length}
use Rattle.std.specs.Prelude.{nat_lt}
use Rattle.cdf_edits.proofs.Common.{nat_tests}
use Rattle.cdf_edits.specs.Index.Written.{is_worth_packing}

-- what is no shorter than a packing that is not worth it is not worth it either
pub longer_is_not : (plain packed : List ℕ) (n : ℕ) → nat_lt (24 + n) (12 + length plain) ≡ false → n ≤ length packed → is_worth_packing plain packed ≡ false
longer_is_not plain packed n none le = grind (arith, nat_tests, none, le)

-- what is as long is as much worth it
pub as_long_is : (plain packed : List ℕ) (n : ℕ) → length plain ≤ 67108864 → n ≡ length packed → nat_lt (24 + n) (12 + length plain) ≡ is_worth_packing plain packed
as_long_is plain packed n small same = rw same (grind (arith, nat_tests, small))
