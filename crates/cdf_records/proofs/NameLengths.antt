-- The length of a name by the place of its first byte 0.
use Rattle.std.proofs.Common.{◌≡◌, ℕ, ◌≤◌, Bool, List, length, arith}
use Rattle.std.proofs.lemmas.Bool.Decides.{nat_tests}
use Rattle.std.proofs.lemmas.List.Sums.{prefix_len-le-length}
use Rattle.std.specs.Prelude.{not}
use Rattle.std.specs.List.{position, position_or_len}
use Rattle.std.specs.Option.{unwrap_or}
use Rattle.cdf_format.specs.Fields.{name_field}

pub length_within : (p : ℕ → Bool) (xs : List ℕ) → position_or_len p xs ≤ length xs
length_within p xs = prefix_len-le-length (λ x. not (p x)) xs

pub by_place : (p : ℕ → Bool) (xs : List ℕ) → unwrap_or (position p xs) (length xs) ≡ position_or_len p xs
by_place p xs =
    let within = length_within p xs in
    grind (arith, nat_tests)

-- a Name stands past the type of its record
pub past_the_type : (type : ℕ) → 68 ≤ (name_field type).place
past_the_type type = grind (arith, nat_tests)
