-- Decimal numbers that are read digit by digit, up to a greatest one.
use Rattle.std.specs.Prelude.{ℕ, ◌+◌, ◌-◌, ◌*◌, List, ◌&&◌, nat_le, if◌then◌else◌, Some, None}
use Rattle.std.specs.declared.option.Option.{Option}
use Rattle.std.specs.Char.{is_ascii_digit}
use Rattle.std.specs.List.{fold, list_all}
use Rattle.cdf_model.specs.Arguments.{is_plain_number, value}

-- a number with a digit more
abbrev pub with_digit : ℕ → ℕ → ℕ → Option ℕ
with_digit most n b = if is_ascii_digit b && nat_le (10 * n + (b - 48)) most then Some (10 * n + (b - 48)) else None

-- a number with more digits
abbrev pub digits_from : ℕ → ℕ → List ℕ → Option ℕ
digits_from most n word = if list_all is_ascii_digit word && nat_le (fold (λ n b. 10 * n + (b - 48)) n word) most then Some (fold (λ n b. 10 * n + (b - 48)) n word) else None

-- the number of a word without sign and leading zeros
abbrev pub plain_up_to : ℕ → List ℕ → Option ℕ
plain_up_to most word = if is_plain_number word && nat_le (value word) most then Some (value word) else None
