-- The decimal text of a number is read as the number.
use Rattle.std.proofs.Common.{◌≡◌, ℕ, ◌+◌, ◌-◌, ◌*◌, ◌^◌, ◌<◌, true, false, List, [], ◌∷◌, length, get_or, Some, refl, ◌∙◌, ap, inl, inr, arith, rules}
use Rattle.std.proofs.lemmas.Bool.{cases_lt, and_parts, lt-ltb}
use Rattle.std.proofs.lemmas.Bool.Decides.{nat_tests}
use Rattle.std.proofs.lemmas.Fmt.{decimal_digit, decimal_nonempty, first_decimal, digits_decimal, digits_value-decimal}
use Rattle.std.proofs.lemmas.Str.Parse.{IsNumeralModel, numerals_by_fold}
use Rattle.std.specs.Char.{is_ascii_digit}
use Rattle.std.specs.Fmt.{decimal}
use Rattle.std.specs.List.{fold, list_all}
use Rattle.std.specs.Prelude.{◌==◌, nat_lt}
use Rattle.cdf_model.specs.Arguments.{is_plain_number, value, number_in}

own : IsNumeralModel (λ ds. list_all is_ascii_digit ds ≡ true) value
own = numerals_by_fold _ (search rules) (λ n ds. fold (λ m b. 10 * m + (b - 48)) n ds) (search rules)

-- digits that begin with none but 0
plain : (ds : List ℕ) → list_all is_ascii_digit ds ≡ true → 0 < length ds → 48 < get_or ds 0 0 → is_plain_number ds ≡ true
plain [] digits some first = absurd (omega arith)
plain (b ∷ []) digits some first = (and_parts (is_ascii_digit b) true digits).0
plain (b ∷ c ∷ ds) digits some first =
    let other : (b == 48) ≡ false = grind (arith, nat_tests) in
    rw (digits, other) refl

pub digits-decimal : (n : ℕ) → n < 2 ^ 64 → list_all is_ascii_digit (decimal n) ≡ true
digits-decimal n small = digits_decimal own n small

pub value-decimal : (n : ℕ) → n < 2 ^ 64 → value (decimal n) ≡ n
value-decimal n small = digits_value-decimal own n small

pub is_plain-decimal : (n : ℕ) → n < 2 ^ 64 → is_plain_number (decimal n) ≡ true
is_plain-decimal n small = elim (cases_lt n 10) [
  | inl one ↦
      let digit : is_ascii_digit (48 + n) ≡ true = grind (arith, nat_tests) in
      ap is_plain_number (decimal_digit n one) ∙ digit
  | inr more ↦ plain (decimal n) (digits-decimal n small) (decimal_nonempty n small) (first_decimal n (omega arith) small)
]

pub number_in-decimal : (n : ℕ) → n < 2 ^ 32 → number_in (decimal n) ≡ Some n
number_in-decimal n small =
    let digits = is_plain-decimal n (omega arith) in
    let same = value-decimal n (omega arith) in
    let fits : nat_lt n (2 ^ 32) ≡ true = lt-ltb n (2 ^ 32) small in
    rw (digits, same, fits) refl
