-- Numbers that are read within the range of so many bytes.
use Rattle.cdf_values.proofs.Common.{Bool, List, ap, arith, bytes_high_first, cond, decimal, false, length, nat_le, nat_lt, nat_tests, negative_in, not, number_of, option_map, plain_up_to, pow_pos, refl, signed_decimal, signed_of, true, unsigned_in, ℕ, ◌&&◌, ◌*◌, ◌+◌, ◌-◌, ◌<◌, ◌==◌, ◌^◌, ◌∷◌, ◌≡◌, ◌≤◌}
use Rattle.std.specs.Prelude.{Some, None}
use Rattle.cdf_model.specs.Arguments.{is_plain_number, value}
use Rattle.cdf_values.proofs.ByteLemmas.{two_halves, bytes_as_bits, negative_text}

mapped : (plain b c : Bool) (size v : ℕ) → b ≡ c → option_map (λ n. bytes_high_first size n) (cond (plain && b) (Some v) None) ≡ cond (plain && c) (Some (bytes_high_first size v)) None
mapped true true true size v e = refl
mapped true true false size v e = cc
mapped true false true size v e = cc
mapped true false false size v e = refl
mapped false b c size v e = refl

same_test : (v m w : ℕ) → w ≡ m + 1 → nat_le v m ≡ nat_lt v w
same_test v m w e = grind (arith, nat_tests)

pub unsigned_up_to : (size half : ℕ) (word : List ℕ) → 0 < size → half ≡ 2 ^ (8 * size - 1) → option_map (λ n. bytes_high_first size n) (plain_up_to (half - 1 + half) word) ≡ unsigned_in size word
unsigned_up_to size half word some e =
    mapped (is_plain_number word) (nat_le (value word) (half - 1 + half)) (nat_lt (value word) (2 ^ (8 * size))) size (value word)
    (same_test (value word) (half - 1 + half) (2 ^ (8 * size)) (omega (arith, two_halves size some, pow_pos (8 * size - 1))))

not_below : (a b : ℕ) → b ≤ a → nat_lt a b ≡ false
not_below a b h = grind (arith, nat_tests)

is_not_none : (n : ℕ) → 0 < n → (n == 0) ≡ false
is_not_none n h = grind (arith, nat_tests)

up_to : (a b : ℕ) → nat_le a b ≡ true → a ≤ b
up_to a b h = grind (arith, nat_tests)

-- a number of the upper half of the range is negative
pub negative : (bytes : List ℕ) (half n : ℕ) → 0 < length bytes → half ≡ 2 ^ (8 * length bytes - 1) → n ≡ number_of bytes → half ≤ n → n < 256 ^ length bytes → signed_decimal (signed_of bytes) ≡ 45 ∷ decimal (half - (n - half))
negative bytes half n some e f low high =
    let test : nat_lt (number_of bytes) (2 ^ (8 * length bytes - 1)) ≡ false = not_below (number_of bytes) (2 ^ (8 * length bytes - 1)) (omega arith) in
    let text = negative_text n half (2 ^ (8 * length bytes)) low (omega (arith, bytes_as_bits (length bytes))) (omega (arith, two_halves (length bytes) some)) in
    rw (test, ← f) text

-- half the range lies between half of it and its end
pub within_range : (size half n : ℕ) → 0 < size → half ≡ 2 ^ (8 * size - 1) → n < 256 ^ size → n - half ≤ half
within_range size half n some e h = omega (arith, bytes_as_bits size, two_halves size some)

negative_by : (plain fits : Bool) (size half v n w : ℕ) → w ≡ half + half → 0 < n → (fits ≡ true → v ≤ half) → cond (plain && fits) (Some v) None ≡ Some n → Some (bytes_high_first size (half - n + half)) ≡ cond ((plain && not (v == 0)) && fits) (Some (bytes_high_first size (w - v))) None
negative_by true true size half v n w e some low h =
    let same : v ≡ n = cc in
    let there : (v == 0) ≡ false = is_not_none v (omega arith) in
    let number : half - n + half ≡ w - v = omega (arith, low refl) in
    rw there (ap (λ m. Some (bytes_high_first size m)) number)
negative_by true false size half v n w e some low h = cc
negative_by false fits size half v n w e some low h = cc

-- a number that is not 0 and no more than half the range is the distance of a negative one from 0
pub negative_up_to : (size half n : ℕ) (word : List ℕ) → 0 < size → half ≡ 2 ^ (8 * size - 1) → 0 < n → plain_up_to half word ≡ Some n → Some (bytes_high_first size (half - n + half)) ≡ negative_in size word
negative_up_to size half n word some e there h =
    let number = negative_by (is_plain_number word) (nat_le (value word) half) size half (value word) n (2 ^ (8 * size)) (omega (arith, two_halves size some)) there (up_to (value word) half) h in
    rw (← e) number
