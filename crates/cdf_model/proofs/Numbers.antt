-- Values that are written as numbers, in decimal or in hexadecimal digits, are read as themselves.
use Rattle.std.proofs.Common.{◌≡◌, ℕ, zero, suc, ◌+◌, ◌*◌, ◌/◌, ◌%◌, ◌^◌, ◌<◌, List, [], ◌∷◌, length, refl, sym, ◌∙◌, ap, ap₂, arith}
use Rattle.std.proofs.Math.Nat.{mul-add-div_right, pow-succ'}
use Rattle.std.proofs.lemmas.List.Elements.{All-head, All-tail}
use Rattle.std.proofs.lemmas.Nat.{div-mul-add, mul-add-lt}
use Rattle.std.specs.Int.{byte_at, bytes_high_first}
use Rattle.std.specs.List.{All, fold}
use Rattle.cdf_model.specs.Values.{number_of}

positive : (k : ℕ) → 0 < 256 ^ k
positive zero = omega arith
positive (suc k) = omega (arith, pow-succ' 256 k, positive k)

-- the number in bytes behind others
number-behind : (a : ℕ) (bytes : List ℕ) → fold (λ n b. 256 * n + b) a bytes ≡ a * 256 ^ length bytes + number_of bytes
number-behind a [] = omega arith
number-behind a (b ∷ bytes) =
    let p : ℕ = 256 ^ length bytes in
    omega (arith, number-behind (256 * a + b) bytes, number-behind (256 * 0 + b) bytes, ap (λ x. a * x) (pow-succ' 256 (length bytes)))

number-cons : (b : ℕ) (bytes : List ℕ) → number_of (b ∷ bytes) ≡ b * 256 ^ length bytes + number_of bytes
number-cons b bytes = omega (arith, number-behind (256 * 0 + b) bytes)

pub number_of-lt : (bytes : List ℕ) → All (λ b. b < 256) bytes → number_of bytes < 256 ^ length bytes
number_of-lt [] small = omega arith
number_of-lt (b ∷ bytes) small =
    let fits = mul-add-lt b (256 ^ length bytes) (number_of bytes) 256 (All-head (λ b. b < 256) b bytes small) (number_of-lt bytes (All-tail (λ b. b < 256) b bytes small)) in
    omega (arith, number-cons b bytes, pow-succ' 256 (length bytes))

byte_at_is : (k n : ℕ) → byte_at k n ≡ n / 256 ^ k % 256
byte_at_is zero n = omega arith
byte_at_is (suc k) n = refl

whole-more : (c d : ℕ) → (c * 256 + d) % 256 ≡ d % 256
whole-more c d = omega arith

-- the lowest bytes of a number do not tell what stands before them
low-bytes : (k c r : ℕ) → bytes_high_first k (c * 256 ^ k + r) ≡ bytes_high_first k r
low-bytes zero c r = refl
low-bytes (suc k) c r =
    let q : ℕ = 256 ^ k in
    let same : c * 256 ^ suc k + r ≡ (c * 256) * q + r = omega (arith, ap (λ x. c * x) (pow-succ' 256 k)) in
    let byte : byte_at k (c * 256 ^ suc k + r) ≡ byte_at k r =
    byte_at_is k (c * 256 ^ suc k + r)
    ∙ ap (λ n. n / q % 256) same
    ∙ ap (λ n. n % 256) (mul-add-div_right (positive k) (c * 256) r)
    ∙ whole-more c (r / q)
    ∙ sym (byte_at_is k r) in
    ap₂ (λ b l. b ∷ l) byte (ap (bytes_high_first k) same ∙ low-bytes k (c * 256) r)

pub bytes-number_of : (bytes : List ℕ) → All (λ b. b < 256) bytes → bytes_high_first (length bytes) (number_of bytes) ≡ bytes
bytes-number_of [] small = refl
bytes-number_of (b ∷ bytes) small =
    let k : ℕ = length bytes in
    let p : ℕ = 256 ^ k in
    let r : ℕ = number_of bytes in
    let n : ℕ = number_of (b ∷ bytes) in
    let more = All-tail (λ b. b < 256) b bytes small in
    let fits : b < 256 = All-head (λ b. b < 256) b bytes small in
    let byte : byte_at k n ≡ b =
    byte_at_is k n ∙ ap (λ m. m / p % 256) (number-cons b bytes) ∙ ap (λ m. m % 256) (div-mul-add b p r (number_of-lt bytes more)) ∙ omega arith in
    ap₂ (λ x l. x ∷ l) byte (ap (bytes_high_first k) (number-cons b bytes) ∙ low-bytes k b r ∙ bytes-number_of bytes more)
