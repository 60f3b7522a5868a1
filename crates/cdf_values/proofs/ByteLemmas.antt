-- The bytes of a number, and its range.
use Rattle.cdf_values.proofs.Common.{List, OnOk, Result, add-one, ap, arith, bytes_high_first, decimal, drop, if◌then◌else◌, is_ok, lit<, negsuc, pos, pow-add, pow-le-pow_right, pow-succ', refl, signed_decimal, suc, sym, zero, ℕ, ◌*◌, ◌++◌, ◌+◌, ◌-ℤ◌, ◌-◌, ◌<◌, ◌^◌, ◌∙◌, ◌∷◌, ◌≡◌, ◌≤◌}
use Rattle.std.proofs.lemmas.Int.{ints}
use Rattle.std.specs.Prelude.{Ok, Err}

-- the last bytes of a number are its lowest ones
pub lowest : (k n m x : ℕ) → m ≡ k + n → drop k (bytes_high_first m x) ≡ bytes_high_first n x
lowest zero n m x e = let same : m ≡ n = omega arith in ap (λ size. bytes_high_first size x) same
lowest (suc k) n zero x e = absurd (omega arith)
lowest (suc k) n (suc m) x e = lowest k n m x (omega arith)

pub bytes_as_bits : (n : ℕ) → 256 ^ n ≡ 2 ^ (8 * n)
bytes_as_bits zero = refl
bytes_as_bits (suc n) =
    let up : 8 * suc n ≡ 8 + 8 * n = omega arith in
    pow-succ' 256 n ∙ ap (λ p. 256 * p) (bytes_as_bits n) ∙ sym (ap (λ e. 2 ^ e) up ∙ pow-add 2 8 (8 * n))

-- the numbers of so many bytes are twice those of half the range
pub two_halves : (n : ℕ) → 0 < n → 2 ^ (8 * n) ≡ 2 ^ (8 * n - 1) + 2 ^ (8 * n - 1)
two_halves n h =
    let up : 8 * n ≡ suc (8 * n - 1) = omega arith in
    let twice : 2 ^ suc (8 * n - 1) ≡ 2 * 2 ^ (8 * n - 1) = pow-succ' 2 (8 * n - 1) in
    ap (λ e. 2 ^ e) up ∙ twice ∙ omega arith

-- one byte more
pub room : (i n b : ℕ) → n < 256 ^ i → b < 256 → 256 * n + b < 256 ^ (i + 1)
room i n b h k = rw (add-one, pow-succ' 256 i) (omega arith)

pub room_of_eight : (i n : ℕ) → i < 8 → n < 256 ^ i → n < 2 ^ 56
room_of_eight i n few h = omega (arith, pow-le-pow_right {n = 256} (lit< tt) {i = i} {j = 7} (omega arith))

-- a negative number is written as `-` and its distance from 0
pub negative_text : (n h w : ℕ) → h ≤ n → n < w → w ≡ h + h → signed_decimal (pos n -ℤ pos w) ≡ 45 ∷ decimal (h - (n - h))
negative_text n h w low high e =
    let far : pos n -ℤ pos w ≡ negsuc (w - n - 1) = omega (arith, ints) in
    let same : suc (w - n - 1) ≡ h - (n - h) = omega arith in
    ap signed_decimal far ∙ ap (λ m. 45 ∷ decimal m) same

-- what is appended where the call succeeds
pub ok_items : {T E : Type 0} (r : Result T E) (now old more : List ℕ) → now ≡ (if is_ok r then old ++ more else old) → OnOk r (now ≡ old ++ more)
ok_items (Ok x) now old more e = e
ok_items (Err x) now old more e = tt
