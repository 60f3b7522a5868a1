-- When two texts are the same, by a test of their bytes.
use Rattle.std.proofs.Common.{List, bytes_eq, false, refl, sym, true, ℕ, ◌≡◌}
use Rattle.std.proofs.lemmas.Bool.{both_ways, false_from_ne_true}
use Rattle.std.proofs.lemmas.Slice.Eq.{bytes_eq-Decides}

pub same_of_bytes_eq : (xs ys : List ℕ) → bytes_eq xs ys ≡ true → xs ≡ ys
same_of_bytes_eq xs ys e = (bytes_eq-Decides xs ys).0 e

pub bytes_eq-same : (xs : List ℕ) → bytes_eq xs xs ≡ true
bytes_eq-same xs = (bytes_eq-Decides xs xs).1 refl

-- they differ either way round
pub differ-turned : (xs ys : List ℕ) → bytes_eq xs ys ≡ false → bytes_eq ys xs ≡ false
differ-turned xs ys e = false_from_ne_true (bytes_eq ys xs) (λ t. both_ways (bytes_eq xs ys) e ((bytes_eq-Decides xs ys).1 (sym (same_of_bytes_eq ys xs t))))
