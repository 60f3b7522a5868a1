-- Bytes packed in the longest runs of zeros (CDF Internal Format Description, "Compressed Parameters Record", cType 1).
use Rattle.std.specs.Prelude.{ℕ, zero, suc, List, [], ◌∷◌, ◌==◌, if◌then◌else◌}

unfoldable mutual
  pub packed_of : List ℕ → List ℕ
  packed_of [] = []
  packed_of (suc b ∷ more) = suc b ∷ packed_of more
  packed_of (zero ∷ more) = packed_zeros 0 more

  -- behind n + 1 zeros, which no pair stands for yet
  pub packed_zeros : ℕ → List ℕ → List ℕ
  packed_zeros n [] = 0 ∷ n ∷ []
  packed_zeros n (suc b ∷ more) = 0 ∷ n ∷ suc b ∷ packed_of more
  packed_zeros n (zero ∷ more) = if n == 255 then 0 ∷ 255 ∷ packed_zeros 0 more else packed_zeros (suc n) more
