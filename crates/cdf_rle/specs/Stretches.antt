-- Stretches of plain bytes that are alike.
use Rattle.std.specs.Prelude.{ℕ, zero, suc, List, [], ◌∷◌}

-- how many bytes stand before the first 0
abbrev pub data_length : List ℕ → ℕ
data_length [] = 0
data_length (zero ∷ more) = 0
data_length (suc b ∷ more) = suc (data_length more)

-- how many zeros stand before the first other byte
abbrev pub zero_length : List ℕ → ℕ
zero_length [] = 0
zero_length (zero ∷ more) = suc (zero_length more)
zero_length (suc b ∷ more) = 0
