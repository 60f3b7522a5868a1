-- The notations by the names that the code has for them.
use Rattle.std.specs.Prelude.{ℕ, ◌<◌, ◌≤◌}
use Rattle.cdf_model.specs.Values as model
use Rattle.cdf_values.specs.declared.notation.Notation.{Notation}
use Rattle.cdf_values.specs.declared.notation.Notation.TheVariants.{Signed, Unsigned, Hexadecimal, Characters}

abbrev pub meant : Notation → model.Notation
meant Signed = model.Signed
meant Unsigned = model.Unsigned
meant Hexadecimal = model.Hexadecimal
meant Characters = model.Characters

-- a number has a byte or more and no more than eight, digits stand for no more than sixteen
abbrev pub HasSize : model.Notation → ℕ → Type 0
HasSize model.Signed n = (0 < n) × (n ≤ 8)
HasSize model.Unsigned n = (0 < n) × (n ≤ 8)
HasSize model.Hexadecimal n = n ≤ 16
HasSize model.Characters n = Unit {0}
