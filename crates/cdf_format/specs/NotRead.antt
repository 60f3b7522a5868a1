-- What is not read so far (own): packed variables. The rule goes once each command does with a packed variable what it does with others.
use Rattle.std.specs.Prelude.{ℕ, List, [], ◌∷◌, not}
use Rattle.std.specs.List.{flat_map}
use Rattle.cdf_format.specs.Rules.{Hold, Row, row}
use Rattle.cdf_format.specs.Shape.{is_compressed, shape, variables, vdrs}

-- 9.99: a packed variable
abbrev pub unread_variable : List ℕ → ℕ → List Row
unread_variable b vdr = row 99 vdr (not (is_compressed b vdr)) ∷ []

-- these variables
abbrev pub unread_variables : List ℕ → List ℕ → List Row
unread_variables b vdrs = flat_map (unread_variable b) vdrs

-- all of an image is read so far
abbrev pub IsRead : List ℕ → Type 0
IsRead b = Hold (unread_variables b (vdrs (variables (shape b))))
