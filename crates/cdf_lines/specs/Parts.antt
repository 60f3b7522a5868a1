-- What a text begins with.
use Rattle.std.specs.Prelude.{◌≡◌, ℕ, ◌+◌, ◌≤◌, List, ◌∷◌, ◌++◌, length}
use Rattle.cdf_model.specs.Limits.{line_limit}
use Rattle.cdf_model.specs.Lines.{split}

-- a line that a newline ends, and then other bytes
pub record FirstLine (text line others : List ℕ) : Type 0 where
  pub parts : split text ≡ (line ∷ (split others).0, (split others).1)
  pub sizes : length line + 1 + length others ≡ length text

-- whole lines, each with its newline, and then other bytes
pub record LeadingLines (text whole others : List ℕ) : Type 0 where
  pub parts : split text ≡ ((split whole).0 ++ (split others).0, (split others).1)
  pub sizes : length whole + length others ≡ length text
  pub short : length whole ≤ line_limit
