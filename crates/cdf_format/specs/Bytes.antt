-- Bytes of an image that stay the same (own).
use Rattle.std.specs.Prelude.{◌≡◌, ◌<◌, ◌≤◌, ℕ, List, slice_index}

abbrev pub byte : List ℕ → ℕ → ℕ
byte b place = slice_index b place

-- the bytes from one place to another are the same
pub record Same (b now : List ℕ) (from upto : ℕ) : Type 0 where
  pub each : (place : ℕ) → from ≤ place → place < upto → byte now place ≡ byte b place
