-- Bytes that are read from a place of a list, as its fields see them.
use Rattle.std.specs.Prelude.{◌≡◌, ℕ, ◌+◌, ◌<◌, ◌≤◌, List, length, slice_index}
use Rattle.cdf_format.specs.Fields.{word}

-- each field within the bytes is the field of the list at that place from `start` on
pub record Shows (bytes : List ℕ) (field : ℕ → ℕ → ℕ) (start : ℕ) : Type 0 where
  pub same : (place n : ℕ) → place + n ≤ length bytes → word bytes place n ≡ field (start + place) n

-- n numbers of a list from a place on are bytes
pub record AreBytes (b : List ℕ) (place n : ℕ) : Type 0 where
  pub below : (i : ℕ) → i < n → slice_index b (place + i) < 256
