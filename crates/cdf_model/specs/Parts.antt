-- Words that are held as their bytes, joined, and the sizes of their parts (own).
use Rattle.std.specs.Prelude.{◌≡◌, ℕ, ◌/◌, ◌%◌, List, [], ◌∷◌, ◌++◌, length, take, drop, replicate, ◌==◌, if◌then◌else◌}
use Rattle.std.specs.List.{concat, flat_map}

-- bytes in front of the first word
abbrev pub in_first : List ℕ → List (List ℕ) → List (List ℕ)
in_first front [] = []
in_first front (word ∷ words) = (front ++ word) ∷ words

-- A part of fewer than 255 bytes ends a word; one of 255 goes on in the next part.
abbrev pub cut : List ℕ → List ℕ → List (List ℕ)
cut [] bytes = []
cut (size ∷ sizes) bytes = if size == 255 then in_first (take size bytes) (cut sizes (drop size bytes)) else take size bytes ∷ cut sizes (drop size bytes)

-- the parts of a word of so many bytes
abbrev pub parts_of : ℕ → List ℕ
parts_of size = replicate (size / 255) 255 ++ size % 255 ∷ []

abbrev pub sizes_of : List (List ℕ) → List ℕ
sizes_of words = flat_map (λ word. parts_of (length word)) words

-- these sizes and bytes are those of the words
pub record Hold (words : List (List ℕ)) (sizes bytes : List ℕ) : Type 0 where
  pub all_sizes : sizes ≡ sizes_of words
  pub all_bytes : bytes ≡ concat words
