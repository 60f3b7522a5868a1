-- What a leaf keeps of its records where some go and later ones keep their numbers, and where the bytes of a record stand in those of a part of a leaf.
use Rattle.cdf_cuts.proofs.Common.{Leaf, List, [], ap, arith, kept_by, le-ltb, lt-ltb, range, refl, suc, sym, ℕ, ◌*◌, ◌+◌, ◌-◌, ◌<◌, ◌∙◌, ◌∷◌, ◌≡◌, ◌≤◌}
use Rattle.std.proofs.Common.{drop, take}
use Rattle.std.proofs.lemmas.List.{drop-drop, drop-take, take-take}
use Rattle.std.specs.Prelude.{max, min}
use Rattle.cdf_edits.proofs.Edits.LeafPieces.{times_le}
use Rattle.cdf_edits.specs.Index.Grown.{kept_open, split_off}
use Rattle.cdf_cuts.proofs.CutLeaves.{IsLeft}
use Rattle.cdf_cuts.specs.Planning.{opening}

-- ---- bytes of a part

-- a piece of a part of some bytes is a piece of them
pub piece_of_part : (x y n upto : ℕ) (xs : List ℕ) → y + n ≤ upto → take n (drop y (take upto (drop x xs))) ≡ take n (drop (x + y) xs)
piece_of_part x y n upto xs fit =
    let whole : y + (upto - y) ≡ upto = omega arith in
    ap (λ (m : ℕ). take n (drop y (take m (drop x xs)))) (sym whole) ∙ ap (take n) (drop-take y (upto - y) (drop x xs)) ∙ take-take n (upto - y) (drop y (drop x xs)) (omega arith) ∙ ap (take n) (drop-drop y x xs)

times_sum : (x y z n : ℕ) → x + y ≡ z → x * n + y * n ≡ z * n
times_sum x y z n e = rw (← e) (omega arith)

-- of a leaf from f on, the records from g to t: the piece of record k of them is its piece of the leaf
pub record_of_part : (f g t k n : ℕ) (xs : List ℕ) → f ≤ g → g ≤ k → k ≤ t → take n (drop ((k - g) * n) (take ((t + 1 - g) * n) (drop ((g - f) * n) xs))) ≡ take n (drop ((k - f) * n) xs)
record_of_part f g t k n xs a c e =
    let fit = times_le (suc (k - g)) (t + 1 - g) n (omega arith) in
    piece_of_part ((g - f) * n) ((k - g) * n) n ((t + 1 - g) * n) xs (omega (arith, fit)) ∙ ap (λ (m : ℕ). take n (drop m xs)) (times_sum (g - f) (k - g) (k - f) n (omega arith))

-- ---- what a block keeps, and what of it gets a new one

module _ (first last : ℕ) where
  pub kept_front : (f t : ℕ) → f < first → kept_open first last (range f t) ≡ range f (min t (first - 1)) ∷ []
  kept_front f t lt = rw (lt-ltb f first lt) refl

  pub kept_back : (f t : ℕ) → first ≤ f → last < t → kept_open first last (range f t) ≡ range (max f (last + 1)) t ∷ []
  kept_back f t le lt = rw (le-ltb f first le, lt-ltb last t lt) refl

  pub kept_none : (f t : ℕ) → first ≤ f → t ≤ last → kept_open first last (range f t) ≡ []
  kept_none f t le low = rw (le-ltb f first le, le-ltb last t low) refl

  pub split_back : (f t : ℕ) → f < first → last < t → split_off first last (range f t) ≡ range (max f (last + 1)) t ∷ []
  split_back f t lt up = rw (lt-ltb f first lt, lt-ltb last t up) refl

  pub some_kept : (l : Leaf) (f t : ℕ) → kept_open first last (range l.first l.last) ≡ range f t ∷ [] → kept_by (opening first last) (range l.first l.last) ≡ [] → ⊥
  some_kept l f t e none = let q : range f t ∷ [] ≡ [] = sym e ∙ none in absurd cc

  pub same_range : (l m : Leaf) (f t : ℕ) → kept_open first last (range l.first l.last) ≡ range f t ∷ [] → IsLeft (opening first last) l m → range m.first m.last ≡ range f t
  same_range l m f t e k = let q : range m.first m.last ∷ k.more ≡ range f t ∷ [] = sym k.kept_is ∙ e in cc
