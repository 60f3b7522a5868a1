-- Names of a list of distinct ones.
use Rattle.std.proofs.Common.{◌≡◌, ℕ, List, [], ◌∷◌, ◌++◌, false, bytes_eq, refl, sym}
use Rattle.std.proofs.lemmas.Bool.{both_ways, false_from_ne_true, or_from}
use Rattle.std.proofs.lemmas.Slice.Eq.{bytes_eq-Decides}
use Rattle.std.specs.List.{AllByRecursion, IsDistinct, list_any}
use Rattle.cdf_names.specs.Names.{has_name}

-- two names differ either way round
differ_turned : (x y : List ℕ) → bytes_eq x y ≡ false → bytes_eq y x ≡ false
differ_turned x y e = false_from_ne_true (bytes_eq y x) (λ same. both_ways (bytes_eq x y) e ((bytes_eq-Decides x y).1 (sym ((bytes_eq-Decides y x).0 same))))

all_last : (P : List ℕ → Type 0) (xs : List (List ℕ)) (y : List ℕ) (ys : List (List ℕ)) → AllByRecursion P (xs ++ y ∷ ys) → P y
all_last P [] y ys h = h.0
all_last P (x ∷ xs) y ys h = all_last P xs y ys h.1

-- a name is not among those before it
pub distinct_apart : (xs : List (List ℕ)) (y : List ℕ) (ys : List (List ℕ)) → IsDistinct bytes_eq (xs ++ y ∷ ys) → has_name xs y ≡ false
unfolding IsDistinct
distinct_apart [] y ys h = refl
distinct_apart (x ∷ xs) y ys h = or_from (bytes_eq y x) (list_any (bytes_eq y) xs) (differ_turned x y (all_last (λ z. bytes_eq x z ≡ false) xs y ys h.0)) (distinct_apart xs y ys h.1)
