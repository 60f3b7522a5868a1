-- The names of the attributes of a good image differ.
use Rattle.cdf_attrs.proofs.Common.{AllByRecursion, AreNew, Bool, Good, Hold-split, IsDistinct, List, [], absent-split, adr_name, adrs, append_assoc, attribute_names, attribute_names_are, bytes_eq, content, differ-turned, differ_rows, false, good_by_its_shape, list_any, names_differ, refl, same_name, shape, subst, sym, true, ℕ, ◌++◌, ◌||◌, ◌∷◌, ◌≡◌}

first_false : (p q : Bool) → (p || q) ≡ false → p ≡ false
first_false true q e = absurd cc
first_false false q e = refl

-- a name differs from those behind it
new_apart : (before : List (List ℕ)) (x : List ℕ) (mid names : List (List ℕ)) → AreNew (before ++ x ∷ mid) names → AllByRecursion (λ y. bytes_eq x y ≡ false) names
new_apart before x mid [] h = tt
new_apart before x mid (y ∷ names) h = (
  differ-turned y x (first_false (bytes_eq y x) (list_any (bytes_eq y) mid) (absent-split y before (x ∷ mid) h.0).1),
  new_apart before x (mid ++ y ∷ []) names (subst (λ (z : List (List ℕ)). AreNew z names) (append_assoc before (x ∷ mid) (y ∷ [])) h.1),
)

pub new_distinct : (before names : List (List ℕ)) → AreNew before names → IsDistinct bytes_eq names
unfolding IsDistinct
new_distinct before [] h = tt
new_distinct before (x ∷ names) h = (new_apart before x [] names h.1, new_distinct (before ++ x ∷ []) names h.1)

-- ---- those of a good image

pub good_names : (b : List ℕ) → Good b → IsDistinct bytes_eq (attribute_names (content b))
good_names b good =
    let isgood = good_by_its_shape b good in
    let s = shape b in
    let parts = Hold-split _ (differ_rows 2 (same_name b adr_name) [] (adrs s)) isgood.attributes in
    subst (IsDistinct bytes_eq) (sym (attribute_names_are b s isgood.has_shape)) (new_distinct [] _ (names_differ 2 b adr_name (adrs s) parts.1))
