-- The texts of the taps of a list are written one behind the other.
use Rattle.std.proofs.Common.{◌≡◌, ◌∙◌, inl, inr, ◌+◌, ◌<◌, ℕ, List, [], ◌∷◌, ◌++◌, length, map, take, drop, get_or, Option, append_assoc, refl, subst, sym, ap}
use Rattle.std.proofs.lemmas.List.{map-append, take_more, take-append-drop}
use Rattle.std.specs.Io.KnownBytes.{Appends}
use Rattle.cdf_store.proofs.Fronts.{front_after, front_longer}
use Rattle.cdf_store.specs.Written.{AppendsFront}
use Rattle.cdf_tap.proofs.Lists.{either}
use Rattle.cdf_tap.specs.Meanings.{Meaning, has_name, text_of, texts_of}

module _ (name : List ℕ) where
  both : (xs ys : List Meaning) → texts_of name (xs ++ ys) ≡ texts_of name xs ++ texts_of name ys
  both [] ys = refl
  both (x ∷ xs) ys = elim (either (has_name name x)) [
    | inl n ↦ rw n (ap (λ l. text_of x ++ l) (both xs ys) ∙ sym (append_assoc (text_of x) (texts_of name xs) (texts_of name ys)))
    | inr n ↦ rw n (both xs ys)
  ]

  module _ {X : Type 0} (f : X → Meaning) (xs : List X) (i : ℕ) (x : X) (l : i < length xs) (at : x ≡ get_or xs i x) where
    next : texts_of name (map f (take (i + 1) xs)) ≡ texts_of name (map f (take i xs)) ++ texts_of name (f x ∷ [])
    next =
        ap (λ t. texts_of name (map f t)) (take_more xs i x l) ∙ ap (texts_of name) (map-append f (take i xs) (get_or xs i x ∷ []))
        ∙ both (map f (take i xs)) (f (get_or xs i x) ∷ []) ∙ ap (λ y. texts_of name (map f (take i xs)) ++ texts_of name (f y ∷ [])) (sym at)

    all_texts : texts_of name (map f (take (i + 1) xs)) ++ texts_of name (map f (drop (i + 1) xs)) ≡ texts_of name (map f xs)
    all_texts =
        sym (both (map f (take (i + 1) xs)) (map f (drop (i + 1) xs))) ∙ ap (texts_of name) (sym (map-append f (take (i + 1) xs) (drop (i + 1) xs)))
        ∙ ap (λ t. texts_of name (map f t)) (take-append-drop (i + 1) xs)

    pub text_cut : (a b c : Option (List ℕ)) → Appends a b (texts_of name (map f (take i xs))) → AppendsFront b c (texts_of name (f x ∷ [])) → AppendsFront a c (texts_of name (map f xs))
    text_cut a b c before now =
        front_longer a c (texts_of name (map f (take (i + 1) xs))) (texts_of name (map f xs)) (texts_of name (map f (drop (i + 1) xs)), all_texts)
        (subst (λ (t : List ℕ). AppendsFront a c t) (sym next) (front_after a b c _ _ before now))
