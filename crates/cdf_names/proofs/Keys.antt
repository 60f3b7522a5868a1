-- The keys of the set hold the names: what a test of a name finds, and what keeps names distinct.
use Rattle.std.proofs.Common.{◌≡◌, ◌∙◌, ℕ, zero, suc, ◌+◌, ◌<◌, Bool, false, not, ◌||◌, List, [], ◌∷◌, length, map, Option, Some, None, IfSome, refl, sym, ap, arith, cond, bytes_eq, slice_get, get_or}
use Rattle.std.proofs.lemmas.List.{length-map}
use Rattle.std.proofs.lemmas.List.Quantifiers.{position-Some}
use Rattle.std.proofs.lemmas.Option.{slice_get-get_or}
use Rattle.std.proofs.lemmas.Slice.Eq.{bytes_eq-Decides}
use Rattle.std.specs.List.{position, position_or_len, list_any, swap_remove, AllByRecursion, IsDistinct}
use Rattle.cdf_names.specs.Names.{has_name, number_of}
use Rattle.indexmap.proofs.MapLemmas.{swap_remove-default}
use Rattle.indexmap.proofs.SetLemmas.{map-swap_remove}

module _ {X Y : Type 0} (p : Y → Bool) (f : X → Y) where
  position_or_len-map : (xs : List X) → position_or_len p (map f xs) ≡ position_or_len (λ x. p (f x)) xs
  position_or_len-map [] = refl
  position_or_len-map (x ∷ xs) = ap (λ n. cond (not (p (f x))) (1 + n) 0) (position_or_len-map xs)

  position-map : (xs : List X) → position p (map f xs) ≡ position (λ x. p (f x)) xs
  position-map xs = rw (position_or_len-map xs, length-map xs f) refl

  list_any-map : (xs : List X) → list_any p (map f xs) ≡ list_any (λ x. p (f x)) xs
  list_any-map [] = refl
  list_any-map (x ∷ xs) = ap (λ b. p (f x) || b) (list_any-map xs)

module _ {X Y : Type 0} (eq : Y → Y → Bool) (f : X → Y) where
  apart-map : (y : Y) (xs : List X) → AllByRecursion (λ x. eq y (f x) ≡ false) xs → AllByRecursion (λ z. eq y z ≡ false) (map f xs)
  apart-map y [] h = h
  apart-map y (x ∷ xs) h = (h.0, apart-map y xs h.1)

  pub IsDistinct-map : (xs : List X) → IsDistinct (λ a b. eq (f a) (f b)) xs → IsDistinct eq (map f xs)
  unfolding IsDistinct
  IsDistinct-map [] h = h
  IsDistinct-map (x ∷ xs) h = (apart-map (f x) xs h.0, IsDistinct-map xs h.1)

-- a test of the keys is a test of the names that they hold
module _ {X : Type 0} (f : X → List ℕ) (keys : List X) (names : List (List ℕ)) (view_is : map f keys ≡ names) where
  pub number_of-keys : (name : List ℕ) → position (λ k. bytes_eq name (f k)) keys ≡ number_of names name
  number_of-keys name = sym (position-map (bytes_eq name) f keys) ∙ ap (position (bytes_eq name)) view_is

  pub has_name-keys : (name : List ℕ) → list_any (λ k. bytes_eq name (f k)) keys ≡ has_name names name
  has_name-keys name = sym (list_any-map (bytes_eq name) f keys) ∙ ap (list_any (bytes_eq name)) view_is

-- a name stands where it is found
pub found_at : (names : List (List ℕ)) (name : List ℕ) (i : ℕ) → number_of names name ≡ Some i → slice_get names i ≡ Some name
found_at names name i e =
    let first = position-Some (bytes_eq name) names i [] e in
    slice_get-get_or names i [] first.0 ∙ ap Some (sym ((bytes_eq-Decides name (get_or names i [])).0 first.1))

none_at : {X : Type 0} (xs : List X) (i : ℕ) → i < length xs → slice_get xs i ≡ None → ⊥
none_at [] i h e = absurd (omega arith)
none_at (x ∷ xs) zero h e = cc
none_at (x ∷ xs) (suc i) h e = none_at xs i (omega arith) e

-- the set gives back the key that it drops, and a table drops it for good
pub swapped : {X Y : Type 0} (f : X → Y) (keys new : List X) (i : ℕ) (d : Y) (r : Option X) → i < length keys → r ≡ slice_get keys i
    → IfSome r (λ k. new ≡ swap_remove keys i k) → map f new ≡ swap_remove (map f keys) i d
swapped f keys new i d None h e s = absurd (none_at keys i h (sym e))
swapped f keys new i d (Some k) h e s =
    let long : length (map f keys) ≡ length keys = length-map keys f in
    ap (map f) s ∙ map-swap_remove f keys i k (omega arith) ∙ swap_remove-default (map f keys) i (f k) d (omega arith)
