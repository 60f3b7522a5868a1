-- Taps are dropped from the last on.
use Rattle.std.proofs.Common.{◌≡◌, ◌∙◌, ℕ, zero, suc, ◌<◌, ◌≤◌, ◌-◌, Bool, true, false, List, [], ◌∷◌, ◌++◌, length, map, take, drop, get_or, refl, ap, ap₂, arith, remove}
use Rattle.std.proofs.lemmas.List.{map-append}
use Rattle.std.specs.List.{zip}
use Rattle.cdf_tap.specs.Meanings.{Meaning, left_of}

module _ {X Y : Type 0} (f : X → Y) where
  map-take : (n : ℕ) (xs : List X) → map f (take n xs) ≡ take n (map f xs)
  map-take zero xs = refl
  map-take (suc n) [] = refl
  map-take (suc n) (x ∷ xs) = ap (λ l. f x ∷ l) (map-take n xs)

  map-drop : (n : ℕ) (xs : List X) → map f (drop n xs) ≡ drop n (map f xs)
  map-drop zero xs = refl
  map-drop (suc n) [] = refl
  map-drop (suc n) (x ∷ xs) = map-drop n xs

  pub map-remove : (xs : List X) (i : ℕ) → map f (remove xs i) ≡ remove (map f xs) i
  map-remove xs i = map-append f (take i xs) (drop (suc i) xs) ∙ ap₂ (λ u v. u ++ v) (map-take i xs) (map-drop (suc i) xs)

-- what is left once the taps from a place on were dropped that ended
abbrev pub left_from : ℕ → List Meaning → List Bool → List Meaning
left_from n ms ended = take n ms ++ left_of (zip (drop n ms) (drop n ended))

ended_goes : (i : ℕ) (ms : List Meaning) (ended : List Bool) (d : Bool) → i < length ms → length ended ≡ length ms → get_or ended i d ≡ true → remove (left_from (suc i) ms ended) i ≡ left_from i ms ended
ended_goes i [] ended d l e t = absurd (omega arith)
ended_goes i (m ∷ ms) [] d l e t = absurd (omega (arith, e))
ended_goes zero (m ∷ ms) (b ∷ bs) d l e t = rw t refl
ended_goes (suc i) (m ∷ ms) (b ∷ bs) d l e t = ap (λ x. m ∷ x) (ended_goes i ms bs d (omega arith) (omega (arith, e)) t)

other_stays : (i : ℕ) (ms : List Meaning) (ended : List Bool) (d : Bool) → i < length ms → length ended ≡ length ms → get_or ended i d ≡ false → left_from (suc i) ms ended ≡ left_from i ms ended
other_stays i [] ended d l e t = absurd (omega arith)
other_stays i (m ∷ ms) [] d l e t = absurd (omega (arith, e))
other_stays zero (m ∷ ms) (b ∷ bs) d l e t = rw t refl
other_stays (suc i) (m ∷ ms) (b ∷ bs) d l e t = ap (λ x. m ∷ x) (other_stays i ms bs d (omega arith) (omega (arith, e)) t)

module _ (n : ℕ) (ms : List Meaning) (ended : List Bool) (now : List Meaning) (d : Bool) (some : 0 < n) (l : n ≤ length ms) (e : length ended ≡ length ms) (is : now ≡ left_from n ms ended) where
  pub dropped : get_or ended (n - 1) d ≡ true → remove now (n - 1) ≡ left_from (n - 1) ms ended
  dropped t =
      let next : n ≡ suc (n - 1) = omega arith in
      ap (λ t. remove t (n - 1)) (is ∙ ap (λ k. left_from k ms ended) next) ∙ ended_goes (n - 1) ms ended d (omega arith) e t

  pub stayed : get_or ended (n - 1) d ≡ false → now ≡ left_from (n - 1) ms ended
  stayed t =
      let next : n ≡ suc (n - 1) = omega arith in
      is ∙ ap (λ k. left_from k ms ended) next ∙ other_stays (n - 1) ms ended d (omega arith) e t
