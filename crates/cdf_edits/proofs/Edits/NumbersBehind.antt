-- Numbers that the members of a chain get one after the other, and that other records of theirs say.
use Rattle.cdf_edits.proofs.Common.{Each, Each-append, Each-split, Field, Hold, In, In-append, In-append_left, In-append_right, List, Write, [], ap, arith, flat_map, inl, inr, length, length-map, map, map-append, number, number_rows, refl, subst, suc, sym, write, ℕ, ◌++◌, ◌+◌, ◌<◌, ◌^◌, ◌∙◌, ◌∷◌, ◌≡◌, ◌≤◌}
use Rattle.cdf_edits.proofs.Edits.RowsOneLess.{AreNumbered, one_less}
use Rattle.cdf_edits.proofs.Edits.WrittenFields.{written_tiles}

-- a field has its number
abbrev pub SaysNumber : List ℕ → Write → Type 0
SaysNumber now w = number now w.tile w.f ≡ w.to

-- where they stand, and where the others do, is among the records of all
module _ {A : Type 0} (place : A → ℕ) (others : A → List ℕ) where
  pub place_in : (xs : List A) (m : ℕ) → In m (map place xs) → In m (flat_map (λ x. place x ∷ others x) xs)
  place_in [] m i = absurd i
  place_in (x ∷ more) m (inl e) = inl e
  place_in (x ∷ more) m (inr i) = In-append_right m (place x ∷ others x) (flat_map (λ x. place x ∷ others x) more) (place_in more m i)

  pub others_in : (xs : List A) (m : ℕ) → In m (flat_map others xs) → In m (flat_map (λ x. place x ∷ others x) xs)
  others_in [] m i = absurd i
  others_in (x ∷ more) m i = elim (In-append m (others x) (flat_map others more) i) [
    | inl j ↦ inr (In-append_left m (others x) (flat_map (λ x. place x ∷ others x) more) j)
    | inr j ↦ In-append_right m (place x ∷ others x) (flat_map (λ x. place x ∷ others x) more) (others_in more m j)
  ]

-- the rules on the numbers without one of them
pub fewer_rows : {A : Type 0} (place : A → ℕ) (num : Field) (rule : ℕ) (b now : List ℕ) (all before : List A) (own : A) (after : List A) → all ≡ before ++ own ∷ after → ((m : ℕ) → In m (map place before) → number now m num ≡ number b m num) → AreNumbered now num (length before) (map place after)
    → Hold (number_rows rule b num 0 (map place all)) → Hold (number_rows rule now num 0 (map place (before ++ after)))
fewer_rows place num rule b now all before own after was same says h = subst (λ (ms : List ℕ). Hold (number_rows rule now num 0 ms)) (sym (map-append place before after))
    (one_less rule num b now (map place before) (place own) (map place after) same (subst (λ (n : ℕ). AreNumbered now num n (map place after)) (sym (length-map before place)) says) (subst (λ (ms : List ℕ). Hold (number_rows rule b num 0 ms)) (ap (map place) was ∙ map-append place before (own ∷ after)) h))

module _ {A : Type 0} (place : A → ℕ) (num : Field) (others : A → List ℕ) (said : Field) where
  -- what is written
  abbrev pub numbering : ℕ → List A → List Write
  numbering n [] = []
  numbering n (x ∷ more) = write (place x) num n ∷ map (λ m. write m said n) (others x) ++ numbering (suc n) more

  abbrev rest : ℕ → A → List Write
  rest n x = map (λ m. write m said n) (others x)

  pub tiles_numbered : (n : ℕ) (xs : List A) → written_tiles (numbering n xs) ≡ flat_map (λ x. place x ∷ others x) xs
  tiles_numbered n [] = refl
  tiles_numbered n (x ∷ more) = ap (λ (r : List ℕ). place x ∷ r) (map-append (λ (w : Write). w.tile) (rest n x) (numbering (suc n) more) ∙ (let one = each (others x) in let more = tiles_numbered (suc n) more in λ i. one i ++ more i))
    where
      each : (ms : List ℕ) → written_tiles (map (λ m. write m said n) ms) ≡ ms
      each [] = refl
      each (m ∷ ms) = ap (λ (r : List ℕ). m ∷ r) (each ms)

  -- what holds of each that is written
  pub each_numbered : (P : Write → Type 0) (n top : ℕ) (xs : List A) → n + length xs ≤ top → ((m k : ℕ) → In m (map place xs) → k < top → P (write m num k)) → ((m k : ℕ) → In m (flat_map others xs) → k < top → P (write m said k)) → Each P (numbering n xs)
  each_numbered P n top [] l one other = tt
  each_numbered P n top (x ∷ more) l one other = (
    one (place x) n (inl refl) (omega arith),
    Each-append P (rest n x) (numbering (suc n) more)
        (each (others x) (λ m i. In-append_left m (others x) (flat_map others more) i)) (each_numbered P (suc n) top more (omega arith) (λ m k i. one m k (inr i)) (λ m k i. other m k (In-append_right m (others x) (flat_map others more) i))),
  )
    where
      each : (ms : List ℕ) → ((m : ℕ) → In m ms → In m (flat_map others (x ∷ more))) → Each P (map (λ m. write m said n) ms)
      each [] sub = tt
      each (m ∷ ms) sub = (other m n (sub m (inl refl)) (omega arith), each ms (λ y i. sub y (inr i)))

  pub small_numbers : (n : ℕ) (xs : List A) → num.width ≡ 4 → said.width ≡ 4 → n + length xs < 256 ^ 4 → Each (λ (w : Write). w.to < 256 ^ w.f.width) (numbering n xs)
  small_numbers n xs four four' few = each_numbered (λ (w : Write). w.to < 256 ^ w.f.width) n (n + length xs) xs (omega arith) (λ m k i l. subst (λ (d : ℕ). k < 256 ^ d) (sym four) (omega arith)) (λ m k i l. subst (λ (d : ℕ). k < 256 ^ d) (sym four') (omega arith))

  -- they have their numbers, and the others say them
  pub are_numbered : (now : List ℕ) (n : ℕ) (xs : List A) → Each (SaysNumber now) (numbering n xs) → AreNumbered now num n (map place xs)
  are_numbered now n [] says = tt
  are_numbered now n (x ∷ more) says = (says.0, are_numbered now (suc n) more (Each-split (SaysNumber now) (rest n x) (numbering (suc n) more) says.1).1)

  pub others_say : (now : List ℕ) (n : ℕ) (xs : List A) → Each (SaysNumber now) (numbering n xs) → Each (λ x. (m : ℕ) → In m (others x) → number now m said ≡ number now (place x) num) xs
  others_say now n [] says = tt
  others_say now n (x ∷ more) says =
      let p = Each-split (SaysNumber now) (rest n x) (numbering (suc n) more) says.1 in
      ((λ m i. say (others x) p.0 m i ∙ sym says.0), others_say now (suc n) more p.1)
    where
      say : (ms : List ℕ) → Each (SaysNumber now) (map (λ m. write m said n) ms) → (m : ℕ) → In m ms → number now m said ≡ n
      say [] h m i = absurd i
      say (x ∷ ms) h m (inl q) = subst (λ (y : ℕ). number now y said ≡ n) (sym q) h.0
      say (x ∷ ms) h m (inr i) = say ms h.1 m i
