-- Acts that take records and free none: what they leave of the unused list.
use Rattle.cdf_edits.proofs.Common.{Act, AreActs, Bool, Each, Gave, Happens, List, SpaceLeft, Took, [], after_act, arith, eof_after, false, fold, if◌then◌else◌, list_any, nat_le, nat_lt, nat_tests, or_parts, place_for, taken, taken_from, ℕ, ◌&&◌, ◌++◌, ◌+◌, ◌-◌, ◌∷◌, ◌≡◌, ◌≤◌, inl, inr, refl}
use Rattle.cdf_edits.specs.Space.Acts.{Among}
pub use Rattle.cdf_edits.specs.Space.Acts.{OnlyTakes}

-- none of the records that were taken passes a test
pub none_of_both : (test : ℕ × ℕ → Bool) (xs ys : List Act) → list_any test (taken (xs ++ ys)) ≡ false → (list_any test (taken xs) ≡ false) × (list_any test (taken ys) ≡ false)
none_of_both test [] ys e = (refl, e)
none_of_both test (Took place need ∷ xs) ys e = let n = or_parts (test (place, need)) (list_any test (taken (xs ++ ys))) e in let more = none_of_both test xs ys n.1 in (rw n.0 (more.0), more.1)
none_of_both test (Gave place size ∷ xs) ys e = none_of_both test xs ys e

-- ---- what holds of the records of a list, and then of the rest of each, holds of those that are left

module _ (P : ℕ × ℕ → Type 0) (rest : (place size need : ℕ) → 28 ≤ need → need + 28 ≤ size → P (place, size) → P (place + need, size - need)) where
  taken_carries : (list : List (ℕ × ℕ)) (need : ℕ) → 28 ≤ need → Each P list → Each P (taken_from list need)
  taken_carries [] need enough h = tt
  taken_carries ((place, size) ∷ more) need enough h = grind (arith, nat_tests, rest place size need enough, h.0, h.1, taken_carries more need enough h.1)

  pub acts_carry : (l : SpaceLeft) (acts : List Act) → AreActs l acts → OnlyTakes acts → Each P l.listed → Each P (fold after_act l acts).listed
  acts_carry l [] are takes h = h
  acts_carry l (Took place need ∷ acts) are takes h = acts_carry (after_act l (Took place need)) acts are.1 takes (taken_carries l.listed need are.0.0 h)
  acts_carry l (Gave place size ∷ acts) are takes h = absurd takes

-- ---- a byte lies in one record of the list, or behind the end of the image

abbrev one : ℕ → ℕ → ℕ → ℕ
one i place size = if nat_le place i && nat_lt i (place + size) then 1 else 0

abbrev pub having : ℕ → List (ℕ × ℕ) → ℕ → ℕ
having i [] end = if nat_le end i then 1 else 0
having i ((place, size) ∷ more) end = one i place size + having i more end

abbrev pub Once : List (ℕ × ℕ) → ℕ → Type 0
Once list end = (i : ℕ) → having i list end ≤ 1

end_had : (list : List (ℕ × ℕ)) (end : ℕ) → 1 ≤ having end list end
end_had [] end = grind (arith, nat_tests)
end_had (x ∷ list) end = let m = end_had list end in omega arith

-- what is taken lies in none that is left
having_taken : (list : List (ℕ × ℕ)) (end need i : ℕ) → 28 ≤ need → having end list end ≤ 1 → having i (taken_from list need) (eof_after list end need) + one i (place_for list end need) need ≡ having i list end
having_taken [] end need i enough once = grind (arith, nat_tests)
having_taken ((place, size) ∷ more) end need i enough once = grind (arith, nat_tests, end_had more end, having_taken more end need i enough)

-- in one list after the other
step_once : (l : SpaceLeft) (place need i : ℕ) → Happens l (Took place need) → Once l.listed l.end → having i (after_act l (Took place need)).listed (after_act l (Took place need)).end + one i place need ≡ having i l.listed l.end
step_once l place need i h once = rw h.1 (having_taken l.listed l.end need i h.0 (once l.end))

having_less : (l : SpaceLeft) (acts : List Act) (i : ℕ) → AreActs l acts → OnlyTakes acts → Once l.listed l.end → having i (fold after_act l acts).listed (fold after_act l acts).end ≤ having i l.listed l.end
having_less l [] i are takes once = omega arith
having_less l (Took place need ∷ acts) i are takes once =
    let first = λ (j : ℕ). step_once l place need j are.0 once in
    let more = having_less (after_act l (Took place need)) acts i are.1 takes (λ j. omega (arith, first j, once j)) in
    omega (arith, first i)
having_less l (Gave place size ∷ acts) i are takes once = absurd takes

having_among : (i m k : ℕ) (list : List (ℕ × ℕ)) (end : ℕ) → Among (m, k) list → one i m k ≤ having i list end
having_among i m k [] end a = absurd a
having_among i m k (x ∷ list) end (inl q) = rw (← q) (omega arith)
having_among i m k (x ∷ list) end (inr a) = omega (arith, having_among i m k list end a)

-- no record that was taken begins in one that is left
pub untaken : (l : SpaceLeft) (acts : List Act) (m k : ℕ) → AreActs l acts → OnlyTakes acts → Once l.listed l.end → Among (m, k) (fold after_act l acts).listed → list_any (λ take. nat_le m take.0 && nat_lt take.0 (m + k)) (taken acts) ≡ false
untaken l [] m k are takes once a = refl
untaken l (Took place need ∷ acts) m k are takes once a =
    let first = λ (j : ℕ). step_once l place need j are.0 once in
    let later : Once (after_act l (Took place need)).listed (after_act l (Took place need)).end = λ j. omega (arith, first j, once j) in
    let less = having_less (after_act l (Took place need)) acts place are.1 takes later in
    let among = having_among place m k (fold after_act (after_act l (Took place need)) acts).listed (fold after_act (after_act l (Took place need)) acts).end a in
    grind (arith, nat_tests, are.0.0, first place, once place, less, among, untaken (after_act l (Took place need)) acts m k are.1 takes later a)
untaken l (Gave place size ∷ acts) m k are takes once a = absurd takes
