-- The rules of each member of a list, one after the other.
use Rattle.cdf_structure.proofs.Common.{Finding, Finds, Hold, Hold-append, Hold-split, In, IsBroken, IsBroken-after, IsBroken-before, List, None, Option, Row, Some, [], ap, append-nil, arith, flat_map, get_or, inl, inr, length, map, map-append, option_or, refl, subst, suc, sym, take, take_more, zero, ℕ, ◌++◌, ◌+◌, ◌<◌, ◌∙◌, ◌∷◌, ◌≡◌, ◌⊎◌}
use Rattle.cdf_format.proofs.RowLemmas.{flat_map-append}

pub In-get_or : (xs : List ℕ) (i : ℕ) → i < length xs → In (get_or xs i 0) xs
In-get_or [] i lt = absurd (omega arith)
In-get_or (x ∷ xs) zero lt = inl refl
In-get_or (x ∷ xs) (suc i) lt = inr (In-get_or xs i (omega arith))

-- a member's broken rule is one of all
pub broken_member : {X : Type 0} (rows : X → List Row) (members : List X) (i : ℕ) (d : X) (rule place : ℕ) → i < length members → IsBroken (rows (get_or members i d)) rule place → IsBroken (flat_map rows members) rule place
broken_member rows [] i d rule place lt broken = absurd (omega arith)
broken_member rows (x ∷ members) zero d rule place lt broken = IsBroken-before (rows x) (flat_map rows members) rule place broken
broken_member rows (x ∷ members) (suc i) d rule place lt broken = IsBroken-after (rows x) (flat_map rows members) rule place (broken_member rows members i d rule place (omega arith) broken)

pub broken_in : (rows : ℕ → List Row) (members : List ℕ) (m rule place : ℕ) → In m members → IsBroken (rows m) rule place → IsBroken (flat_map rows members) rule place
broken_in rows [] m rule place stands broken = absurd stands
broken_in rows (x ∷ members) m rule place (inl e) broken = IsBroken-before (rows x) (flat_map rows members) rule place (subst (λ (n : ℕ). IsBroken (rows n) rule place) e broken)
broken_in rows (x ∷ members) m rule place (inr stands) broken = IsBroken-after (rows x) (flat_map rows members) rule place (broken_in rows members m rule place stands broken)

-- one more member's rules hold
pub holds_more : {X : Type 0} (rows : X → List Row) (members : List X) (i : ℕ) (d : X) → i < length members → Hold (flat_map rows (take i members)) → Hold (rows (get_or members i d)) → Hold (flat_map rows (take (suc i) members))
holds_more rows [] i d lt before here = absurd (omega arith)
holds_more rows (x ∷ members) zero d lt before here = Hold-append (rows x) [] here tt
holds_more rows (x ∷ members) (suc i) d lt before here =
    let parts = Hold-split (rows x) (flat_map rows (take i members)) before in
    Hold-append (rows x) (flat_map rows (take (suc i) members)) parts.0 (holds_more rows members i d (omega arith) parts.1 here)

-- what one more member has
pub one_more : {X : Type 0} (f : ℕ → X) (members : List ℕ) (i : ℕ) (found : List X) (x : X) → i < length members → found ≡ map f (take i members) → x ≡ f (get_or members i 0) → found ++ x ∷ [] ≡ map f (take (i + 1) members)
one_more f members i found x lt e is =
    ap (λ xs. xs ++ x ∷ []) e ∙ ap (λ y. map f (take i members) ++ y ∷ []) is ∙ sym (map-append f (take i members) (get_or members i 0 ∷ [])) ∙ ap (map f) (sym (take_more members i 0 lt))

pub IsBroken-split : (xs ys : List Row) (rule place : ℕ) → IsBroken (xs ++ ys) rule place → IsBroken xs rule place ⊎ IsBroken ys rule place
IsBroken-split [] ys rule place p = inr p
IsBroken-split (x ∷ xs) ys rule place (inl p) = inl (inl p)
IsBroken-split (x ∷ xs) ys rule place (inr p) = elim (IsBroken-split xs ys rule place p) [ inl q ↦ inl (inr q) | inr q ↦ inr q ]

-- one member more, of whose rules the first broken one is kept
pub found_more : (rows : ℕ → List Row) (ms : List ℕ) (m : ℕ) (before here : Option Finding) → Finds (flat_map rows ms) before → Finds (rows m) here → Finds (flat_map rows (ms ++ m ∷ [])) (option_or before here)
found_more rows ms m before here p q = subst (λ (all : List Row). Finds all (option_or before here)) (sym (flat_map-append rows ms (m ∷ []) ∙ ap (λ (r : List Row). flat_map rows ms ++ r) (append-nil (rows m)))) (both before here p q)
  where
    both : (before here : Option Finding) → Finds (flat_map rows ms) before → Finds (rows m) here → Finds (flat_map rows ms ++ rows m) (option_or before here)
    both None None p q = Hold-append (flat_map rows ms) (rows m) p q
    both None (Some f) p q = IsBroken-after (flat_map rows ms) (rows m) f.rule f.place q
    both (Some f) here p q = IsBroken-before (flat_map rows ms) (rows m) f.rule f.place p

-- three lists of rules
module _ (one two three : List Row) where
  pub all_of_three : Hold one → Hold two → Hold three → Hold (one ++ two ++ three)
  all_of_three p q r = Hold-append (one ++ two) three (Hold-append one two p q) r

  pub first_of_three : (rule place : ℕ) → IsBroken one rule place → IsBroken (one ++ two ++ three) rule place
  first_of_three rule place p = IsBroken-before (one ++ two) three rule place (IsBroken-before one two rule place p)

  pub second_of_three : (rule place : ℕ) → IsBroken two rule place → IsBroken (one ++ two ++ three) rule place
  second_of_three rule place p = IsBroken-before (one ++ two) three rule place (IsBroken-after one two rule place p)

  pub third_of_three : (rule place : ℕ) → IsBroken three rule place → IsBroken (one ++ two ++ three) rule place
  third_of_three rule place p = IsBroken-after (one ++ two) three rule place p
