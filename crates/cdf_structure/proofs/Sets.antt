-- A set beside a list.
use Rattle.cdf_structure.proofs.Common.{Bool, List, [], ap, arith, cond, eqb, false, is_eq, is_in, nat_cmp, nat_tests, refl, sym, true, ℕ, ◌++◌, ◌||◌, ◌∙◌, ◌∷◌, ◌≡◌}

or_assoc : (p q r : Bool) → ((p || q) || r) ≡ (p || (q || r))
or_assoc true q r = refl
or_assoc false q r = refl

is_in-push : (x a : ℕ) (xs : List ℕ) → is_in x (xs ++ a ∷ []) ≡ (is_in x xs || eqb x a)
is_in-push x a [] = ors (eqb x a)
  where
    ors : (p : Bool) → (p || false) ≡ p
    ors true = refl
    ors false = refl
is_in-push x a (y ∷ ys) = ap (λ (r : Bool). eqb x y || r) (is_in-push x a ys) ∙ sym (or_assoc (eqb x y) (is_in x ys) (eqb x a))

same_cmp : (a x : ℕ) → is_eq (nat_cmp a x) ≡ eqb x a
same_cmp a x = grind (arith, nat_tests)

or_cond : (p q : Bool) → cond q true p ≡ (p || q)
or_cond true true = refl
or_cond true false = refl
or_cond false true = refl
or_cond false false = refl

pub agrees_more : (x a : ℕ) (xs : List ℕ) → cond (is_eq (nat_cmp a x)) true (is_in x xs) ≡ is_in x (xs ++ a ∷ [])
agrees_more x a xs = rw (same_cmp a x) (or_cond (is_in x xs) (eqb x a)) ∙ sym (is_in-push x a xs)
