-- Tests of numbers, taken apart.
use Rattle.std.proofs.Common.{◌≡◌, ℕ, ◌≤◌, Bool, true, false, refl, arith, ◌&&◌, not, List, [], ◌∷◌, eqb, ap₂}
use Rattle.cdf_format.proofs.Common.{nat_le, ◌==◌, bytes_eq, eqb-true}
use Rattle.std.proofs.lemmas.Bool.Decides.{nat_tests}

pub both : (p q : Bool) → (p && q) ≡ true → (p ≡ true) × (q ≡ true)
both true q e = (refl, e)
both false q e = cc e

pub le_of : (m n : ℕ) → nat_le m n ≡ true → m ≤ n
le_of m n e = grind (arith, nat_tests)

pub of_le : (m n : ℕ) → m ≤ n → nat_le m n ≡ true
of_le m n e = grind (arith, nat_tests)

pub eq_of : (m n : ℕ) → (m == n) ≡ true → m ≡ n
eq_of m n e = grind (arith, nat_tests)

pub not_false : (p : Bool) → not p ≡ true → p ≡ false
not_false true e = cc e
not_false false e = refl

pub same_of_bytes_eq : (xs ys : List ℕ) → bytes_eq xs ys ≡ true → xs ≡ ys
same_of_bytes_eq [] [] e = refl
same_of_bytes_eq [] (y ∷ ys) e = cc e
same_of_bytes_eq (x ∷ xs) [] e = cc e
same_of_bytes_eq (x ∷ xs) (y ∷ ys) e =
    let p = both (eqb x y) (bytes_eq xs ys) e in
    ap₂ (λ (m : ℕ) (ms : List ℕ). m ∷ ms) (eqb-true x y p.0) (same_of_bytes_eq xs ys p.1)
