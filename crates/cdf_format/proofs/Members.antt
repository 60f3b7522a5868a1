-- Lists of numbers that stand apart.
use Rattle.std.proofs.Common.{◌≡◌, ◌≢◌, ◌⊎◌, ℕ, suc, ◌≤◌, List, [], ◌∷◌, ◌++◌, length, Bool, true, false, ◌||◌, eqb, eq-eqb, true≢false, refl, sym, ap, subst, ◌∙◌, arith, inl, inr}
use Rattle.cdf_format.proofs.Common.{eqb-true, In, Distinct, is_in}

pub either : (p : Bool) → (p ≡ true) ⊎ (p ≡ false)
either true = inl refl
either false = inr refl

pub In-append_left : (x : ℕ) (xs ys : List ℕ) → In x xs → In x (xs ++ ys)
In-append_left x [] ys h = absurd h
In-append_left x (y ∷ xs) ys (inl e) = inl e
In-append_left x (y ∷ xs) ys (inr h) = inr (In-append_left x xs ys h)

pub In-append_right : (x : ℕ) (xs ys : List ℕ) → In x ys → In x (xs ++ ys)
In-append_right x [] ys h = h
In-append_right x (y ∷ xs) ys h = inr (In-append_right x xs ys h)

pub In-append : (x : ℕ) (xs ys : List ℕ) → In x (xs ++ ys) → In x xs ⊎ In x ys
In-append x [] ys h = inr h
In-append x (y ∷ xs) ys (inl e) = inl (inl e)
In-append x (y ∷ xs) ys (inr h) = elim (In-append x xs ys h) [ inl l ↦ inl (inr l) | inr r ↦ inr r ]

pub Distinct-push : (xs : List ℕ) (y : ℕ) → Distinct xs → (In y xs → ⊥) → Distinct (xs ++ y ∷ [])
Distinct-push [] y d out = (λ h. h, tt)
Distinct-push (x ∷ xs) y d out = (λ h. elim (In-append x xs (y ∷ []) h) [ inl l ↦ d.0 l | inr r ↦ elim r [ inl e ↦ out (inl (sym e)) | inr n ↦ n ] ], Distinct-push xs y d.1 (λ h. out (inr h)))

pub Distinct-front : (xs ys : List ℕ) → Distinct (xs ++ ys) → Distinct xs
Distinct-front [] ys d = tt
Distinct-front (x ∷ xs) ys d = ((λ i. d.0 (In-append_left x xs ys i)), Distinct-front xs ys d.1)

pub Distinct-back : (xs ys : List ℕ) → Distinct (xs ++ ys) → Distinct ys
Distinct-back [] ys d = d
Distinct-back (x ∷ xs) ys d = Distinct-back xs ys d.1

pub Distinct-middle : (xs : List ℕ) (y : ℕ) (ys : List ℕ) → Distinct (xs ++ y ∷ ys) → In y xs → ⊥
Distinct-middle [] y ys d i = i
Distinct-middle (x ∷ xs) y ys d (inl e) = d.0 (subst (λ z. In z (xs ++ y ∷ ys)) e (In-append_right y xs (y ∷ ys) (inl refl)))
Distinct-middle (x ∷ xs) y ys d (inr i) = Distinct-middle xs y ys d.1 i

without_member : (x : ℕ) (ts : List ℕ) → In x ts → (rest : List ℕ) × (length ts ≡ suc (length rest)) × ((y : ℕ) → In y ts → y ≢ x → In y rest)
without_member x [] h = absurd h
without_member x (t ∷ ts) (inl e) = (ts, refl, λ y i ne. elim i [ inl f ↦ absurd (ne (f ∙ sym e)) | inr r ↦ r ])
without_member x (t ∷ ts) (inr h) = let w = without_member x ts h in (t ∷ w.0, ap suc w.1, λ y i ne. elim i [ inl f ↦ inl f | inr r ↦ inr (w.2 y r ne) ])

-- a list of distinct members of another is no longer than it
pub length-le_from_distinct : (ms ts : List ℕ) → Distinct ms → ((m : ℕ) → In m ms → In m ts) → length ms ≤ length ts
length-le_from_distinct [] ts d sub = omega arith
length-le_from_distinct (m ∷ ms) ts d sub =
    let w = without_member m ts (sub m (inl refl)) in
    let r = length-le_from_distinct ms w.0 d.1 (λ y i. w.2 y (sub y (inr i)) (λ e. d.0 (subst (λ z. In z ms) e i))) in
    let l : length ts ≡ suc (length w.0) = w.1 in
    omega arith

or_cases : (p q : Bool) → (p || q) ≡ true → (p ≡ true) ⊎ (q ≡ true)
or_cases true q e = inl refl
or_cases false q e = inr e

or_left : (p q : Bool) → p ≡ true → (p || q) ≡ true
or_left true q e = refl
or_left false q e = absurd cc

or_right : (p q : Bool) → q ≡ true → (p || q) ≡ true
or_right true q e = refl
or_right false q e = e

pub is_in-true : (x : ℕ) (xs : List ℕ) → In x xs → is_in x xs ≡ true
is_in-true x [] h = absurd h
is_in-true x (y ∷ ys) (inl e) = or_left (eqb x y) (is_in x ys) (eq-eqb x y e)
is_in-true x (y ∷ ys) (inr h) = or_right (eqb x y) (is_in x ys) (is_in-true x ys h)

pub true-is_in : (x : ℕ) (xs : List ℕ) → is_in x xs ≡ true → In x xs
true-is_in x [] e = absurd cc
true-is_in x (y ∷ ys) e = elim (or_cases (eqb x y) (is_in x ys) e) [ inl p ↦ inl (eqb-true x y p) | inr q ↦ inr (true-is_in x ys q) ]

pub false-is_in : (x : ℕ) (xs : List ℕ) → is_in x xs ≡ false → In x xs → ⊥
false-is_in x xs e i = absurd (true≢false (sym (is_in-true x xs i) ∙ e))

pub is_in-false : (x : ℕ) (xs : List ℕ) → (In x xs → ⊥) → is_in x xs ≡ false
is_in-false x xs out = elim (either (is_in x xs)) [ inl i ↦ absurd (out (true-is_in x xs i)) | inr e ↦ e ]
