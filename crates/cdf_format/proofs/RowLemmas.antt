-- Rules of several lists of rows.
use Rattle.std.proofs.Common.{◌≡◌, ℕ, List, [], ◌∷◌, ◌++◌, Bool, true, false, refl, sym, ◌∙◌, ap, subst, inl, inr, append_assoc}
use Rattle.cdf_format.proofs.Common.{flat_map, Row, asked, Hold, IsBroken, In, Walk, whole, stuck, records_of, chain_rows}

pub Hold-append : (xs ys : List Row) → Hold xs → Hold ys → Hold (xs ++ ys)
Hold-append [] ys p q = q
Hold-append (x ∷ xs) ys p q = (p.0, Hold-append xs ys p.1 q)

pub Hold-split : (xs ys : List Row) → Hold (xs ++ ys) → Hold xs × Hold ys
Hold-split [] ys p = (tt, p)
Hold-split (x ∷ xs) ys p = let rest = Hold-split xs ys p.1 in ((p.0, rest.0), rest.1)

pub IsBroken-before : (xs ys : List Row) (rule place : ℕ) → IsBroken xs rule place → IsBroken (xs ++ ys) rule place
IsBroken-before [] ys rule place p = absurd p
IsBroken-before (x ∷ xs) ys rule place (inl p) = inl p
IsBroken-before (x ∷ xs) ys rule place (inr p) = inr (IsBroken-before xs ys rule place p)

pub IsBroken-after : (xs ys : List Row) (rule place : ℕ) → IsBroken ys rule place → IsBroken (xs ++ ys) rule place
IsBroken-after [] ys rule place p = p
IsBroken-after (x ∷ xs) ys rule place p = inr (IsBroken-after xs ys rule place p)

-- the rules of each member of a list of records
pub Hold-member : (rows : ℕ → List Row) (ms : List ℕ) (m : ℕ) → Hold (flat_map rows ms) → In m ms → Hold (rows m)
Hold-member rows [] m h i = absurd i
Hold-member rows (x ∷ ms) m h (inl e) = subst (λ (z : ℕ). Hold (rows z)) (sym e) (Hold-split (rows x) (flat_map rows ms) h).0
Hold-member rows (x ∷ ms) m h (inr i) = Hold-member rows ms m (Hold-split (rows x) (flat_map rows ms) h).1 i

pub Hold-members : (rows : ℕ → List Row) (ms : List ℕ) → ((m : ℕ) → In m ms → Hold (rows m)) → Hold (flat_map rows ms)
Hold-members rows [] h = tt
Hold-members rows (x ∷ ms) h = Hold-append (rows x) (flat_map rows ms) (h x (inl refl)) (Hold-members rows ms (λ m i. h m (inr i)))

pub Hold-asked : (p : Bool) (rows : List Row) → Hold (asked p rows) → p ≡ true → Hold rows
Hold-asked true rows h e = h
Hold-asked false rows h e = absurd cc

pub flat_map-append : {A : Type 0} (f : A → List Row) (xs ys : List A) → flat_map f (xs ++ ys) ≡ flat_map f xs ++ flat_map f ys
flat_map-append f [] ys = refl
flat_map-append f (x ∷ xs) ys = ap (λ (r : List Row). f x ++ r) (flat_map-append f xs ys) ∙ sym (append_assoc (f x) (flat_map f xs) (flat_map f ys))

-- a walk whose rules hold is whole
pub record IsWhole (w : Walk) (more : List ℕ → List Row) : Type 0 where
  pub is : w ≡ whole (records_of w)
  pub rows : Hold (more (records_of w))

pub chain_rows-hold : (rule : ℕ) (w : Walk) (more : List ℕ → List Row) → Hold (chain_rows rule w more) → IsWhole w more
chain_rows-hold rule (whole ms) more h = record { is = refl; rows = h }
chain_rows-hold rule (stuck ms place) more h = absurd cc

pub Hold-chain_rows : (rule : ℕ) (w : Walk) (more : List ℕ → List Row) (ms : List ℕ) → w ≡ whole ms → Hold (more ms) → Hold (chain_rows rule w more)
Hold-chain_rows rule w more ms e h = rw e h
