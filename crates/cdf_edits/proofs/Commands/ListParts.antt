-- A list at a number.
use Rattle.cdf_edits.proofs.Common.{In, List, None, Option, Some, [], ap, append-nil, ap₂, arith, drop, get_or, inl, inr, last_or, length, length-append, length-map, map, map-append, refl, remove, same_Some, slice_get, subst, suc, sym, take_at, zero, ℕ, ◌++◌, ◌+◌, ◌-◌, ◌<◌, ◌∙◌, ◌∷◌, ◌≡◌}
use Rattle.std.proofs.Common.{take}

-- the elements before a number, the one with it, and those after
pub record Cut {A : Type 0} (xs : List A) (n : ℕ) : Type 0 where
  pub before : List A
  pub own : A
  pub after : List A
  pub is : xs ≡ before ++ own ∷ after
  pub count : length before ≡ n

pub cut : {A : Type 0} (xs : List A) (n : ℕ) → n < length xs → Cut xs n
cut [] n lt = absurd (omega arith)
cut (x ∷ xs) zero lt = record { before = []; own = x; after = xs; is = refl; count = refl }
cut (x ∷ xs) (suc n) lt = let c = cut xs n (omega arith) in record { before = x ∷ c.before; own = c.own; after = c.after; is = ap (λ (r : List _). x ∷ r) c.is; count = ap suc c.count }

pub got-middle : {A : Type 0} (xs : List A) (x : A) (ys : List A) → slice_get (xs ++ x ∷ ys) (length xs) ≡ Some x
got-middle [] x ys = refl
got-middle (y ∷ xs) x ys = got-middle xs x ys

pub same_middle : {A : Type 0} (all xs : List A) (x : A) (ys : List A) → all ≡ xs ++ x ∷ ys → (n : ℕ) → length xs ≡ n → {y : A} → slice_get all n ≡ Some y → x ≡ y
same_middle all xs x ys is n count {y = y} at = same_Some x y (sym (got-middle xs x ys) ∙ (λ i. slice_get (sym is i) (count i)) ∙ at)

pub got-map : {A B : Type 0} (f : A → B) (xs : List A) (n : ℕ) (x : A) → slice_get xs n ≡ Some x → slice_get (map f xs) n ≡ Some (f x)
got-map f [] n x e = absurd cc
got-map f (y ∷ xs) zero x e = ap (λ (o : Option _). elim o [ None ↦ None | Some z ↦ Some (f z) ]) e
got-map f (y ∷ xs) (suc n) x e = got-map f xs n x e

-- the last one
pub last_got : (xs : List ℕ) → slice_get xs (length xs - 1) ≡ last_or None xs
last_got [] = refl
last_got (x ∷ xs) = let e : length (x ∷ xs) - 1 ≡ length xs = omega arith in ap (slice_get (x ∷ xs)) e ∙ from x xs
  where
    from : (x : ℕ) (xs : List ℕ) → slice_get (x ∷ xs) (length xs) ≡ last_or (Some x) xs
    from x [] = refl
    from x (y ∷ xs) = from y xs

-- one that was put last goes again
pub last_removed : {A : Type 0} (xs : List A) (x : A) (last : ℕ) → last ≡ length xs → remove (xs ++ x ∷ []) last ≡ xs
last_removed xs x last e = rw e (ap₂ (λ (ys zs : List _). ys ++ zs) (take_at xs (x ∷ []) (length xs) refl) (none xs x) ∙ append-nil xs)
  where
    none : {A : Type 0} (xs : List A) (x : A) → drop (suc (length xs)) (xs ++ x ∷ []) ≡ []
    none [] x = refl
    none (y ∷ xs) x = none xs x

-- ---- one that goes

pub removed-at : {A : Type 0} (xs : List A) (x : A) (ys : List A) → remove (xs ++ x ∷ ys) (length xs) ≡ xs ++ ys
removed-at [] x ys = refl
removed-at (z ∷ xs) x ys = ap (λ (r : List _). z ∷ r) (removed-at xs x ys)

-- what a list means without one of them
pub map-without : {A B : Type 0} (f : A → B) (all xs : List A) (x : A) (ys : List A) → all ≡ xs ++ x ∷ ys → remove (map f all) (length xs) ≡ map f xs ++ map f ys
map-without f all xs x ys is =
    ap₂ (λ (zs : List _) (n : ℕ). remove zs n) (ap (map f) is ∙ map-append f xs (x ∷ ys)) (sym (length-map xs f)) ∙ removed-at (map f xs) (f x) (map f ys)

pub map-removed : {A B : Type 0} (f : A → B) (xs : List A) (n : ℕ) → map f (remove xs n) ≡ remove (map f xs) n
map-removed f [] zero = refl
map-removed f [] (suc n) = refl
map-removed f (x ∷ xs) zero = refl
map-removed f (x ∷ xs) (suc n) = ap (λ (r : List _). f x ∷ r) (map-removed f xs n)

pub got_in : (xs : List ℕ) (n : ℕ) → n < length xs → In (get_or xs n 0) xs
got_in [] n lt = absurd (omega arith)
got_in (x ∷ xs) zero lt = inl refl
got_in (x ∷ xs) (suc n) lt = inr (got_in xs n (omega arith))

got : (xs : List ℕ) (x : ℕ) (ys : List ℕ) → get_or (xs ++ x ∷ ys) (length xs) 0 ≡ x
got [] x ys = refl
got (y ∷ xs) x ys = got xs x ys

rest : {A : Type 0} (xs : List A) (x : A) (ys : List A) → drop (suc (length xs)) (xs ++ x ∷ ys) ≡ ys
rest [] x ys = refl
rest (y ∷ xs) x ys = rest xs x ys

-- an element by its number and by that of its place: those before and after it
pub record AtNumber {A : Type 0} (f : A → ℕ) (xs : List A) (places : List ℕ) (n : ℕ) : Type 0 where
  pub before : List A
  pub own : A
  pub after : List A
  pub is : xs ≡ before ++ own ∷ after
  pub count : length before ≡ n
  pub own_at : get_or places n 0 ≡ f own
  pub front_at : take n places ≡ map f before
  pub later_at : drop (n + 1) places ≡ map f after
  pub later_are : drop (n + 1) xs ≡ after
  pub others_are : remove places n ≡ map f (before ++ after)
  pub place_in : In (get_or places n 0) (map f xs)
  pub long : length places ≡ suc (length before + length after)

pub at_number : {A : Type 0} (f : A → ℕ) (xs : List A) (places : List ℕ) → places ≡ map f xs → (n : ℕ) → n < length places → AtNumber f xs places n
at_number f xs places are n lt =
    let c = cut xs n (let l = ap length are ∙ length-map xs f in omega arith) in
    let at : places ≡ map f c.before ++ f c.own ∷ map f c.after = are ∙ ap (map f) c.is ∙ map-append f c.before (c.own ∷ c.after) in
    let count : length (map f c.before) ≡ n = length-map c.before f ∙ c.count in
    let next : n + 1 ≡ suc (length (map f c.before)) = omega arith in
    let next' : n + 1 ≡ suc (length c.before) = let k = c.count in omega arith in
    record {
      before = c.before;
      own = c.own;
      after = c.after;
      is = c.is;
      count = c.count;
      own_at = ap₂ (λ (ps : List ℕ) (k : ℕ). get_or ps k 0) at (sym count) ∙ got (map f c.before) (f c.own) (map f c.after);
      front_at = ap (take n) at ∙ take_at (map f c.before) (f c.own ∷ map f c.after) n count;
      later_at = ap₂ (λ (ps : List ℕ) (k : ℕ). drop k ps) at next ∙ rest (map f c.before) (f c.own) (map f c.after);
      later_are = ap₂ (λ (ys : List _) (k : ℕ). drop k ys) c.is next' ∙ rest c.before c.own c.after;
      others_are = ap₂ (λ (ps : List ℕ) (k : ℕ). remove ps k) at (sym count) ∙ removed-at (map f c.before) (f c.own) (map f c.after) ∙ sym (map-append f c.before c.after);
      place_in = subst (In (get_or places n 0)) are (got_in places n lt);
      long = ap length are ∙ length-map xs f ∙ ap length c.is ∙ length-append c.before (c.own ∷ c.after) ∙ more (length c.before) (length c.after);
    }
  where
    more : (x y : ℕ) → x + suc y ≡ suc (x + y)
    more x y = omega arith
