-- Lists that are changed one place after the other.
use Rattle.std.proofs.Common.{◌≡◌, ◌∙◌, ◌⊎◌, inl, inr, ℕ, zero, suc, ◌+◌, ◌<◌, ◌≤◌, Bool, true, false, not, ◌||◌, if◌then◌else◌, List, [], ◌∷◌, ◌++◌, length, map, take, drop, get_or, slice_set, refl, sym, ap, ap₂, arith, add-one, append-nil}
use Rattle.std.proofs.lemmas.List.{map-set, get_or-map, length-map, take_all, drop_all}
use Rattle.std.proofs.lemmas.Slice.Zip.{get_or-zip}
use Rattle.std.specs.List.{list_any, zip}
use Rattle.cdf_tap.specs.Meanings.{Meaning, has_name, kinds_of, others_of}

pub either : (b : Bool) → (b ≡ true) ⊎ (b ≡ false)
either true = inl refl
either false = inr refl

-- a place that passes is found
or_true : (b : Bool) → b || true ≡ true
or_true true = refl
or_true false = refl

pub any_at : {X Y : Type 0} (p : Y → Bool) (f : X → Y) (xs : List X) (i : ℕ) (x : X) → i < length xs → x ≡ get_or xs i x → p (f x) ≡ true → list_any p (map f xs) ≡ true
any_at p f [] i x h e t = absurd (omega arith)
any_at p f (y ∷ ys) zero x h e t = let yes : p (f y) ≡ true = ap (λ z. p (f z)) (sym e) ∙ t in ap (λ b. b || list_any p (map f ys)) yes
any_at p f (y ∷ ys) (suc i) x h e t = ap (λ b. p (f y) || b) (any_at p f ys i x (omega arith) e t) ∙ or_true (p (f y))

pub any_of : {Y Z : Type 0} (p : Z → Bool) (g : Y → Z) (ys : List Y) → list_any p (map g ys) ≡ list_any (λ y. p (g y)) ys
any_of p g [] = refl
any_of p g (y ∷ ys) = ap (λ b. p (g y) || b) (any_of p g ys)

-- one more place is changed
module _ {Y : Type 0} (h : Y → Y) where
  set_next : (i : ℕ) (old : List Y) (d : Y) → i < length old → slice_set (map h (take i old) ++ drop i old) i (h (get_or old i d)) ≡ map h (take (suc i) old) ++ drop (suc i) old
  set_next zero [] d l = absurd (omega arith)
  set_next zero (y ∷ ys) d l = refl
  set_next (suc i) [] d l = absurd (omega arith)
  set_next (suc i) (y ∷ ys) d l = ap (λ t. h y ∷ t) (set_next i ys d (omega arith))

  read_next : (i : ℕ) (old : List Y) (d : Y) → i < length old → get_or (map h (take i old) ++ drop i old) i d ≡ get_or old i d
  read_next zero old d l = refl
  read_next (suc i) [] d l = absurd (omega arith)
  read_next (suc i) (y ∷ ys) d l = read_next i ys d (omega arith)

  change : (old now : List Y) (i : ℕ) (d y : Y) → i < length old → now ≡ map h (take i old) ++ drop i old → y ≡ h (get_or now i d) → slice_set now i y ≡ map h (take (i + 1) old) ++ drop (i + 1) old
  change old now i d y l is e =
      ap₂ (λ t z. slice_set t i z) is (e ∙ ap h (ap (λ t. get_or t i d) is ∙ read_next i old d l)) ∙ set_next i old d l
      ∙ ap (λ k. map h (take k old) ++ drop k old) (sym (add-one i))

  pub all_changed : (n : ℕ) (old : List Y) → length old ≤ n → map h (take n old) ++ drop n old ≡ map h old
  all_changed n old l = ap₂ (λ s t. map h s ++ t) (take_all n old l) (drop_all n old l) ∙ append-nil (map h old)

module _ {X Y : Type 0} (f : X → Y) where
  at_place : (xs : List X) (i : ℕ) (x : X) → i < length xs → x ≡ get_or xs i x → get_or (map f xs) i (f x) ≡ f x
  at_place xs i x l at = get_or-map f xs i x (f x) l ∙ ap f (sym at)

  -- in a list of meanings
  pub changed : (h : Y → Y) (old : List Y) (now : List X) (i : ℕ) (x new : X) → i < length old → length now ≡ length old → map f now ≡ map h (take i old) ++ drop i old → x ≡ get_or now i x → f new ≡ h (f x)
      → map f (slice_set now i new) ≡ map h (take (i + 1) old) ++ drop (i + 1) old
  changed h old now i x new l same is at e =
      map-set f now i new ∙ change h old (map f now) i (f x) (f new) l is (e ∙ ap h (sym (at_place now i x (omega (arith, same)) at)))

  zip_set : {A B : Type 0} (xs : List A) (bs : List B) (i : ℕ) (x : A) (b : B) → zip (slice_set xs i x) (slice_set bs i b) ≡ slice_set (zip xs bs) i (x, b)
  zip_set [] bs i x b = refl
  zip_set (y ∷ ys) [] zero x b = refl
  zip_set (y ∷ ys) [] (suc i) x b = refl
  zip_set (y ∷ ys) (c ∷ cs) zero x b = refl
  zip_set (y ∷ ys) (c ∷ cs) (suc i) x b = ap (λ t. (y, c) ∷ t) (zip_set ys cs i x b)

  -- in a list of meanings and one beside it
  pub both_changed : {B : Type 0} (h : Y × B → Y × B) (old : List (Y × B)) (now : List X) (bs : List B) (i : ℕ) (x new : X) (d b : B)
      → i < length old → i < length now → i < length bs → zip (map f now) bs ≡ map h (take i old) ++ drop i old → x ≡ get_or now i x → (f new, b) ≡ h (f x, get_or bs i d)
      → zip (map f (slice_set now i new)) (slice_set bs i b) ≡ map h (take (i + 1) old) ++ drop (i + 1) old
  both_changed h old now bs i x new d b l ln lb is at e =
      let long : length (map f now) ≡ length now = length-map now f in
      ap (λ t. zip t (slice_set bs i b)) (map-set f now i new) ∙ zip_set (map f now) bs i (f new) b
      ∙ change h old (zip (map f now) bs) i (f x, d) (f new, b) l is
      (e ∙ ap h (sym (get_or-zip (map f now) bs i (f x, d) (omega (arith, long)) lb ∙ ap (λ y. (y, get_or bs i d)) (at_place now i x ln at))))

-- what stays where a place is changed
kinds_set : (ms : List Meaning) (i : ℕ) (m d : Meaning) → i < length ms → m.own ≡ (get_or ms i d).own → kinds_of (slice_set ms i m) ≡ kinds_of ms
kinds_set [] i m d l e = absurd (omega arith)
kinds_set (x ∷ ms) zero m d l e = ap (λ t. t ∷ kinds_of ms) e
kinds_set (x ∷ ms) (suc i) m d l e = ap (λ t. x.own ∷ t) (kinds_set ms i m d (omega arith) e)

others_set : (name : List ℕ) (ms : List Meaning) (i : ℕ) (m d : Meaning) → i < length ms → m.own ≡ (get_or ms i d).own → (has_name name (get_or ms i d) ≡ false → m ≡ get_or ms i d)
    → others_of name (slice_set ms i m) ≡ others_of name ms
others_set name [] i m d l e same = absurd (omega arith)
others_set name (x ∷ ms) zero m d l e same = elim (either (has_name name x)) [
  | inl n ↦ let also : has_name name m ≡ true = ap (λ own. has_name name (record x { own = own })) e ∙ n in rw (n, also) refl
  | inr n ↦ ap (λ z. others_of name (z ∷ ms)) (same n)
]
others_set name (x ∷ ms) (suc i) m d l e same = ap (λ t. if not (has_name name x) then x ∷ t else t) (others_set name ms i m d (omega arith) e same)

module _ {X : Type 0} (f : X → Meaning) (now : List X) (i : ℕ) (x new : X) (l : i < length now) (at : x ≡ get_or now i x) where
  pub kinds_stay : (f new).own ≡ (f x).own → kinds_of (map f (slice_set now i new)) ≡ kinds_of (map f now)
  kinds_stay e =
      let long : length (map f now) ≡ length now = length-map now f in
      ap kinds_of (map-set f now i new) ∙ kinds_set (map f now) i (f new) (f x) (omega (arith, long)) (e ∙ ap (λ (m : Meaning). m.own) (sym (at_place f now i x l at)))

  pub others_stay : (name : List ℕ) → (f new).own ≡ (f x).own → (has_name name (f x) ≡ false → f new ≡ f x) → others_of name (map f (slice_set now i new)) ≡ others_of name (map f now)
  others_stay name e same =
      let long : length (map f now) ≡ length now = length-map now f in
      let is = at_place f now i x l at in
      ap (others_of name) (map-set f now i new)
      ∙ others_set name (map f now) i (f new) (f x) (omega (arith, long)) (e ∙ ap (λ (m : Meaning). m.own) (sym is)) (λ n. same (ap (has_name name) (sym is) ∙ n) ∙ sym is)
