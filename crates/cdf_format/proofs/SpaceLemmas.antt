-- What the records of an image take adds up to the image.
use Rattle.std.proofs.Common.{◌≡◌, ◌≤◌, ℕ, suc, ◌+◌, List, [], ◌∷◌, length, Bool, true, false, not, eqb, eq-eqb, refl, sym, ap, ap₂, subst, ◌∙◌, arith, inl, inr}
use Rattle.cdf_format.proofs.Common.{eqb-true, filter, size_at, type_at, uir_type, In, Distinct, AreTiles, is_in, Shape, HasShape, unused_records}
use Rattle.cdf_format.specs.Owners.{bytes_in, space_of}
use Rattle.cdf_format.proofs.Members.{either, is_in-false, is_in-true, length-le_from_distinct, true-is_in}
use Rattle.cdf_format.proofs.ChainsLemmas.{linkable-in, linkable-type}
use Rattle.cdf_format.proofs.Owning.{tiles_distinct, filter-in}

tiles_bytes : (b : List ℕ) (from upto : ℕ) (ts : List ℕ) → AreTiles b from upto ts → from + bytes_in b ts ≡ upto
tiles_bytes b from upto [] t = let e : from ≡ upto = t in add_none from upto e
  where
    add_none : (x y : ℕ) → x ≡ y → x + 0 ≡ y
    add_none x y e = omega arith
tiles_bytes b from upto (a ∷ ts) t =
    let rest = tiles_bytes b (from + size_at b a) upto ts t.2 in
    regroup from (size_at b a) (bytes_in b ts) upto rest
  where
    regroup : (x y z u : ℕ) → x + y + z ≡ u → x + (y + z) ≡ u
    regroup x y z u e = omega arith

-- a list in two parts
parts_bytes : (b : List ℕ) (p : ℕ → Bool) (ms : List ℕ) → bytes_in b (filter p ms) + bytes_in b (filter (λ m. not (p m)) ms) ≡ bytes_in b ms
parts_bytes b p [] = refl
parts_bytes b p (m ∷ ms) = let r = parts_bytes b p ms in elim (either (p m)) [
  | inl e ↦ rw e (left (size_at b m) (bytes_in b (filter p ms)) (bytes_in b (filter (λ m. not (p m)) ms)) (bytes_in b ms) r)
  | inr e ↦ rw e (right (size_at b m) (bytes_in b (filter p ms)) (bytes_in b (filter (λ m. not (p m)) ms)) (bytes_in b ms) r)
]
  where
    left : (s x y z : ℕ) → x + y ≡ z → s + x + y ≡ s + z
    left s x y z e = omega arith

    right : (s x y z : ℕ) → x + y ≡ z → x + (s + y) ≡ s + z
    right s x y z e = omega arith

parts_count : (p : ℕ → Bool) (ms : List ℕ) → length (filter p ms) + length (filter (λ m. not (p m)) ms) ≡ length ms
parts_count p [] = refl
parts_count p (m ∷ ms) = let r = parts_count p ms in elim (either (p m)) [
  | inl e ↦ rw e (left (length (filter p ms)) (length (filter (λ m. not (p m)) ms)) (length ms) r)
  | inr e ↦ rw e (right (length (filter p ms)) (length (filter (λ m. not (p m)) ms)) (length ms) r)
]
  where
    left : (x y z : ℕ) → x + y ≡ z → suc x + y ≡ suc z
    left x y z e = omega arith

    right : (x y z : ℕ) → x + y ≡ z → x + suc y ≡ suc z
    right x y z e = omega arith

-- one member more among those that are looked for
none_more : (b : List ℕ) (u : ℕ) (us xs : List ℕ) → (In u xs → ⊥) → bytes_in b (filter (λ m. is_in m (u ∷ us)) xs) ≡ bytes_in b (filter (λ m. is_in m us) xs)
none_more b u us [] out = refl
none_more b u us (x ∷ xs) out =
    let apart : eqb x u ≡ false = elim (either (eqb x u)) [ inl e ↦ absurd (out (inl (sym (eqb-true x u e)))) | inr e ↦ e ] in
    let rest = none_more b u us xs (λ i. out (inr i)) in
    elim (either (is_in x us)) [
      | inl e ↦ rw (apart, e) (ap (λ (n : ℕ). size_at b x + n) rest)
      | inr e ↦ rw (apart, e) rest
    ]

one_more : (b : List ℕ) (u : ℕ) (us xs : List ℕ) → Distinct xs → In u xs → (In u us → ⊥) → bytes_in b (filter (λ m. is_in m (u ∷ us)) xs) ≡ size_at b u + bytes_in b (filter (λ m. is_in m us) xs)
one_more b u us [] d i out = absurd i
one_more b u us (x ∷ xs) d (inl e) out =
    let here : eqb x u ≡ true = eq-eqb x u (sym e) in
    let none : is_in x us ≡ false = is_in-false x us (λ j. out (subst (λ (z : ℕ). In z us) (sym e) j)) in
    rw (here, none) (ap₂ (λ (x y : ℕ). x + y) (ap (size_at b) (sym e)) (none_more b u us xs (λ j. d.0 (subst (λ (z : ℕ). In z xs) e j))))
one_more b u us (x ∷ xs) d (inr i) out =
    let apart : eqb x u ≡ false = elim (either (eqb x u)) [ inl e ↦ absurd (d.0 (subst (λ (z : ℕ). In z xs) (sym (eqb-true x u e)) i)) | inr e ↦ e ] in
    let rest = one_more b u us xs d.1 i out in
    elim (either (is_in x us)) [
      | inl e ↦ rw (apart, e) (ap (λ (n : ℕ). size_at b x + n) rest ∙ swap (size_at b x) (size_at b u) (bytes_in b (filter (λ m. is_in m us) xs)))
      | inr e ↦ rw (apart, e) rest
    ]
  where
    swap : (p q r : ℕ) → p + (q + r) ≡ q + (p + r)
    swap p q r = omega arith

members_bytes : (b : List ℕ) (us xs : List ℕ) → Distinct us → Distinct xs → ((m : ℕ) → In m us → In m xs) → bytes_in b (filter (λ m. is_in m us) xs) ≡ bytes_in b us
members_bytes b [] xs d e sub = no_members xs
  where
    no_members : (xs : List ℕ) → bytes_in b (filter (λ m. is_in m []) xs) ≡ 0
    no_members [] = refl
    no_members (x ∷ xs) = no_members xs
members_bytes b (u ∷ us) xs d e sub = one_more b u us xs e (sub u (inl refl)) d.0 ∙ ap (λ (n : ℕ). size_at b u + n) (members_bytes b us xs d.1 e (λ m i. sub m (inr i)))

pub in-filter : (p : ℕ → Bool) (xs : List ℕ) (x : ℕ) → In x xs → p x ≡ true → In x (filter p xs)
in-filter p [] x i e = absurd i
in-filter p (y ∷ ys) x (inl h) e = let here : p y ≡ true = ap p (sym h) ∙ e in rw here (inl h)
in-filter p (y ∷ ys) x (inr i) e = let rest = in-filter p ys x i e in elim (either (p y)) [ inl t ↦ rw t (inr rest) | inr t ↦ rw t rest ]

filter-holds : (p : ℕ → Bool) (xs : List ℕ) (x : ℕ) → In x (filter p xs) → p x ≡ true
filter-holds p [] x i = absurd i
filter-holds p (y ∷ ys) x i = elim (either (p y)) [
  | inl e ↦ let j : In x (y ∷ filter p ys) = rw e at i in elim j [ inl h ↦ ap p h ∙ e | inr h ↦ filter-holds p ys x h ]
  | inr e ↦ let j : In x (filter p ys) = rw e at i in filter-holds p ys x j
]

filter_distinct : (p : ℕ → Bool) (xs : List ℕ) → Distinct xs → Distinct (filter p xs)
filter_distinct p [] d = tt
filter_distinct p (x ∷ xs) d = elim (either (p x)) [
  | inl e ↦ rw e ((λ i. d.0 (filter-in p xs x i)), filter_distinct p xs d.1)
  | inr e ↦ rw e (filter_distinct p xs d.1)
]

module _ (b : List ℕ) (s : Shape) (h : HasShape b s) where
  abbrev is_uir : ℕ → Bool
  is_uir m = eqb (type_at b m) uir_type

  abbrev is_listed : ℕ → Bool
  is_listed m = is_in m s.unused

  abbrev unused : List ℕ
  unused = unused_records b s

  listed_unused : (m : ℕ) → In m s.unused → In m unused
  listed_unused m i =
      let ok = h.unused_chain.linkable m i in
      in-filter is_uir s.records m (linkable-in b s.records uir_type m ok) (eq-eqb (type_at b m) uir_type (linkable-type b s.records uir_type m ok))

  unused_distinct : Distinct unused
  unused_distinct = filter_distinct is_uir s.records (tiles_distinct b 8 (length b) s.records h.tiled)

  -- the unused records are those of the list, and those that are on no list
  pub unused_bytes : (space_of b s).listed_bytes + (space_of b s).unlisted_bytes ≡ bytes_in b unused
  unused_bytes =
      add_up (bytes_in b (filter is_listed unused)) (bytes_in b s.unused) (bytes_in b (filter (λ m. not (is_listed m)) unused)) (bytes_in b unused) (members_bytes b s.unused unused h.unused_chain.once unused_distinct listed_unused) (parts_bytes b is_listed unused)
    where
      add_up : (member listed rest all : ℕ) → member ≡ listed → member + rest ≡ all → listed + rest ≡ all
      add_up member listed rest all p q = omega arith

  pub unused_count : (space_of b s).listed + (space_of b s).unlisted ≡ length unused
  unused_count =
      let few = length-le_from_distinct (filter is_listed unused) s.unused (filter_distinct is_listed unused unused_distinct) (λ m i. true-is_in m s.unused (filter-holds is_listed unused m i)) in
      let many = length-le_from_distinct s.unused (filter is_listed unused) h.unused_chain.once (λ m i. in-filter is_listed unused m (listed_unused m i) (is_in-true m s.unused i)) in
      add_up (length (filter is_listed unused)) (length s.unused) (length (filter (λ m. not (is_listed m)) unused)) (length unused) few many (parts_count is_listed unused)
    where
      add_up : (member listed rest all : ℕ) → member ≤ listed → listed ≤ member → member + rest ≡ all → listed + rest ≡ all
      add_up member listed rest all p q r = omega arith

  pub space_adds_up_lem : (space_of b s).used + (space_of b s).listed_bytes + (space_of b s).unlisted_bytes + 8 ≡ length b
  space_adds_up_lem =
      add_up (bytes_in b (filter (λ m. not (is_uir m)) s.records)) (bytes_in b s.unused) (bytes_in b (filter (λ m. not (is_listed m)) unused)) (bytes_in b unused) (bytes_in b s.records) (length b) (tiles_bytes b 8 (length b) s.records h.tiled) (parts_bytes b is_uir s.records) unused_bytes
    where
      add_up : (used listed rest free all n : ℕ) → 8 + all ≡ n → free + used ≡ all → listed + rest ≡ free → used + listed + rest + 8 ≡ n
      add_up used listed rest free all n p q r = omega arith
