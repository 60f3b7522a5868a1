-- Which records are owned once an image was edited, and how owners stand apart.
use Rattle.cdf_edits.proofs.Common.{AreTiles, AttributeShape, Edit, HasShape, In, In-append_left, In-append_right, IsSound, List, Mark, OwnedOnce, Shape, adr_type, ap, arith, attribute_records, attributes_in, cases_eq, either, eq-eqb, eqb, eqb-true, false-is_in, flat_map, inl, inr, is_in, length, linkable-in, owned_records, refl, subst, suc, sym, tiles_distinct, times, times-none, times-once, true-is_in, type_at, uir_type, unused_records, ℕ, ◌++◌, ◌+◌, ◌∙◌, ◌∷◌, ◌≡◌, ◌≢◌, ◌≤◌, ◌⊎◌}
use Rattle.cdf_edits.proofs.Frame.OwnersApart.{none-out, flat-append, times-append, times-three, times-in, owned-times, file_records, all_attribute_records, all_variable_records, unused_from_file, unused_from_attributes, unused_from_variables, file_in}
use Rattle.cdf_edits.proofs.Space.UsedRecords.{in-filter, filter-says, filter-distinct}
use Rattle.cdf_edits.proofs.Edits.VariableFrame.{variables_in}

-- how often the owners that use records have one
abbrev pub used_times : Shape → ℕ → ℕ
used_times s m = times m (file_records s) + (times m (all_attribute_records s) + times m (all_variable_records s))

-- a record that is used by one owner, or unused by all
abbrev pub IsSorted : List ℕ → Shape → ℕ → Type 0
IsSorted now s m = ((type_at now m ≢ uir_type) × (used_times s m ≡ 1)) ⊎ ((type_at now m ≡ uir_type) × (used_times s m ≡ 0))

-- ---- unused records

module _ (now : List ℕ) (s : Shape) (tiled : AreTiles now 8 (length now) s.records) where
  pub unused_none : (m : ℕ) → type_at now m ≢ uir_type → times m (unused_records now s) ≡ 0
  unused_none m used = times-none m (unused_records now s) (λ j. used (eqb-true _ _ (filter-says (λ (p : ℕ). eqb (type_at now p) uir_type) s.records m j)))

  pub unused_once : (m : ℕ) → In m s.records → type_at now m ≡ uir_type → times m (unused_records now s) ≡ 1
  unused_once m i u = times-once m (unused_records now s) (filter-distinct (λ (p : ℕ). eqb (type_at now p) uir_type) s.records (tiles_distinct now 8 (length now) s.records tiled)) (in-filter (λ (p : ℕ). eqb (type_at now p) uir_type) s.records m i (eq-eqb _ _ u))

sum_once : (f a v u : ℕ) → f + (a + v) ≡ 1 → u ≡ 0 → f + (a + (v + u)) ≡ 1
sum_once f a v u p q = omega arith

sum_unused : (f a v u : ℕ) → f + (a + v) ≡ 0 → u ≡ 1 → f + (a + (v + u)) ≡ 1
sum_unused f a v u p q = omega arith

back_used : (f a v u : ℕ) → f + (a + (v + u)) ≡ 1 → u ≡ 0 → f + (a + v) ≡ 1
back_used f a v u p q = omega arith

no_sum : (f a v : ℕ) → f ≡ 0 → a ≡ 0 → v ≡ 0 → f + (a + v) ≡ 0
no_sum f a v p q r = omega arith

pub once_by_sorting : (now : List ℕ) (s : Shape) → AreTiles now 8 (length now) s.records → (m : ℕ) → In m s.records → IsSorted now s m → times m (owned_records now s) ≡ 1
once_by_sorting now s tiled m i (inl p) = owned-times now s m ∙ sum_once (times m (file_records s)) (times m (all_attribute_records s)) (times m (all_variable_records s)) (times m (unused_records now s)) p.1 (unused_none now s tiled m p.0)
once_by_sorting now s tiled m i (inr p) = owned-times now s m ∙ sum_unused (times m (file_records s)) (times m (all_attribute_records s)) (times m (all_variable_records s)) (times m (unused_records now s)) p.1 (unused_once now s tiled m i p.0)

-- what is in use, and none of them has, is owned by nobody
pub none_in_use : (now : List ℕ) (s : Shape) → AreTiles now 8 (length now) s.records → (m : ℕ) → type_at now m ≢ uir_type → used_times s m ≡ 0 → times m (owned_records now s) ≡ 0
none_in_use now s tiled m used none = sum_none (times m (owned_records now s)) (times m (file_records s)) (times m (all_attribute_records s)) (times m (all_variable_records s)) (times m (unused_records now s)) (owned-times now s m) none (unused_none now s tiled m used)
  where
    sum_none : (o f a v u : ℕ) → o ≡ f + (a + (v + u)) → f + (a + v) ≡ 0 → u ≡ 0 → o ≡ 0
    sum_none o f a v u p q r = omega arith

-- ---- an image before it is edited

module _ {b : List ℕ} {s : Shape} (sound : IsSound b s) where
  h : HasShape b s
  h = sound.has_shape

  pub all_attributes_in : (m : ℕ) → In m (all_attribute_records s) → In m s.records
  all_attributes_in = attributes_in b s.records s.attributes h.entry_chains (λ x i. linkable-in b s.records adr_type x (h.attribute_chain.linkable x i))

  -- what is no record is owned by nobody
  pub outside_unowned : (m : ℕ) → (In m s.records → ⊥) → used_times s m ≡ 0
  outside_unowned m out = no_sum (times m (file_records s)) (times m (all_attribute_records s)) (times m (all_variable_records s))
      (times-none m (file_records s) (λ j. out (file_in b s sound m j))) (times-none m (all_attribute_records s) (λ j. out (all_attributes_in m j))) (times-none m (all_variable_records s) (λ j. out (variables_in b s sound m j)))

  -- nor is an unused one
  pub unused_unowned : (m : ℕ) → In m s.records → type_at b m ≡ uir_type → used_times s m ≡ 0
  unused_unowned m i u =
      let j = in-filter (λ (p : ℕ). eqb (type_at b p) uir_type) s.records m i (eq-eqb _ _ u) in
      no_sum (times m (file_records s)) (times m (all_attribute_records s)) (times m (all_variable_records s))
      (times-none m (file_records s) (λ k. unused_from_file b s sound m k j)) (times-none m (all_attribute_records s) (λ k. unused_from_attributes b s sound m k j)) (times-none m (all_variable_records s) (λ k. unused_from_variables b s sound m k j))

  -- a record that was unused, or none
  pub fresh_unowned : (m : ℕ) → (In m s.records → type_at b m ≡ uir_type) → used_times s m ≡ 0
  fresh_unowned m fresh = elim (either (is_in m s.records)) [
    | inl x ↦ let i = true-is_in m s.records x in unused_unowned m i (fresh i)
    | inr x ↦ outside_unowned m (false-is_in m s.records x)
  ]

  pub sorted_before : OwnedOnce b s → (m : ℕ) → In m s.records → IsSorted b s m
  sorted_before once m i = elim (cases_eq (type_at b m) uir_type) [
    | inl u ↦ inr (u, unused_unowned m i u)
    | inr used ↦ inl (used, back_used (times m (file_records s)) (times m (all_attribute_records s)) (times m (all_variable_records s)) (times m (unused_records b s)) (sym (owned-times b s m) ∙ once m i) (unused_none b s h.tiled m used))
  ]

-- ---- one count

-- each owner has what it had but for the reborn records, and these are sorted
pub owned_once_if : (b now : List ℕ) (s s' : Shape) (marks : List Mark) (reborn : List ℕ) → IsSound b s → OwnedOnce b s → Edit b now s.records s'.records marks reborn
    → ((m : ℕ) → (In m reborn → ⊥) → used_times s' m ≡ used_times s m) → ((m : ℕ) → In m reborn → IsSorted now s' m) → OwnedOnce now s'
owned_once_if b now s s' marks reborn sound once e same sorted m i = once_by_sorting now s' e.tiled_now m i (elim (either (is_in m reborn)) [
  | inl x ↦ sorted m (true-is_in m reborn x)
  | inr x ↦
      let out = false-is_in m reborn x in
      let count = same m out in
      elim (e.kind m i) [
        | inl j ↦ elim (sorted_before sound once m j.0) [ inl p ↦ inl ((λ u. p.0 (sym j.1 ∙ u)), count ∙ p.1) | inr p ↦ inr (j.1 ∙ p.0, count ∙ p.1) ]
        | inr j ↦ elim j [ inl u ↦ inr (u.1, count ∙ outside_unowned sound m u.0) | inr r ↦ absurd (out r) ]
      ]
])

-- ---- the records of one attribute

-- how often a record is one of attributes, by their parts: of all of them once at most
module _ (b : List ℕ) (s : Shape) (sound : IsSound b s) (before : List AttributeShape) (own : AttributeShape) (after : List AttributeShape) (was : s.attributes ≡ before ++ own ∷ after) where
  pub parts_times : (m : ℕ) → times m (all_attribute_records s) ≡ times m (flat_map attribute_records before) + (times m (attribute_records own) + times m (flat_map attribute_records after))
  parts_times m =
      let xs = flat_map attribute_records before in
      let ys = flat_map attribute_records after in
      ap (λ (as_ : List AttributeShape). times m (flat_map attribute_records as_)) was ∙ ap (times m) (flat-append attribute_records before (own ∷ after)) ∙ times-append m xs (attribute_records own ++ ys) ∙ ap (λ (n : ℕ). times m xs + n) (times-append m (attribute_records own) ys)

  pub parts_once : (m : ℕ) → times m (flat_map attribute_records before) + (times m (attribute_records own) + times m (flat_map attribute_records after)) ≤ 1
  parts_once m = once (times m (file_records s)) (times m (all_attribute_records s)) (times m (all_variable_records s)) (times m (unused_records b s)) (times m (owned_records b s)) _ (sound.not_twice m) (owned-times b s m) (parts_times m)
    where
      once : (f a v u n p : ℕ) → n ≤ 1 → n ≡ f + (a + (v + u)) → a ≡ p → p ≤ 1
      once f a v u n p l q r = omega arith

  part_in : (m : ℕ) → In m (flat_map attribute_records before ++ (attribute_records own ++ flat_map attribute_records after)) → In m s.records
  part_in m i = all_attributes_in sound m (subst (λ (as_ : List AttributeShape). In m (flat_map attribute_records as_)) (sym was) (subst (In m) (sym (flat-append attribute_records before (own ∷ after))) i))

  pub front_in : (m : ℕ) → In m (flat_map attribute_records before) → In m s.records
  front_in m i = part_in m (In-append_left m (flat_map attribute_records before) (attribute_records own ++ flat_map attribute_records after) i)

  pub own_in : (m : ℕ) → In m (attribute_records own) → In m s.records
  own_in m i = part_in m (In-append_right m (flat_map attribute_records before) (attribute_records own ++ flat_map attribute_records after) (In-append_left m (attribute_records own) (flat_map attribute_records after) i))

  pub back_in : (m : ℕ) → In m (flat_map attribute_records after) → In m s.records
  back_in m i = part_in m (In-append_right m (flat_map attribute_records before) (attribute_records own ++ flat_map attribute_records after) (In-append_right m (attribute_records own) (flat_map attribute_records after) i))

-- a record of an attribute is no record of another owner
pub record OnlyOwns (b : List ℕ) (s : Shape) (before : List AttributeShape) (after : List AttributeShape) (m : ℕ) : Type 0 where
  pub in_file : In m (file_records s) → ⊥
  pub in_before : In m (flat_map attribute_records before) → ⊥
  pub in_after : In m (flat_map attribute_records after) → ⊥
  pub in_variables : In m (all_variable_records s) → ⊥
  pub in_unused : In m (unused_records b s) → ⊥

none_other : (f x o y v u a n : ℕ) → n ≤ 1 → n ≡ f + (a + (v + u)) → a ≡ x + (o + y) → 1 ≤ o → (f ≡ 0) × (x ≡ 0) × (y ≡ 0) × (v ≡ 0) × (u ≡ 0)
none_other f x o y v u a n l p q r = (omega arith, omega arith, omega arith, omega arith, omega arith)

pub only_owns : (b : List ℕ) (s : Shape) → IsSound b s → (before : List AttributeShape) (own : AttributeShape) (after : List AttributeShape) → s.attributes ≡ before ++ own ∷ after → (m : ℕ) → In m (attribute_records own) → OnlyOwns b s before after m
only_owns b s sound before own after all m i =
    let xs = flat_map attribute_records before in
    let ys = flat_map attribute_records after in
    let none = none_other (times m (file_records s)) (times m xs) (times m (attribute_records own)) (times m ys) (times m (all_variable_records s)) (times m (unused_records b s)) (times m (all_attribute_records s)) (times m (owned_records b s))
    (sound.not_twice m) (owned-times b s m) (parts_times b s sound before own after all m) (times-in m (attribute_records own) i) in
    record { in_file = none-out m (file_records s) none.0; in_before = none-out m xs none.1; in_after = none-out m ys none.2; in_variables = none-out m (all_variable_records s) none.3; in_unused = none-out m (unused_records b s) none.4 }

-- its ADR is none of its entries
pub adr_no_entry : (b : List ℕ) (s : Shape) → IsSound b s → (before : List AttributeShape) (own : AttributeShape) (after : List AttributeShape) → s.attributes ≡ before ++ own ∷ after → In own.adr (own.gr_entries ++ own.z_entries) → ⊥
adr_no_entry b s sound before own after all i =
    let m = own.adr in
    let es = own.gr_entries ++ own.z_entries in
    let self : times m (attribute_records own) ≡ suc (times m es) = rw (eq-eqb m m refl) refl in
    twice (times m (flat_map attribute_records before)) (times m (attribute_records own)) (times m (flat_map attribute_records after)) (times m es) (parts_once b s sound before own after all m) self (times-in m es i)
  where
    twice : (x o y e : ℕ) → x + (o + y) ≤ 1 → o ≡ suc e → 1 ≤ e → ⊥
    twice x o y e l p q = omega arith

-- ---- the attributes are spliced

-- counts with other records of some attributes
pub spliced_times : (s : Shape) (records list : List ℕ) (before own own' after : List AttributeShape) → s.attributes ≡ before ++ (own ++ after) → (m k l : ℕ) → times m (flat_map attribute_records own') + l ≡ times m (flat_map attribute_records own) + k
    → used_times (record s { records = records; attributes = before ++ (own' ++ after); unused = list }) m + l ≡ used_times s m + k
spliced_times s records list before own own' after was m k l same =
    let parts = λ (mid : List AttributeShape). times-three attribute_records m before mid after in
    let old : times m (all_attribute_records s) ≡ times m (flat_map attribute_records before) + (times m (flat_map attribute_records own) + times m (flat_map attribute_records after)) = ap (λ (as_ : List AttributeShape). times m (flat_map attribute_records as_)) was ∙ parts own in
    sums (times m (file_records s)) (times m (all_variable_records s)) (times m (flat_map attribute_records before)) (times m (flat_map attribute_records after)) (times m (flat_map attribute_records own)) (times m (flat_map attribute_records own')) (times m (all_attribute_records s)) (times m (flat_map attribute_records (before ++ (own' ++ after)))) k l old (parts own') same
  where
    sums : (f v x y o o' a a' k l : ℕ) → a ≡ x + (o + y) → a' ≡ x + (o' + y) → o' + l ≡ o + k → f + (a' + v) + l ≡ f + (a + v) + k
    sums f v x y o o' a a' k l p q r = omega arith
