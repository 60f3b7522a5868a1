-- What the deletion of a variable keeps of each record, by its owner.
use Rattle.cdf_edits.proofs.Common.{Act, AllKeep, Allowance, Allowances, Anything, AttributeShape, Away, Bool, DropsEntries, Edit, Field, Found, Good, HasShape, In, In-append_left, In-append_right, IsSound, Keeps, Kind, List, Mark, None, OneAttribute, OneVariable, Only, Option, OutsideFields, R, Range, RemovesVariable, Same, Shape, Some, Stays, Unused, VariableShape, Within, Z, [], all_unmarked, ap, arith, attribute_records, attribute_types, avoided, both, byte, cdr_type, content, del_var_changes, either, entries_allowance, entries_for, eq-eqb, eqb, eqb-true, false, false-is_in, filter-in, flat_map, freed_with_variable, gave, gdr_type, good_is_sound, if◌then◌else◌, index_types, inl, inr, is_a-in, is_a-type, is_in, is_linkable, is_taken, length, linkable-type, next_field, only_of, own_allowance, owned, owned_by, owned_by_attributes, owned_by_variables, r_max_rec_field, r_vdr_type, range_at, refl, same_Some, same_kind, shape, shapes_of, size_at, slice_get, space_fields, subst, suc, sym, tile_lies, true, true-is_in, true≢false, type_at, type_in, uir_next_uir, uir_prev_uir, uir_type, unused_allowance, unused_records, variable_records, variable_removing_marks, variables_chain, variables_gdr_fields, vdr_num, vdr_type, vdrs, vxr_type, within, word, word_kept, z_vdr_type, zero, ℕ, ◌++◌, ◌+◌, ◌-◌, ◌<◌, ◌==◌, ◌∙◌, ◌∷◌, ◌≡◌, ◌≤◌, ◌⊎◌}
use Rattle.cdf_edits.proofs.Commands.KeptRecords.{AllKeep-append}
use Rattle.cdf_edits.proofs.Edits.AttributeFrame.{AreThere}
use Rattle.cdf_edits.proofs.Edits.ChainKinds.{attribute_typed}
use Rattle.cdf_edits.proofs.Edits.MarkLemmas.{all_unmarked-away, away-of_type, confined-away, unmarked-away, within-of_type}
use Rattle.cdf_edits.proofs.Edits.OwnersKept.{keep_all, keep_file, keep_places, keeps_away, keeps_fields, keeps_within}
use Rattle.cdf_edits.proofs.Edits.RecordFrame.{index_records}
use Rattle.cdf_edits.proofs.Edits.TakenVariable.{TakesVariable, TakingTests, taking_tests, index_confined, only, vdr_avoids}
use Rattle.cdf_edits.proofs.Edits.VariableKinds.{kind_chain, kind_in, kind_ours, kind_type, other_kind}
use Rattle.cdf_edits.proofs.Edits.VariableFrame.{AreOurs, index_typed, ours_parts}
use Rattle.cdf_edits.proofs.Frame.OwnersApart.{adrs_linked}
use Rattle.cdf_edits.proofs.Space.UsedRecords.{filter-says}

-- ---- one record, in two steps

pub stays_then : (b mid now : List ℕ) (m : ℕ) (fs gs hs : List Field) → Stays b mid m fs → Stays mid now m gs → ((i : ℕ) → OutsideFields hs i → OutsideFields fs i × OutsideFields gs i) → Stays b now m hs
stays_then b mid now m fs gs hs one two sub = record {
  stands = two.stands;
  size_is = two.size_is ∙ one.size_is;
  same = λ i lt out. let o = sub i out in two.same i (subst (λ (n : ℕ). i < n) (sym one.size_is) lt) o.1 ∙ one.same i lt o.0;
}

-- it has the bytes beside those fields that it had
pub stays_bytes : {b now : List ℕ} {m : ℕ} {fields : List Field} → Stays b now m fields → (lo hi : ℕ) → hi ≤ size_at b m → ((i : ℕ) → lo ≤ i → i < hi → OutsideFields fields i) → Same b now (m + lo) (m + hi)
stays_bytes {b = b} {now = now} {m = m} s lo hi fits out = record {
  each = λ p l u.
      let e : p ≡ m + (p - m) = omega arith in
      subst (λ (x : ℕ). byte now x ≡ byte b x) (sym e) (s.same (p - m) (omega arith) (out (p - m) (omega arith) (omega arith)));
}

pub stays_word : {b now : List ℕ} {m : ℕ} {fields : List Field} → Stays b now m fields → (lo n : ℕ) → lo + n ≤ size_at b m → ((i : ℕ) → lo ≤ i → i < lo + n → OutsideFields fields i) → word now (m + lo) n ≡ word b (m + lo) n
stays_word {b = b} {now = now} {m = m} s lo n fits out = word_kept b now (m + lo) (m + (lo + n)) (stays_bytes s lo (lo + n) fits out) (m + lo) n (omega arith) (omega arith)

pub type_stays : (b mid : List ℕ) (m : ℕ) (fs : List Field) → Stays b mid m fs → 12 ≤ size_at b m → ((i : ℕ) → i < 12 → OutsideFields fs i) → type_at mid m ≡ type_at b m
type_stays b mid m fs s long out = stays_word s 8 4 (omega arith) (λ i l u. out i (omega arith))

own_free : (b now : List ℕ) (m : ℕ) (o : Option Range) (p q : Bool) → Keeps b now m (elim o [ Some r ↦ Anything | None ↦ if p then Anything else (if q then Anything else Anything) ])
own_free b now m (Some r) p q = tt
own_free b now m None true q = tt
own_free b now m None false true = tt
own_free b now m None false false = tt

by_two : (kind k : Kind) (P : Bool → Type 0) → (k ≡ kind → P true) → (k ≡ other_kind kind → P false) → P (same_kind kind k)
by_two R R P own other = own refl
by_two R Z P own other = other refl
by_two Z R P own other = other refl
by_two Z Z P own other = own refl

-- ---- lists

pub there_too : (as_ bs : List AttributeShape) (k : ℕ) (a : AttributeShape) → slice_get as_ k ≡ Some a → length bs ≡ length as_ → (x : AttributeShape) × (slice_get bs k ≡ Some x)
there_too [] bs k a e l = absurd cc
there_too (x ∷ xs) [] k a e l = absurd (omega arith)
there_too (x ∷ xs) (y ∷ ys) zero a e l = (y, refl)
there_too (x ∷ xs) (y ∷ ys) (suc k) a e l = there_too xs ys k a e (omega arith)

-- the records of a variable are among those of all
variable_at : (vs : List VariableShape) (k : ℕ) (v : VariableShape) → slice_get vs k ≡ Some v → (m : ℕ) → In m (variable_records v) → In m (flat_map variable_records vs)
variable_at [] k v e m i = absurd cc
variable_at (x ∷ xs) zero v e m i = In-append_left m (variable_records x) (flat_map variable_records xs) (subst (λ (y : VariableShape). In m (variable_records y)) (sym (same_Some x v e)) i)
variable_at (x ∷ xs) (suc k) v e m i = In-append_right m (variable_records x) (flat_map variable_records xs) (variable_at xs k v e m i)

-- another variable stands before one or behind it
variable_beside : (before : List VariableShape) (own : VariableShape) (after : List VariableShape) (k : ℕ) (v : VariableShape) → (length before ≡ k → ⊥) → slice_get (before ++ own ∷ after) k ≡ Some v → (m : ℕ) → In m (variable_records v) → In m (flat_map variable_records before) ⊎ In m (flat_map variable_records after)
variable_beside [] own after zero v ne e m i = absurd (ne refl)
variable_beside [] own after (suc k) v ne e m i = inr (variable_at after k v e m i)
variable_beside (x ∷ xs) own after zero v ne e m i = inl (variable_at (x ∷ xs) zero v e m i)
variable_beside (x ∷ xs) own after (suc k) v ne e m i = elim (variable_beside xs own after k v (λ q. ne (ap suc q)) e m i) [ inl j ↦ inl (In-append_right m (variable_records x) (flat_map variable_records xs) j) | inr j ↦ inr j ]

vdr_at : (vs : List VariableShape) (k : ℕ) (v : VariableShape) → slice_get vs k ≡ Some v → In v.vdr (vdrs vs)
vdr_at [] k v e = absurd cc
vdr_at (x ∷ xs) zero v e = inl (sym (ap (λ (y : VariableShape). y.vdr) (same_Some x v e)))
vdr_at (x ∷ xs) (suc k) v e = inr (vdr_at xs k v e)

-- ---- nodes, blocks and parameters

index_type_at : (b : List ℕ) (s : Shape) (vs : List VariableShape) → AreOurs b s vs → (k : ℕ) (v : VariableShape) → slice_get vs k ≡ Some v → (m : ℕ) → In m (index_records v) → is_in (type_at b m) index_types ≡ true
index_type_at b s [] ours k v e m i = absurd cc
index_type_at b s (x ∷ xs) ours zero v e m i = index_typed b s x ours.has.0 ours.fits.0 m (subst (λ (y : VariableShape). In m (index_records y)) (sym (same_Some x v e)) i)
index_type_at b s (x ∷ xs) ours (suc k) v e m i = index_type_at b s xs (ours_parts b s (x ∷ []) xs ours).1 k v e m i

no_vdr : (kind : Kind) (type : ℕ) → is_in type index_types ≡ true → (type == vdr_type kind) ≡ false
no_vdr kind type i = elim (either (type == vdr_type kind)) [ inl e ↦ absurd (clash kind (ap (λ (t : ℕ). is_in t index_types) (sym (eqb-true type (vdr_type kind) e)) ∙ i)) | inr e ↦ e ]
  where
    clash : (kind : Kind) → is_in (vdr_type kind) index_types ≡ true → ⊥
    clash R e = cc
    clash Z e = cc

-- ---- the marks, by the kind

pub record KeepTests (kind : Kind) (gdr : ℕ) (members later unused places : List ℕ) (limit : ℕ) : Type 0 where
  pub cdr_start : avoided (variable_removing_marks kind gdr members later unused places limit) cdr_type 0 12 ≡ true
  pub cdr_within : within (variable_removing_marks kind gdr members later unused places limit) cdr_type [] ≡ true
  pub gdr_start : avoided (variable_removing_marks kind gdr members later unused places limit) gdr_type 0 12 ≡ true
  pub gdr_within : within (variable_removing_marks kind gdr members later unused places limit) gdr_type (r_max_rec_field kind ++ variables_gdr_fields kind) ≡ true
  pub outside : (i : ℕ) → OutsideFields (r_max_rec_field kind ++ variables_gdr_fields kind) i → OutsideFields space_fields i
  pub uir_start : avoided (variable_removing_marks kind gdr members later unused places limit) uir_type 0 12 ≡ true
  pub uir_within : within (variable_removing_marks kind gdr members later unused places limit) uir_type (uir_next_uir ∷ uir_prev_uir ∷ []) ≡ true
  pub uir_away : (m : ℕ) → (In m unused → ⊥) → Away (variable_removing_marks kind gdr members later unused places limit) uir_type m
  pub vdr_within : (m : ℕ) → (In m places → ⊥) → Within (variable_removing_marks kind gdr members later unused places limit) (type_in (variables_chain kind)) m (next_field ∷ vdr_num ∷ [])

keep_tests : (kind : Kind) (gdr : ℕ) (members later unused places : List ℕ) (limit : ℕ) → KeepTests kind gdr members later unused places limit
keep_tests R gdr members later unused places limit = record {
  cdr_start = refl;
  cdr_within = refl;
  gdr_start = refl;
  gdr_within = refl;
  outside = λ i o. o.1.1.1;
  uir_start = refl;
  uir_within = refl;
  uir_away = λ m out. away-of_type (variable_removing_marks R gdr members later unused places limit) uir_type m ((λ same lies. out lies), tt);
  vdr_within = λ m out. within-of_type (variable_removing_marks R gdr members later unused places limit) r_vdr_type m (next_field ∷ vdr_num ∷ []) ((λ same lies. refl), ((λ same lies. refl), ((λ same lies. absurd (out lies)), tt)));
}
keep_tests Z gdr members later unused places limit = record {
  cdr_start = refl;
  cdr_within = refl;
  gdr_start = refl;
  gdr_within = refl;
  outside = λ i o. o.1.1;
  uir_start = refl;
  uir_within = refl;
  uir_away = λ m out. away-of_type (variable_removing_marks Z gdr members later unused places limit) uir_type m ((λ same lies. out lies), tt);
  vdr_within = λ m out. within-of_type (variable_removing_marks Z gdr members later unused places limit) z_vdr_type m (next_field ∷ vdr_num ∷ []) ((λ same lies. refl), ((λ same lies. refl), ((λ same lies. absurd (out lies)), tt)));
}

-- ---- all records of an owner, by numbers

module _ (b now : List ℕ) (may : Allowances) (acts : List Act) where
  keep_attributes_by : (n : ℕ) (as_ : List AttributeShape) → ((i : ℕ) (a : AttributeShape) → slice_get as_ i ≡ Some a → (m : ℕ) → In m (attribute_records a) → Keeps b now m (may.attributes (n + i) m)) → AllKeep b now may acts (owned_by_attributes n as_)
  keep_attributes_by n [] h = tt
  keep_attributes_by n (a ∷ more) h =
      AllKeep-append b now may acts (owned_by (OneAttribute n) (attribute_records a)) (owned_by_attributes (suc n) more)
      (keep_places b now may acts (OneAttribute n) (attribute_records a) (λ m i. let same : n + 0 ≡ n = omega arith in subst (λ (k : ℕ). Keeps b now m (may.attributes k m)) same (h 0 a refl m i)))
      (keep_attributes_by (suc n) more (λ i x e m j. let same : n + suc i ≡ suc n + i = omega arith in subst (λ (k : ℕ). Keeps b now m (may.attributes k m)) same (h (suc i) x e m j)))

  keep_variables_by : (kind : Kind) (n : ℕ) (vs : List VariableShape) → ((i : ℕ) (v : VariableShape) → slice_get vs i ≡ Some v → (m : ℕ) → In m (variable_records v) → Keeps b now m (may.variables kind (n + i) m)) → AllKeep b now may acts (owned_by_variables kind n vs)
  keep_variables_by kind n [] h = tt
  keep_variables_by kind n (v ∷ more) h =
      AllKeep-append b now may acts (owned_by (OneVariable kind n) (variable_records v)) (owned_by_variables kind (suc n) more)
      (keep_places b now may acts (OneVariable kind n) (variable_records v) (λ m i. let same : n + 0 ≡ n = omega arith in subst (λ (k : ℕ). Keeps b now m (may.variables kind k m)) same (h 0 v refl m i)))
      (keep_variables_by kind (suc n) more (λ i x e m j. let same : n + suc i ≡ suc n + i = omega arith in subst (λ (k : ℕ). Keeps b now m (may.variables kind k m)) same (h (suc i) x e m j)))

-- the records of an attribute are among those of all
pub records_at : (as_ : List AttributeShape) (k : ℕ) (a : AttributeShape) → slice_get as_ k ≡ Some a → (m : ℕ) → In m (attribute_records a) → In m (flat_map attribute_records as_)
records_at [] k a e m i = absurd cc
records_at (x ∷ xs) zero a e m i = In-append_left m (attribute_records x) (flat_map attribute_records xs) (subst (λ (y : AttributeShape). In m (attribute_records y)) (sym (same_Some x a e)) i)
records_at (x ∷ xs) (suc k) a e m i = In-append_right m (attribute_records x) (flat_map attribute_records xs) (records_at xs k a e m i)

module _ {b mid now : List ℕ} {found : Found} (good : Good b) (drops : DropsEntries b found mid) (d : RemovesVariable mid now found.kind found.number) {limit : ℕ} (takes : TakesVariable mid now (shape mid) found.kind d.before d.own d.after (freed_with_variable d.own) (freed_with_variable d.own) limit) (same : (shape now).records ≡ (shape mid).records) where
  abbrev may : Allowances
  may = del_var_changes b (content b) (shape b) found

  abbrev acts : List Act
  acts = gave b (entries_for b (shape b).attributes found ++ freed_with_variable d.own)

  sound : IsSound b (shape b)
  sound = good_is_sound b good

  h : HasShape b (shape b)
  h = sound.has_shape

  sound_mid : IsSound mid (shape mid)
  sound_mid = good_is_sound mid drops.good

  -- the records that are freed
  abbrev places : List ℕ
  places = freed_with_variable d.own

  abbrev marks : List Mark
  marks = variable_removing_marks found.kind (shape mid).gdr (vdrs (shapes_of (shape mid) found.kind)) (vdrs d.after) (shape mid).unused (freed_with_variable d.own) limit

  e : Edit mid now (shape mid).records (shape mid).records marks places
  e = takes.edit

  t : KeepTests found.kind (shape mid).gdr (vdrs (shapes_of (shape mid) found.kind)) (vdrs d.after) (shape mid).unused (freed_with_variable d.own) limit
  t = keep_tests found.kind (shape mid).gdr (vdrs (shapes_of (shape mid) found.kind)) (vdrs d.after) (shape mid).unused (freed_with_variable d.own) limit

  u : TakingTests found.kind marks
  u = taking_tests found.kind (shape mid).gdr (vdrs (shapes_of (shape mid) found.kind)) (vdrs d.after) (shape mid).unused (freed_with_variable d.own) limit

  -- ---- the file

  cdr_keeps : Keeps b now 8 (Only [])
  cdr_keeps =
      let hm = sound_mid.has_shape in
      stays_then b mid now 8 [] [] [] drops.cdr_kept (keeps_fields sound_mid e same 8 cdr_type [] (is_a-in mid (shape mid).records cdr_type 8 hm.cdr_stands) (is_a-type mid (shape mid).records cdr_type 8 hm.cdr_stands) t.cdr_start t.cdr_within) (λ i o. (tt, tt))

  gdr_keeps : Keeps b now (shape b).gdr (Only (r_max_rec_field found.kind ++ variables_gdr_fields found.kind))
  gdr_keeps =
      let hm = sound_mid.has_shape in
      let later = keeps_fields sound_mid e same (shape mid).gdr gdr_type (r_max_rec_field found.kind ++ variables_gdr_fields found.kind) (is_a-in mid (shape mid).records gdr_type (shape mid).gdr hm.gdr_stands) (is_a-type mid (shape mid).records gdr_type (shape mid).gdr hm.gdr_stands) t.gdr_start t.gdr_within in
      stays_then b mid now (shape b).gdr space_fields (r_max_rec_field found.kind ++ variables_gdr_fields found.kind) (r_max_rec_field found.kind ++ variables_gdr_fields found.kind) drops.gdr_kept (subst (λ (g : ℕ). Stays mid now g (r_max_rec_field found.kind ++ variables_gdr_fields found.kind)) drops.gdr_is later) (λ i o. (t.outside i o, o))

  -- ---- the attributes

  there : AreThere b (shape b).records (shape b).attributes
  there = record { linked = adrs_linked b (shape b) sound; have = h.entry_chains; fit = sound.attributes_fit }

  still : (m : ℕ) (a : Allowance) → is_in (type_at b m) attribute_types ≡ true → type_at mid m ≡ type_at b m → Keeps b mid m a → Keeps b now m a
  still m Anything typed is k = tt
  still m (Only fs) typed is k =
      let away = all_unmarked-away marks attribute_types (type_at b m) m (both (all_unmarked marks attribute_types) _ u.attributes_clear).0 typed in
      stays_then b mid now m fs [] fs k (keeps_away sound_mid e same m (type_at b m) (Only []) k.stands is away) (λ i o. (o, tt))

  attribute_keeps : (k : ℕ) (a : AttributeShape) → slice_get (shape b).attributes k ≡ Some a → (m : ℕ) → In m (attribute_records a) → Keeps b now m (entries_allowance b (content b) found k m)
  attribute_keeps k a at m i =
      let x = there_too (shape b).attributes (shape mid).attributes k a at drops.attributes_kept in
      elim ((drops.attributes k a x.0 at x.1).keeps m i) [
        | inl any ↦ subst (Keeps b now m) (sym any) tt
        | inr kept ↦ still m (entries_allowance b (content b) found k m) (attribute_typed b (shape b).records (shape b).attributes there m (records_at (shape b).attributes k a at m i)) kept.1 kept.0
      ]

  -- ---- the variables

  as_parts : shapes_of (shape b) found.kind ≡ d.before ++ d.own ∷ d.after
  as_parts = sym (drops.variables_are found.kind) ∙ d.unlinks.was

  in_kind : (k : Kind) (i : ℕ) (v : VariableShape) → slice_get (shapes_of (shape b) k) i ≡ Some v → (m : ℕ) → In m (variable_records v) → In m (flat_map variable_records (shapes_of (shape b) k))
  in_kind k i v at m j = variable_at (shapes_of (shape b) k) i v at m j

  in_mid : (k : Kind) (i : ℕ) (v : VariableShape) → slice_get (shapes_of (shape b) k) i ≡ Some v → (m : ℕ) → In m (variable_records v) → In m (shape mid).records
  in_mid k i v at m j = kind_in sound_mid k m (subst (λ (vs : List VariableShape). In m (flat_map variable_records vs)) (sym (drops.variables_are k)) (in_kind k i v at m j))

  linked_mid : (k : Kind) (i : ℕ) (v : VariableShape) → slice_get (shapes_of (shape b) k) i ≡ Some v → is_linkable mid (shape mid).records (type_in (variables_chain k)) v.vdr ≡ true
  linked_mid k i v at = (kind_chain k sound_mid.has_shape).linkable v.vdr (subst (λ (vs : List VariableShape). In v.vdr (vdrs vs)) (sym (drops.variables_are k)) (vdr_at (shapes_of (shape b) k) i v at))

  -- a record behind the VDR of another variable
  behind_keeps : (k : Kind) (i : ℕ) (v : VariableShape) → slice_get (shapes_of (shape b) k) i ≡ Some v → (m : ℕ) → In m (index_records v) → (In m places → ⊥) → Keeps b now m (Only [])
  behind_keeps k i v at m j out =
      let typed = index_type_at mid (shape mid) (shapes_of (shape mid) k) (kind_ours mid (shape mid) sound_mid k) i v (ap (λ (vs : List VariableShape). slice_get vs i) (drops.variables_are k) ∙ at) m j in
      let away = confined-away marks index_types places (type_at mid m) m (index_confined found.kind (shape mid).gdr (vdrs (shapes_of (shape mid) found.kind)) (vdrs d.after) (shape mid).unused (freed_with_variable d.own) limit) typed out in
      stays_then b mid now m [] [] [] (drops.variables_kept k m (in_kind k i v at m (inr j))) (keeps_away sound_mid e same m (type_at mid m) (Only []) (in_mid k i v at m (inr j)) refl away) (λ n o. (tt, tt))

  -- of the kind, with another number
  beside_out : (i : ℕ) (v : VariableShape) → slice_get (shapes_of (shape b) found.kind) i ≡ Some v → (found.number == i) ≡ false → (m : ℕ) → In m (variable_records v) → In m places → ⊥
  beside_out i v at other m j lies = elim (variable_beside d.before d.own d.after i v (λ n. true_not_false (eq-eqb found.number i (sym d.count ∙ n)) other) (ap (λ (vs : List VariableShape). slice_get vs i) (sym as_parts) ∙ at) m j) [
    | inl x ↦ (only sound_mid takes m lies).in_before x
    | inr x ↦ (only sound_mid takes m lies).in_after x
  ]
    where
      true_not_false : {p : Bool} → p ≡ true → p ≡ false → ⊥
      true_not_false x y = true≢false (sym x ∙ y)

  vdr_keeps : (i : ℕ) (v : VariableShape) → slice_get (shapes_of (shape b) found.kind) i ≡ Some v → (In v.vdr places → ⊥) → Keeps b now v.vdr (Only (next_field ∷ vdr_num ∷ []))
  vdr_keeps i v at out =
      let typed = linkable-type mid (shape mid).records (type_in (variables_chain found.kind)) v.vdr (linked_mid found.kind i v at) in
      let avoids = vdr_avoids found.kind (shape mid).gdr (vdrs (shapes_of (shape mid) found.kind)) (vdrs d.after) (shape mid).unused (freed_with_variable d.own) limit v.vdr 0 12 out (inl (omega arith)) (λ l. inl (omega arith)) in
      stays_then b mid now v.vdr [] (next_field ∷ vdr_num ∷ []) (next_field ∷ vdr_num ∷ []) (drops.variables_kept found.kind v.vdr (in_kind found.kind i v at v.vdr (inl refl)))
      (keeps_within sound_mid e same v.vdr (type_in (variables_chain found.kind)) (next_field ∷ vdr_num ∷ []) (in_mid found.kind i v at v.vdr (inl refl)) typed avoids (t.vdr_within v.vdr out)) (λ k o. (tt, o))

  beside_keeps : (i : ℕ) (v : VariableShape) → slice_get (shapes_of (shape b) found.kind) i ≡ Some v → (found.number == i) ≡ false → (m : ℕ) → In m (variable_records v) → Keeps b now m (only_of b m (vdr_type found.kind) (next_field ∷ vdr_num ∷ []))
  beside_keeps i v at other m (inl q) =
      let ok = (kind_chain found.kind h).linkable v.vdr (vdr_at (shapes_of (shape b) found.kind) i v at) in
      let is : (type_at b v.vdr == vdr_type found.kind) ≡ true = eq-eqb _ _ (linkable-type b (shape b).records (type_in (variables_chain found.kind)) v.vdr ok ∙ kind_type found.kind) in
      subst (λ (x : ℕ). Keeps b now x (only_of b x (vdr_type found.kind) (next_field ∷ vdr_num ∷ []))) (sym q)
      (subst (λ (p : Bool). Keeps b now v.vdr (if p then Only (next_field ∷ vdr_num ∷ []) else Only [])) (sym is) (vdr_keeps i v at (beside_out i v at other v.vdr (inl refl))))
  beside_keeps i v at other m (inr j) =
      let is = no_vdr found.kind (type_at b m) (index_type_at b (shape b) (shapes_of (shape b) found.kind) (kind_ours b (shape b) sound found.kind) i v at m j) in
      subst (λ (p : Bool). Keeps b now m (if p then Only (next_field ∷ vdr_num ∷ []) else Only [])) (sym is) (behind_keeps found.kind i v at m j (beside_out i v at other m (inr j)))

  -- of the other kind
  other_keeps : (i : ℕ) (v : VariableShape) → slice_get (shapes_of (shape b) (other_kind found.kind)) i ≡ Some v → (m : ℕ) → In m (variable_records v) → Keeps b now m (Only [])
  other_keeps i v at m (inl q) =
      let k = other_kind found.kind in
      let typed = linkable-type mid (shape mid).records (type_in (variables_chain k)) v.vdr (linked_mid k i v at) in
      subst (λ (x : ℕ). Keeps b now x (Only [])) (sym q)
      (stays_then b mid now v.vdr [] [] [] (drops.variables_kept k v.vdr (in_kind k i v at v.vdr (inl refl))) (keeps_away sound_mid e same v.vdr (type_in (variables_chain k)) (Only []) (in_mid k i v at v.vdr (inl refl)) typed (unmarked-away marks (type_in (variables_chain k)) v.vdr u.others_clear)) (λ n o. (tt, tt)))
  other_keeps i v at m (inr j) =
      let k = other_kind found.kind in
      behind_keeps k i v at m j (λ lies. (only sound_mid takes m lies).in_others (subst (λ (vs : List VariableShape). In m (flat_map variable_records vs)) (sym (drops.variables_are k)) (in_kind k i v at m (inr j))))

  variable_keeps : (k : Kind) (i : ℕ) (v : VariableShape) → slice_get (shapes_of (shape b) k) i ≡ Some v → (m : ℕ) → In m (variable_records v) → Keeps b now m (may.variables k i m)
  variable_keeps k i v at m j = by_two found.kind k (λ p. Keeps b now m (if p then (if found.number == i then own_allowance b (shape b) found (record { vdr = Anything; nodes = Anything; blocks = λ r. Anything; cpr = Anything }) m else only_of b m (vdr_type k) (next_field ∷ vdr_num ∷ [])) else Only []))
      (λ q. elim (either (found.number == i)) [
        | inl x ↦ subst (λ (p : Bool). Keeps b now m (if p then own_allowance b (shape b) found (record { vdr = Anything; nodes = Anything; blocks = λ r. Anything; cpr = Anything }) m else only_of b m (vdr_type k) (next_field ∷ vdr_num ∷ []))) (sym x) (own_free b now m (range_at (shape b) found m) (type_at b m == vdr_type found.kind) (type_at b m == vxr_type))
        | inr x ↦ subst (λ (p : Bool). Keeps b now m (if p then own_allowance b (shape b) found (record { vdr = Anything; nodes = Anything; blocks = λ r. Anything; cpr = Anything }) m else only_of b m (vdr_type k) (next_field ∷ vdr_num ∷ []))) (sym x)
            (subst (λ (z : Kind). Keeps b now m (only_of b m (vdr_type z) (next_field ∷ vdr_num ∷ []))) (sym q) (beside_keeps i v (subst (λ (z : Kind). slice_get (shapes_of (shape b) z) i ≡ Some v) q at) x m j))
      ])
      (λ q. other_keeps i v (subst (λ (z : Kind). slice_get (shapes_of (shape b) z) i ≡ Some v) q at) m j)

  -- ---- unused records

  unless_taken : (p : Bool) (m : ℕ) → Keeps b now m (Only (uir_next_uir ∷ uir_prev_uir ∷ [])) → Keeps b now m (if p then Anything else Only (uir_next_uir ∷ uir_prev_uir ∷ []))
  unless_taken true m k = tt
  unless_taken false m k = k

  unused_keeps : (m : ℕ) → In m (unused_records b (shape b)) → Keeps b now m (unused_allowance b (shape b) (gave b (entries_for b (shape b).attributes found ++ freed_with_variable d.own)) m)
  unused_keeps m i =
      let tile = filter-in (λ (x : ℕ). eqb (type_at b x) uir_type) (shape b).records m i in
      let typed = eqb-true _ _ (filter-says (λ (x : ℕ). eqb (type_at b x) uir_type) (shape b).records m i) in
      let long = (tile_lies b 8 (length b) (shape b).records m h.tiled tile).long in
      elim (either (is_in m (shape b).unused)) [
        | inl x ↦
            let first = drops.listed_kept m (true-is_in m (shape b).unused x) in
            let is = type_stays b mid m (uir_next_uir ∷ uir_prev_uir ∷ []) first long (λ k l. (inl (omega arith), (inl (omega arith), tt))) ∙ typed in
            let later = keeps_fields sound_mid e same m uir_type (uir_next_uir ∷ uir_prev_uir ∷ []) first.stands is t.uir_start t.uir_within in
            subst (λ (p : Bool). Keeps b now m (if p then (if is_taken b (gave b (entries_for b (shape b).attributes found ++ freed_with_variable d.own)) m then Anything else Only (uir_next_uir ∷ uir_prev_uir ∷ [])) else Only [])) (sym x)
            (unless_taken (is_taken b (gave b (entries_for b (shape b).attributes found ++ freed_with_variable d.own)) m) m (stays_then b mid now m (uir_next_uir ∷ uir_prev_uir ∷ []) (uir_next_uir ∷ uir_prev_uir ∷ []) (uir_next_uir ∷ uir_prev_uir ∷ []) first later (λ k o. (o, o))))
        | inr x ↦
            let y = drops.loose_kept m tile typed (false-is_in m (shape b).unused x) in
            let is = type_stays b mid m [] y.0 long (λ k l. tt) ∙ typed in
            let later = keeps_away sound_mid e same m uir_type (Only []) y.0.stands is (t.uir_away m y.1) in
            subst (λ (p : Bool). Keeps b now m (if p then (if is_taken b (gave b (entries_for b (shape b).attributes found ++ freed_with_variable d.own)) m then Anything else Only (uir_next_uir ∷ uir_prev_uir ∷ [])) else Only [])) (sym x) (stays_then b mid now m [] [] [] y.0 later (λ k o. (tt, tt)))
      ]

  -- ---- all of them

  from_zero : (P : ℕ → Type 0) (i : ℕ) → P i → P (0 + i)
  from_zero P i p = let same : i ≡ 0 + i = omega arith in subst P same p

  pub all_kept : AllKeep b now (del_var_changes b (content b) (shape b) found) (gave b (entries_for b (shape b).attributes found ++ freed_with_variable d.own)) (owned b (shape b))
  all_kept =
      let m = del_var_changes b (content b) (shape b) found in
      let a = gave b (entries_for b (shape b).attributes found ++ freed_with_variable d.own) in
      keep_all b now m a (keep_file b now m a sound cdr_keeps gdr_keeps)
      (keep_attributes_by b now m a 0 (shape b).attributes (λ i x at p j. from_zero (λ k. Keeps b now p (m.attributes k p)) i (attribute_keeps i x at p j)))
      (keep_variables_by b now m a R 0 (shape b).r_variables (λ i v at p j. from_zero (λ k. Keeps b now p (m.variables R k p)) i (variable_keeps R i v at p j)))
      (keep_variables_by b now m a Z 0 (shape b).z_variables (λ i v at p j. from_zero (λ k. Keeps b now p (m.variables Z k p)) i (variable_keeps Z i v at p j)))
      (keep_places b now m a Unused (unused_records b (shape b)) unused_keeps)
