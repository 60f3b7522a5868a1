-- What a command may change of records, shown by the marks of its edit.
use Rattle.cdf_edits.proofs.Common.{Act, AllKeep, Allowance, Allowances, Anything, AttributeShape, Avoids, Away, Bool, Edit, Field, File, In, In-append, In-append_left, In-append_right, IsSound, Keeps, Kind, List, Mark, OneAttribute, OneVariable, Only, Owner, R, Same, Shape, Took, Unused, VariableShape, Within, Z, [], allowance, ap, append_assoc, arith, attribute_records, avoided, both, cdr_type, either, eqb, eqb-true, false, false-is_in, filter-in, flat_map, gdr_type, if◌then◌else◌, inl, inr, is_a-in, is_a-type, is_in, is_taken, keeps_file, le-leb, length, lt-ltb, nat_le, nat_lt, owned, owned_by, owned_by_attributes, owned_by_variables, refl, shape, size_at, subst, suc, sym, tile_lies, true, true-is_in, type_at, uir_next_uir, uir_prev_uir, uir_type, unmarked, unused_records, variable_records, vdrs, within, ℕ, ◌&&◌, ◌++◌, ◌+◌, ◌==◌, ◌∙◌, ◌∷◌, ◌≡◌, ◌≤◌}
use Rattle.std.proofs.Common.{◌||◌}
use Rattle.cdf_edits.proofs.Commands.KeptRecords.{Stood, AllKeep-append, keeps_stood, keep_owned, keep_variables}
use Rattle.cdf_edits.proofs.Frame.Meaning.{Kept}
use Rattle.cdf_edits.proofs.Frame.OwnersApart.{all_variable_records}
use Rattle.cdf_edits.proofs.Space.UsedRecords.{apart, filter-says}
use Rattle.cdf_edits.proofs.Edits.Composing.{head_size}
use Rattle.cdf_edits.proofs.Edits.RecordFrame.{gdr_start, index_records, kept_away}
use Rattle.cdf_edits.proofs.Edits.MarkLemmas.{unmarked-away, avoided-avoids, within-within}
use Rattle.cdf_edits.proofs.Edits.StaysBut.{StaysBut, stays_within}
use Rattle.cdf_edits.proofs.Edits.StepEdits.{gdr_in, gdr_typed}
use Rattle.cdf_edits.proofs.Edits.VariableFrame.{variables_in}

-- ---- one record

module _ {b now new : List ℕ} {marks : List Mark} {reborn : List ℕ} (sound : IsSound b (shape b)) (e : Edit b now (shape b).records new marks reborn) (records_are : (shape now).records ≡ new) where
  abbrev s : Shape
  s = shape b

  stands : (m : ℕ) → In m s.records → In m (shape now).records
  stands m i = subst (In m) (sym records_are) (e.sub m i)

  pub stood : (m : ℕ) → In m s.records → Kept b now m → Stood b now m
  stood m i k = record { stands = stands m i; whole = k }

  -- the fields of which the bytes may be others may change
  pub keeps_stays : (m : ℕ) (fields : List Field) → In m s.records → Same b now (m + 0) (m + 12) → StaysBut b now m fields → Keeps b now m (Only fields)
  keeps_stays m fields i head k = record { stands = stands m i; size_is = head_size b now m head; same = k.bytes }

  -- its marks lie in them
  pub keeps_within : (m type : ℕ) (fields : List Field) → In m s.records → type_at b m ≡ type → Avoids marks type m 0 12 → Within marks type m fields → Keeps b now m (Only fields)
  keeps_within m type fields i is heads w = keeps_stays m fields i (e.part m type 0 12 i is heads heads (tile_lies b 8 (length b) s.records m sound.has_shape.tiled i).long) (stays_within e m type fields i is heads w)

  pub keeps_fields : (m type : ℕ) (fields : List Field) → In m s.records → type_at b m ≡ type → avoided marks type 0 12 ≡ true → within marks type fields ≡ true → Keeps b now m (Only fields)
  keeps_fields m type fields i is heads w = keeps_within m type fields i is (avoided-avoids marks type m 0 12 heads) (within-within marks type m fields w)

  -- no mark is in it
  pub keeps_away : (m type : ℕ) (a : Allowance) → In m s.records → type_at b m ≡ type → Away marks type m → Keeps b now m a
  keeps_away m type a i is away = keeps_stood b now m (stood m i (kept_away e m type i is away)) a

  -- ---- unused records

  module _ (may : Allowances) (acts : List Act) where
    -- a listed record that is not taken changes in its links, and an unlisted one stays
    pub keep_unused : ((m : ℕ) → In m s.unused → is_taken b acts m ≡ false → Avoids marks uir_type m 0 12 × Within marks uir_type m (uir_next_uir ∷ uir_prev_uir ∷ []))
        → ((m : ℕ) → In m s.records → (In m s.unused → ⊥) → Away marks uir_type m) → AllKeep b now may acts (owned_by Unused (unused_records b s))
    keep_unused listed unlisted = each (unused_records b s) (λ m i. i)
      where
        listed_one : ℕ → Allowance
        listed_one m = if is_taken b acts m then Anything else Only (uir_next_uir ∷ uir_prev_uir ∷ [])

        unless_taken : (q : Bool) (a : Allowance) (m : ℕ) → (q ≡ false → Keeps b now m a) → Keeps b now m (if q then Anything else a)
        unless_taken true a m k = tt
        unless_taken false a m k = k refl

        one : (m : ℕ) → In m (unused_records b s) → Keeps b now m (allowance b s may acts m Unused)
        one m i =
            let tile = filter-in (λ (x : ℕ). eqb (type_at b x) uir_type) s.records m i in
            let t = eqb-true _ _ (filter-says (λ (x : ℕ). eqb (type_at b x) uir_type) s.records m i) in
            elim (either (is_in m s.unused)) [
              | inl x ↦ subst (λ (p : Bool). Keeps b now m (if p then listed_one m else Only [])) (sym x) (unless_taken (is_taken b acts m) (Only (uir_next_uir ∷ uir_prev_uir ∷ [])) m (λ free.
                  let w = listed m (true-is_in m s.unused x) free in keeps_within m uir_type (uir_next_uir ∷ uir_prev_uir ∷ []) tile t w.0 w.1))
              | inr x ↦ subst (λ (p : Bool). Keeps b now m (if p then listed_one m else Only [])) (sym x) (keeps_away m uir_type (Only []) tile t (unlisted m tile (false-is_in m s.unused x)))
            ]

        each : (places : List ℕ) → ((m : ℕ) → In m places → In m (unused_records b s)) → AllKeep b now may acts (owned_by Unused places)
        each [] sub = tt
        each (m ∷ more) sub = (one m (sub m (inl refl)), each more (λ x i. sub x (inr i)))

-- a taken record is taken
pub taken_is_taken : (b : List ℕ) (place need : ℕ) (more : List Act) → 12 ≤ size_at b place → is_taken b (Took place need ∷ more) place ≡ false → ⊥
taken_is_taken b place need more long free =
    let low : nat_le place place ≡ true = le-leb place place (omega arith) in
    let high : nat_lt place (place + size_at b place) ≡ true = lt-ltb place (place + size_at b place) (omega arith) in
    clash (nat_le place place) (nat_lt place (place + size_at b place)) _ low high free
  where
    clash : (p q r : Bool) → p ≡ true → q ≡ true → ((p && q) || r) ≡ false → ⊥
    clash true true r x y f = cc
    clash true false r x y f = cc
    clash false q r x y f = cc

-- ---- all records of an owner

module _ (b now : List ℕ) (may : Allowances) (acts : List Act) where
  abbrev before_shape : Shape
  before_shape = shape b

  pub keep_places : (owner : Owner) (places : List ℕ) → ((m : ℕ) → In m places → Keeps b now m (allowance b before_shape may acts m owner)) → AllKeep b now may acts (owned_by owner places)
  keep_places owner [] h = tt
  keep_places owner (m ∷ more) h = (h m (inl refl), keep_places owner more (λ x i. h x (inr i)))

  pub keep_file : IsSound b before_shape → Keeps b now 8 may.cdr → Keeps b now before_shape.gdr may.gdr → AllKeep b now may acts (owned_by File (8 ∷ before_shape.gdr ∷ []))
  keep_file sound cdr gdr =
      let h = sound.has_shape in
      let other : (before_shape.gdr == 8) ≡ false = elim (either (before_shape.gdr == 8)) [
        | inl e ↦ absurd (apart gdr_type cdr_type refl (sym (is_a-type b before_shape.records gdr_type before_shape.gdr h.gdr_stands) ∙ ap (type_at b) (eqb-true before_shape.gdr 8 e) ∙ is_a-type b before_shape.records cdr_type 8 h.cdr_stands))
        | inr e ↦ e
      ] in
      (cdr, (subst (λ (p : Bool). Keeps b now before_shape.gdr (if p then may.cdr else may.gdr)) (sym other) gdr, tt))

  -- attribute by attribute
  pub keep_each : (n : ℕ) (as_ : List AttributeShape) → ((k m : ℕ) → In m (flat_map attribute_records as_) → Keeps b now m (allowance b before_shape may acts m (OneAttribute k))) → AllKeep b now may acts (owned_by_attributes n as_)
  keep_each n [] h = tt
  keep_each n (a ∷ more) h =
      AllKeep-append b now may acts (owned_by (OneAttribute n) (attribute_records a)) (owned_by_attributes (suc n) more)
      (keep_places (OneAttribute n) (attribute_records a) (λ m i. h n m (In-append_left m (attribute_records a) (flat_map attribute_records more) i))) (keep_each (suc n) more (λ k m i. h k m (In-append_right m (attribute_records a) (flat_map attribute_records more) i)))

  -- attributes in parts
  attributes-append : (n : ℕ) (xs ys : List AttributeShape) → owned_by_attributes n (xs ++ ys) ≡ owned_by_attributes n xs ++ owned_by_attributes (n + length xs) ys
  attributes-append n [] ys = ap (λ (k : ℕ). owned_by_attributes k ys) (none n)
    where
      none : (n : ℕ) → n ≡ n + 0
      none n = omega arith
  attributes-append n (x ∷ xs) ys =
      ap (λ (r : List (ℕ × Owner)). owned_by (OneAttribute n) (attribute_records x) ++ r) (attributes-append (suc n) xs ys ∙ ap (λ (k : ℕ). owned_by_attributes (suc n) xs ++ owned_by_attributes k ys) (next n (length xs)))
      ∙ sym (append_assoc (owned_by (OneAttribute n) (attribute_records x)) (owned_by_attributes (suc n) xs) (owned_by_attributes (n + length (x ∷ xs)) ys))
    where
      next : (n k : ℕ) → suc n + k ≡ n + suc k
      next n k = omega arith

  pub keep_parts : (before own after : List AttributeShape) → before_shape.attributes ≡ before ++ (own ++ after) → AllKeep b now may acts (owned_by_attributes 0 before) → AllKeep b now may acts (owned_by_attributes (length before) own)
      → AllKeep b now may acts (owned_by_attributes (length before + length own) after) → AllKeep b now may acts (owned_by_attributes 0 before_shape.attributes)
  keep_parts before own after was f o r =
      let last = subst (AllKeep b now may acts) (sym (attributes-append (length before) own after)) (AllKeep-append b now may acts (owned_by_attributes (length before) own) (owned_by_attributes (length before + length own) after) o r) in
      let all : AllKeep b now may acts (owned_by_attributes 0 before ++ owned_by_attributes (0 + length before) (own ++ after)) = AllKeep-append b now may acts (owned_by_attributes 0 before) (owned_by_attributes (0 + length before) (own ++ after)) f (subst (λ (k : ℕ). AllKeep b now may acts (owned_by_attributes k (own ++ after))) (none (length before)) last) in
      subst (λ (as_ : List AttributeShape). AllKeep b now may acts (owned_by_attributes 0 as_)) (sym was) (subst (AllKeep b now may acts) (sym (attributes-append 0 before (own ++ after))) all)
    where
      none : (n : ℕ) → n ≡ 0 + n
      none n = omega arith

  flat-first : (vs ws : List VariableShape) (m : ℕ) → In m (flat_map variable_records vs) → In m (flat_map variable_records (vs ++ ws))
  flat-first [] ws m i = absurd i
  flat-first (v ∷ vs) ws m i = elim (In-append m (variable_records v) (flat_map variable_records vs) i) [
    | inl j ↦ In-append_left m (variable_records v) (flat_map variable_records (vs ++ ws)) j
    | inr j ↦ In-append_right m (variable_records v) (flat_map variable_records (vs ++ ws)) (flat-first vs ws m j)
  ]

  flat-later : (vs ws : List VariableShape) (m : ℕ) → In m (flat_map variable_records ws) → In m (flat_map variable_records (vs ++ ws))
  flat-later [] ws m i = i
  flat-later (v ∷ vs) ws m i = In-append_right m (variable_records v) (flat_map variable_records (vs ++ ws)) (flat-later vs ws m i)

  -- variable by variable: its VDR changes as it may, and what is behind it stays
  pub keep_each_variable : (kind : Kind) (n : ℕ) (vs : List VariableShape) → ((k m : ℕ) → In m (vdrs vs) → Keeps b now m (allowance b before_shape may acts m (OneVariable kind k))) → ((m : ℕ) → In m (flat_map index_records vs) → Stood b now m) → AllKeep b now may acts (owned_by_variables kind n vs)
  keep_each_variable kind n [] h st = tt
  keep_each_variable kind n (v ∷ more) h st =
      AllKeep-append b now may acts (owned_by (OneVariable kind n) (variable_records v)) (owned_by_variables kind (suc n) more)
      (h n v.vdr (inl refl), keep_owned b now may acts (OneVariable kind n) (index_records v) (λ m i. st m (In-append_left m (index_records v) (flat_map index_records more) i)))
      (keep_each_variable kind (suc n) more (λ k m i. h k m (inr i)) (λ m i. st m (In-append_right m (index_records v) (flat_map index_records more) i)))

  -- the whole
  pub keep_all : AllKeep b now may acts (owned_by File (8 ∷ before_shape.gdr ∷ [])) → AllKeep b now may acts (owned_by_attributes 0 before_shape.attributes) → AllKeep b now may acts (owned_by_variables R 0 before_shape.r_variables) → AllKeep b now may acts (owned_by_variables Z 0 before_shape.z_variables)
      → AllKeep b now may acts (owned_by Unused (unused_records b before_shape)) → AllKeep b now may acts (owned b before_shape)
  keep_all f a r z u =
      let fs = owned_by File (8 ∷ before_shape.gdr ∷ []) in
      let as_ = owned_by_attributes 0 before_shape.attributes in
      let rs = owned_by_variables R 0 before_shape.r_variables in
      let zs = owned_by_variables Z 0 before_shape.z_variables in
      AllKeep-append b now may acts (fs ++ as_ ++ rs ++ zs) (owned_by Unused (unused_records b before_shape)) (AllKeep-append b now may acts (fs ++ as_ ++ rs) zs (AllKeep-append b now may acts (fs ++ as_) rs (AllKeep-append b now may acts fs as_ f a) r) z) u

  -- and where all variables stay
  pub all_keep : AllKeep b now may acts (owned_by File (8 ∷ before_shape.gdr ∷ [])) → AllKeep b now may acts (owned_by_attributes 0 before_shape.attributes) → ((m : ℕ) → In m (all_variable_records before_shape) → Stood b now m) → AllKeep b now may acts (owned_by Unused (unused_records b before_shape)) → AllKeep b now may acts (owned b before_shape)
  all_keep f a v u = keep_all f a (keep_variables b now may acts R 0 before_shape.r_variables (λ m i. v m (flat-first before_shape.r_variables before_shape.z_variables m i))) (keep_variables b now may acts Z 0 before_shape.z_variables (λ m i. v m (flat-later before_shape.r_variables before_shape.z_variables m i))) u

-- where no other owner changes but attributes and unused records, and of the file the GDR in some fields
pub keep_attributes_alone : {b now new : List ℕ} {marks : List Mark} {reborn : List ℕ} (sound : IsSound b (shape b)) (e : Edit b now (shape b).records new marks reborn) → (shape now).records ≡ new → (may : Allowances) (acts : List Act) (fields : List Field) → may.cdr ≡ Only [] → may.gdr ≡ Only fields → keeps_file marks ≡ true → within marks gdr_type fields ≡ true
    → ((m : ℕ) → In m (all_variable_records (shape b)) → Kept b now m) → AllKeep b now may acts (owned_by_attributes 0 (shape b).attributes) → AllKeep b now may acts (owned_by Unused (unused_records b (shape b))) → AllKeep b now may acts (owned b (shape b))
keep_attributes_alone {b = b} {now = now} {marks = marks} sound e same may acts fields cdr_is gdr_is clear fits variables attributes unused =
    let s : Shape = shape b in
    let h = sound.has_shape in
    let cdr = keeps_away sound e same 8 cdr_type (Only []) (is_a-in b s.records cdr_type 8 h.cdr_stands) (is_a-type b s.records cdr_type 8 h.cdr_stands) (unmarked-away marks cdr_type 8 (both (unmarked marks cdr_type) _ clear).0) in
    let gdr = keeps_fields sound e same s.gdr gdr_type fields (gdr_in b s h) (gdr_typed b s h) (gdr_start sound e clear) fits in
    all_keep b now may acts (keep_file b now may acts sound (subst (Keeps b now 8) (sym cdr_is) cdr) (subst (Keeps b now s.gdr) (sym gdr_is) gdr)) attributes (λ m i. stood sound e same m (variables_in b s sound m i) (variables m i)) unused
