-- What the deletion of a variable leaves of the attributes, and of the records that it frees.
use Rattle.cdf_edits.proofs.Common.{AreTiles, Attribute, AttributeDropped, AttributeFollows, AttributeShape, AttributeStays, Bool, DropsEntries, Each, EntryKind, Found, FreedStay, Good, GreatestIs, HasEntries, In, In-append, In-append_left, In-append_right, Kind, List, NumbersFall, OutsideFields, RemovesVariable, Same, Shape, Some, VariableShape, [], adr_type, aedr_num, ap, arith, attribute_of, attribute_records, avoided, chain_of, emptied_fields, ended, entries_for, entries_of, entry_type, fixed_size, flat_map, freed_with_variable, gave, good_is_sound, greatest_number, if◌then◌else◌, inl, inr, integer4, integer_kept, kind_of_entries, le-leb, length, linkable-in, linkable-type, links_end, map, max_field, number, number_kept, refl, same_Some, shape, shapes_of, size_at, slice_get, subst, suc, sym, tile_lies, true, type_at, uir_type, variable_records, variable_removing_marks, vdrs, zero, ℕ, ◌++◌, ◌+◌, ◌<◌, ◌∙◌, ◌∷◌, ◌≡◌, ◌≤◌, ◌⊎◌}
use Rattle.cdf_edits.proofs.Edits.Common.{type_stays, chain_has, chain_in, BytesStay, freed_stay_but, sizes_by_tiles, avoided-avoids, ended-avoids, fixed_long, attributes_kept, attributes_stay, Kept, flat-append}
use Rattle.cdf_edits.proofs.Edits.OwnVariable.{freed_mine}
use Rattle.cdf_edits.proofs.Edits.RemovedVariable.{sound, emptied, takes, says, behind, shape_after}
use Rattle.cdf_edits.proofs.Edits.TakenVariable.{splices}
use Rattle.cdf_edits.proofs.Edits.VariableDeletion.{long_deleted, own_in, records_deleted, sizes_mid}

-- ---- an attribute of a list

pub each_at : (P : AttributeShape → Type 0) (as_ : List AttributeShape) (k : ℕ) (a : AttributeShape) → Each P as_ → slice_get as_ k ≡ Some a → P a
each_at P [] k a each e = absurd cc
each_at P (x ∷ xs) zero a each e = subst P (same_Some x a e) each.0
each_at P (x ∷ xs) (suc k) a each e = each_at P xs k a each.1 e

pub records_at : (as_ : List AttributeShape) (k : ℕ) (a : AttributeShape) → slice_get as_ k ≡ Some a → (m : ℕ) → In m (attribute_records a) → In m (flat_map attribute_records as_)
records_at [] k a e m i = absurd cc
records_at (x ∷ xs) zero a e m i = In-append_left m (attribute_records x) (flat_map attribute_records xs) (subst (λ (y : AttributeShape). In m (attribute_records y)) (sym (same_Some x a e)) i)
records_at (x ∷ xs) (suc k) a e m i = In-append_right m (attribute_records x) (flat_map attribute_records xs) (records_at xs k a e m i)

pub adr_at : (as_ : List AttributeShape) (k : ℕ) (a : AttributeShape) → slice_get as_ k ≡ Some a → In a.adr (map (λ (x : AttributeShape). x.adr) as_)
adr_at [] k a e = absurd cc
adr_at (x ∷ xs) zero a e = inl (sym (ap (λ (y : AttributeShape). y.adr) (same_Some x a e)))
adr_at (x ∷ xs) (suc k) a e = inr (adr_at xs k a e)

pub least_entry : (kind : EntryKind) → 32 ≤ fixed_size (entry_type kind)
least_entry kind = grind arith

pub greatest_field : (kind : EntryKind) → (max_field kind).place + 4 ≤ 324
greatest_field kind = grind arith

pub record UnusedTests (kind : Kind) (gdr : ℕ) (members later unused places : List ℕ) (limit : ℕ) : Type 0 where
  pub start : avoided (variable_removing_marks kind gdr members later unused places limit) uir_type 0 12 ≡ true
  pub end : ended (variable_removing_marks kind gdr members later unused places limit) uir_type 28 ≡ true

pub unused_tests : (kind : Kind) (gdr : ℕ) (members later unused places : List ℕ) (limit : ℕ) → UnusedTests kind gdr members later unused places limit
unused_tests kind gdr members later unused places limit = grind arith

module _ {b mid now : List ℕ} {found : Found} (good : Good b) (drops : DropsEntries b found mid) (d : RemovesVariable mid now found.kind found.number) where
  attributes_are : (shape now).attributes ≡ (shape mid).attributes
  attributes_are = ap (λ (x : Shape). x.attributes) (shape_after drops.good d)

  kept : (m : ℕ) → In m (flat_map attribute_records (shape mid).attributes) → Kept mid now m
  kept = attributes_kept (sound drops.good d) (splices (sound drops.good d) (takes drops.good d) (says drops.good d))

  stay : Each (AttributeStays mid now (shape mid).records) (shape mid).attributes
  stay = attributes_stay (sound drops.good d) (splices (sound drops.good d) (takes drops.good d) (says drops.good d))

  -- ---- the attributes

  module _ (k : ℕ) (a a' : AttributeShape) (at : slice_get (shape b).attributes k ≡ Some a) (at_now : slice_get (shape now).attributes k ≡ Some a') where
    at_mid : slice_get (shape mid).attributes k ≡ Some a'
    at_mid = ap (λ (as_ : List AttributeShape). slice_get as_ k) (sym attributes_are) ∙ at_now

    left : AttributeDropped b mid found k a a'
    left = drops.attributes k a a' at at_mid

    has : HasEntries mid (shape mid).records a'
    has = each_at (HasEntries mid (shape mid).records) (shape mid).attributes k a' (good_is_sound mid drops.good).has_shape.entry_chains at_mid

    entry_number : (m : ℕ) → In m (chain_of a' (kind_of_entries found.kind)) → number now m aedr_num ≡ number mid m aedr_num
    entry_number m i =
        let kind = kind_of_entries found.kind in
        let ok = (chain_has kind a' has).linkable m i in
        let long = fixed_long mid (shape mid) (good_is_sound mid drops.good).has_shape (entry_type kind) m (linkable-in mid (shape mid).records (entry_type kind) m ok) (linkable-type mid (shape mid).records (entry_type kind) m ok) in
        let least = least_entry kind in
        number_kept mid now m (kept m (records_at (shape mid).attributes k a' at_mid m (inr (chain_in kind a' m i)))).same aedr_num (omega arith)

    numbers_fall : NumbersFall b now found a
    numbers_fall of_variables = all (chain_of a (kind_of_entries found.kind)) left.later (left.follows.0 of_variables)
      where
        all : (es : List ℕ) → Each (λ aedr. found.number < number b aedr aedr_num → In aedr (chain_of a' (kind_of_entries found.kind))) es → Each (λ aedr. found.number < number b aedr aedr_num → number mid aedr aedr_num + 1 ≡ number b aedr aedr_num) es
            → Each (λ aedr. found.number < number b aedr aedr_num → number now aedr aedr_num + 1 ≡ number b aedr aedr_num) es
        all [] later fall = tt
        all (e ∷ es) later fall = ((λ lt. ap (λ (n : ℕ). n + 1) (entry_number e (later.0 lt)) ∙ fall.0 lt), all es later.1 fall.1)

    adr_kept : Kept mid now a'.adr
    adr_kept = kept a'.adr (records_at (shape mid).attributes k a' at_mid a'.adr (inl refl))

    adr_long : 324 ≤ size_at mid a'.adr
    adr_long =
        let h = (good_is_sound mid drops.good).has_shape in
        let ok = h.attribute_chain.linkable a'.adr (adr_at (shape mid).attributes k a' at_mid) in
        fixed_long mid (shape mid) h adr_type a'.adr (linkable-in mid (shape mid).records adr_type a'.adr ok) (linkable-type mid (shape mid).records adr_type a'.adr ok)

    greatest_is : (kind : EntryKind) (written : Bool) → GreatestIs b mid a a' kind written → GreatestIs b now a a' kind written
    greatest_is kind written is =
        let same : attribute_of now a' ≡ attribute_of mid a' = (each_at (AttributeStays mid now (shape mid).records) (shape mid).attributes k a' stay at_mid).1 in
        let fits = greatest_field kind in
        let field = integer_kept mid now a'.adr adr_kept.same (max_field kind) (let l = adr_long in omega arith) in
        field ∙ is ∙ ap (λ (x : Attribute). if written then greatest_number (entries_of x kind) else integer4 b a.adr (max_field kind)) (sym same)

    pub attribute_follows : AttributeFollows b now found a a'
    attribute_follows = (numbers_fall, (λ kind. greatest_is kind _ (left.follows.1 kind)))

  -- ---- what is freed

  one_of : (m : ℕ) → In m (entries_for b (shape b).attributes found ++ freed_with_variable d.own) → In m (entries_for b (shape b).attributes found) ⊎ In m (freed_with_variable d.own)
  one_of m i = In-append m (entries_for b (shape b).attributes found) (freed_with_variable d.own) i

  -- a record of the variable is one of the variables of its kind
  own_among : (m : ℕ) → In m (freed_with_variable d.own) → In m (flat_map variable_records (shapes_of (shape b) found.kind))
  own_among m i =
      let mine = In-append_right m (flat_map variable_records d.before) (variable_records d.own ++ flat_map variable_records d.after) (In-append_left m (variable_records d.own) (flat_map variable_records d.after) (freed_mine d.own m i)) in
      let there : In m (flat_map variable_records (d.before ++ d.own ∷ d.after)) = subst (In m) (sym (flat-append variable_records d.before (d.own ∷ d.after))) mine in
      subst (λ (vs : List VariableShape). In m (flat_map variable_records vs)) (sym d.unlinks.was ∙ drops.variables_are found.kind) there

  places_in : (m : ℕ) → In m (entries_for b (shape b).attributes found ++ freed_with_variable d.own) → In m (shape b).records
  places_in m i = elim (one_of m i) [ inl j ↦ (drops.dropped m j).stands | inr j ↦ own_in good drops d m j ]

  sizes_now : (m : ℕ) → In m (shape b).records → size_at now m ≡ size_at b m
  sizes_now =
      let t = (takes drops.good d).edit.tiled_now in
      sizes_by_tiles b now 8 8 (length b) (shape b).records refl (good_is_sound b good).has_shape.tiled (subst (λ (k : ℕ). AreTiles now 8 k (shape b).records) (long_deleted good drops d) (subst (AreTiles now 8 (length now)) drops.records_are t))

  entry_behind : (m : ℕ) → In m (entries_for b (shape b).attributes found) → Same b now (m + links_end (size_at b m)) (m + size_at b m)
  entry_behind m i =
      let x = drops.dropped m i in
      let t = unused_tests found.kind (shape mid).gdr (vdrs (shapes_of (shape mid) found.kind)) (vdrs d.after) (shape mid).unused (freed_with_variable d.own) (length (emptied drops.good d)) in
      let e = (takes drops.good d).edit in
      let size = sizes_mid good drops d m x.stands in
      let inside : In m (shape mid).records = subst (In m) (sym drops.records_are) x.stands in
      let marks = variable_removing_marks found.kind (shape mid).gdr (vdrs (shapes_of (shape mid) found.kind)) (vdrs d.after) (shape mid).unused (freed_with_variable d.own) (length (emptied drops.good d)) in
      let later : Same mid now (m + 28) (m + size_at b m) = e.part m uir_type 28 (size_at b m) inside x.freed (avoided-avoids marks uir_type m 0 12 t.start) (ended-avoids marks uir_type m 28 (size_at b m) t.end) (omega arith) in
      subst (λ (k : ℕ). Same b now (m + k) (m + size_at b m)) (sym (rw (le-leb 28 (size_at b m) x.long) refl)) (record { each = λ k l u. later.each k l u ∙ x.behind.each k l u })

  own_type : (m : ℕ) → In m (freed_with_variable d.own) → type_at mid m ≡ type_at b m
  own_type m i = type_stays b mid m [] (drops.variables_kept found.kind m (own_among m i)) (tile_lies b 8 (length b) (shape b).records m (good_is_sound b good).has_shape.tiled (own_in good drops d m i)).long (λ k l. tt)

  own_behind : (m : ℕ) → In m (freed_with_variable d.own) → BytesStay b now m (links_end (size_at b m)) (emptied_fields found.kind (type_at b m))
  own_behind m i k lt low out =
      let size = sizes_mid good drops d m (own_in good drops d m i) in
      let first = drops.variables_kept found.kind m (own_among m i) in
      behind drops.good d m i k (subst (λ (n : ℕ). k < n) (sym size) lt) (subst (λ (n : ℕ). links_end n ≤ k) (sym size) low) (subst (λ (t : ℕ). OutsideFields (emptied_fields found.kind t) k) (sym (own_type m i)) out) ∙ first.same k lt tt

  pub freed_deleted : FreedStay b now (emptied_fields found.kind) (gave b (entries_for b (shape b).attributes found ++ freed_with_variable d.own))
  freed_deleted = freed_stay_but b now (gave b (entries_for b (shape b).attributes found ++ freed_with_variable d.own)) (entries_for b (shape b).attributes found ++ freed_with_variable d.own) (emptied_fields found.kind)
      (subst (AreTiles now 8 (length now)) (sym (records_deleted good drops d)) (subst (AreTiles now 8 (length now)) drops.records_are (takes drops.good d).edit.tiled_now))
      (λ m i. subst (In m) (sym (records_deleted good drops d)) (places_in m i))
      (λ m i. sizes_now m (places_in m i))
      (λ m i. elim (one_of m i) [ inl j ↦ (λ k lt low out. (entry_behind m j).each (m + k) (omega arith) (omega arith)) | inr j ↦ own_behind m j ])
