-- A renaming leads from a good image to one in which one attribute has another name.
use Rattle.cdf_attrs.proofs.Common.{AllKeep, AllKeep-append, Allowances, AreNew, AreThere, Attribute, AttributeLives, AttributeShape, Away, ByStep, Command, DataSet, Each, Edit, Field, File, Follows, Go, Good, HasShape, Hold, Hold-append, Hold-split, In, In-append, In-append_left, In-append_right, IsChain, IsFilled, IsGoodByShape, IsSorted, IsSound, Keeps, List, Mark, None, OneAttribute, Only, Option, OwnRules, Refuse, Renamed, Shape, Some, Splices, Stood, Unused, [], adr_agr_edr_head, adr_az_edr_head, adr_name, adr_no_entry, adr_num, adr_scope, adr_type, adrs, agr_edr_type, all_attributes_in, all_keep, all_remain, all_variable_records, ap, arith, attribute_named, attribute_names, attribute_names_are, attribute_of, attribute_records, attribute_shape_rows, az_edr_type, chain_clear, chain_kept, content, differ_by_names, differ_rows, eof_by_rules, eq-eqb, eqb-true, false, field_edit, field_marks, file_in, file_same, fine_is_some, fixed_long, flat-append, flat_map, flat_map-append, gdr_adr_head, gdr_eof, gdr_field, gdr_uir_head, good_by_its_shape, good_image_if, good_is_sound, good_long, got-middle, if◌then◌else◌, image_limit, inl, inr, is_among, is_bad_name, keep_attributes, keep_owned, keep_parts, keeps_fields, kept_away, length, linkable-in, linkable-type, map, names_at, names_differ, new_replaced, number, only_of, only_owns, owned, owned_by, owned_once_if, part_clear, parts_there, refl, rename_attr_changes, rename_attr_step, rules_of_good, same_name, scope_of, sealed_kept, shape, shape_is, shape_now, size_at, slice_get, spliced, stands_in, stood, subst, sym, true, type_at, uir_type, unused_in, unused_records, unwrap_or, used_times, variables_in, with_attribute, word_kept, ℕ, ◌++◌, ◌+◌, ◌==◌, ◌∙◌, ◌∷◌, ◌≡◌, ◌≤◌}
use Rattle.std.proofs.Common.{not}
use Rattle.cdf_model.specs.declared.answer.Reason.TheVariants as reasons
use Rattle.cdf_model.specs.declared.answer.Reply.TheVariants as replies
use Rattle.cdf_model.specs.declared.command.Command.TheVariants as commands
use Rattle.cdf_format.specs.AttributeRules.{has_name}
use Rattle.cdf_edits.specs.Commands.Named.{is_attribute, IsAttribute}
use Rattle.cdf_edits.proofs.Rules.OfAttributes.{attribute_rules_kept}
use Rattle.cdf_edits.proofs.Frame.Meaning.{Kept, entries_kept}
use Rattle.cdf_edits.proofs.Edits.EditActs.{acts_none}
use Rattle.cdf_edits.proofs.Edits.OneSpliced.{beside_live, content_replaced, counted, names_now, names_before}

-- ---- the step

pub rename_missing : (d : DataSet) (from to : List ℕ) → attribute_named d from ≡ None → rename_attr_step d from to ≡ Refuse reasons.NoSuchAttr
rename_missing d from to e = rw e refl

pub rename_bad : (d : DataSet) (from to : List ℕ) (n : ℕ) (a : Attribute) → attribute_named d from ≡ Some (n, a) → is_bad_name to ≡ true → rename_attr_step d from to ≡ Refuse reasons.BadName
rename_bad d from to n a e bad = rw (e, bad) refl

pub rename_taken : (d : DataSet) (from to : List ℕ) (n : ℕ) (a : Attribute) → attribute_named d from ≡ Some (n, a) → is_bad_name to ≡ false → is_among to (attribute_names d) ≡ true → rename_attr_step d from to ≡ Refuse reasons.NameTaken
rename_taken d from to n a e fine taken = rw (e, fine, taken) refl

pub rename_goes : (d : DataSet) (from to : List ℕ) (n : ℕ) (a : Attribute) → attribute_named d from ≡ Some (n, a) → is_bad_name to ≡ false → is_among to (attribute_names d) ≡ false
    → rename_attr_step d from to ≡ Go (with_attribute d n (record a { name = to })) replies.Plain
rename_goes d from to n a e fine absent = rw (e, fine, absent) refl

-- only the Name may change of the ADR
own_allowed : (b : List ℕ) (d : DataSet) (from : List ℕ) (adr n : ℕ) → is_attribute d from n ≡ true → type_at b adr ≡ adr_type → (if is_attribute d from n then only_of b adr adr_type (adr_name ∷ []) else Only []) ≡ Only (adr_name ∷ [])
own_allowed b d from adr n e t = rw (e, eq-eqb (type_at b adr) adr_type t) refl

module _ (b now : List ℕ) (from to : List ℕ) (good : Good b) (before : List AttributeShape) (own : AttributeShape) (after : List AttributeShape) (was : (shape b).attributes ≡ before ++ own ∷ after) (r : Renamed b now own.adr to) where
  abbrev s : Shape
  s = shape b

  abbrev c : Command
  c = commands.RenameAttr from to

  sound : IsSound b s
  sound = good_is_sound b good

  h : HasShape b s
  h = sound.has_shape

  -- ---- the edit

  there : AreThere b s.records (own ∷ [])
  there = (parts_there b s sound before (own ∷ []) after was).1.0

  tile : In own.adr s.records
  tile = linkable-in b s.records adr_type own.adr there.linked.0

  typed : type_at b own.adr ≡ adr_type
  typed = linkable-type b s.records adr_type own.adr there.linked.0

  long : 324 ≤ size_at b own.adr
  long = fixed_long b s h adr_type own.adr tile typed

  abbrev marks : List Mark
  marks = field_marks adr_type own.adr adr_name

  e : Edit b now s.records s.records marks []
  e = field_edit b now s h own.adr adr_type adr_name tile typed (let l = long in omega arith) (omega arith) r.changed r.length_stays

  away : (m : ℕ) → (m ≡ own.adr → ⊥) → Away marks (type_at b m) m
  away m other = ((λ same lies. elim lies [ inl q ↦ other q | inr none ↦ none ]), tt)

  field : (f : Field) → f.place + f.width ≤ 68 → number now own.adr f ≡ number b own.adr f
  field f fits =
      let l = long in
      word_kept b now (own.adr + 0) (own.adr + 68) (part_clear e own.adr adr_type 0 68 tile typed refl refl (omega arith)) (own.adr + f.place) f.width (omega arith) (omega arith)

  entry_in : (m : ℕ) → In m (own.gr_entries ++ own.z_entries) → In m s.records
  entry_in m i = elim (In-append m own.gr_entries own.z_entries i) [
    | inl j ↦ linkable-in b s.records agr_edr_type m (there.have.0.gr_chain.linkable m j)
    | inr j ↦ linkable-in b s.records az_edr_type m (there.have.0.z_chain.linkable m j)
  ]

  entry : (m : ℕ) → In m (own.gr_entries ++ own.z_entries) → Kept b now m
  entry m i = kept_away e m (type_at b m) (entry_in m i) refl (away m (λ q. adr_no_entry b s sound before own after was (subst (λ (x : ℕ). In x (own.gr_entries ++ own.z_entries)) q i)))

  gr : (m : ℕ) → In m own.gr_entries → Kept b now m
  gr m i = entry m (In-append_left m own.gr_entries own.z_entries i)

  z : (m : ℕ) → In m own.z_entries → Kept b now m
  z m i = entry m (In-append_right m own.gr_entries own.z_entries i)

  live : Each (AttributeLives b now) before × Each (AttributeLives b now) after
  live = beside_live sound e before own after was (λ m i out. away m (λ q. out (inl q)))

  splices : Splices b now s s.records s.unused marks [] before (own ∷ []) (own ∷ []) after
  splices =
      let file = file_same sound e refl in
      let parts = parts_there b s sound before (own ∷ []) after was in
      record {
        edit = e;
        was = was;
        file_clear = refl;
        variables_clear = refl;
        before_remain = all_remain sound e file before parts.0 live.0;
        after_remain = all_remain sound e file after parts.1.1 live.1;
        typed = λ m i. absurd i;
        attribute_chain = subst (λ (as_ : List AttributeShape). IsChain now s.records adr_type (number now s.gdr gdr_adr_head) (map (λ (a : AttributeShape). a.adr) as_)) was
            (chain_clear e adr_type _ _ (adrs s) h.attribute_chain (gdr_field sound e refl gdr_adr_head refl (omega arith)) refl);
        unused_chain = chain_clear e uir_type _ _ s.unused h.unused_chain (gdr_field sound e refl gdr_uir_head refl (omega arith)) refl;
        own_entries = (
          record {
            gr_chain = chain_kept e agr_edr_type _ _ own.gr_entries there.have.0.gr_chain (field adr_agr_edr_head (omega arith)) gr;
            z_chain = chain_kept e az_edr_type _ _ own.z_entries there.have.0.z_chain (field adr_az_edr_head (omega arith)) z;
          },
          tt,
        );
      }

  pub same_shape : shape now ≡ s
  same_shape = shape_is now _ (shape_now sound splices) ∙ ap (λ (as_ : List AttributeShape). record s { attributes = as_ }) (sym was)

  pub content_now : content now ≡ with_attribute (content b) (length before) (record (attribute_of b own) { name = to })
  content_now =
      let file = file_same sound e refl in
      let name = r.name_is in
      let scope = field adr_scope (omega arith) in
      let gs = entries_kept b now file own.gr_entries gr there.fit.0.0 in
      let zs = entries_kept b now file own.z_entries z there.fit.0.1 in
      let here : attribute_of now own ≡ record (attribute_of b own) { name = to } = λ i. record { name = name i; scope = scope_of (scope i); g = gs i; z = zs i } in
      content_replaced sound splices ∙ ap (with_attribute (content b) (length before)) here

  -- ---- the rules

  abbrev made : Shape
  made = spliced s s.records s.unused (before ++ own ∷ after)

  none_reborn : (m : ℕ) → In m [] → IsSorted now made m
  none_reborn m i = absurd i

  own_rules : IsGoodByShape b s → (length to == 0) ≡ false → stands_in to (names_at b adr_name (adrs s)) ≡ false → OwnRules sound splices
  own_rules image some absent =
      let p = Hold-split (flat_map (attribute_shape_rows b) s.attributes) (differ_rows 2 (same_name b adr_name) [] (adrs s)) image.attributes in
      let q = (Hold-split (flat_map (attribute_shape_rows b) before) (flat_map (attribute_shape_rows b) (own ∷ after)) (subst Hold (flat_map-append (attribute_shape_rows b) before (own ∷ after)) (subst (λ (as_ : List AttributeShape). Hold (flat_map (attribute_shape_rows b) as_)) was p.0))).1 in
      let o = (Hold-split (attribute_shape_rows b own) (flat_map (attribute_shape_rows b) after) q).0 in
      let named : has_name now own.adr adr_name ≡ true = ap (λ (n : List ℕ). not (length n == 0)) r.name_is ∙ ap not some in
      let old = names_before sound splices in
      let names = names_now sound splices ∙ ap (λ (n : List ℕ). names_at b adr_name (map (λ (a : AttributeShape). a.adr) before) ++ n ∷ names_at b adr_name (map (λ (a : AttributeShape). a.adr) after)) r.name_is in
      let new = new_replaced [] _ _ to _ (subst (AreNew []) old (names_differ 2 b adr_name (adrs s) p.1)) (subst (λ (x : List (List ℕ)). stands_in to x ≡ false) old absent) in
      record {
        counted = counted sound splices refl (field adr_num (omega arith)) live image refl;
        own_rules = Hold-append (attribute_shape_rows now own) [] (attribute_rules_kept b now own (record { fields = λ f late fits. field f fits; entries = entry }) there.fit.0 named o) tt;
        differ = differ_by_names 2 now adr_name _ (subst (AreNew []) (sym names) new);
        owned = owned_once_if b now s made marks [] sound image.owned_once e (λ m out. ap (λ (as_ : List AttributeShape). used_times (record s { attributes = as_ }) m) (sym was)) none_reborn;
      }

  -- ---- what stays

  records_are : (shape now).records ≡ s.records
  records_are = ap (λ (x : Shape). x.records) same_shape

  apart : (m : ℕ) → In m s.records → (m ≡ own.adr → ⊥) → Stood b now m
  apart m i other = stood sound e records_are m i (kept_away e m (type_at b m) i refl (away m other))

  others : (xs : List ℕ) → (In own.adr xs → ⊥) → ((m : ℕ) → In m xs → In m s.records) → (m : ℕ) → In m xs → Stood b now m
  others xs out sub m i = apart m (sub m i) (λ q. out (subst (λ (x : ℕ). In x xs) q i))

  abbrev may : Allowances
  may = rename_attr_changes b (content b) from

  keeps : is_attribute (content b) from (length before) ≡ true → AllKeep b now may [] (owned b s)
  keeps named =
      let only = only_owns b s sound before own after was own.adr (inl refl) in
      let parts = λ (m : ℕ) (i : In m (flat_map attribute_records before ++ (attribute_records own ++ flat_map attribute_records after))). all_attributes_in sound m (subst (λ (as_ : List AttributeShape). In m (flat_map attribute_records as_)) (sym was) (subst (In m) (sym (flat-append attribute_records before (own ∷ after))) i)) in
      let entries = own.gr_entries ++ own.z_entries in
      let f = keep_owned b now may [] File (8 ∷ s.gdr ∷ []) (others (8 ∷ s.gdr ∷ []) only.in_file (file_in b s sound)) in
      let a = keep_parts b now may [] before (own ∷ []) after was
      (keep_attributes b now may [] 0 before (others (flat_map attribute_records before) only.in_before (λ m i. parts m (In-append_left m (flat_map attribute_records before) (attribute_records own ++ flat_map attribute_records after) i))))
      (AllKeep-append b now may [] (owned_by (OneAttribute (length before)) (attribute_records own)) [] (
        subst (Keeps b now own.adr) (sym (own_allowed b (content b) from own.adr (length before) named typed)) (keeps_fields sound e records_are own.adr adr_type (adr_name ∷ []) tile typed refl refl),
        keep_owned b now may [] (OneAttribute (length before)) entries (others entries (adr_no_entry b s sound before own after was) entry_in),
      ) tt)
      (keep_attributes b now may [] _ after (others (flat_map attribute_records after) only.in_after (λ m i. parts m (In-append_right m (flat_map attribute_records before) (attribute_records own ++ flat_map attribute_records after) (In-append_right m (attribute_records own) (flat_map attribute_records after) i))))) in
      let u = keep_owned b now may [] Unused (unused_records b s) (others (unused_records b s) only.in_unused (unused_in b s sound)) in
      all_keep b now may [] f a (others (all_variable_records s) only.in_variables (variables_in b s sound)) u

  -- the attribute of the old name is this one
  name_follows : (n : ℕ) (w : Attribute) → attribute_named (content b) from ≡ Some (n, w) → slice_get s.attributes n ≡ Some own → (m : ℕ) (a a' : AttributeShape) → IsAttribute b now from m a a' → IsFilled now a'.adr adr_name to
  name_follows n w found there m a a' is =
      let number : n ≡ m = eqb-true n m (sym (ap (λ (o : Option (ℕ × Attribute)). elim o [ None ↦ false | Some x ↦ x.0 == m ]) found) ∙ is.named) in
      let at : slice_get s.attributes m ≡ Some a' = subst (λ (x : Shape). slice_get x.attributes m ≡ Some a') same_shape is.after_is in
      let same : own ≡ a' = ap (λ (o : Option AttributeShape). unwrap_or o own) (sym (subst (λ (k : ℕ). slice_get s.attributes k ≡ Some own) number there) ∙ at) in
      subst (λ (x : AttributeShape). IsFilled now x.adr adr_name to) same r.filled

  -- the whole: the attribute that stands there has the old name, and none has the new one
  pub rename_follows : length b ≤ image_limit → attribute_named (content b) from ≡ Some (length before, attribute_of b own) → is_bad_name to ≡ false → is_among to (attribute_names (content b)) ≡ false → Follows b c now
  rename_follows short found fine absent =
      let image = good_by_its_shape b good in
      let first = (sealed_kept b (good_long b s image) (rules_of_good b good)).0 in
      let named : is_attribute (content b) from (length before) ≡ true = ap (λ (f : Option (ℕ × Attribute)). elim f [ None ↦ false | Some x ↦ x.0 == length before ]) found ∙ eq-eqb (length before) (length before) refl in
      let some = fine_is_some to fine in
      let rules = own_rules image some (ap (stands_in to) (sym (attribute_names_are b s h)) ∙ absent) in
      let end = gdr_field sound e refl gdr_eof refl (omega arith) ∙ eof_by_rules b s sound first ∙ sym r.length_stays in
      let goes = rename_goes (content b) from to (length before) (attribute_of b own) found fine absent in
      record {
        reply = replies.Plain;
        goes = ap ByStep (goes ∙ ap (λ (d : DataSet). Go d replies.Plain) (sym content_now));
        good = good_image_if sound splices first image rules end (let l = r.length_stays in omega arith);
        longer = let l = r.length_stays in omega arith;
        within = let l = r.length_stays in omega arith;
        reads = λ e. absurd cc;
        acts = [];
        takes_within = omega arith;
        acts_follow = acts_none sound e refl refl records_are (ap (λ (x : Shape). x.unused) same_shape) r.length_stays;
        keeps = keeps named;
        does = record { acts_are = refl; named = name_follows (length before) (attribute_of b own) found (ap (λ (as_ : List AttributeShape). slice_get as_ (length before)) was ∙ got-middle before own after) };
      }
