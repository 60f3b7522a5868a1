-- An edit that puts some variables of a kind in the place of others: the image has its shape, its content and its rules if these have theirs.
use Rattle.cdf_edits.proofs.Common.{AllHold, AreNew, AttributeStays, Bool, DataSet, Each, Each-append, Each-split, Edit, Field, FileStays, Good, HasShape, HasVariable, Hold, Hold-append, Hold-split, In, IsChain, IsGoodByShape, IsSound, Kind, List, Mark, OwnedOnce, R, Shape, Variable, VariableFits, VariableShape, VariableStays, Z, [], adr_name, adr_num, adr_type, adrs, adrs_rows, all_unmarked, ap, arith, attribute_shape_rows, attribute_types, avoided, both, cdr_type, content, content_is, content_of, count_of, differ_by_names, differ_rows, eof, first_phases, fixed_size, flat_map, gdr_adr_head, gdr_num_attr, gdr_offset, gdr_type, gdr_uir_head, has_bit, head_of, image_limit, index_rows, is_a-from, is_a-in, is_named_apart, is_record_type, keeps_file, length, majority_of, map, map-append, names_differ, number, owned_records, r_vdrs_rows, refl, row, same_name, sealed, sealed_keeps, shapes_of, size_at, subst, sym, times, true, type_at, type_in, uir_type, variable_of, variables, variables_chain, vdrs, with_variables, z_vdrs_rows, ℕ, ◌&&◌, ◌++◌, ◌+◌, ◌==◌, ◌∙◌, ◌∷◌, ◌≡◌, ◌≤◌}
use Rattle.cdf_edits.proofs.Edits.AttributeFrame.{AreThere, lives_away, all_remain, they_stay, they_fit, remaining_rules, remaining_names, nums_stay}
use Rattle.cdf_edits.proofs.Edits.AttributeRemains.{AttributeRemains}
use Rattle.cdf_edits.proofs.Edits.ChainKinds.{attribute_typed}
use Rattle.cdf_edits.proofs.Edits.FirstRecords.{gdr_still, cdr_still, typed_now, fixed_now, gdr_room, first_says}
use Rattle.cdf_edits.proofs.Edits.MarkLemmas.{away-avoids, all_unmarked-away}
use Rattle.cdf_edits.proofs.Edits.OwnedOnce.{all_attributes_in}
use Rattle.cdf_edits.proofs.Edits.RecordFrame.{AttributeLives, VariableLives, chain_clear, chain_stays, gdr_field, gdr_place, file_same, file_stays, kept_away}
use Rattle.cdf_edits.proofs.Edits.StepEdits.{gdr_in}
use Rattle.cdf_edits.proofs.Edits.VariableFrame.{Each-map, Each-apply, hold_all, IsRuled, VariableRemains, all_ruled, ruled_rows, remain_from, nums_from}
use Rattle.cdf_edits.proofs.Edits.VariableKinds.{attributes_counted, other_kind, shapes_with, with_shapes, vdrs_rows, keeps_kind, by_kind, each_kind, of_kind, kind_ours, kind_chain, in_gdr, counted_before, vdrs_rows_kept, variables_of_are, with_kind}
use Rattle.cdf_edits.proofs.Frame.Meaning.{FileSame, Kept}
use Rattle.cdf_edits.proofs.Frame.OwnersApart.{adrs_linked, all_attribute_records}
use Rattle.cdf_edits.proofs.Frame.SameShape.{has_entries, same_attributes, same_variables}
use Rattle.cdf_edits.proofs.Rules.FirstHead.{first_hold}
use Rattle.cdf_edits.proofs.Rules.WithoutLinks.{number_rows_kept}

-- all attributes, their chain and their count
abbrev pub keeps_all_attributes : List Mark → Bool
keeps_all_attributes marks = all_unmarked marks attribute_types && (avoided marks gdr_type 28 36 && avoided marks gdr_type 48 52)

-- the variables of a kind in front of some and behind them remain, and those of the other kind, all attributes and what the file says stay
pub record VariableSplices (b now : List ℕ) (s : Shape) (kind : Kind) (new list : List ℕ) (marks : List Mark) (reborn : List ℕ) (before own own' after : List VariableShape) : Type 0 where
  pub edit : Edit b now s.records new marks reborn
  pub was : shapes_of s kind ≡ before ++ (own ++ after)
  pub file_clear : keeps_file marks ≡ true
  pub attributes_clear : keeps_all_attributes marks ≡ true
  pub other_clear : keeps_kind marks (other_kind kind) ≡ true
  pub before_remain : Each (VariableRemains b now s.records new) before
  pub after_remain : Each (VariableRemains b now s.records new) after
  pub others_live : Each (VariableLives b now) (shapes_of s (other_kind kind))
  pub typed : (m : ℕ) → In m reborn → (is_record_type (type_at now m) ≡ true) × (fixed_size (type_at now m) ≤ size_at now m)
  pub variable_chain : IsChain now new (type_in (variables_chain kind)) (number now s.gdr (head_of (variables_chain kind))) (vdrs (before ++ (own' ++ after)))
  pub unused_chain : IsChain now new uir_type (number now s.gdr gdr_uir_head) list
  pub own_have : Each (HasVariable now new) own'

-- the content, by the lists of an image
content_by_lists : (b now : List ℕ) (s : Shape) (kind : Kind) (records unused : List ℕ) (vs : List VariableShape) (ws : List Variable) → FileStays b now s → Each (AttributeStays b now records) s.attributes → map (variable_of now) vs ≡ ws → map (variable_of now) (shapes_of s (other_kind kind)) ≡ map (variable_of b) (shapes_of s (other_kind kind))
    → content_of now (with_shapes s kind records unused vs) ≡ with_variables (content_of b s) kind ws
content_by_lists b now s kind records unused vs ws says stay own other =
    let as_ = same_attributes b now records s.attributes stay in
    let release = says.release_is in
    let increment = says.increment_is in
    let encoding = says.encoding_is in
    let flags = says.flags_are in
    let sizes = says.sizes_are in
    let lists : content_of now (with_shapes s kind records unused vs) ≡ record (content_of b s) { r_variables = map (variable_of now) (shapes_with s kind vs R); z_variables = map (variable_of now) (shapes_with s kind vs Z) } = λ i. record {
      release = release i;
      increment = increment i;
      encoding = encoding i;
      majority = majority_of (has_bit (flags i) 0);
      md5 = has_bit (flags i) 2;
      rdims = sizes i;
      attributes = as_ i;
      r_variables = map (variable_of now) (shapes_with s kind vs R);
      z_variables = map (variable_of now) (shapes_with s kind vs Z);
    } in
    lists ∙ with_kind (content_of b s) kind s vs (variable_of now) ws own (other ∙ sym (variables_of_are b s (other_kind kind)))

module _ {b now : List ℕ} {s : Shape} {kind : Kind} {new list : List ℕ} {marks : List Mark} {reborn : List ℕ} {before own own' after : List VariableShape} (sound : IsSound b s) (splices : VariableSplices b now s kind new list marks reborn before own own' after) where
  h : HasShape b s
  h = sound.has_shape

  e : Edit b now s.records new marks reborn
  e = splices.edit

  abbrev pub variables' : List VariableShape
  variables' = before ++ (own' ++ after)

  abbrev pub s' : Shape
  s' = with_shapes s kind new list variables'

  abbrev others : List VariableShape
  others = shapes_of s (other_kind kind)

  pub file : FileSame b now
  file = file_same sound e splices.file_clear

  says : FileStays b now s
  says = file_stays sound e splices.file_clear

  gdr_head : (f : Field) → avoided marks gdr_type f.place (f.place + f.width) ≡ true → f.place + f.width ≤ 84 → number now s.gdr f ≡ number b s.gdr f
  gdr_head = gdr_field sound e splices.file_clear

  gdr_found : gdr_offset now ≡ gdr_offset b
  gdr_found = gdr_place sound e splices.file_clear ∙ sym h.gdr_is

  gdr_count : (f : Field) → avoided marks gdr_type f.place (f.place + f.width) ≡ true → f.place + f.width ≤ 84 → number now (gdr_offset now) f ≡ number b (gdr_offset b) f
  gdr_count f clear fits = ap (λ (g : ℕ). number now g f) (gdr_place sound e splices.file_clear) ∙ gdr_head f clear fits ∙ sym (ap (λ (g : ℕ). number b g f) h.gdr_is)

  -- ---- attributes

  there : AreThere b s.records s.attributes
  there = record { linked = adrs_linked b s sound; have = h.entry_chains; fit = sound.attributes_fit }

  clear_attributes : (all_unmarked marks attribute_types ≡ true) × ((avoided marks gdr_type 28 36 && avoided marks gdr_type 48 52) ≡ true)
  clear_attributes = both (all_unmarked marks attribute_types) (avoided marks gdr_type 28 36 && avoided marks gdr_type 48 52) splices.attributes_clear

  clear_gdr : (avoided marks gdr_type 28 36 ≡ true) × (avoided marks gdr_type 48 52 ≡ true)
  clear_gdr = both (avoided marks gdr_type 28 36) (avoided marks gdr_type 48 52) clear_attributes.1

  attributes_live : Each (AttributeLives b now) s.attributes
  attributes_live = lives_away sound e s.attributes there (λ m i. all_unmarked-away marks attribute_types (type_at b m) m clear_attributes.0 (attribute_typed b s.records s.attributes there m i))

  attributes_remain : Each (AttributeRemains b now new) s.attributes
  attributes_remain = all_remain sound e file s.attributes there attributes_live

  pub attributes_stay : Each (AttributeStays b now new) s.attributes
  attributes_stay = they_stay b now new s.attributes attributes_remain

  pub attributes_kept : (m : ℕ) → In m (all_attribute_records s) → Kept b now m
  attributes_kept m i = kept_away e m (type_at b m) (all_attributes_in sound m i) refl (all_unmarked-away marks attribute_types (type_at b m) m clear_attributes.0 (attribute_typed b s.records s.attributes there m i))

  -- ---- variables of the other kind

  clear_other : (avoided marks (type_in (variables_chain (other_kind kind))) 0 20 ≡ true) × ((avoided marks gdr_type (head_of (variables_chain (other_kind kind))).place ((head_of (variables_chain (other_kind kind))).place + (head_of (variables_chain (other_kind kind))).width) && avoided marks gdr_type (count_of (variables_chain (other_kind kind))).place ((count_of (variables_chain (other_kind kind))).place + (count_of (variables_chain (other_kind kind))).width)) ≡ true)
  clear_other = both _ _ splices.other_clear

  clear_heads : (avoided marks gdr_type (head_of (variables_chain (other_kind kind))).place ((head_of (variables_chain (other_kind kind))).place + (head_of (variables_chain (other_kind kind))).width) ≡ true) × (avoided marks gdr_type (count_of (variables_chain (other_kind kind))).place ((count_of (variables_chain (other_kind kind))).place + (count_of (variables_chain (other_kind kind))).width) ≡ true)
  clear_heads = both _ _ clear_other.1

  pub others_remain : Each (VariableRemains b now s.records new) others
  others_remain = remain_from sound e file others (kind_ours b s sound (other_kind kind)) splices.others_live

  others_stay : Each (VariableStays b now new) others
  others_stay = Each-map (VariableRemains b now s.records new) (VariableStays b now new) (λ v r. r.stays) others others_remain

  other_chain : IsChain now new (type_in (variables_chain (other_kind kind))) (number now s.gdr (head_of (variables_chain (other_kind kind)))) (vdrs others)
  other_chain = chain_clear e (type_in (variables_chain (other_kind kind))) _ _ (vdrs others) (kind_chain (other_kind kind) h) (gdr_head (head_of (variables_chain (other_kind kind))) clear_heads.0 (in_gdr (other_kind kind)).0) clear_other.0

  -- ---- the shape

  chains : (k : Kind) → IsChain now new (type_in (variables_chain k)) (number now s.gdr (head_of (variables_chain k))) (vdrs (shapes_with s kind variables' k))
  chains = by_kind (λ k vs. IsChain now new (type_in (variables_chain k)) (number now s.gdr (head_of (variables_chain k))) (vdrs vs)) kind s variables' splices.variable_chain other_chain

  -- what holds of those in front, of the new ones, of those behind and of the other kind
  all_now : (P : VariableShape → Type 0) → ((v : VariableShape) → VariableRemains b now s.records new v → P v) → Each P own' → Each P (variables s')
  all_now P kept mine =
      let remains = VariableRemains b now s.records new in
      each_kind P kind s variables' (Each-append P before (own' ++ after) (Each-map remains P kept before splices.before_remain) (Each-append P own' after mine (Each-map remains P kept after splices.after_remain))) (Each-map remains P kept others others_remain)

  pub shape_now : HasShape now s'
  shape_now = record {
    tiled = e.tiled_now;
    typed = typed_now sound e splices.file_clear splices.typed;
    fixed = fixed_now sound e splices.file_clear splices.typed;
    cdr_stands = is_a-from now new cdr_type 8 (e.sub 8 (is_a-in b s.records cdr_type 8 h.cdr_stands)) (cdr_still sound e splices.file_clear splices.typed);
    gdr_is = gdr_place sound e splices.file_clear;
    gdr_stands = is_a-from now new gdr_type s.gdr (e.sub s.gdr (gdr_in b s h)) (gdr_still sound e splices.file_clear splices.typed);
    attribute_chain = chain_stays e adr_type _ _ (adrs s) h.attribute_chain (gdr_head gdr_adr_head clear_gdr.0 (omega arith)) (λ m i. away-avoids marks adr_type m 0 20 (all_unmarked-away marks attribute_types adr_type m clear_attributes.0 refl));
    r_chain = chains R;
    z_chain = chains Z;
    unused_chain = splices.unused_chain;
    entry_chains = has_entries b now new s.attributes attributes_stay;
    have_variables = all_now (HasVariable now new) (λ v r. r.stays.0) splices.own_have;
  }

  -- ---- the content

  abbrev pub variables_now : List Variable
  variables_now = map (variable_of b) before ++ (map (variable_of now) own' ++ map (variable_of b) after)

  remaining : (vs : List VariableShape) → Each (VariableRemains b now s.records new) vs → map (variable_of now) vs ≡ map (variable_of b) vs
  remaining vs r = same_variables b now new vs (Each-map (VariableRemains b now s.records new) (VariableStays b now new) (λ v x. x.stays) vs r)

  pub content_now : content now ≡ with_variables (content b) kind variables_now
  content_now =
      let front = remaining before splices.before_remain in
      let back = remaining after splices.after_remain in
      let all_are : map (variable_of now) variables' ≡ variables_now =
      map-append (variable_of now) before (own' ++ after) ∙ ap (λ (r : List Variable). map (variable_of now) before ++ r) (map-append (variable_of now) own' after) ∙ (λ i. front i ++ (map (variable_of now) own' ++ back i)) in
      content_is now s' shape_now ∙ content_by_lists b now s kind new list variables' variables_now says attributes_stay all_are (same_variables b now new others others_stay)
      ∙ ap (λ (d : DataSet). with_variables d kind variables_now) (sym (content_is b s h))

  -- ---- the rules

  -- what is left to show: counts and numbers of the kind, that names differ, and the rules of those that are new
  pub record OwnRules : Type 0 where
    pub counted : Hold (vdrs_rows kind now (vdrs variables'))
    pub apart : (m : ℕ) → In m (vdrs (variables s')) → is_named_apart now (vdrs (variables s')) m ≡ true
    pub own_ruled : Each (IsRuled now new) own'
    pub owned : OwnedOnce now s'

  adrs_now : adrs_rows now (adrs s) ≡ adrs_rows b (adrs s)
  adrs_now =
      let place = gdr_found in
      let count = gdr_count gdr_num_attr clear_gdr.1 (omega arith) in
      let numbers = number_rows_kept 4 b now adr_num 0 (adrs s) (nums_stay sound e file s.attributes there attributes_live) in
      λ i. (row 3 (place i) (count i == length (adrs s)) ∷ []) ++ numbers i

  counting_now : IsGoodByShape b s → OwnRules → (k : Kind) → Hold (vdrs_rows k now (vdrs (shapes_with s kind variables' k)))
  counting_now good rules =
      let same = vdrs_rows_kept (other_kind kind) b now (vdrs others) gdr_found (gdr_count (count_of (variables_chain (other_kind kind))) clear_heads.1 (in_gdr (other_kind kind)).1) (nums_from sound e file others (kind_ours b s sound (other_kind kind)) splices.others_live) in
      by_kind (λ k vs. Hold (vdrs_rows k now (vdrs vs))) kind s variables' rules.counted (subst Hold (sym same) (counted_before good (other_kind kind)))

  -- each variable had its rules
  pub parts_ruled : IsGoodByShape b s → (Each (IsRuled b s.records) before × (Each (IsRuled b s.records) own × Each (IsRuled b s.records) after)) × Each (IsRuled b s.records) others
  parts_ruled good =
      let ruled = IsRuled b s.records in
      let all = all_ruled b s.records (vdrs (variables s)) (variables s) good.of_variables good.indexes in
      let p = Each-split ruled before (own ++ after) (subst (Each ruled) splices.was (of_kind ruled kind s all)) in
      ((p.0, Each-split ruled own after p.1), of_kind ruled (other_kind kind) s all)

  keep_ruled : (vs : List VariableShape) → Each (VariableRemains b now s.records new) vs → Each (IsRuled b s.records) vs → Each (IsRuled now new) vs
  keep_ruled vs r rules = Each-apply (IsRuled b s.records) (IsRuled now new) vs (Each-map (VariableRemains b now s.records new) (λ v. IsRuled b s.records v → IsRuled now new v) (λ v x. x.ruled) vs r) rules

  ruled_now : IsGoodByShape b s → OwnRules → Each (IsRuled now new) (variables s')
  ruled_now good rules =
      let p = parts_ruled good in
      let ruled = IsRuled now new in
      each_kind ruled kind s variables' (Each-append ruled before (own' ++ after) (keep_ruled before splices.before_remain p.0.0) (Each-append ruled own' after rules.own_ruled (keep_ruled after splices.after_remain p.0.1.1))) (keep_ruled others others_remain p.1)

  pub good_if : IsGoodByShape b s → OwnRules → IsGoodByShape now s'
  good_if good rules =
      let p = Hold-split (flat_map (attribute_shape_rows b) s.attributes) (differ_rows 2 (same_name b adr_name) [] (adrs s)) good.attributes in
      let names = remaining_names b now new s.attributes attributes_remain in
      let counts = counting_now good rules in
      let ruled = ruled_now good rules in
      record {
        has_shape = shape_now;
        counting = Hold-append (adrs_rows now (adrs s) ++ r_vdrs_rows now (vdrs (shapes_with s kind variables' R))) (z_vdrs_rows now (vdrs (shapes_with s kind variables' Z)))
            (Hold-append (adrs_rows now (adrs s)) (r_vdrs_rows now (vdrs (shapes_with s kind variables' R))) (subst Hold (sym adrs_now) (attributes_counted good)) (counts R)) (counts Z);
        attributes = Hold-append (flat_map (attribute_shape_rows now) s.attributes) (differ_rows 2 (same_name now adr_name) [] (adrs s)) (remaining_rules b now new s.attributes attributes_remain p.0)
            (differ_by_names 2 now adr_name (adrs s) (subst (AreNew []) (sym names) (names_differ 2 b adr_name (adrs s) p.1)));
        of_variables = ruled_rows now new (vdrs (variables s')) (variables s') ruled rules.apart;
        indexes = hold_all (λ (v : VariableShape). index_rows now new v.vdr v.index) (variables s') (Each-map (IsRuled now new) (λ (v : VariableShape). Hold (index_rows now new v.vdr v.index)) (λ v r. r.1) (variables s') ruled);
        owned_once = rules.owned;
      }

  -- ---- a sound image, as calls ask for one

  pub sound_if : Each (VariableFits now new) own' → ((m : ℕ) → times m (owned_records now s') ≤ 1) → IsSound now s'
  sound_if fits once = record {
    has_shape = shape_now;
    gdr_fits = gdr_room sound e splices.file_clear splices.typed;
    attributes_fit = they_fit b now new s.attributes attributes_remain;
    variables_fit = all_now (VariableFits now new) (λ v r. r.fits) fits;
    not_twice = once;
  }

  -- ---- the file

  pub good_image_if : AllHold (first_phases (sealed b)) → IsGoodByShape b s → OwnRules → eof now s.gdr ≡ length now → length now ≤ image_limit → Good now
  good_image_if first good rules eof_is short = sealed_keeps now s' (first_hold now s' shape_now (gdr_room sound e splices.file_clear splices.typed) (first_says sound e splices.file_clear splices.typed first eof_is) short) (good_if good rules)
