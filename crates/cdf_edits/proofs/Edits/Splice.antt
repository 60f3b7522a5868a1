-- An edit that puts some attributes in the place of others: the image has its shape, its content and its rules if these have theirs.
use Rattle.cdf_edits.proofs.Common.{AllHold, Attribute, AttributeFits, AttributeShape, AttributeStays, DataSet, Each, Each-append, Each-split, Edit, Field, FileStays, Good, HasEntries, HasShape, Hold, Hold-append, Hold-split, In, In-append_left, In-append_right, IsChain, IsGoodByShape, IsSound, List, Mark, OwnedOnce, Shape, VariableStays, [], adr_name, adr_type, adrs, adrs_rows, all_unmarked, ap, arith, attribute_of, attribute_shape_rows, avoided, both, cdr_type, content, content_is, content_of, differ_rows, eof, first_phases, fixed_size, flat_map, flat_map-append, gdr_adr_head, gdr_nr_vars, gdr_nz_vars, gdr_offset, gdr_r_vdr_head, gdr_type, gdr_uir_head, gdr_z_vdr_head, has_bit, image_limit, is_a-from, is_a-in, is_in, is_linkable, is_record_type, keeps_file, keeps_variables, length, linkable-in, linkable-type, majority_of, map, map-append, number, owned_records, r_vdr_type, r_vdrs_rows, refl, row, same_name, sealed, sealed_keeps, size_at, subst, sym, times, true, type_at, uir_type, variable_types, variables, vdr_num, vdrs, vdrs_append, z_vdr_type, z_vdrs_rows, ℕ, ◌&&◌, ◌++◌, ◌+◌, ◌==◌, ◌∙◌, ◌∷◌, ◌≡◌, ◌≤◌}
use Rattle.cdf_edits.proofs.Frame.SameShape.{has_entries, has_variables, same_attributes, same_variables}
use Rattle.cdf_edits.proofs.Rules.FirstHead.{first_hold}
use Rattle.cdf_edits.proofs.Frame.Meaning.{FileSame, Kept}
use Rattle.cdf_edits.proofs.Frame.OwnersApart.{all_variable_records, adrs_linked}
use Rattle.cdf_edits.proofs.Rules.WithoutLinks.{number_rows_kept}
use Rattle.cdf_edits.proofs.Edits.AttributeFrame.{AreThere, remaining_rules, they_stay, they_fit}
use Rattle.cdf_edits.proofs.Edits.AttributeRemains.{AttributeRemains}
use Rattle.cdf_edits.proofs.Edits.FirstRecords.{gdr_still, cdr_still, typed_now, fixed_now, gdr_room, first_says}
use Rattle.cdf_edits.proofs.Edits.RecordFrame.{VariableLives, chain_stays, gdr_field, gdr_place, file_same, file_stays}
use Rattle.cdf_edits.proofs.Edits.MarkLemmas.{away-avoids, all_unmarked-away}
use Rattle.cdf_edits.proofs.Edits.StepEdits.{gdr_in, fixed_long}
use Rattle.cdf_edits.proofs.Edits.VariableFrame.{all_variables_kept, kept_live, variables_fit, variables_stay, variables_rules, indexes_rules, nums_kept}
use Rattle.cdf_edits.proofs.Edits.FieldWritten.{Stands}

-- a shape with other records and unused list, and other attributes
abbrev pub spliced : Shape → List ℕ → List ℕ → List AttributeShape → Shape
spliced s records unused attributes = record s { records = records; attributes = attributes; unused = unused }

-- the attributes in front of some and behind them stay, and so do all variables and what the file says
pub record Splices (b now : List ℕ) (s : Shape) (new list : List ℕ) (marks : List Mark) (reborn : List ℕ) (before own own' after : List AttributeShape) : Type 0 where
  pub edit : Edit b now s.records new marks reborn
  pub was : s.attributes ≡ before ++ (own ++ after)
  pub file_clear : keeps_file marks ≡ true
  pub variables_clear : keeps_variables marks ≡ true
  pub before_remain : Each (AttributeRemains b now new) before
  pub after_remain : Each (AttributeRemains b now new) after
  pub typed : (m : ℕ) → In m reborn → (is_record_type (type_at now m) ≡ true) × (fixed_size (type_at now m) ≤ size_at now m)
  pub attribute_chain : IsChain now new adr_type (number now s.gdr gdr_adr_head) (map (λ (a : AttributeShape). a.adr) (before ++ (own' ++ after)))
  pub unused_chain : IsChain now new uir_type (number now s.gdr gdr_uir_head) list
  pub own_entries : Each (HasEntries now new) own'

-- the attributes in three parts
pub parts_there : (b : List ℕ) (s : Shape) → IsSound b s → (before own after : List AttributeShape) → s.attributes ≡ before ++ (own ++ after) → AreThere b s.records before × (AreThere b s.records own × AreThere b s.records after)
parts_there b s sound before own after was =
    let l = three (λ (a : AttributeShape). is_linkable b s.records adr_type a.adr ≡ true) (adrs_linked b s sound) in
    let h = three (HasEntries b s.records) sound.has_shape.entry_chains in
    let f = three (AttributeFits b) sound.attributes_fit in
    (record { linked = l.0; have = h.0; fit = f.0 }, (record { linked = l.1.0; have = h.1.0; fit = f.1.0 }, record { linked = l.1.1; have = h.1.1; fit = f.1.1 }))
  where
    three : (P : AttributeShape → Type 0) → Each P s.attributes → Each P before × (Each P own × Each P after)
    three P e = let p = Each-split P before (own ++ after) (subst (Each P) was e) in (p.0, Each-split P own after p.1)

-- the ADR of one of them
pub adr_stands : {b : List ℕ} {s : Shape} (sound : IsSound b s) (before : List AttributeShape) (own : AttributeShape) (after : List AttributeShape) → s.attributes ≡ before ++ own ∷ after → Stands b s.records own.adr adr_type 324
adr_stands {b = b} {s = s} sound before own after was =
    let ok = (parts_there b s sound before (own ∷ []) after was).1.0.linked.0 in
    let inside = linkable-in b s.records adr_type own.adr ok in
    let typed = linkable-type b s.records adr_type own.adr ok in
    record { inside = inside; typed = typed; long = fixed_long b s sound.has_shape adr_type own.adr inside typed }

module _ {b now : List ℕ} {s : Shape} {new list : List ℕ} {marks : List Mark} {reborn : List ℕ} {before own own' after : List AttributeShape} (sound : IsSound b s) (splices : Splices b now s new list marks reborn before own own' after) where
  h : HasShape b s
  h = sound.has_shape

  e : Edit b now s.records new marks reborn
  e = splices.edit

  abbrev pub attributes' : List AttributeShape
  attributes' = before ++ (own' ++ after)

  abbrev pub s' : Shape
  s' = spliced s new list attributes'

  pub file : FileSame b now
  file = file_same sound e splices.file_clear

  says : FileStays b now s
  says = file_stays sound e splices.file_clear

  clear_variables : (all_unmarked marks variable_types ≡ true) × (((avoided marks gdr_type 12 20 && avoided marks gdr_type 20 28) && (avoided marks gdr_type 44 48 && avoided marks gdr_type 60 64)) ≡ true)
  clear_variables = both (all_unmarked marks variable_types) ((avoided marks gdr_type 12 20 && avoided marks gdr_type 20 28) && (avoided marks gdr_type 44 48 && avoided marks gdr_type 60 64)) splices.variables_clear

  clear_gdr : ((avoided marks gdr_type 12 20 && avoided marks gdr_type 20 28) ≡ true) × ((avoided marks gdr_type 44 48 && avoided marks gdr_type 60 64) ≡ true)
  clear_gdr = both (avoided marks gdr_type 12 20 && avoided marks gdr_type 20 28) (avoided marks gdr_type 44 48 && avoided marks gdr_type 60 64) clear_variables.1

  clear_heads : (avoided marks gdr_type 12 20 ≡ true) × (avoided marks gdr_type 20 28 ≡ true)
  clear_heads = both (avoided marks gdr_type 12 20) (avoided marks gdr_type 20 28) clear_gdr.0

  clear_counts : (avoided marks gdr_type 44 48 ≡ true) × (avoided marks gdr_type 60 64 ≡ true)
  clear_counts = both (avoided marks gdr_type 44 48) (avoided marks gdr_type 60 64) clear_gdr.1

  pub variables_kept : (m : ℕ) → In m (all_variable_records s) → Kept b now m
  variables_kept = all_variables_kept sound e clear_variables.0

  variables_live : Each (VariableLives b now) (variables s)
  variables_live = kept_live sound e variables_kept

  each_variable : Each (VariableStays b now new) (variables s)
  each_variable = variables_stay sound e file variables_live

  pub before_stay : Each (AttributeStays b now new) before
  before_stay = they_stay b now new before splices.before_remain

  pub after_stay : Each (AttributeStays b now new) after
  after_stay = they_stay b now new after splices.after_remain

  gdr_head : (f : Field) → avoided marks gdr_type f.place (f.place + f.width) ≡ true → f.place + f.width ≤ 84 → number now s.gdr f ≡ number b s.gdr f
  gdr_head = gdr_field sound e splices.file_clear

  -- ---- the shape

  vdr_chain : (type link link' : ℕ) (ms : List ℕ) → is_in type variable_types ≡ true → IsChain b s.records type link ms → link' ≡ link → IsChain now new type link' ms
  vdr_chain type link link' ms kind c same = chain_stays e type link link' ms c same (λ m i. away-avoids marks type m 0 20 (all_unmarked-away marks variable_types type m clear_variables.0 kind))

  gdr_type_now : type_at now s.gdr ≡ gdr_type
  gdr_type_now = gdr_still sound e splices.file_clear splices.typed

  pub shape_now : HasShape now s'
  shape_now = record {
    tiled = e.tiled_now;
    typed = typed_now sound e splices.file_clear splices.typed;
    fixed = fixed_now sound e splices.file_clear splices.typed;
    cdr_stands = is_a-from now new cdr_type 8 (e.sub 8 (is_a-in b s.records cdr_type 8 h.cdr_stands)) (cdr_still sound e splices.file_clear splices.typed);
    gdr_is = gdr_place sound e splices.file_clear;
    gdr_stands = is_a-from now new gdr_type s.gdr (e.sub s.gdr (gdr_in b s h)) gdr_type_now;
    attribute_chain = splices.attribute_chain;
    r_chain = vdr_chain r_vdr_type _ _ (vdrs s.r_variables) refl h.r_chain (gdr_head gdr_r_vdr_head clear_heads.0 (omega arith));
    z_chain = vdr_chain z_vdr_type _ _ (vdrs s.z_variables) refl h.z_chain (gdr_head gdr_z_vdr_head clear_heads.1 (omega arith));
    unused_chain = splices.unused_chain;
    entry_chains = Each-append (HasEntries now new) before (own' ++ after) (has_entries b now new before before_stay) (Each-append (HasEntries now new) own' after splices.own_entries (has_entries b now new after after_stay));
    have_variables = has_variables b now new (variables s) each_variable;
  }

  -- ---- the content

  abbrev pub attributes_now : List Attribute
  attributes_now = map (attribute_of b) before ++ (map (attribute_of now) own' ++ map (attribute_of b) after)

  pub content_now : content now ≡ record (content b) { attributes = attributes_now }
  content_now =
      let parts = Each-split (VariableStays b now new) s.r_variables s.z_variables each_variable in
      let rs = same_variables b now new s.r_variables parts.0 in
      let zs = same_variables b now new s.z_variables parts.1 in
      let front = same_attributes b now new before before_stay in
      let back = same_attributes b now new after after_stay in
      let as_ : map (attribute_of now) attributes' ≡ attributes_now =
      map-append (attribute_of now) before (own' ++ after) ∙ ap (λ (r : List Attribute). map (attribute_of now) before ++ r) (map-append (attribute_of now) own' after) ∙ (λ i. front i ++ (map (attribute_of now) own' ++ back i)) in
      let release = says.release_is in
      let increment = says.increment_is in
      let encoding = says.encoding_is in
      let flags = says.flags_are in
      let sizes = says.sizes_are in
      let whole : content_of now s' ≡ record (content_of b s) { attributes = attributes_now } = λ i. record {
        release = release i;
        increment = increment i;
        encoding = encoding i;
        majority = majority_of (has_bit (flags i) 0);
        md5 = has_bit (flags i) 2;
        rdims = sizes i;
        attributes = as_ i;
        r_variables = rs i;
        z_variables = zs i;
      } in
      content_is now s' shape_now ∙ whole ∙ ap (λ (d : DataSet). record d { attributes = attributes_now }) (sym (content_is b s h))

  -- ---- the rules

  gdr_found : gdr_offset now ≡ gdr_offset b
  gdr_found = gdr_place sound e splices.file_clear ∙ sym h.gdr_is

  gdr_count : (f : Field) → avoided marks gdr_type f.place (f.place + f.width) ≡ true → f.place + f.width ≤ 84 → number now (gdr_offset now) f ≡ number b (gdr_offset b) f
  gdr_count f clear fits = ap (λ (g : ℕ). number now g f) (gdr_place sound e splices.file_clear) ∙ gdr_head f clear fits ∙ sym (ap (λ (g : ℕ). number b g f) h.gdr_is)

  nums : (m : ℕ) → In m (vdrs (variables s)) → number now m vdr_num ≡ number b m vdr_num
  nums = nums_kept sound e file variables_live

  r_rows : r_vdrs_rows now (vdrs s.r_variables) ≡ r_vdrs_rows b (vdrs s.r_variables)
  r_rows =
      let place = gdr_found in
      let count = gdr_count gdr_nr_vars clear_counts.0 (omega arith) in
      let ms = vdrs s.r_variables in
      let numbers = number_rows_kept 7 b now vdr_num 0 ms (λ m i. nums m (subst (λ (x : List ℕ). In m x) (sym (vdrs_append s.r_variables s.z_variables)) (In-append_left m ms (vdrs s.z_variables) i))) in
      λ i. (row 6 (place i) (count i == length ms) ∷ []) ++ numbers i

  z_rows : z_vdrs_rows now (vdrs s.z_variables) ≡ z_vdrs_rows b (vdrs s.z_variables)
  z_rows =
      let place = gdr_found in
      let count = gdr_count gdr_nz_vars clear_counts.1 (omega arith) in
      let ms = vdrs s.z_variables in
      let numbers = number_rows_kept 10 b now vdr_num 0 ms (λ m i. nums m (subst (λ (x : List ℕ). In m x) (sym (vdrs_append s.r_variables s.z_variables)) (In-append_right m (vdrs s.r_variables) ms i))) in
      λ i. (row 9 (place i) (count i == length ms) ∷ []) ++ numbers i

  -- what is left to show: counts, numbers and names of attributes, and the rules of those that are new
  pub record OwnRules : Type 0 where
    pub counted : Hold (adrs_rows now (adrs s'))
    pub own_rules : Hold (flat_map (attribute_shape_rows now) own')
    pub differ : Hold (differ_rows 2 (same_name now adr_name) [] (adrs s'))
    pub owned : OwnedOnce now s'

  attribute_rules : IsGoodByShape b s → Hold (flat_map (attribute_shape_rows now) own') → Hold (flat_map (attribute_shape_rows now) attributes')
  attribute_rules good own_rules =
      let rows = attribute_shape_rows b in
      let rows' = attribute_shape_rows now in
      let all = (Hold-split (flat_map rows s.attributes) (differ_rows 2 (same_name b adr_name) [] (adrs s)) good.attributes).0 in
      let split = Hold-split (flat_map rows before) (flat_map rows (own ++ after)) (subst Hold (flat_map-append rows before (own ++ after)) (subst (λ (as_ : List AttributeShape). Hold (flat_map rows as_)) splices.was all)) in
      let last = Hold-split (flat_map rows own) (flat_map rows after) (subst Hold (flat_map-append rows own after) split.1) in
      let first = remaining_rules b now new before splices.before_remain split.0 in
      let rest = remaining_rules b now new after splices.after_remain last.1 in
      subst Hold (sym (flat_map-append rows' before (own' ++ after))) (Hold-append (flat_map rows' before) (flat_map rows' (own' ++ after)) first (subst Hold (sym (flat_map-append rows' own' after)) (Hold-append (flat_map rows' own') (flat_map rows' after) own_rules rest)))

  pub good_if : IsGoodByShape b s → OwnRules → IsGoodByShape now s'
  good_if good rules =
      let c = Hold-split (adrs_rows b (adrs s) ++ r_vdrs_rows b (vdrs s.r_variables)) (z_vdrs_rows b (vdrs s.z_variables)) good.counting in
      let d = Hold-split (adrs_rows b (adrs s)) (r_vdrs_rows b (vdrs s.r_variables)) c.0 in
      record {
        has_shape = shape_now;
        counting = Hold-append (adrs_rows now (adrs s') ++ r_vdrs_rows now (vdrs s.r_variables)) (z_vdrs_rows now (vdrs s.z_variables))
            (Hold-append (adrs_rows now (adrs s')) (r_vdrs_rows now (vdrs s.r_variables)) rules.counted (subst Hold (sym r_rows) d.1)) (subst Hold (sym z_rows) c.1);
        attributes = Hold-append (flat_map (attribute_shape_rows now) attributes') (differ_rows 2 (same_name now adr_name) [] (adrs s')) (attribute_rules good rules.own_rules) rules.differ;
        of_variables = variables_rules sound e file variables_live good.of_variables;
        indexes = indexes_rules sound e file variables_live good.indexes;
        owned_once = rules.owned;
      }

  -- ---- a sound image, as calls ask for one

  pub sound_if : Each (AttributeFits now) own' → ((m : ℕ) → times m (owned_records now s') ≤ 1) → IsSound now s'
  sound_if fits once = record {
    has_shape = shape_now;
    gdr_fits = gdr_room sound e splices.file_clear splices.typed;
    attributes_fit = Each-append (AttributeFits now) before (own' ++ after) (they_fit b now new before splices.before_remain) (Each-append (AttributeFits now) own' after fits (they_fit b now new after splices.after_remain));
    variables_fit = variables_fit sound e file variables_live;
    not_twice = once;
  }

  -- ---- the file

  pub good_image_if : AllHold (first_phases (sealed b)) → IsGoodByShape b s → OwnRules → eof now s.gdr ≡ length now → length now ≤ image_limit → Good now
  good_image_if first good rules eof_is short = sealed_keeps now s' (first_hold now s' shape_now (gdr_room sound e splices.file_clear splices.typed) (first_says sound e splices.file_clear splices.typed first eof_is) short) (good_if good rules)
