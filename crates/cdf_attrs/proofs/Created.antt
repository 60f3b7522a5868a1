-- The making of an attribute, as an edit, leads from a good image to the one that follows.
use Rattle.cdf_attrs.proofs.Common.{Act, Added, AllKeep, AllKeep-append, Allowances, AreNew, AreThere, Attr, Attribute, AttributeLives, AttributeShape, Attrs, Bool, ByStep, Command, DataSet, Each, Edit, Follows, Go, Good, HasShape, Hold, Hold-append, Hold-split, In, IsChain, IsGoodByShape, IsJoined, IsSound, Keeps, List, MakesAttribute, Mark, OneAttribute, Only, OwnRules, Plain, Scope, Shape, Some, Splices, Took, [], acts_then, adding_marks, adr_body, adr_name, adr_num, adr_scope, adr_type, adrs, adrs_linked, adrs_rows, agr_edr_type, all_remain, all_unmarked-away, and_from, ap, append-nil, arith, attr_changes, attribute_names, attribute_names_are, attribute_of, attribute_records, attribute_shape_rows, attributes_gdr_fields, az_edr_type, before_first, before_zeros, content, content_is, content_now, differ_by_names, differ_rows, edit, either, ends, entry, eq-eqb, eqb, eqb-true, false, file, file_same, filled_size, filled_sound, fills, fine_is_some, flat_map, gdr_adr_head, gdr_num_attr, gdr_offset, gdr_place, good_by_its_shape, good_image_if, good_is_sound, good_long, got-middle, if◌then◌else◌, image_limit, inl, inr, is_among, is_bad_name, keep_attributes_alone, keep_places, keeps_away, keeps_fields, length, length-append, linkable-in, linkable-type, lives_clear, longest, making_marks, map, map-append, more_there, name_in, names_at, names_differ, nat_le, new_attribute, new_in, new_once, new_part, new_pushed, new_typed, next_field, number, number_rows-push, number_rows_kept, nums_stay, of_le, only_of, owned, owned_by, owned_by_attributes, owned_once_if, r_vdrs_rows, refl, remaining_names, rules_of_good, same_name, scope_code, scope_of, sealed_kept, shape, shape_is, shape_now, slice_get, spliced, spliced_times, stands_in, subst, suc, sym, tile_lies, times, type_at, unused_chain, unused_kept, used_times, variables_kept, vdrs, z_vdrs_rows, ℕ, ◌&&◌, ◌++◌, ◌+◌, ◌-◌, ◌<◌, ◌==◌, ◌^◌, ◌∙◌, ◌∷◌, ◌≡◌, ◌≢◌, ◌≤◌}
use Rattle.std.proofs.Common.{not}
use Rattle.std.specs.List.{All}
use Rattle.cdf_model.specs.declared.kinds.Scope.TheVariants.{Global, Variable, GlobalAssumed, VariableAssumed}
use Rattle.cdf_attrs.proofs.AttributeChain.{attribute_members}
use Rattle.cdf_attrs.proofs.AttributesRead.{counted_is}
use Rattle.cdf_attrs.proofs.NewAdr.{IsNewAdr, body_made, length-body, adr_written}
use Rattle.cdf_attrs.proofs.CreatingAnswers.{with_last}

-- ---- scopes and the rules of a new ADR

-- an attribute without entries
abbrev bare_attribute : ℕ → AttributeShape
bare_attribute place = record { adr = place; gr_entries = []; z_entries = [] }

new_rows : (b : List ℕ) (place scope num : ℕ) (name : List ℕ) → IsNewAdr b place scope num name → name_in b place adr_name ≡ name → (length name == 0) ≡ false → 1 ≤ scope → scope ≤ 4 → Hold (attribute_shape_rows b (bare_attribute place))
new_rows b place scope num name new named some low high = (
  ap (λ (x : List ℕ). not (length x == 0)) named ∙ ap not some,
  (ap (λ (x : ℕ). nat_le 1 x && nat_le x 4) new.scope_is ∙ and_from _ _ (of_le 1 scope low) (of_le scope 4 high), (eq-eqb _ _ new.gr_count, (eq-eqb _ _ new.z_count, tt))),
)

scope_back : (x : Scope) → scope_of (scope_code x) ≡ x
scope_back Global = refl
scope_back Variable = refl
scope_back GlobalAssumed = refl
scope_back VariableAssumed = refl

low_code : (x : Scope) → 1 ≤ scope_code x
low_code Global = omega arith
low_code Variable = omega arith
low_code GlobalAssumed = omega arith
low_code VariableAssumed = omega arith

high_code : (x : Scope) → scope_code x ≤ 4
high_code Global = omega arith
high_code Variable = omega arith
high_code GlobalAssumed = omega arith
high_code VariableAssumed = omega arith

small_code : (x : Scope) → scope_code x < 2 ^ 32
small_code x = let h = high_code x in omega arith

-- ---- the record is taken, written, linked and counted

module _ {b now : List ℕ} {place : ℕ} (name : List ℕ) (scope : Scope) (image : Good b) (short : length name ≤ 256) (no_zero : All (λ (byte : ℕ). byte ≢ 0) name) (few : length (adrs (shape b)) < 2 ^ 32) (added : Added b now Attrs (adr_body (scope_code scope) (length (adrs (shape b))) name) place) where
  abbrev s : Shape
  s = shape b

  abbrev num : ℕ
  num = length (adrs s)

  abbrev code : ℕ
  code = scope_code scope

  good : IsGoodByShape b s
  good = good_by_its_shape b image

  sound : IsSound b s
  sound = good_is_sound b image

  h : HasShape b s
  h = sound.has_shape

  abbrev j : IsJoined b now adr_type 324 (adr_body code num name) place (adding_marks b Attrs place)
  j = record { filled = added.filled; placed = added.placed; typed = (body_made code num name short).0; wide = omega (arith, length-body code num name short); later = added.linked; long = added.as_long; lately = refl }

  abbrev records : List ℕ
  records = (shape added.filled).records

  abbrev list : List ℕ
  list = (shape added.filled).unused

  chain : IsChain now records adr_type (number now s.gdr gdr_adr_head) (adrs s ++ place ∷ [])
  chain = subst (λ (g : ℕ). IsChain now records adr_type (number now g gdr_adr_head) (adrs s ++ place ∷ [])) h.gdr_is (subst (λ (ms : List ℕ). IsChain now records adr_type (number now (gdr_offset b) gdr_adr_head) (ms ++ place ∷ [])) (attribute_members b s h) added.chain)

  abbrev marks : List Mark
  marks = making_marks s.unused place 324 (adding_marks b Attrs place)

  e : Edit b now s.records records marks (place ∷ [])
  e = edit sound j

  there : AreThere b s.records s.attributes
  there = record { linked = adrs_linked b s sound; have = h.entry_chains; fit = sound.attributes_fit }

  abbrev attributes' : List AttributeShape
  attributes' = s.attributes ++ bare_attribute place ∷ []

  abbrev made : Shape
  made = spliced s records list attributes'

  -- ---- the new ADR

  new : IsNewAdr now place code num name
  new =
      let lies = tile_lies added.filled 8 (length added.filled) records place (filled_sound sound (fills sound j)).has_shape.tiled (new_in sound j) in
      adr_written code num name short added.placed (small_code scope) (omega arith) (new_part sound j 20 324 refl (omega arith))
      (subst (λ (n : ℕ). place + n ≤ length added.filled) (filled_size sound (fills sound j)) lies.high) (omega (arith, added.as_long))

  name_now : name_in now place adr_name ≡ name
  name_now = ap (before_first (λ (x : ℕ). x == 0)) new.filled ∙ before_zeros name (256 - length name) no_zero

  no_chain : (type link : ℕ) → link ≡ 0 → IsChain now records type link []
  no_chain type link none = record { leads = none; linkable = λ m i. absurd i; once = tt }

  adrs_are : adrs made ≡ adrs s ++ place ∷ []
  adrs_are = map-append (λ (a : AttributeShape). a.adr) s.attributes (bare_attribute place ∷ [])

  live : Each (AttributeLives b now) s.attributes
  live = lives_clear sound e s.attributes there refl

  splices : Splices b now s records list marks (place ∷ []) s.attributes [] (bare_attribute place ∷ []) []
  splices = record {
    edit = e;
    was = sym (append-nil s.attributes);
    file_clear = refl;
    variables_clear = refl;
    before_remain = all_remain sound e (file_same sound e refl) s.attributes there live;
    after_remain = tt;
    typed = new_typed sound j;
    attribute_chain = subst (IsChain now records adr_type (number now s.gdr gdr_adr_head)) (sym adrs_are) chain;
    unused_chain = unused_chain sound j;
    own_entries = (record { gr_chain = no_chain agr_edr_type _ new.no_gr; z_chain = no_chain az_edr_type _ new.no_z }, tt);
  }

  pub now_is : shape now ≡ made
  now_is = shape_is now made (shape_now sound splices)

  pub content_is_made : content now ≡ with_last (content b) (new_attribute name scope)
  content_is_made =
      let name_is = name_now in
      let scope_is : scope_of (number now place adr_scope) ≡ scope = ap scope_of new.scope_is ∙ scope_back scope in
      let here : attribute_of now (bare_attribute place) ≡ new_attribute name scope = λ i. record { name = name_is i; scope = scope_is i; g = []; z = [] } in
      let old : map (attribute_of b) s.attributes ≡ (content b).attributes = sym (ap (λ (d : DataSet). d.attributes) (content_is b s h)) in
      content_now sound splices ∙ (λ i. record (content b) { attributes = old i ++ here i ∷ [] })

  -- ---- the rules

  count_now : number now s.gdr gdr_num_attr ≡ num + 1
  count_now = ap (λ (g : ℕ). number now g gdr_num_attr) (sym h.gdr_is) ∙ added.counted ∙ ap (λ (n : ℕ). n + 1) (counted_is b image)

  owners : (m : ℕ) → used_times made m + 0 ≡ used_times s m + times m (place ∷ [])
  owners m = spliced_times s records list s.attributes [] (bare_attribute place ∷ []) [] (sym (append-nil s.attributes)) m (times m (place ∷ [])) 0 (swap (times m (place ∷ [])))
    where
      swap : (n : ℕ) → n + 0 ≡ 0 + n
      swap n = omega arith

  beside : (m : ℕ) → (In m (place ∷ []) → ⊥) → used_times made m ≡ used_times s m
  beside m out =
      let other : eqb m place ≡ false = elim (either (eqb m place)) [ inl q ↦ absurd (out (inl (eqb-true m place q))) | inr q ↦ q ] in
      same (used_times made m) (used_times s m) (times m (place ∷ [])) (owners m) (rw other refl)
    where
      same : (x y n : ℕ) → x + 0 ≡ y + n → n ≡ 0 → x ≡ y
      same x y n p q = omega arith

  own_rules : (length name == 0) ≡ false → stands_in name (names_at b adr_name (adrs s)) ≡ false → OwnRules sound splices
  own_rules some absent =
      let same_file = file sound splices in
      let c = Hold-split (adrs_rows b (adrs s) ++ r_vdrs_rows b (vdrs s.r_variables)) (z_vdrs_rows b (vdrs s.z_variables)) good.counting in
      let d = (Hold-split (adrs_rows b (adrs s)) (r_vdrs_rows b (vdrs s.r_variables)) c.0).0 in
      let p = Hold-split (flat_map (attribute_shape_rows b) s.attributes) (differ_rows 2 (same_name b adr_name) [] (adrs s)) good.attributes in
      let counted = ap (λ (g : ℕ). number now g gdr_num_attr) (gdr_place sound e refl) ∙ count_now ∙ sym (length-append (adrs s) (place ∷ [])) in
      let nums = subst Hold (sym (number_rows_kept 4 b now adr_num 0 (adrs s) (nums_stay sound e same_file s.attributes there live))) d.1 in
      let numbered = number_rows-push 4 now adr_num 0 (adrs s) place (new.num_is ∙ zero_first (length (adrs s))) nums in
      let names = remaining_names b now records s.attributes splices.before_remain in
      let all : names_at b adr_name (adrs s) ++ name ∷ [] ≡ names_at now adr_name (adrs s ++ place ∷ []) = (λ i. sym names i ++ sym name_now i ∷ []) ∙ sym (map-append (λ (m : ℕ). name_in now m adr_name) (adrs s) (place ∷ [])) in
      record {
        counted = subst (λ (ms : List ℕ). Hold (adrs_rows now ms)) (sym adrs_are) (eq-eqb _ _ counted, numbered);
        own_rules = Hold-append (attribute_shape_rows now (bare_attribute place)) [] (new_rows now place code num name new name_now some (low_code scope) (high_code scope)) tt;
        differ = subst (λ (ms : List ℕ). Hold (differ_rows 2 (same_name now adr_name) [] ms)) (sym adrs_are) (differ_by_names 2 now adr_name (adrs s ++ place ∷ []) (subst (AreNew []) all (new_pushed [] (names_at b adr_name (adrs s)) name (names_differ 2 b adr_name (adrs s) p.1) absent)));
        owned = owned_once_if b now s made marks (place ∷ []) sound good.owned_once e beside (λ m i. inl (new_once sound j made 0 (owners place) refl m i));
      }
    where
      zero_first : (n : ℕ) → n ≡ 0 + n
      zero_first n = omega arith

  -- ---- what stays

  abbrev c : Command
  c = Attr name scope

  abbrev may : Allowances
  may = attr_changes b

  abbrev acts : List Act
  acts = Took place 324 ∷ []

  records_are : (shape now).records ≡ records
  records_are = ap (λ (x : Shape). x.records) now_is

  keep_attributes : (n : ℕ) (as_ : List AttributeShape) → AreThere b s.records as_ → AllKeep b now may acts (owned_by_attributes n as_)
  keep_attributes n [] t = tt
  keep_attributes n (a ∷ more) t =
      AllKeep-append b now may acts (owned_by (OneAttribute n) (attribute_records a)) (owned_by_attributes (suc n) more)
      (keep_places b now may acts (OneAttribute n) (attribute_records a) (λ m i. elim i [ inl q ↦ subst (λ (x : ℕ). Keeps b now x (only_of b x adr_type (next_field ∷ []))) (sym q) adr | inr j ↦ of_entry m j ])) (keep_attributes (suc n) more (more_there b s.records a more t))
    where
      adr : Keeps b now a.adr (only_of b a.adr adr_type (next_field ∷ []))
      adr =
          let is = linkable-type b s.records adr_type a.adr t.linked.0 in
          subst (λ (p : Bool). Keeps b now a.adr (if p then Only (next_field ∷ []) else Only [])) (sym (eq-eqb _ _ is)) (keeps_fields sound e records_are a.adr adr_type (next_field ∷ []) (linkable-in b s.records adr_type a.adr t.linked.0) is refl refl)

      of_entry : (m : ℕ) → In m (a.gr_entries ++ a.z_entries) → Keeps b now m (only_of b m adr_type (next_field ∷ []))
      of_entry m j =
          let x = entry sound e a t.have.0 m j in
          keeps_away sound e records_are m (type_at b m) _ x.0 refl (all_unmarked-away marks (agr_edr_type ∷ az_edr_type ∷ []) (type_at b m) m refl x.1)

  keeps : AllKeep b now may acts (owned b s)
  keeps =
      keep_attributes_alone sound e records_are may acts attributes_gdr_fields refl refl refl refl (variables_kept sound splices) (keep_attributes 0 s.attributes there)
      (unused_kept sound j records_are may)

  -- ---- what it makes

  makes : MakesAttribute b now name acts
  makes = record {
    made = bare_attribute place;
    made_last = subst (λ (x : Shape). slice_get x.attributes (length s.attributes) ≡ Some (bare_attribute place)) (sym now_is) (got-middle s.attributes (bare_attribute place) []);
    acts_are = refl;
    says = new.says;
    named = new.filled;
  }

  pub follows : is_bad_name name ≡ false → is_among name (attribute_names (content b)) ≡ false → length b + 324 ≤ image_limit → Follows b c now
  follows well_named free limited =
      let rules = own_rules (fine_is_some name well_named) (ap (is_among name) (sym (attribute_names_are b s h)) ∙ free) in
      let within = longest sound j in
      record {
        reply = Plain;
        goes = rw (well_named, free) (ap (λ (d : DataSet). ByStep (Go d Plain)) (sym content_is_made));
        good = good_image_if sound splices (sealed_kept b (good_long b s good) (rules_of_good b image)).0 good rules (ends sound j) (omega arith);
        longer = e.longer;
        within = within;
        reads = λ q. absurd cc;
        acts = acts;
        takes_within = omega arith;
        acts_follow = acts_then sound j records_are (ap (λ (x : Shape). x.unused) now_is);
        keeps = keeps;
        does = makes;
      }

  pub names_now : attribute_names (content now) ≡ attribute_names (content b) ++ name ∷ []
  names_now = ap attribute_names content_is_made ∙ map-append (λ (a : Attribute). a.name) (content b).attributes _

  pub places_now : adrs (shape now) ≡ adrs s ++ place ∷ []
  places_now = ap adrs now_is ∙ adrs_are
