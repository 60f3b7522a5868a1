-- A change that leaves the used records, and of the GDR all but eof and UIRhead, leaves a sound image sound with the records and the unused list that it now has.
use Rattle.cdf_edits.proofs.Common.{AreTiles, AttributeFits, AttributeShape, AttributeStays, Each, Field, FileStays, HasEntries, HasShape, HasVariable, In, In-append_left, In-append_right, IsChain, IsSound, Leaf, List, NodeFits, Same, Same-part, Shape, VariableFits, VariableShape, VariableStays, [], adr_agr_edr_head, adr_az_edr_head, adr_type, adrs, agr_edr_type, ap, arith, attribute_records, attributes_in, az_edr_type, cases_eq, cast_signed, cdr_encoding, cdr_flags, cdr_gdr_offset, cdr_increment, cdr_release, cdr_type, content, content_is, counted, cpr_of, either, encoding, eq-eqb, eqb, eqb-true, false-is_in, fixed_size, flat_map, gdr_adr_head, gdr_offset, gdr_r_vdr_head, gdr_type, gdr_uir_head, gdr_z_vdr_head, if◌then◌else◌, inl, inr, integer_kept, is_a-in, is_a-type, is_in, is_linkable, is_record_type, leaves_of, length, linkable-in, linkable-long, linkable-type, map, next_kept, nodes_of, number, number_kept, owned_records, r_num_dims, r_sizes, r_vdr_type, refl, size_at, subst, sym, tile_lies, tiles_distinct, times, times-none, times-once, true, true-is_in, type_at, uir_type, unused_records, variable_records, variables, vdr_vxr_head, vdrs, w32, with_space, word_kept, words, words_kept, z_vdr_type, ℕ, ◌*◌, ◌++◌, ◌+◌, ◌∙◌, ◌∷◌, ◌≡◌, ◌≢◌, ◌≤◌}
use Rattle.cdf_edits.proofs.Frame.Meaning.{FileSame, Kept, but_link, attribute_kept}
use Rattle.cdf_edits.proofs.Frame.VdrCopied.{cpr_link_copied, index_link_copied}
use Rattle.cdf_edits.proofs.Frame.VdrKept.{vdr_kept, variable_kept, compressed_same}
use Rattle.cdf_edits.proofs.Frame.LinksStay.{SameHeads, chain_kept, index_kept}
use Rattle.cdf_edits.proofs.Frame.OwnerAlone.{Each-in, little_code}
use Rattle.cdf_edits.proofs.Frame.OwnersApart.{file_records, all_attribute_records, all_variable_records, owned-times, adrs_linked, vdrs_stand, unused_from_file, unused_from_attributes, unused_from_variables, file_in, file_from_attributes, file_from_variables}
use Rattle.cdf_edits.proofs.Frame.SoundStays.{attributes_fit_kept, variables_fit_kept}
use Rattle.cdf_edits.proofs.Frame.FileSound.{variables_stand}
use Rattle.cdf_edits.proofs.Frame.SameShape.{has_entries, has_variables, content_by, is_a_kept}
use Rattle.cdf_edits.proofs.Space.UsedRecords.{in-filter, filter-says, filter-distinct, apart, used, used_but, used-in, used-type, used-stays, in-used, is_a_used, chain_used, variable_used, fits_used}

-- what such a change leaves, and what it makes; some records of no owner may be gone
pub record StaysBut (b now : List ℕ) (s : Shape) (records unused gone : List ℕ) : Type 0 where
  pub longer : length b ≤ length now
  pub kept : (m : ℕ) → In m s.records → type_at b m ≢ uir_type → m ≢ s.gdr → (In m gone → ⊥) → Same b now m (m + size_at b m)
  pub gdr_front : Same b now s.gdr (s.gdr + 36)
  pub gdr_middle : Same b now (s.gdr + 44) (s.gdr + 64)
  pub gdr_back : Same b now (s.gdr + 72) (s.gdr + size_at b s.gdr)
  pub sub : (m : ℕ) → In m (used_but b gone s.records) → In m records
  pub tiled : AreTiles now 8 (length now) records
  pub typed : (m : ℕ) → In m records → is_record_type (type_at now m) ≡ true
  pub fixed : (m : ℕ) → In m records → fixed_size (type_at now m) ≤ size_at now m
  pub unused_chain : IsChain now records uir_type (number now s.gdr gdr_uir_head) unused
  pub from_file : (m : ℕ) → In m (file_records s) → In m gone → ⊥
  pub from_attributes : (m : ℕ) → In m (all_attribute_records s) → In m gone → ⊥
  pub from_variables : (m : ℕ) → In m (all_variable_records s) → In m gone → ⊥

module _ (b now : List ℕ) (s : Shape) (records unused gone : List ℕ) (sound : IsSound b s) (stay : StaysBut b now s records unused gone) where
  h : HasShape b s
  h = sound.has_shape

  abbrev pub s' : Shape
  s' = with_space s records unused

  -- ---- the records that are used

  cdr_in : In 8 s.records
  cdr_in = is_a-in b s.records cdr_type 8 h.cdr_stands

  cdr_long : 312 ≤ size_at b 8
  cdr_long = subst (λ (t : ℕ). fixed_size t ≤ size_at b 8) (is_a-type b s.records cdr_type 8 h.cdr_stands) (h.fixed 8 cdr_in)

  start_same : (m : ℕ) → In m (used_but b gone s.records) → Same b now m (m + 12)
  start_same m i = elim (cases_eq m s.gdr) [
    | inl e ↦ subst (λ (g : ℕ). Same b now g (g + 12)) (sym e) (Same-part b now s.gdr (s.gdr + 36) s.gdr (s.gdr + 12) stay.gdr_front (omega arith) (omega arith))
    | inr ne ↦
        let j = used-in b gone s.records m i in
        let l = (tile_lies b 8 (length b) s.records m h.tiled j).long in
        Same-part b now m (m + size_at b m) m (m + 12) (stay.kept m j (used-type b gone s.records m i) ne (used-stays b gone s.records m i)) (omega arith) (omega arith)
  ]

  pub same : SameHeads b now (used_but b gone s.records) records
  same = record {
    sizes = λ m i. word_kept b now m (m + 12) (start_same m i) (m + 0) 8 (omega arith) (omega arith);
    types = λ m i. word_kept b now m (m + 12) (start_same m i) (m + 8) 4 (omega arith) (omega arith);
    sub = stay.sub;
  }

  used_by : (m : ℕ) → In m s.records → (In m (unused_records b s) → ⊥) → type_at b m ≢ uir_type
  used_by m i out e = out (in-filter (λ (p : ℕ). eqb (type_at b p) uir_type) s.records m i (eq-eqb _ _ e))

  keep : (m : ℕ) → In m s.records → (In m (unused_records b s) → ⊥) → (In m (file_records s) → ⊥) → (In m gone → ⊥) → Kept b now m
  keep m i out apart_file stays = let l = tile_lies b 8 (length b) s.records m h.tiled i in record {
    same = stay.kept m i (used_by m i out) (λ e. apart_file (inr (inl e))) stays;
    inside = l.high;
    long = l.long;
  }

  attribute_in : (m : ℕ) → In m (all_attribute_records s) → In m s.records
  attribute_in = attributes_in b s.records s.attributes h.entry_chains (λ m i. linkable-in b s.records adr_type m (h.attribute_chain.linkable m i))

  variable_in : (m : ℕ) → In m (all_variable_records s) → In m s.records
  variable_in = variables_stand b s.records (variables s) (vdrs_stand b s sound) h.have_variables sound.variables_fit

  attributes_keep : (m : ℕ) → In m (all_attribute_records s) → Kept b now m
  attributes_keep m i = keep m (attribute_in m i) (unused_from_attributes b s sound m i) (file_from_attributes b s sound m i) (stay.from_attributes m i)

  variables_keep : (m : ℕ) → In m (all_variable_records s) → Kept b now m
  variables_keep m i = keep m (variable_in m i) (unused_from_variables b s sound m i) (file_from_variables b s sound m i) (stay.from_variables m i)

  variables_used : (m : ℕ) → In m (all_variable_records s) → In m (used_but b gone s.records)
  variables_used m i = in-used b gone s.records m (variable_in m i) (used_by m (variable_in m i) (unused_from_variables b s sound m i)) (stay.from_variables m i)

  -- ---- what the CDR and the GDR say

  cdr_kept : Kept b now 8
  cdr_kept =
      let l = tile_lies b 8 (length b) s.records 8 h.tiled cdr_in in
      record { same = stay.kept 8 cdr_in (used_by 8 cdr_in (unused_from_file b s sound 8 (inl refl))) not_gdr (stay.from_file 8 (inl refl)); inside = l.high; long = l.long }
    where
      not_gdr : 8 ≢ s.gdr
      not_gdr e = apart cdr_type gdr_type refl (sym (is_a-type b s.records cdr_type 8 h.cdr_stands) ∙ ap (type_at b) e ∙ is_a-type b s.records gdr_type s.gdr h.gdr_stands)

  offset_same : gdr_offset now ≡ gdr_offset b
  offset_same = number_kept b now 8 cdr_kept.same cdr_gdr_offset (let l = cdr_long in omega arith)

  encoding_same : encoding now ≡ encoding b
  encoding_same = number_kept b now 8 cdr_kept.same cdr_encoding (let l = cdr_long in omega arith)

  dimensions_same : r_num_dims now s.gdr ≡ r_num_dims b s.gdr
  dimensions_same = ap (λ (n : ℕ). counted (cast_signed w32 n)) (word_kept b now (s.gdr + 44) (s.gdr + 64) stay.gdr_middle (s.gdr + 56) 4 (omega arith) (omega arith))

  sizes_same : r_sizes now s.gdr ≡ r_sizes b s.gdr
  sizes_same = ap (words now (s.gdr + 84)) dimensions_same ∙ words_kept b now (s.gdr + 72) (s.gdr + size_at b s.gdr) stay.gdr_back (s.gdr + 84) (r_num_dims b s.gdr) (omega arith) (inside s.gdr (r_num_dims b s.gdr) (size_at b s.gdr) sound.gdr_fits)
    where
      inside : (g d n : ℕ) → 84 + 4 * d ≤ n → g + 84 + 4 * d ≤ g + n
      inside g d n r = omega arith

  file : FileSame b now
  file = record {
    longer = stay.longer;
    gdr_is = offset_same;
    little = ap little_code encoding_same;
    dimensions = ap (r_num_dims now) (offset_same ∙ h.gdr_is) ∙ dimensions_same ∙ sym (ap (r_num_dims b) h.gdr_is);
    sizes = ap (r_sizes now) (offset_same ∙ h.gdr_is) ∙ sizes_same ∙ sym (ap (r_sizes b) h.gdr_is);
  }

  pub file_stays : FileStays b now s
  file_stays = record {
    release_is = integer_kept b now 8 cdr_kept.same cdr_release (let l = cdr_long in omega arith);
    increment_is = integer_kept b now 8 cdr_kept.same cdr_increment (let l = cdr_long in omega arith);
    encoding_is = encoding_same;
    flags_are = number_kept b now 8 cdr_kept.same cdr_flags (let l = cdr_long in omega arith);
    sizes_are = sizes_same;
  }

  head_same : (f : Field) → f.place + f.width ≤ 36 → number now s.gdr f ≡ number b s.gdr f
  head_same f fits = word_kept b now s.gdr (s.gdr + 36) stay.gdr_front (s.gdr + f.place) f.width (omega arith) (within s.gdr f.place f.width fits)
    where
      within : (g p w : ℕ) → p + w ≤ 36 → g + p + w ≤ g + 36
      within g p w le = omega arith

  -- ---- chains, attributes and variables

  chain_stays : (type link link' : ℕ) (ms : List ℕ) → type ≢ uir_type → type ≢ gdr_type → ((m : ℕ) → In m ms → In m gone → ⊥) → IsChain b s.records type link ms → link' ≡ link → IsChain now records type link' ms
  chain_stays type link link' ms used_type no_gdr out c e = chain_kept b now (used_but b gone s.records) records same type link link' ms (chain_used b gone s.records type link ms used_type out c) e (λ m i.
      let ok = c.linkable m i in
      let j = linkable-in b s.records type m ok in
      let t = linkable-type b s.records type m ok in
      let l = linkable-long b s.records type m ok in
      next_kept b now m (stay.kept m j (λ u. used_type (sym t ∙ u)) (λ g. no_gdr (sym t ∙ ap (type_at b) g ∙ is_a-type b s.records gdr_type s.gdr h.gdr_stands)) (out m i)) (omega arith))

  attribute_stays : (a : AttributeShape) → is_linkable b s.records adr_type a.adr ≡ true → HasEntries b s.records a → AttributeFits b a → ((m : ℕ) → In m (attribute_records a) → Kept b now m) → ((m : ℕ) → In m (attribute_records a) → In m gone → ⊥) → AttributeStays b now records a
  attribute_stays a ok has fits k out =
      let tile = linkable-in b s.records adr_type a.adr ok in
      let long : 324 ≤ size_at b a.adr = subst (λ (t : ℕ). fixed_size t ≤ size_at b a.adr) (linkable-type b s.records adr_type a.adr ok) (h.fixed a.adr tile) in
      let adr = k a.adr (inl refl) in (
        record {
          gr_chain = chain_stays agr_edr_type _ _ a.gr_entries (apart agr_edr_type uir_type refl) (apart agr_edr_type gdr_type refl) (λ m i. out m (inr (In-append_left m a.gr_entries a.z_entries i))) has.gr_chain (number_kept b now a.adr adr.same adr_agr_edr_head (omega arith));
          z_chain = chain_stays az_edr_type _ _ a.z_entries (apart az_edr_type uir_type refl) (apart az_edr_type gdr_type refl) (λ m i. out m (inr (In-append_right m a.gr_entries a.z_entries i))) has.z_chain (number_kept b now a.adr adr.same adr_az_edr_head (omega arith));
        },
        attribute_kept b now file a adr long (λ m i. k m (inr (In-append_left m a.gr_entries a.z_entries i))) (λ m i. k m (inr (In-append_right m a.gr_entries a.z_entries i))) fits,
      )

  attributes_stay : (as_ : List AttributeShape) → Each (λ (a : AttributeShape). is_linkable b s.records adr_type a.adr ≡ true) as_ → Each (HasEntries b s.records) as_ → Each (AttributeFits b) as_ → ((m : ℕ) → In m (flat_map attribute_records as_) → Kept b now m) → ((m : ℕ) → In m (flat_map attribute_records as_) → In m gone → ⊥) → Each (AttributeStays b now records) as_
  attributes_stay [] ok has fits k out = tt
  attributes_stay (a ∷ more) ok has fits k out = (
    attribute_stays a ok.0 has.0 fits.0 (λ m i. k m (In-append_left m (attribute_records a) (flat_map attribute_records more) i)) (λ m i. out m (In-append_left m (attribute_records a) (flat_map attribute_records more) i)),
    attributes_stay more ok.1 has.1 fits.1 (λ m i. k m (In-append_right m (attribute_records a) (flat_map attribute_records more) i)) (λ m i. out m (In-append_right m (attribute_records a) (flat_map attribute_records more) i)),
  )

  variable_stays : (v : VariableShape) → HasVariable b s.records v → VariableFits b s.records v → ((m : ℕ) → In m (variable_records v) → Kept b now m) → ((m : ℕ) → In m (variable_records v) → In m (used_but b gone s.records)) → VariableStays b now records v
  variable_stays v has fits k in_use =
      let nodes = nodes_of v.index in
      let blocks = map (λ (leaf : Leaf). leaf.place) (leaves_of v.index) in
      let vdr = k v.vdr (inl refl) in
      let as_block : (m : ℕ) → In m blocks → In m (variable_records v) = λ m i. inr (In-append_left m (nodes ++ blocks) v.cpr (In-append_right m nodes blocks i)) in
      let compressed = compressed_same b now file v.vdr (but_link b now v.vdr vdr) fits.0 in
      let link = cpr_link_copied file (vdr_kept b now file v.vdr (but_link b now v.vdr vdr) fits.0) in
      let cpr : cpr_of now v.vdr ≡ cpr_of b v.vdr = λ i. if compressed i then link i ∷ [] else [] in (
        record {
          indexed = index_kept b now (used_but b gone s.records) records same (number b v.vdr vdr_vxr_head) (number now v.vdr vdr_vxr_head) v.index (variable_used b gone s.records v (λ m i. used-stays b gone s.records m (in_use m i)) has).indexed (index_link_copied file (vdr_kept b now file v.vdr (but_link b now v.vdr vdr) fits.0))
              (λ m i. k m (inr (In-append_left m (nodes ++ blocks) v.cpr (In-append_left m nodes blocks i)))) (Each-in (NodeFits b) nodes fits.1) (λ m i. in_use m (as_block m i));
          packed_by = cpr ∙ has.packed_by;
        },
        variable_kept b now file v (but_link b now v.vdr vdr) fits.0 s.records (λ m i. k m (as_block m i)) fits.2,
      )

  variables_stay : (vs : List VariableShape) → Each (HasVariable b s.records) vs → Each (VariableFits b s.records) vs → ((m : ℕ) → In m (flat_map variable_records vs) → Kept b now m) → ((m : ℕ) → In m (flat_map variable_records vs) → In m (used_but b gone s.records)) → Each (VariableStays b now records) vs
  variables_stay [] has fits k in_use = tt
  variables_stay (v ∷ more) has fits k in_use = (
    variable_stays v has.0 fits.0 (λ m i. k m (In-append_left m (variable_records v) (flat_map variable_records more) i)) (λ m i. in_use m (In-append_left m (variable_records v) (flat_map variable_records more) i)),
    variables_stay more has.1 fits.1 (λ m i. k m (In-append_right m (variable_records v) (flat_map variable_records more) i)) (λ m i. in_use m (In-append_right m (variable_records v) (flat_map variable_records more) i)),
  )

  fits_of_used : (vs : List VariableShape) → Each (VariableFits b s.records) vs → ((m : ℕ) → In m (flat_map variable_records vs) → In m gone → ⊥) → Each (VariableFits b (used_but b gone s.records)) vs
  fits_of_used [] fits out = tt
  fits_of_used (v ∷ more) fits out = (
    fits_used b gone s.records v (λ m i. out m (In-append_left m (variable_records v) (flat_map variable_records more) i)) fits.0,
    fits_of_used more fits.1 (λ m i. out m (In-append_right m (variable_records v) (flat_map variable_records more) i)),
  )

  each_attribute : Each (AttributeStays b now records) s.attributes
  each_attribute = attributes_stay s.attributes (adrs_linked b s sound) h.entry_chains sound.attributes_fit attributes_keep stay.from_attributes

  each_variable : Each (VariableStays b now records) (variables s)
  each_variable = variables_stay (variables s) h.have_variables sound.variables_fit variables_keep variables_used

  -- ---- no record is owned twice

  owned_used : (m : ℕ) → In m s.records → (In m (unused_records b s) → ⊥) → (In m gone → ⊥) → In m (unused_records now s') → ⊥
  owned_used m i out stays j =
      let u = used_by m i out in
      u (sym (same.types m (in-used b gone s.records m i u stays)) ∙ eqb-true _ _ (filter-says (λ (p : ℕ). eqb (type_at now p) uir_type) records m j))

  no_more : (f a v u u' : ℕ) → f + (a + (v + u)) ≤ 1 → u' ≡ 0 → f + (a + (v + u')) ≤ 1
  no_more f a v u u' l e = omega arith

  only_unused : (f a v u' : ℕ) → f ≡ 0 → a ≡ 0 → v ≡ 0 → u' ≡ 1 → f + (a + (v + u')) ≤ 1
  only_unused f a v u' p q r e = omega arith

  once : (m : ℕ) → times m (owned_records now s') ≤ 1
  once m =
      let us = unused_records now s' in
      let before = subst (λ (n : ℕ). n ≤ 1) (owned-times b s m) (sound.not_twice m) in
      subst (λ (n : ℕ). n ≤ 1) (sym (owned-times now s' m)) (elim (either (is_in m us)) [
        | inr e ↦ no_more _ _ _ _ (times m us) before (times-none m us (false-is_in m us e))
        | inl e ↦
            let i = true-is_in m us e in
            only_unused _ _ _ (times m us)
            (times-none m (file_records s) (λ j. owned_used m (file_in b s sound m j) (unused_from_file b s sound m j) (stay.from_file m j) i))
            (times-none m (all_attribute_records s) (λ j. owned_used m (attribute_in m j) (unused_from_attributes b s sound m j) (stay.from_attributes m j) i))
            (times-none m (all_variable_records s) (λ j. owned_used m (variable_in m j) (unused_from_variables b s sound m j) (stay.from_variables m j) i))
            (times-once m us (filter-distinct (λ (p : ℕ). eqb (type_at now p) uir_type) records (tiles_distinct now 8 (length now) records stay.tiled)) i)
      ])

  -- ---- the whole

  adr_stays : (m : ℕ) (as_ : List AttributeShape) → ((n : ℕ) → In n (flat_map attribute_records as_) → In n gone → ⊥) → In m (map (λ (a : AttributeShape). a.adr) as_) → In m gone → ⊥
  adr_stays m [] out i = absurd i
  adr_stays m (a ∷ more) out i = elim i [
    | inl e ↦ out m (inl e)
    | inr j ↦ adr_stays m more (λ n k. out n (In-append_right n (attribute_records a) (flat_map attribute_records more) k)) j
  ]

  vdr_stays : (m : ℕ) (vs : List VariableShape) → ((n : ℕ) → In n (flat_map variable_records vs) → In n gone → ⊥) → In m (vdrs vs) → In m gone → ⊥
  vdr_stays m [] out i = absurd i
  vdr_stays m (v ∷ more) out i = elim i [
    | inl e ↦ out m (inl e)
    | inr j ↦ vdr_stays m more (λ n k. out n (In-append_right n (variable_records v) (flat_map variable_records more) k)) j
  ]

  vdr_left : (m : ℕ) (vs ws : List VariableShape) → In m (vdrs vs) → In m (vdrs (vs ++ ws))
  vdr_left m [] ws i = absurd i
  vdr_left m (v ∷ vs) ws i = elim i [ inl e ↦ inl e | inr j ↦ inr (vdr_left m vs ws j) ]

  vdr_right : (m : ℕ) (vs ws : List VariableShape) → In m (vdrs ws) → In m (vdrs (vs ++ ws))
  vdr_right m [] ws i = i
  vdr_right m (v ∷ vs) ws i = inr (vdr_right m vs ws i)

  shape_kept : HasShape now s'
  shape_kept = record {
    tiled = stay.tiled;
    typed = stay.typed;
    fixed = stay.fixed;
    cdr_stands = is_a_kept b now (used_but b gone s.records) records cdr_type 8 same (is_a_used b gone s.records cdr_type 8 (apart cdr_type uir_type refl) (stay.from_file 8 (inl refl)) ∙ h.cdr_stands);
    gdr_is = offset_same ∙ h.gdr_is;
    gdr_stands = is_a_kept b now (used_but b gone s.records) records gdr_type s.gdr same (is_a_used b gone s.records gdr_type s.gdr (apart gdr_type uir_type refl) (stay.from_file s.gdr (inr (inl refl))) ∙ h.gdr_stands);
    attribute_chain = chain_stays adr_type _ _ (adrs s) (apart adr_type uir_type refl) (apart adr_type gdr_type refl) (λ m i. adr_stays m s.attributes stay.from_attributes i) h.attribute_chain (head_same gdr_adr_head (omega arith));
    r_chain = chain_stays r_vdr_type _ _ (vdrs s.r_variables) (apart r_vdr_type uir_type refl) (apart r_vdr_type gdr_type refl) (λ m i. vdr_stays m (variables s) stay.from_variables (vdr_left m s.r_variables s.z_variables i)) h.r_chain (head_same gdr_r_vdr_head (omega arith));
    z_chain = chain_stays z_vdr_type _ _ (vdrs s.z_variables) (apart z_vdr_type uir_type refl) (apart z_vdr_type gdr_type refl) (λ m i. vdr_stays m (variables s) stay.from_variables (vdr_right m s.r_variables s.z_variables i)) h.z_chain (head_same gdr_z_vdr_head (omega arith));
    unused_chain = stay.unused_chain;
    entry_chains = has_entries b now records s.attributes each_attribute;
    have_variables = has_variables b now records (variables s) each_variable;
  }

  gdr_room : 84 + 4 * r_num_dims now s.gdr ≤ size_at now s.gdr
  gdr_room =
      let size = word_kept b now s.gdr (s.gdr + 36) stay.gdr_front (s.gdr + 0) 8 (omega arith) (omega arith) in
      subst (λ (x : ℕ). 84 + 4 * r_num_dims now s.gdr ≤ x) (sym size) (subst (λ (x : ℕ). 84 + 4 * x ≤ size_at b s.gdr) (sym dimensions_same) sound.gdr_fits)

  pub stay_sound : IsSound now s' × (content now ≡ content b)
  stay_sound = (
    record {
      has_shape = shape_kept;
      gdr_fits = gdr_room;
      attributes_fit = attributes_fit_kept b now (used_but b gone s.records) records file same s.attributes attributes_keep sound.attributes_fit;
      variables_fit = variables_fit_kept b now (used_but b gone s.records) records file same (variables s) variables_keep (fits_of_used (variables s) sound.variables_fit stay.from_variables);
      not_twice = once;
    },
    content_is now s' shape_kept ∙ content_by b now s records each_attribute each_variable file_stays ∙ sym (content_is b s h),
  )

-- ---- none is gone

pub record UsedStay (b now : List ℕ) (s : Shape) (records unused : List ℕ) : Type 0 where
  pub longer : length b ≤ length now
  pub kept : (m : ℕ) → In m s.records → type_at b m ≢ uir_type → m ≢ s.gdr → Same b now m (m + size_at b m)
  pub gdr_front : Same b now s.gdr (s.gdr + 36)
  pub gdr_middle : Same b now (s.gdr + 44) (s.gdr + 64)
  pub gdr_back : Same b now (s.gdr + 72) (s.gdr + size_at b s.gdr)
  pub sub : (m : ℕ) → In m (used b s.records) → In m records
  pub tiled : AreTiles now 8 (length now) records
  pub typed : (m : ℕ) → In m records → is_record_type (type_at now m) ≡ true
  pub fixed : (m : ℕ) → In m records → fixed_size (type_at now m) ≤ size_at now m
  pub unused_chain : IsChain now records uir_type (number now s.gdr gdr_uir_head) unused

pub used_stay_sound : (b now : List ℕ) (s : Shape) (records unused : List ℕ) → IsSound b s → UsedStay b now s records unused → IsSound now (with_space s records unused) × (content now ≡ content b)
used_stay_sound b now s records unused sound stay = stay_sound b now s records unused [] sound (record {
  longer = stay.longer;
  kept = λ m i other no_gdr stays. stay.kept m i other no_gdr;
  gdr_front = stay.gdr_front;
  gdr_middle = stay.gdr_middle;
  gdr_back = stay.gdr_back;
  sub = stay.sub;
  tiled = stay.tiled;
  typed = stay.typed;
  fixed = stay.fixed;
  unused_chain = stay.unused_chain;
  from_file = λ m i none. none;
  from_attributes = λ m i none. none;
  from_variables = λ m i none. none;
})
