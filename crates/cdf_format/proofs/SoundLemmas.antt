-- A good image is sound: its records are long enough for what is read of them, and none is owned twice.
use Rattle.std.proofs.Common.{◌≡◌, ℕ, ℤ, negsuc, zero, suc, ◌+◌, ◌*◌, ◌≤◌, List, [], ◌∷◌, ◌++◌, length, map, Bool, true, false, not, ◌&&◌, ◌||◌, refl, true≢false, sym, subst, ◌∙◌, arith, inl, inr}
use Rattle.cdf_format.proofs.Common.{nat_le, ◌==◌, if◌then◌else◌, flat_map, w32, cast_signed, counted, with_sign, number, size_at, type_at, r_num_dims, Field, adr_name, adr_ngr_entries, adr_nz_entries, vvr_type, cvvr_type, cpr_type, Row, row, Hold, asked, In, is_a, is_in, Nodes, no_node, node, Entries, no_entry, block, lower, Leaf, room_at, AttributeShape, VariableShape, Shape, adrs, vdrs, variables, is_compressed, cpr_of, Each, HasVariable, differ_rows, same_name, adr_rows, entries_rows, cpr_link, is_cpr, variable_rows, number_before, is_block, leaf_rows, end_of, index_rows, IsSound}
use Rattle.std.specs.Prelude.{min, is_some}
use Rattle.cdf_format.specs.Fields.{is_positive}
use Rattle.cdf_format.specs.Records.{aedr_num_elems, vxr_n_used_entries, cvvr_c_size}
use Rattle.cdf_format.specs.Index.{leaf, nodes_of, lower_nodes, leaves_of, entry_leaves}
use Rattle.cdf_format.specs.IndexOf.{HasNodes, Names}
use Rattle.cdf_format.specs.ChainRules.{count_rows}
use Rattle.cdf_format.specs.AttributeRules.{entry_bytes, has_value, entry_rows, same_number}
use Rattle.cdf_format.specs.VariableFields.{plain_size}
use Rattle.cdf_format.specs.IndexRules.{has_room, holds_packed, vvr_rows, cvvr_rows, nodes_rows, used_rows}
use Rattle.cdf_format.proofs.GoodByShape.{attribute_shape_rows, IsGoodByShape}
use Rattle.cdf_format.specs.Sound.{EntryFits, AttributeFits, NodeFits, BlockFits, LeafFits, VariableFits}
use Rattle.cdf_format.proofs.Members.{either, is_in-true, true-is_in, false-is_in}
use Rattle.cdf_format.proofs.Tests.{both, le_of}
use Rattle.cdf_format.proofs.RowLemmas.{Hold-split}
use Rattle.cdf_format.proofs.ShapeLemmas.{Each-append}
use Rattle.cdf_format.proofs.Owning.{times-none, times-once, tiles_distinct, blocks_in, block_in, same_counts}

-- ---- entries

entries_fit : (b : List ℕ) (adr : ℕ) (es : List ℕ) → Hold (flat_map (entry_rows b adr) es) → Each (EntryFits b) es
entries_fit b adr [] h = tt
entries_fit b adr (e ∷ es) h =
    let p = Hold-split (entry_rows b adr e) (flat_map (entry_rows b adr) es) h in
    let value : has_value b e ≡ true = p.0.1.1.0 in
    let q = both (is_some _ && is_positive (number b e aedr_num_elems)) (nat_le (entry_bytes b e) 67108864 && nat_le (56 + entry_bytes b e) (size_at b e)) value in
    let r = both (nat_le (entry_bytes b e) 67108864) (nat_le (56 + entry_bytes b e) (size_at b e)) q.1 in
    (le_of (56 + entry_bytes b e) (size_at b e) r.1, entries_fit b adr es p.1)

chain_entries_fit : (b : List ℕ) (adr : ℕ) (count : Field) (es : List ℕ) → Hold (entries_rows b adr count es) → Each (EntryFits b) es
chain_entries_fit b adr count es h =
    let p = Hold-split (count_rows 5 b adr count es ++ flat_map (entry_rows b adr) es) (differ_rows 7 (same_number b) [] es) h in
    entries_fit b adr es (Hold-split (count_rows 5 b adr count es) (flat_map (entry_rows b adr) es) p.0).1

attributes_fit : (b : List ℕ) (as_ : List AttributeShape) → Hold (flat_map (attribute_shape_rows b) as_) → Each (AttributeFits b) as_
attributes_fit b [] h = tt
attributes_fit b (a ∷ more) h =
    let p = Hold-split (attribute_shape_rows b a) (flat_map (attribute_shape_rows b) more) h in
    let q = Hold-split (adr_rows b a.adr ++ entries_rows b a.adr adr_ngr_entries a.gr_entries) (entries_rows b a.adr adr_nz_entries a.z_entries) p.0 in
    let r = Hold-split (adr_rows b a.adr) (entries_rows b a.adr adr_ngr_entries a.gr_entries) q.0 in
    ((chain_entries_fit b a.adr adr_ngr_entries a.gr_entries r.1, chain_entries_fit b a.adr adr_nz_entries a.z_entries q.1), attributes_fit b more p.1)

-- ---- indexes

counted_le : (n : ℕ) → counted (cast_signed w32 n) ≤ n
counted_le n = grind arith

min_le : (a b n r : ℕ) → a ≤ n → n ≤ r → min a b ≤ r
min_le a b n r p q = omega arith

node_fits : (b : List ℕ) (vxr : ℕ) → has_room b vxr ≡ true → NodeFits b vxr
node_fits b vxr e =
    let p = both (nat_le (number b vxr vxr_n_used_entries) (room_at b vxr) && nat_le (room_at b vxr) 2147483647) (nat_le (28 + 16 * room_at b vxr) (size_at b vxr)) e in
    let q = both (nat_le (number b vxr vxr_n_used_entries) (room_at b vxr)) (nat_le (room_at b vxr) 2147483647) p.0 in
    (le_of (28 + 16 * room_at b vxr) (size_at b vxr) p.1, min_le _ _ (number b vxr vxr_n_used_entries) (room_at b vxr) (counted_le (number b vxr vxr_n_used_entries)) (le_of _ _ q.0))

module _ (b records : List ℕ) where
  mutual
    unfolding nodes_rows used_rows nodes_of lower_nodes

    nodes_fit : (low high : ℤ) (nodes : Nodes) → Hold (nodes_rows b records low high nodes) → Each (NodeFits b) (nodes_of nodes)
    nodes_fit low high no_node h = tt
    nodes_fit low high (node place room entries more) h =
        let p = Hold-split (used_rows b records place low high entries) (nodes_rows b records (end_of low entries) high more) h.1 in
        (node_fits b place h.0, Each-append (NodeFits b) (lower_nodes entries) (nodes_of more) (lower_fit place low high entries p.0) (nodes_fit (end_of low entries) high more p.1))

    lower_fit : (vxr : ℕ) (low high : ℤ) (entries : Entries) → Hold (used_rows b records vxr low high entries) → Each (NodeFits b) (lower_nodes entries)
    lower_fit vxr low high no_entry h = tt
    lower_fit vxr low high (block first last place packed entries) h = lower_fit vxr (with_sign last) high entries h.1.1
    lower_fit vxr low high (lower first last nodes entries) h =
        let p = Hold-split (nodes_rows b records (number_before first) (with_sign last) nodes) (used_rows b records vxr (with_sign last) high entries) h.1 in
        Each-append (NodeFits b) (nodes_of nodes) (lower_nodes entries) (nodes_fit (number_before first) (with_sign last) nodes p.0) (lower_fit vxr (with_sign last) high entries p.1)

  abbrev pub IsPackedAs : Leaf → Type 0
  IsPackedAs leaf = (type_at b leaf.place == cvvr_type) ≡ leaf.packed

  mutual
    unfolding HasNodes Names leaves_of entry_leaves

    pub leaves_packed : (levels : ℕ) (nodes : Nodes) → HasNodes b records levels nodes → Each IsPackedAs (leaves_of nodes)
    leaves_packed levels no_node h = tt
    leaves_packed zero (node place room entries more) h = absurd h
    leaves_packed (suc levels) (node place room entries more) h = Each-append IsPackedAs (entry_leaves entries) (leaves_of more) (entries_packed levels entries h.1) (leaves_packed (suc levels) more h.2)

    entries_packed : (levels : ℕ) (entries : Entries) → Names b records levels entries → Each IsPackedAs (entry_leaves entries)
    entries_packed levels no_entry h = tt
    entries_packed levels (block first last place packed entries) h = (h.1, entries_packed levels entries h.2)
    entries_packed levels (lower first last nodes entries) h = Each-append IsPackedAs (leaves_of nodes) (entry_leaves entries) (leaves_packed levels nodes h.1) (entries_packed levels entries h.2)

  asked_holds : (p : Bool) (rows : List Row) → Hold (asked p rows) → p ≡ true → Hold rows
  asked_holds true rows h e = h
  asked_holds false rows h e = absurd cc

  or_right : (p q : Bool) → (p || q) ≡ true → q ≡ false → p ≡ true
  or_right true q e f = refl
  or_right false q e f = absurd (true≢false (sym e ∙ f))

  block_fits : (vdr : ℕ) (leaf : Leaf) (packed : Bool) → is_block b records leaf.place ≡ true → (type_at b leaf.place == cvvr_type) ≡ packed → Hold (leaf_rows b records vdr leaf) → BlockFits b vdr leaf packed
  block_fits vdr leaf packed stands is h =
      let tile : In leaf.place records = block_in b records leaf.place stands in
      let there : is_in leaf.place records ≡ true = is_in-true leaf.place records tile in
      let cvvr : is_a b records cvvr_type leaf.place ≡ packed = (λ i. there i && (type_at b leaf.place == cvvr_type)) ∙ is in
      let parts = Hold-split (asked (is_a b records vvr_type leaf.place) (vvr_rows b vdr leaf)) (asked (is_a b records cvvr_type leaf.place) (cvvr_rows b vdr leaf)) h in
      cases packed cvvr parts.0 parts.1
    where
      cases : (p : Bool) → is_a b records cvvr_type leaf.place ≡ p → Hold (asked (is_a b records vvr_type leaf.place) (vvr_rows b vdr leaf)) → Hold (asked (is_a b records cvvr_type leaf.place) (cvvr_rows b vdr leaf)) → BlockFits b vdr leaf p
      cases true e plain rows =
          let row6 = (asked_holds (is_a b records cvvr_type leaf.place) (cvvr_rows b vdr leaf) rows e).0 in
          let q = both (is_compressed b vdr) (holds_packed b leaf.place) row6 in
          le_of (24 + number b leaf.place cvvr_c_size) (size_at b leaf.place) (both (nat_le (number b leaf.place cvvr_c_size) 0x7fffffffffffffff) _ q.1).1
      cases false e plain rows =
          let vvr : is_a b records vvr_type leaf.place ≡ true = or_right (is_a b records vvr_type leaf.place) (is_a b records cvvr_type leaf.place) stands e in
          le_of (12 + plain_size b vdr leaf) (size_at b leaf.place) (asked_holds (is_a b records vvr_type leaf.place) (vvr_rows b vdr leaf) plain vvr).0

  leaves_fit : (vdr : ℕ) (leaves : List Leaf) → ((m : ℕ) → In m (map (λ (leaf : Leaf). leaf.place) leaves) → is_block b records m ≡ true) → Each IsPackedAs leaves → Hold (flat_map (leaf_rows b records vdr) leaves) → Each (LeafFits b records vdr) leaves
  leaves_fit vdr [] blocks packed h = tt
  leaves_fit vdr (leaf ∷ more) blocks packed h =
      let p = Hold-split (leaf_rows b records vdr leaf) (flat_map (leaf_rows b records vdr) more) h in
      let stands = blocks leaf.place (inl refl) in
      ((stands, block_fits vdr leaf leaf.packed stands packed.0 p.0), leaves_fit vdr more (λ m i. blocks m (inr i)) packed.1 p.1)

  -- ---- variables

  cpr_stands : (vdr : ℕ) → (not (is_compressed b vdr) || is_cpr b records (cpr_link b vdr)) ≡ true → Each (λ cpr. is_a b records cpr_type cpr ≡ true) (cpr_of b vdr)
  cpr_stands vdr row = cases (is_compressed b vdr) row
    where
      cases : (p : Bool) → (not p || is_cpr b records (cpr_link b vdr)) ≡ true → Each (λ cpr. is_a b records cpr_type cpr ≡ true) (if p then cpr_link b vdr ∷ [] else [])
      cases true e = ((both (is_a b records cpr_type (cpr_link b vdr)) _ e).0, tt)
      cases false e = tt

  variables_fit : (ids : List ℕ) (vs : List VariableShape) → Each (HasVariable b records) vs → Hold (flat_map (variable_rows b records ids) (vdrs vs)) → Hold (flat_map (λ (v : VariableShape). index_rows b records v.vdr v.index) vs) → Each (VariableFits b records) vs
  variables_fit ids [] has rules7 rules8 = tt
  variables_fit ids (v ∷ more) has rules7 rules8 =
      let p7 = Hold-split (variable_rows b records ids v.vdr) (flat_map (variable_rows b records ids) (vdrs more)) rules7 in
      let p8 = Hold-split (index_rows b records v.vdr v.index) (flat_map (λ (v : VariableShape). index_rows b records v.vdr v.index) more) rules8 in
      let q8 = Hold-split (nodes_rows b records (negsuc 0) _ v.index) (flat_map (leaf_rows b records v.vdr) (leaves_of v.index)) p8.0 in (
        (
          le_of _ _ p7.0.1.1.1.1.1.0,
          nodes_fit (negsuc 0) _ v.index q8.0,
          leaves_fit v.vdr (leaves_of v.index) (blocks_in b records (negsuc 0) _ v.index q8.0) (leaves_packed 8 v.index has.0.indexed.has_nodes) q8.1,
          subst (Each (λ cpr. is_a b records cpr_type cpr ≡ true)) has.0.packed_by (cpr_stands v.vdr p7.0.1.1.1.1.1.1.1.1.1.1.0),
        ),
        variables_fit ids more has.1 p7.1 p8.1,
      )

pub sound_of_good : (b : List ℕ) (s : Shape) → IsGoodByShape b s → 84 + 4 * r_num_dims b s.gdr ≤ size_at b s.gdr → IsSound b s
sound_of_good b s g room = record {
  has_shape = g.has_shape;
  gdr_fits = room;
  attributes_fit = attributes_fit b s.attributes (Hold-split (flat_map (attribute_shape_rows b) s.attributes) (differ_rows 2 (same_name b adr_name) [] (adrs s)) g.attributes).0;
  variables_fit = variables_fit b s.records (vdrs (variables s)) (variables s) g.has_shape.have_variables g.of_variables g.indexes;
  not_twice = λ m. subst (λ (n : ℕ). n ≤ 1) (sym (same_counts b s g m)) (elim (either (is_in m s.records)) [
    | inl e ↦ subst (λ (n : ℕ). n ≤ 1) (sym (times-once m s.records (tiles_distinct b 8 (length b) s.records g.has_shape.tiled) (true-is_in m s.records e))) (omega arith)
    | inr e ↦ subst (λ (n : ℕ). n ≤ 1) (sym (times-none m s.records (false-is_in m s.records e))) (omega arith)
  ]);
}
