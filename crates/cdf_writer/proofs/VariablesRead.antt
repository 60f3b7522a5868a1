-- The variables, as they stand.
use Rattle.std.proofs.Common.{Bool, List, Option, [], bytes_eq, negsuc, ap, ap₂, arith, eq-eqb, false, inl, inr, is_some, length, lit<, map, not, pos, refl, subst, suc, sym, true, zero, ℕ, ℤ, ◌%◌, ◌*◌, ◌++◌, ◌+◌, ◌<◌, ◌^◌, ◌||◌, ◌∙◌, ◌∷◌, ◌≡◌, ◌≢◌, ◌≤◌, ◌⊎◌}
use Rattle.std.proofs.lemmas.Bool.{and_from, cases_eq, eqb-true, le-leb}
use Rattle.std.proofs.lemmas.Int.{ints}
use Rattle.std.proofs.lemmas.List.{map-append}
use Rattle.std.specs.Int.{cast_signed, w32, w64}
use Rattle.std.specs.List.{flat_map}
use Rattle.std.specs.Prelude.{if◌then◌else◌, max, min, nat_le, nat_lt, ◌&&◌, ◌/◌, ◌==◌}
use Rattle.cdf_model.specs.declared.kinds.Kind.{Kind}
use Rattle.cdf_model.specs.declared.kinds.Kind.TheVariants.{R, Z}
use Rattle.cdf_model.specs.declared.kinds.Sparse.{Sparse}
use Rattle.cdf_model.specs.declared.kinds.Sparse.TheVariants.{NoRule, Pad, Previous}
use Rattle.cdf_model.specs.DataSet.{Variable, extent}
use Rattle.cdf_model.specs.Limits.{level_limit, record_number_limit, signed_limit}
use Rattle.cdf_model.specs.declared.data_type.DataType.{DataType}
use Rattle.cdf_model.specs.Place.{record_limit, value_count}
use Rattle.cdf_model.specs.Types.{size_of, type_of}
use Rattle.cdf_format.proofs.Members.{In-append_left, In-append_right, either, is_in-true}
use Rattle.cdf_format.proofs.Owning.{times-none}
use Rattle.cdf_format.proofs.RowLemmas.{Hold-append}
use Rattle.cdf_format.proofs.Tests.{of_le}
use Rattle.cdf_format.specs.Chains.{Leads, is_a, is_in, is_linkable, next_of}
use Rattle.cdf_format.specs.Content.{records_in, variable_of}
use Rattle.cdf_format.specs.Fields.{counted, gdr_offset, integer8, name_in, number, r_num_dims, r_sizes, size_at, type_at}
unfoldable use Rattle.cdf_writer.specs.Bodies.{cpr_body}
unfoldable use Rattle.cdf_format.specs.Index.{leaves_of, nodes_of}
use Rattle.cdf_format.specs.Index.{Leaf, Nodes}
use Rattle.cdf_format.specs.IndexRules.{cvvr_rows, has_room, holds_packed, unpacks_to, index_rows, is_block, vvr_rows, leaf_rows}
use Rattle.cdf_format.specs.Owners.{times, variable_records}
use Rattle.cdf_format.specs.Records.{cpr_c_type, cpr_p_count, cpr_parameter, cpr_rfu_a, cvvr_c_size, cvvr_packed, record_type, vdr_cpr_or_spr_offset, vdr_data_type, vdr_max_rec, vdr_name, vdr_num, vdr_s_records}
use Rattle.cdf_format.specs.RecordTypes.{cpr_type, cvvr_type, vvr_type}
use Rattle.cdf_format.specs.AttributeRules.{same_name}
use Rattle.cdf_format.specs.ChainRules.{number_rows}
use Rattle.cdf_format.specs.VariableRules.{cpr_link as cpr_link_at, cpr_rows, is_cpr, is_known_packing, has_elements, is_max_rec, is_named_apart, is_no_link, vdr_end}
use Rattle.cdf_format.proofs.NameRules.{AreNew, absent-split, differ-turned, names_at, stands_in}
use Rattle.cdf_format.specs.Rules.{Hold, asked, row}
use Rattle.cdf_edits.proofs.Space.LaidOut.{says_laid_out, typed_body}
use Rattle.cdf_writer.proofs.PackedBack.{unpacks_back}
use Rattle.cdf_edits.proofs.Commands.FineNames.{fine_is_some}
use Rattle.cdf_edits.proofs.Edits.VariableFrame.{IsRuled}
use Rattle.cdf_format.specs.Shape.{Each, HasVariable, VariableShape, cpr_of, is_compressed, vdrs}
use Rattle.cdf_format.specs.Stored.{field_bytes, is_little, known_type, packed_bytes}
use Rattle.cdf_format.specs.Tiles.{Distinct, In}
use Rattle.cdf_format.specs.VariableFields.{plain_size, record_bytes}
use Rattle.cdf_edits.proofs.Commands.TypeCodes.{type_back}
use Rattle.cdf_edits.proofs.Frame.OwnersApart.{times-append, times-in}
use Rattle.cdf_edits.specs.Index.Blocks.{block_count, block_limit, record_length, wanted_count}
use Rattle.cdf_edits.specs.Space.Placing.{IsBody, type_of_body}
use Rattle.cdf_writer.specs.Bodies.{code4, sparse_code, cvvr_body, vvr_body, vxr_body, vdr_body, vdr_type, whole_record}
use Rattle.cdf_writer.specs.Fine.{FineVariable, IsPos, Rise}
use Rattle.cdf_writer.specs.Packing.{packed_of}
use Rattle.cdf_writer.proofs.FilePart.{code4_back}
use Rattle.cdf_writer.specs.Laying.{behind_vdr, block_bodies, block_body, blocks_of, blocks_place, cpr_bodies, cpr_link, index_bodies, index_root, is_packed, laid, plain_of_block, laid_size, leaves_at, link_if, node_bodies, nodes_over, nodes_place, past_variable, past_vdr, root_of, uppers, variable_bodies, variables_bodies, vdr_size}
use Rattle.cdf_writer.proofs.Assembled.{fit_all}
use Rattle.cdf_writer.proofs.BlocksRead.{P, VdrMeans, cvvr_long, cvvr_made, cvvr_reads, signed8_small, worth, records_mean, leaves_from, size_of_leaf, vvr_long, vvr_made, BlocksStand as OtherStand}
use Rattle.cdf_writer.proofs.GroupLemmas.{Ascend, IsGroup, groups_are}
use Rattle.cdf_writer.proofs.IndexTree.{Indexed, Item, indexed, index_tree, ranged_made, root_within, reach, said}
use Rattle.cdf_writer.proofs.Leaves.{BlocksStand, blocks_made, blocks_stand, count_items, few_blocks, fit, have_blocks, items, leaf_of, leaf_places, past_block, leaves, leaves_back, named, no_lower, ordered, said_items}
use Rattle.cdf_writer.proofs.Ordered.{index_rules}
use Rattle.cdf_writer.proofs.Stands.{Standing, Stands, linkable_at, part_stands, places, places-append, places_distinct, size-append, size-cons, standing, stands_parts, whole_size}
use Rattle.cdf_writer.proofs.Vdr.{DimsRead, Shares, VdrReads, VdrSays, body_size, dims_r, dims_z, vdr_made, vdr_reads, vdr_says, whole_value}
use Rattle.cdf_writer.specs.declared.bodies.NodeEntry.{NodeEntry}

pub record_even : (size elems count : ℕ) → 1 ≤ size → (size * elems * count) % size ≡ 0
record_even size elems count some = whole_value size (elems * count) (size * elems * count) some (assoc size elems count)
  where
    assoc : (x y z : ℕ) → x * y * z ≡ x * (y * z)
    assoc x y z = grind arith

sparse_known : (s : Sparse) → nat_le (sparse_code s) 2 ≡ true
sparse_known NoRule = refl
sparse_known Pad = refl
sparse_known Previous = refl

size_some : (t : DataType) → 1 ≤ size_of t
size_some t = grind arith

count_some : (v : Variable) → 1 ≤ block_count v
count_some v = by v.vary
  where
    by : (p : Bool) → 1 ≤ (if p then max 1 (min (wanted_count v.blocking) (block_limit / record_length v)) else 1)
    by true = omega arith
    by false = omega arith

few_records : (v : Variable) (low : ℕ) (xs : List (ℕ × List ℕ)) → Rise low xs → Each (P v) xs → extent v.max_rec ≤ 2147483647 → low ≤ 2147483647 → low + length xs ≤ 2147483647
few_records v low [] rise e small le = omega arith
few_records v low (pair ∷ xs) rise e small le = let a = rise.0 in let c = e.0.numbered in let r = few_records v (suc pair.0) xs rise.1 e.1 small (omega arith) in omega arith

times_less : (m k : ℕ) (xs : List ℕ) → ((j : ℕ) → times j (k ∷ xs) ≤ 1) → times m xs ≤ 1
times_less m k xs f = by (m == k) (f m)
  where
    by : (q : Bool) → (if q then suc (times m xs) else times m xs) ≤ 1 → times m xs ≤ 1
    by true l = omega arith
    by false l = l

distinct_times : (xs : List ℕ) → ((m : ℕ) → times m xs ≤ 1) → Distinct xs
distinct_times [] f = tt
distinct_times (k ∷ xs) f = ((λ i. let t = times-in k xs i in let h : suc (times k xs) ≤ 1 = subst (λ (q : Bool). (if q then suc (times k xs) else times k xs) ≤ 1) (eq-eqb k k refl) (f k) in absurd (omega arith)), distinct_times xs (λ m. times_less m k xs f))

times_most : (m : ℕ) (xs : List ℕ) → Distinct xs → times m xs ≤ 1
times_most m [] d = omega arith
times_most m (k ∷ xs) d = elim (either (m == k)) [
  | inl e ↦ let same = eqb-true m k e in let z = times-none m xs (λ i. d.0 (subst (λ (j : ℕ). In j xs) same i)) in rw e (omega (arith, z))
  | inr e ↦ rw e (times_most m xs d.1)
]

-- ---- a CPR

cpr_is_body : (type_of_body cpr_body ≡ cpr_type) × IsBody cpr_body
unfolding cpr_body
cpr_is_body = typed_body {type = cpr_type} {least = 28} ((cpr_c_type, 1) ∷ (cpr_rfu_a, 0) ∷ (cpr_p_count, 1) ∷ (cpr_parameter 0, 0) ∷ []) [] cpr_body (record { small = lit< tt; real = refl; in_use = λ e. cc; fixed = omega arith; enough = omega arith }) refl (omega arith)

cpr_fits : 8 + length cpr_body < 256 ^ 8
unfolding cpr_body
cpr_fits = lit< tt

cpr_room : nat_le (24 + 4 * 1) (8 + length cpr_body) ≡ true
unfolding cpr_body
cpr_room = refl

record CprReads (b : List ℕ) (place : ℕ) : Type 0 where
  type_is : number b place cpr_c_type ≡ 1
  count_is : number b place cpr_p_count ≡ 1
  parameter_is : number b place (cpr_parameter 0) ≡ 0

cpr_reads : (b : List ℕ) (place : ℕ) → Standing b place cpr_body → CprReads b place
unfolding cpr_body
cpr_reads b place s =
    let w = says_laid_out b place 8 ((record_type, cpr_type) ∷ (cpr_c_type, 1) ∷ (cpr_rfu_a, 0) ∷ (cpr_p_count, 1) ∷ (cpr_parameter 0, 0) ∷ []) s.behind.rest s.behind.there refl (lit< tt, (lit< tt, (lit< tt, (lit< tt, (lit< tt, tt))))) in
    let (t, (c, (r, (n, (q, end))))) = w.0 in
    record { type_is = c; count_is = n; parameter_is = q }

-- ---- one variable

module _ (kind : Kind) (little : Bool) where
  -- its CPR, where it has one
  abbrev pub cpr_at : ℕ → Bool → List ℕ
  cpr_at past rle = if rle then past ∷ [] else []

  abbrev pub shape_at : ℕ → Variable → VariableShape
  shape_at place v = record { vdr = place; index = index_tree level_limit (nodes_place little (past_vdr kind little place v) v) (items little v (blocks_place (past_vdr kind little place v) v) (blocks_of v)); cpr = cpr_at (past_vdr kind little place v) v.rle }

  module _ (v : Variable) (p : FineVariable v) (n place next : ℕ) where
    abbrev past : ℕ
    past = past_vdr kind little place v

    abbrev vdr : List ℕ
    vdr = vdr_body kind little n next (root_of little past v) (cpr_link past v.rle) v

    abbrev blocks : List (List ℕ)
    blocks = block_bodies little v

    abbrev nodes : List (List ℕ)
    nodes = index_bodies level_limit (nodes_place little past v) (leaves_at little past v)

    abbrev cprs : List (List ℕ)
    cprs = cpr_bodies v.rle

    cpr_places : (k : ℕ) (rle : Bool) → places k (cpr_bodies rle) ≡ cpr_at k rle
    cpr_places k true = refl
    cpr_places k false = refl

    cpr_made : (rle : Bool) → Each IsBody (cpr_bodies rle)
    cpr_made true = (cpr_is_body.1, tt)
    cpr_made false = tt

    nodes_at : past + laid_size (cprs ++ blocks) ≡ nodes_place little past v
    nodes_at = let s = size-append cprs blocks in omega arith

    vdr_long : length (whole_record vdr) ≡ vdr_size kind little v
    vdr_long = whole_size vdr ∙ body_size kind little n next (root_of little past v) (cpr_link past v.rle) v p

    pub variable_end : place + laid_size (variable_bodies kind little n place next v) ≡ past_variable kind little place v
    variable_end = let s = size-cons vdr (behind_vdr little past v) in let l = vdr_long in omega arith

    -- the nodes
    its_items : map said (items little v (blocks_place past v) (blocks_of v)) ≡ leaves_at little past v
    its_items = said_items little v (blocks_place past v) (blocks_of v)

    even : record_length v % size_of v.type ≡ 0
    even = record_even (size_of v.type) v.elems (value_count v.dims v.varys) (size_some v.type)

    groups : Each (IsGroup (P v) (block_count v)) (blocks_of v) × Ascend (P v) (block_count v) 0 (blocks_of v)
    groups = groups_are (P v) (block_count v) 0 v.recs (count_some v) p.rises p.records

    index_made : (most at : ℕ) (es : List NodeEntry) → Each IsBody (index_bodies most at es)
    index_made zero at es = tt
    index_made (suc most) at es = by (nat_lt 1 (length (nodes_over es))) (index_made most (at + laid_size (node_bodies es)) (uppers at es))
      where
        node_all : (gs : List (List NodeEntry)) → Each IsBody (map vxr_body gs)
        node_all [] = tt
        node_all (g ∷ gs) = (ranged_made g, node_all gs)

        both : (xs ys : List (List ℕ)) → Each IsBody xs → Each IsBody ys → Each IsBody (xs ++ ys)
        both [] ys x y = y
        both (b ∷ xs) ys x y = (x.0, both xs ys x.1 y)

        by : (q : Bool) → Each IsBody (index_bodies most (at + laid_size (node_bodies es)) (uppers at es)) → Each IsBody (if q then node_bodies es ++ index_bodies most (at + laid_size (node_bodies es)) (uppers at es) else node_bodies es)
        by true up = both (node_bodies es) (index_bodies most (at + laid_size (node_bodies es)) (uppers at es)) (node_all (nodes_over es)) up
        by false up = node_all (nodes_over es)

    pub variable_made : Each IsBody (variable_bodies kind little n place next v)
    variable_made = ((vdr_made kind little n next (root_of little past v) (cpr_link past v.rle) v p).1, both (cprs ++ blocks) nodes (both cprs blocks (cpr_made v.rle) (blocks_made little v (blocks_of v))) (index_made level_limit (nodes_place little past v) (leaves_at little past v)))
      where
        both : (xs ys : List (List ℕ)) → Each IsBody xs → Each IsBody ys → Each IsBody (xs ++ ys)
        both [] ys x y = y
        both (b ∷ xs) ys x y = (x.0, both xs ys x.1 y)

    -- what an image needs to have of it
    pub record VariableStands (b rs : List ℕ) : Type 0 where
      pub says : VdrSays kind little n next (root_of little past v) (cpr_link past v.rle) v p b place
      pub reads : VdrReads kind little n next (root_of little past v) (cpr_link past v.rle) v p b place
      pub means : VdrMeans b place little v
      pub standing : Standing b place vdr
      pub cpr_there : v.rle ≡ true → Standing b past cpr_body
      pub blocks_there : BlocksStand little v b (blocks_place past v) (blocks_of v)
      pub index : Indexed b rs (λ m i. i) level_limit (nodes_place little past v) (items little v (blocks_place past v) (blocks_of v)) (index_tree level_limit (nodes_place little past v) (items little v (blocks_place past v) (blocks_of v))) nodes (root_of little past v)

    pub variable_stands : (b rs : List ℕ) → is_little b ≡ little → Shares kind little n next (root_of little past v) (cpr_link past v.rle) v p b kind → n < 256 ^ 4 → next < 256 ^ 8 → past_variable kind little place v < 256 ^ 8 → Stands b place (laid (variable_bodies kind little n place next v))
        → ((m : ℕ) → In m (places place (variable_bodies kind little n place next v)) → In m rs) → VariableStands b rs
    variable_stands b rs little_is shares n_fits next_fits fits s sub =
        let size = size-cons vdr (behind_vdr little past v) in
        let e = variable_end in
        let are = fit_all (variable_bodies kind little n place next v) variable_made (omega arith) in
        let parts = stands_parts (whole_record vdr) (laid (behind_vdr little past v)) s in
        let st = standing vdr are.0 parts.0 in
        let start : place + length (whole_record vdr) ≡ past = ap (λ (k : ℕ). place + k) vdr_long in
        let behind : Stands b past (laid ((cprs ++ blocks) ++ nodes)) = subst (λ (k : ℕ). Stands b k (laid (behind_vdr little past v))) start parts.1 in
        let two = part_stands (cprs ++ blocks) nodes behind in
        let one = part_stands cprs blocks two.0 in
        let at_nodes = nodes_at in
        let sizes : laid_size (behind_vdr little past v) ≡ laid_size cprs + laid_size blocks + laid_size nodes = size-append (cprs ++ blocks) nodes ∙ ap (λ (k : ℕ). k + laid_size nodes) (size-append cprs blocks) in
        let nodes_fit : nodes_place little past v + laid_size nodes < 256 ^ 8 = omega arith in
        let blocks_fit : blocks_place past v + laid_size blocks < 256 ^ 8 = omega arith in
        let root_fits : root_of little past v < 256 ^ 8 = root_within level_limit (nodes_place little past v) (leaves_at little past v) nodes_fit in
        let link_fits : cpr_link past v.rle < 256 ^ 8 = ap_link v.rle (omega arith) in
        let says = vdr_says kind little n next (root_of little past v) (cpr_link past v.rle) v p b place next_fits root_fits link_fits n_fits st in
        let typed : type_at b place ≡ vdr_type kind = st.type_is ∙ (vdr_made kind little n next (root_of little past v) (cpr_link past v.rle) v p).0 in
        let sized : size_at b place ≡ vdr_size kind little v = st.size_is ∙ body_size kind little n next (root_of little past v) (cpr_link past v.rle) v p in
        let dims = dims_by kind n next (root_of little past v) (cpr_link past v.rle) v p b place says typed shares sized in
        let reads = vdr_reads kind little n next (root_of little past v) (cpr_link past v.rle) v p b place says dims little_is in
        let means : VdrMeans b place little v = record { type_is = reads.type_is; size_is = reads.size_is; little_is = little_is; max_is = reads.max_is; rle_is = reads.rle_is } in
        let there = blocks_stand little v b (blocks_place past v) (blocks_of v) (fit_all blocks (blocks_made little v (blocks_of v)) (omega arith)) one.1 in
        let its = items little v (blocks_place past v) (blocks_of v) in
        let few : length its ≤ reach level_limit = (let c = count_items little v (blocks_place past v) (blocks_of v) in let f = few_blocks v in let r = few_records v 0 v.recs p.rises p.records p.extent_fits (omega arith) in omega arith) in
        let lower = no_lower little v (blocks_place past v) (blocks_of v) in
        let sub_nodes : (m : ℕ) → In m (places (nodes_place little past v) nodes) → In m rs = λ m i. sub m (inr (all_in m i)) in
        let here = its_items in
        let ix = indexed b rs (λ m i. i) level_limit 0 (nodes_place little past v) its few (fit little v even b place means p.extent_fits (blocks_place past v) (blocks_of v) groups.0 blocks_fit) (named little v b rs (blocks_place past v) (blocks_of v) there) (subst (Each (λ m. has_room b m ≡ true)) (sym lower) tt)
        (subst (λ (es : List NodeEntry). nodes_place little past v + laid_size (index_bodies level_limit (nodes_place little past v) es) < 256 ^ 8) (sym here) nodes_fit)
        (subst (λ (es : List NodeEntry). Stands b (nodes_place little past v) (laid (index_bodies level_limit (nodes_place little past v) es))) (sym here) (subst (λ (k : ℕ). Stands b k (laid nodes)) at_nodes two.1))
        (subst (λ (es : List NodeEntry). (m : ℕ) → In m (places (nodes_place little past v) (index_bodies level_limit (nodes_place little past v) es)) → In m rs) (sym here) sub_nodes) in
        record {
          says = says;
          reads = reads;
          means = means;
          standing = st;
          cpr_there = λ e. cpr_stands v.rle e one.0;
          blocks_there = there;
          index = subst (λ (es : List NodeEntry). Indexed b rs (λ m i. i) level_limit (nodes_place little past v) its (index_tree level_limit (nodes_place little past v) its) (index_bodies level_limit (nodes_place little past v) es) (index_root level_limit (nodes_place little past v) es)) here ix;
        }
      where
        cpr_stands : (rle : Bool) → rle ≡ true → Stands b past (laid (cpr_bodies rle)) → Standing b past cpr_body
        cpr_stands true e st = standing cpr_body (record { body_is = cpr_is_body.1; fits = cpr_fits }) (stands_parts (whole_record cpr_body) [] st).0
        cpr_stands false e st = absurd (no e)
          where
            no : false ≡ true → ⊥
            no e = cc

        ap_link : (rle : Bool) → past < 256 ^ 8 → cpr_link past rle < 256 ^ 8
        ap_link true lt = lt
        ap_link false lt = lit< tt

        all_in : (m : ℕ) → In m (places (nodes_place little past v) nodes) → In m (places (place + length (whole_record vdr)) (behind_vdr little past v))
        all_in m i =
            let start : place + length (whole_record vdr) ≡ past = ap (λ (k : ℕ). place + k) vdr_long in
            let whole : places (place + length (whole_record vdr)) (behind_vdr little past v) ≡ places past (cprs ++ blocks) ++ places (nodes_place little past v) nodes =
            ap (λ (k : ℕ). places k (behind_vdr little past v)) start ∙ places-append past (cprs ++ blocks) nodes ∙ ap (λ (k : ℕ). places past (cprs ++ blocks) ++ places k nodes) nodes_at in
            subst (In m) (sym whole) (In-append_right m (places past (cprs ++ blocks)) (places (nodes_place little past v) nodes) i)

        dims_by : (k : Kind) (n next root cpr : ℕ) (v : Variable) (fine : FineVariable v) (b : List ℕ) (place : ℕ) → VdrSays k little n next root cpr v fine b place → type_at b place ≡ vdr_type k → Shares k little n next root cpr v fine b k → size_at b place ≡ vdr_size k little v → DimsRead k little n next root cpr v fine b place
        dims_by R n next root cpr v fine b place w typed sh sized = dims_r little n next root cpr v fine b place w typed sh
        dims_by Z n next root cpr v fine b place w typed sh sized = dims_z little n next root cpr v fine b place w typed (omega arith)

    -- ---- what it means, whom it owns, and its rules

    leaf_rules : (b rs : List ℕ) (st : VariableStands b rs) (at : ℕ) (gs : List (List (ℕ × List ℕ))) → Each (IsGroup (P v) (block_count v)) gs → BlocksStand little v b at gs → ((m : ℕ) → In m (map (λ (l : Leaf). l.place) (leaves little v at gs)) → In m rs) → Each (λ l. Hold (leaf_rows b rs place l)) (leaves little v at gs)
    leaf_rules b rs st at [] g s sub = tt
    leaf_rules b rs st at (x ∷ gs) g s sub = (here (either (is_packed v.rle (plain_of_block little v x))), leaf_rules b rs st (past_block little v at x) gs g.1 s.1 (λ m i. sub m (inr i)))
      where
        not_there : (q r : Bool) → r ≡ false → (q && r) ≡ false
        not_there q r e = grind arith

        here : (is_packed v.rle (plain_of_block little v x) ≡ true) ⊎ (is_packed v.rle (plain_of_block little v x) ≡ false) → Hold (leaf_rows b rs place (leaf_of little v at x))
        here (inr plainly) =
            let plain = plain_of_block little v x in
            let body : block_body little v x ≡ vvr_body plain = ap (λ (q : Bool). if q then cvvr_body (packed_of plain) else vvr_body plain) plainly in
            let stands : Standing b at (vvr_body plain) = subst (Standing b at) body s.0 in
            let typed : type_at b at ≡ vvr_type = stands.type_is ∙ (vvr_made plain).0 in
            let is : is_a b rs vvr_type at ≡ true = and_from _ _ (is_in-true at rs (sub at (inl refl))) (eq-eqb (type_at b at) vvr_type typed) in
            let isnt : is_a b rs cvvr_type at ≡ false = not_there (is_in at rs) (type_at b at == cvvr_type) (rw typed refl) in
            let l = leaf_of little v at x in
            let size = size_of_leaf v little even b place st.means p.extent_fits at x g.0 in
            let room : nat_le (12 + plain_size b place l) (size_at b at) ≡ true = rw (size, stands.size_is) (of_le (12 + length plain) (8 + length (vvr_body plain)) (vvr_long plain)) in
            let first : Hold (asked (is_a b rs vvr_type at) (vvr_rows b place l)) = rw is (room, tt) in
            let second : Hold (asked (is_a b rs cvvr_type at) (cvvr_rows b place l)) = rw isnt tt in
            Hold-append (asked (is_a b rs vvr_type at) (vvr_rows b place l)) (asked (is_a b rs cvvr_type at) (cvvr_rows b place l)) first second
        here (inl packs) =
            let plain = plain_of_block little v x in
            let packed = packed_of plain in
            let w = worth v little even b place st.means x packs in
            let body : block_body little v x ≡ cvvr_body packed = ap (λ (q : Bool). if q then cvvr_body packed else vvr_body plain) packs in
            let stands : Standing b at (cvvr_body packed) = subst (Standing b at) body s.0 in
            let typed : type_at b at ≡ cvvr_type = stands.type_is ∙ (cvvr_made packed).0 in
            let isnt : is_a b rs vvr_type at ≡ false = not_there (is_in at rs) (type_at b at == vvr_type) (rw typed refl) in
            let is : is_a b rs cvvr_type at ≡ true = and_from _ _ (is_in-true at rs (sub at (inl refl))) (eq-eqb (type_at b at) cvvr_type typed) in
            let l = leaf_of little v at x in
            let r = cvvr_reads b at packed w.2 stands in
            let size = size_of_leaf v little even b place st.means p.extent_fits at x g.0 in
            let counted_size : counted (integer8 b at cvvr_c_size) ≡ length packed = ap (λ (k : ℕ). counted (cast_signed w64 k)) r.size_is ∙ signed8_small (length packed) w.2 in
            let bytes : packed_bytes b at ≡ packed = ap (λ (k : ℕ). field_bytes b at (cvvr_packed k)) counted_size ∙ r.bytes_are in
            let low : nat_le (number b at cvvr_c_size) 0x7fffffffffffffff ≡ true = rw r.size_is (of_le (length packed) 0x7fffffffffffffff (small (length packed) w.2)) in
            let room : nat_le (24 + number b at cvvr_c_size) (size_at b at) ≡ true = rw (r.size_is, stands.size_is) (of_le (24 + length packed) (8 + length (cvvr_body packed)) (cvvr_long packed)) in
            let six : (is_compressed b place && holds_packed b at) ≡ true = and_from _ _ (st.reads.rle_is ∙ w.0) (and_from _ _ low room) in
            let seven : nat_le (plain_size b place l) record_limit ≡ true = rw size (of_le (length plain) record_limit w.1) in
            let eight : unpacks_to (packed_bytes b at) (plain_size b place l) ≡ true = rw (bytes, size) (unpacks_back plain) in
            let first : Hold (asked (is_a b rs vvr_type at) (vvr_rows b place l)) = rw isnt tt in
            let second : Hold (asked (is_a b rs cvvr_type at) (cvvr_rows b place l)) = rw is (six, (seven, (eight, tt))) in
            Hold-append (asked (is_a b rs vvr_type at) (vvr_rows b place l)) (asked (is_a b rs cvvr_type at) (cvvr_rows b place l)) first second
          where
            small : (k : ℕ) → k ≤ 67108864 → k ≤ 0x7fffffffffffffff
            small k le = omega arith

    module _ (b rs : List ℕ) (st : VariableStands b rs) (sub : (m : ℕ) → In m (places place (variable_bodies kind little n place next v)) → In m rs) where
      its : List Item
      its = items little v (blocks_place past v) (blocks_of v)

      index : Nodes
      index = index_tree level_limit (nodes_place little past v) (items little v (blocks_place past v) (blocks_of v))

      leaves_is : leaves_of (index_tree level_limit (nodes_place little past v) (items little v (blocks_place past v) (blocks_of v))) ≡ leaves little v (blocks_place past v) (blocks_of v)
      leaves_is = st.index.leaves_are ∙ leaves_back little v (blocks_place past v) (blocks_of v)

      -- its records are those behind each other
      pub variable_places : places place (variable_bodies kind little n place next v) ≡ place ∷ ((cpr_at past v.rle ++ map (λ (l : Leaf). l.place) (leaves little v (blocks_place past v) (blocks_of v))) ++ places (nodes_place little past v) nodes)
      variable_places =
          let start : place + length (whole_record vdr) ≡ past = ap (λ (k : ℕ). place + k) vdr_long in
          ap (λ (l : List ℕ). place ∷ l) (ap (λ (k : ℕ). places k (behind_vdr little past v)) start ∙ places-append past (cprs ++ blocks) nodes
          ∙ ap₂ (λ (xs : List ℕ) (k : ℕ). xs ++ places k nodes) (places-append past cprs blocks ∙ ap₂ (λ (xs ys : List ℕ). xs ++ ys) (cpr_places past v.rle) (leaf_places little v (blocks_place past v) (blocks_of v))) nodes_at)

      pub variable_times : (m : ℕ) → times m (variable_records (shape_at place v)) ≡ times m (places place (variable_bodies kind little n place next v))
      variable_times m =
          let bs = map (λ (l : Leaf). l.place) (leaves little v (blocks_place past v) (blocks_of v)) in
          let cs : List ℕ = cpr_at past v.rle in
          let ns = places (nodes_place little past v) nodes in
          let is = nodes_of (index_tree level_limit (nodes_place little past v) (items little v (blocks_place past v) (blocks_of v))) in
          let ls = map (λ (l : Leaf). l.place) (leaves_of (index_tree level_limit (nodes_place little past v) (items little v (blocks_place past v) (blocks_of v)))) in
          let lsame : ls ≡ bs = ap (map (λ (l : Leaf). l.place)) leaves_is in
          let counts : times m is ≡ times m ns = st.index.counts m ∙ ap (λ (l : List ℕ). times m ns + times m l) (no_lower little v (blocks_place past v) (blocks_of v)) ∙ none (times m ns) in
          let left : times m (place ∷ ((is ++ ls) ++ cs)) ≡ times m (place ∷ []) + (times m is + times m ls + times m cs) =
          times-append m (place ∷ []) ((is ++ ls) ++ cs) ∙ ap (λ (k : ℕ). times m (place ∷ []) + k) (times-append m (is ++ ls) cs ∙ ap (λ (k : ℕ). k + times m cs) (times-append m is ls)) in
          let right : times m (place ∷ ((cs ++ bs) ++ ns)) ≡ times m (place ∷ []) + (times m cs + times m bs + times m ns) = times-append m (place ∷ []) ((cs ++ bs) ++ ns) ∙ ap (λ (k : ℕ). times m (place ∷ []) + k) (times-append m (cs ++ bs) ns ∙ ap (λ (k : ℕ). k + times m ns) (times-append m cs bs)) in
          let whole : times m (places place (variable_bodies kind little n place next v)) ≡ times m (place ∷ ((cs ++ bs) ++ ns)) = ap (times m) variable_places in
          let l2 : times m ls ≡ times m bs = ap (times m) lsame in
          omega (arith, left, right, whole, l2, counts)
        where
          none : (k : ℕ) → k + 0 ≡ k
          none k = omega arith

      in_leaves : (m : ℕ) → In m (map (λ (l : Leaf). l.place) (leaves little v (blocks_place past v) (blocks_of v))) → In m rs
      in_leaves m i =
          let bs = map (λ (l : Leaf). l.place) (leaves little v (blocks_place past v) (blocks_of v)) in
          sub m (subst (In m) (sym variable_places) (inr (In-append_left m (cpr_at past v.rle ++ bs) (places (nodes_place little past v) nodes) (In-append_right m (cpr_at past v.rle) bs i))))

      cpr_in : v.rle ≡ true → In past rs
      cpr_in e =
          let bs = map (λ (l : Leaf). l.place) (leaves little v (blocks_place past v) (blocks_of v)) in
          sub past (subst (In past) (sym variable_places) (inr (In-append_left past (cpr_at past v.rle ++ bs) (places (nodes_place little past v) nodes) (In-append_left past (cpr_at past v.rle) bs (subst (λ (q : Bool). In past (cpr_at past q)) (sym e) (inl refl))))))

      pub variable_has : HasVariable b rs (shape_at place v)
      variable_has = record {
        indexed = record { link_is = st.says.head_is ∙ sym st.index.link; has_nodes = st.index.has level_limit (omega arith); once = once_by (places place (variable_bodies kind little n place next v)) (places_distinct place (variable_bodies kind little n place next v)) };
        packed_by = packed_is v.rle st.reads.rle_is st.says.cpr_is;
      }
        where
          packed_is : (rle : Bool) → is_compressed b place ≡ rle → number b place vdr_cpr_or_spr_offset ≡ cpr_link past rle → cpr_of b place ≡ cpr_at past rle
          packed_is true e l = ap (λ (q : Bool). if q then number b place vdr_cpr_or_spr_offset ∷ [] else []) e ∙ ap (λ (k : ℕ). k ∷ []) l
          packed_is false e l = ap (λ (q : Bool). if q then number b place vdr_cpr_or_spr_offset ∷ [] else []) e

          once_by : (xs : List ℕ) → Distinct xs → Distinct (nodes_of (index_tree level_limit (nodes_place little past v) (items little v (blocks_place past v) (blocks_of v))))
          once_by xs d = distinct_times (nodes_of (index_tree level_limit (nodes_place little past v) (items little v (blocks_place past v) (blocks_of v)))) (λ m. let c = st.index.counts m in let z = ap (times m) (no_lower little v (blocks_place past v) (blocks_of v)) in let o = times_most m (places (nodes_place little past v) nodes) (places_distinct (nodes_place little past v) nodes) in omega arith)

      pub variable_linkable : is_linkable b rs (vdr_type kind) place ≡ true
      variable_linkable = linkable_at rs (vdr_type kind) st.standing (sub place (inl refl)) (vdr_made kind little n next (root_of little past v) (cpr_link past v.rle) v p).0

      pub variable_means : variable_of b (shape_at place v) ≡ v
      variable_means =
          let r = st.reads in
          let name = st.says.name_is in
          let blocking = ap (cast_signed w32) st.says.blocking_said ∙ code4_back v.blocking p.blocking_fits in
          let there : leaves_from v little even b place st.means p.extent_fits (blocks_place past v) (blocks_of v) ≡ leaves little v (blocks_place past v) (blocks_of v) = same_leaves (blocks_place past v) (blocks_of v) in
          let stand = as_blocks (blocks_place past v) (blocks_of v) st.blocks_there in
          let recs : records_in b place (leaves_of (index_tree level_limit (nodes_place little past v) (items little v (blocks_place past v) (blocks_of v)))) ≡ v.recs =
          ap (records_in b place) (leaves_is ∙ sym there) ∙ records_mean v little even b place st.means p.extent_fits (blocks_place past v) p.rises p.records (count_some v) stand in
          λ i. record {
            name = name i;
            type = r.type_is i;
            elems = r.elems_are i;
            dims = r.dims_are i;
            varys = r.varys_are i;
            vary = r.vary_is i;
            sparse = r.sparse_is i;
            rle = r.rle_is i;
            blocking = blocking i;
            max_rec = r.max_is i;
            pad = r.pad_is i;
            recs = recs i;
          }
        where
          same_leaves : (at : ℕ) (gs : List (List (ℕ × List ℕ))) → leaves_from v little even b place st.means p.extent_fits at gs ≡ leaves little v at gs
          same_leaves at [] = refl
          same_leaves at (g ∷ gs) = ap (λ (l : List Leaf). leaf_of little v at g ∷ l) (same_leaves (past_block little v at g) gs)

          as_blocks : (at : ℕ) (gs : List (List (ℕ × List ℕ))) → BlocksStand little v b at gs → OtherStand v little even b place st.means p.extent_fits at gs
          as_blocks at [] s = tt
          as_blocks at (g ∷ gs) s = (s.0, as_blocks (past_block little v at g) gs s.1)

      pub variable_index_rules : Hold (index_rows b rs place (index_tree level_limit (nodes_place little past v) (items little v (blocks_place past v) (blocks_of v))))
      variable_index_rules =
          let at = blocks_place past v in
          let order = st.index.order 0 record_number_limit (ordered little v even b place st.means p.extent_fits 0 at (blocks_of v) groups.0 groups.1) in
          let blocks_are : Each (λ l. is_block b rs l.place ≡ true) (leaves_of (index_tree level_limit (nodes_place little past v) (items little v (blocks_place past v) (blocks_of v)))) = subst (Each (λ (l : Leaf). is_block b rs l.place ≡ true)) (sym leaves_is) (have_blocks little v b rs at (blocks_of v) st.blocks_there in_leaves) in
          let rows : Each (λ l. Hold (leaf_rows b rs place l)) (leaves_of (index_tree level_limit (nodes_place little past v) (items little v (blocks_place past v) (blocks_of v)))) = subst (Each (λ (l : Leaf). Hold (leaf_rows b rs place l))) (sym leaves_is) (leaf_rules b rs st at (blocks_of v) groups.0 st.blocks_there in_leaves) in
          index_rules b rs place (index_tree level_limit (nodes_place little past v) (items little v (blocks_place past v) (blocks_of v))) order st.index.rooms blocks_are rows

      elems_rule : has_elements b place ≡ true
      elems_rule = rw (st.says.elems_said, st.reads.type_is) (and_from _ _ (and_from _ _ (le-leb 1 v.elems p.some) (le-leb v.elems signed_limit p.few)) p.single)

      pub variable_ruled : IsRuled b rs (shape_at place v)
      variable_ruled =
          let named = ap (λ (x : List ℕ). not (length x == 0)) st.says.name_is ∙ ap not (fine_is_some v.name p.named) in
          let known : is_some (known_type b place vdr_data_type) ≡ true = ap (λ (k : ℕ). is_some (type_of (cast_signed w32 k))) st.says.type_said ∙ ap (λ (o : Option DataType). is_some o) (type_back v.type) in
          let fits : nat_le (vdr_end b place) (size_at b place) ≡ true = le-leb (vdr_end b place) (size_at b place) (omega (arith, st.reads.end_is, st.standing.size_is, body_size kind little n next (root_of little past v) (cpr_link past v.rle) v p)) in
          let small : nat_le (record_bytes b place) record_limit ≡ true = ap (λ (k : ℕ). nat_le k record_limit) st.reads.size_is ∙ le-leb (record_length v) record_limit p.short in
          let max : is_max_rec (number b place vdr_max_rec) ≡ true = rw st.says.max_said (max_rule v.max_rec p.max_low p.extent_fits) in
          let sparse : nat_le (number b place vdr_s_records) 2 ≡ true = ap (λ (k : ℕ). nat_le k 2) st.says.sparse_said ∙ sparse_known v.sparse in
          ((named, (refl, (known, (elems_rule, (st.reads.dims_rule, (fits, (small, (max, (sparse, (ten v.rle st.reads.rle_is st.says.cpr_is, (eleven v.rle refl st.reads.rle_is st.says.cpr_is, last v.rle refl st.reads.rle_is st.says.cpr_is))))))))))), variable_index_rules)
        where
          ten : (rle : Bool) → is_compressed b place ≡ rle → number b place vdr_cpr_or_spr_offset ≡ cpr_link past rle → (is_compressed b place || is_no_link (cpr_link_at b place)) ≡ true
          ten true e l = ap (λ (q : Bool). q || is_no_link (cpr_link_at b place)) e
          ten false e l = ap (λ (q : Bool). q || is_no_link (cpr_link_at b place)) e ∙ ap is_no_link l

          is_good_cpr : v.rle ≡ true → is_cpr b rs past ≡ true
          is_good_cpr e =
              let c = cpr_reads b past (st.cpr_there e) in
              let typed : type_at b past ≡ cpr_type = (st.cpr_there e).type_is ∙ cpr_is_body.0 in
              let room : nat_le (24 + 4 * number b past cpr_p_count) (size_at b past) ≡ true = rw (c.count_is, (st.cpr_there e).size_is) cpr_room in
              and_from _ _ (and_from _ _ (is_in-true past rs (cpr_in e)) (eq-eqb (type_at b past) cpr_type typed)) (and_from _ _ (rw c.count_is refl) room)

          eleven : (rle : Bool) → v.rle ≡ rle → is_compressed b place ≡ rle → number b place vdr_cpr_or_spr_offset ≡ cpr_link past rle → (not (is_compressed b place) || is_cpr b rs (cpr_link_at b place)) ≡ true
          eleven true o e l = ap (λ (q : Bool). not q || is_cpr b rs (cpr_link_at b place)) e ∙ ap (is_cpr b rs) l ∙ is_good_cpr o
          eleven false o e l = ap (λ (q : Bool). not q || is_cpr b rs (cpr_link_at b place)) e

          last : (rle : Bool) → v.rle ≡ rle → is_compressed b place ≡ rle → number b place vdr_cpr_or_spr_offset ≡ cpr_link past rle → Hold (asked (is_compressed b place) (cpr_rows b rs (cpr_link_at b place)))
          last true o e l =
              let c = cpr_reads b past (st.cpr_there o) in
              let known : is_known_packing b past ≡ true = rw (c.type_is, c.parameter_is) refl in
              let there : Hold (cpr_rows b rs past) = subst (λ (q : Bool). Hold (asked q (row 12 past (is_known_packing b past) ∷ []))) (sym (is_good_cpr o)) (known, tt) in
              let at : Hold (cpr_rows b rs (cpr_link_at b place)) = subst (λ (k : ℕ). Hold (cpr_rows b rs k)) (sym l) there in
              subst (λ (q : Bool). Hold (asked q (cpr_rows b rs (cpr_link_at b place)))) (sym e) at
          last false o e l = subst (λ (q : Bool). Hold (asked q (cpr_rows b rs (cpr_link_at b place)))) (sym e) tt

          max_rule : (z : ℤ) → (z ≡ negsuc 0) ⊎ IsPos z → extent z ≤ 2147483647 → is_max_rec (code4 z) ≡ true
          max_rule z (inl e) small = rw e refl
          max_rule (pos k) (inr t) small = ap (λ (q : Bool). q || (code4 (pos k) == 0xffffffff)) (le-leb (code4 (pos k)) record_number_limit (as_number k small))
            where
              as_number : (k : ℕ) → k + 1 ≤ 2147483647 → code4 (pos k) ≤ 2147483646
              as_number k small = omega (arith, ints)
          max_rule (negsuc k) (inr t) small = absurd t

  -- ---- all variables of the kind

  abbrev pub variable_shapes : ℕ → List Variable → List VariableShape
  variable_shapes place [] = []
  variable_shapes place (v ∷ more) = shape_at place v ∷ variable_shapes (past_variable kind little place v) more

  pub all_made : (n place : ℕ) (vs : List Variable) → Each FineVariable vs → Each IsBody (variables_bodies kind little n place vs)
  all_made n place [] p = tt
  all_made n place (v ∷ more) p = both (variable_bodies kind little n place (link_if (past_variable kind little place v) more) v) (variables_bodies kind little (suc n) (past_variable kind little place v) more) (variable_made v p.0 n place (link_if (past_variable kind little place v) more)) (all_made (suc n) (past_variable kind little place v) more p.1)
    where
      both : (xs ys : List (List ℕ)) → Each IsBody xs → Each IsBody ys → Each IsBody (xs ++ ys)
      both [] ys x y = y
      both (b ∷ xs) ys x y = (x.0, both xs ys x.1 y)

  -- all of it, for each of them
  pub record VariableAll (b rs : List ℕ) (n place next : ℕ) (v : Variable) : Type 0 where
    pub next_is : next_of b place ≡ next
    pub num_is : number b place vdr_num ≡ n
    pub name_is : name_in b place vdr_name ≡ v.name
    pub linkable : is_linkable b rs (vdr_type kind) place ≡ true
    pub has : HasVariable b rs (shape_at place v)
    pub meant : variable_of b (shape_at place v) ≡ v
    pub ruled : IsRuled b rs (shape_at place v)
    pub indexed : Hold (index_rows b rs place (shape_at place v).index)
    pub same_times : (m : ℕ) → times m (variable_records (shape_at place v)) ≡ times m (places place (variable_bodies kind little n place next v))

  abbrev pub AllStand : List ℕ → List ℕ → ℕ → ℕ → List Variable → Type 0
  AllStand b rs n place [] = Unit {0}
  AllStand b rs n place (v ∷ more) = VariableAll b rs n place (link_if (past_variable kind little place v) more) v × AllStand b rs (suc n) (past_variable kind little place v) more

  abbrev pub AllShare : List ℕ → Kind → List Variable → Type 0
  AllShare b R vs = Each (λ v. (r_num_dims b (gdr_offset b) ≡ length v.dims) × (r_sizes b (gdr_offset b) ≡ v.dims)) vs
  AllShare b Z vs = Unit {0}

  share_first : (b : List ℕ) (k : Kind) (v : Variable) (more : List Variable) (n next root cpr : ℕ) (fine : FineVariable v) → AllShare b k (v ∷ more) → Shares k little n next root cpr v fine b k × AllShare b k more
  share_first b R v more n next root cpr fine s = (s.0, s.1)
  share_first b Z v more n next root cpr fine s = (tt, tt)

  counts_less : (n k : ℕ) → n + suc k ≤ 2147483647 → (n < 256 ^ 4) × (suc n + k ≤ 2147483647)
  counts_less n k le = (omega arith, omega arith)

  pub all_stand : (b rs : List ℕ) (n place : ℕ) (vs : List Variable) → Each FineVariable vs → is_little b ≡ little → AllShare b kind vs → n + length vs ≤ 2147483647 → place + laid_size (variables_bodies kind little n place vs) < 256 ^ 8 → Stands b place (laid (variables_bodies kind little n place vs))
      → ((m : ℕ) → In m (places place (variables_bodies kind little n place vs)) → In m rs) → AllStand b rs n place vs
  all_stand b rs n place [] p little_is shares few fits s sub = tt
  all_stand b rs n place (v ∷ more) p little_is shares few fits s sub =
      let after = past_variable kind little place v in
      let next = link_if after more in
      let own = variable_bodies kind little n place next v in
      let rest = variables_bodies kind little (suc n) after more in
      let end = variable_end v p.0 n place next in
      let size = size-append own rest in
      let here : after < 256 ^ 8 = omega arith in
      let c = counts_less n (length more) few in
      let parts = part_stands own rest s in
      let split : places place (own ++ rest) ≡ places place own ++ places after rest = places-append place own rest ∙ ap (λ (k : ℕ). places place own ++ places k rest) end in
      let own_in : (m : ℕ) → In m (places place own) → In m rs = λ m i. sub m (subst (In m) (sym split) (In-append_left m (places place own) (places after rest) i)) in
      let rest_in : (m : ℕ) → In m (places after rest) → In m rs = λ m i. sub m (subst (In m) (sym split) (In-append_right m (places place own) (places after rest) i)) in
      let sh = share_first b kind v more n next (root_of little (past_vdr kind little place v) v) (cpr_link (past_vdr kind little place v) v.rle) p.0 shares in
      let st = variable_stands v p.0 n place next b rs little_is sh.0 c.0 (link_fits after more here) here parts.0 own_in in (
        record {
          next_is = st.says.next_is;
          num_is = st.says.num_is;
          name_is = st.says.name_is;
          linkable = variable_linkable v p.0 n place next b rs st own_in;
          has = variable_has v p.0 n place next b rs st own_in;
          meant = variable_means v p.0 n place next b rs st own_in;
          ruled = variable_ruled v p.0 n place next b rs st own_in;
          indexed = variable_index_rules v p.0 n place next b rs st own_in;
          same_times = variable_times v p.0 n place next b rs st own_in;
        },
        all_stand b rs (suc n) after more p.1 little_is sh.1 c.1 (omega arith) (subst (λ (k : ℕ). Stands b k (laid rest)) end parts.1) rest_in,
      )
    where
      link_fits : (k : ℕ) (xs : List Variable) → k < 256 ^ 8 → link_if k xs < 256 ^ 8
      link_fits k [] lt = lit< tt
      link_fits k (x ∷ xs) lt = lt

  pub all_lead : (b rs : List ℕ) (n place : ℕ) (vs : List Variable) → AllStand b rs n place vs → Leads b (link_if place vs) (vdrs (variable_shapes place vs)) 0
  all_lead b rs n place [] a = refl
  all_lead b rs n place (v ∷ more) a = (refl, subst (λ (l : ℕ). Leads b l (vdrs (variable_shapes (past_variable kind little place v) more)) 0) (sym a.0.next_is) (all_lead b rs (suc n) (past_variable kind little place v) more a.1))

  pub all_linkable : (b rs : List ℕ) (n place : ℕ) (vs : List Variable) → AllStand b rs n place vs → (m : ℕ) → In m (vdrs (variable_shapes place vs)) → is_linkable b rs (vdr_type kind) m ≡ true
  all_linkable b rs n place [] a m i = absurd i
  all_linkable b rs n place (v ∷ more) a m (inl e) = subst (λ (k : ℕ). is_linkable b rs (vdr_type kind) k ≡ true) (sym e) a.0.linkable
  all_linkable b rs n place (v ∷ more) a m (inr i) = all_linkable b rs (suc n) (past_variable kind little place v) more a.1 m i

  pub all_have : (b rs : List ℕ) (n place : ℕ) (vs : List Variable) → AllStand b rs n place vs → Each (HasVariable b rs) (variable_shapes place vs)
  all_have b rs n place [] a = tt
  all_have b rs n place (v ∷ more) a = (a.0.has, all_have b rs (suc n) (past_variable kind little place v) more a.1)

  pub all_ruled : (b rs : List ℕ) (n place : ℕ) (vs : List Variable) → AllStand b rs n place vs → Each (IsRuled b rs) (variable_shapes place vs)
  all_ruled b rs n place [] a = tt
  all_ruled b rs n place (v ∷ more) a = (a.0.ruled, all_ruled b rs (suc n) (past_variable kind little place v) more a.1)

  pub all_indexed : (b rs : List ℕ) (n place : ℕ) (vs : List Variable) → AllStand b rs n place vs → Each (λ v. Hold (index_rows b rs v.vdr v.index)) (variable_shapes place vs)
  all_indexed b rs n place [] a = tt
  all_indexed b rs n place (v ∷ more) a = (a.0.indexed, all_indexed b rs (suc n) (past_variable kind little place v) more a.1)

  pub all_mean : (b rs : List ℕ) (n place : ℕ) (vs : List Variable) → AllStand b rs n place vs → map (variable_of b) (variable_shapes place vs) ≡ vs
  all_mean b rs n place [] a = refl
  all_mean b rs n place (v ∷ more) a = ap₂ (λ (x : Variable) (xs : List Variable). x ∷ xs) a.0.meant (all_mean b rs (suc n) (past_variable kind little place v) more a.1)

  pub all_named : (b rs : List ℕ) (n place : ℕ) (vs : List Variable) → AllStand b rs n place vs → names_at b vdr_name (vdrs (variable_shapes place vs)) ≡ map (λ v. v.name) vs
  all_named b rs n place [] a = refl
  all_named b rs n place (v ∷ more) a = ap₂ (λ (x : List ℕ) (xs : List (List ℕ)). x ∷ xs) a.0.name_is (all_named b rs (suc n) (past_variable kind little place v) more a.1)

  pub all_numbered : (rule : ℕ) (b rs : List ℕ) (n place : ℕ) (vs : List Variable) → AllStand b rs n place vs → Hold (number_rows rule b vdr_num n (vdrs (variable_shapes place vs)))
  all_numbered rule b rs n place [] a = tt
  all_numbered rule b rs n place (v ∷ more) a = (eq-eqb _ _ a.0.num_is, all_numbered rule b rs (suc n) (past_variable kind little place v) more a.1)

  pub all_times : (b rs : List ℕ) (n place : ℕ) (vs : List Variable) → Each FineVariable vs → AllStand b rs n place vs → (m : ℕ) → times m (flat_map variable_records (variable_shapes place vs)) ≡ times m (places place (variables_bodies kind little n place vs))
  all_times b rs n place [] p a m = refl
  all_times b rs n place (v ∷ more) p a m =
      let after = past_variable kind little place v in
      let next = link_if after more in
      let own = variable_bodies kind little n place next v in
      let rest = variables_bodies kind little (suc n) after more in
      let x = times-append m (variable_records (shape_at place v)) (flat_map variable_records (variable_shapes after more)) in
      let y : times m (places place (own ++ rest)) ≡ times m (places place own) + times m (places after rest) =
      ap (times m) (places-append place own rest ∙ ap (λ (k : ℕ). places place own ++ places k rest) (variable_end v p.0 n place next)) ∙ times-append m (places place own) (places after rest) in
      omega (arith, x, y, a.0.same_times m, all_times b rs (suc n) after more p.1 a.1 m)

  pub all_distinct : (place : ℕ) (vs : List Variable) → Distinct (vdrs (variable_shapes place vs))
  all_distinct place [] = tt
  all_distinct place (v ∷ more) = ((λ i. let r = behind (past_variable kind little place v) more place i in let s = some kind in absurd (omega arith)), all_distinct (past_variable kind little place v) more)
    where
      behind : (from : ℕ) (vs : List Variable) (m : ℕ) → In m (vdrs (variable_shapes from vs)) → from ≤ m
      behind from [] m i = absurd i
      behind from (v ∷ more) m (inl e) = omega arith
      behind from (v ∷ more) m (inr i) = let r = behind (past_variable kind little from v) more m i in omega arith

      some : (k : Kind) → 1 ≤ vdr_size k little v
      some R = omega arith
      some Z = omega arith

-- ---- names that differ

none_alike : (b before : List ℕ) (ms : List ℕ) → AreNew (names_at b vdr_name before) (names_at b vdr_name ms) → (y : ℕ) → In y ms → stands_in (name_in b y vdr_name) (names_at b vdr_name before) ≡ false
none_alike b before [] n y i = absurd i
none_alike b before (m ∷ ms) n y (inl e) = subst (λ (k : ℕ). stands_in (name_in b k vdr_name) (names_at b vdr_name before) ≡ false) (sym e) n.0
none_alike b before (m ∷ ms) n y (inr i) =
    let next : AreNew (names_at b vdr_name (before ++ m ∷ [])) (names_at b vdr_name ms) = subst (λ (z : List (List ℕ)). AreNew z (names_at b vdr_name ms)) (sym (map-append (λ (k : ℕ). name_in b k vdr_name) before (m ∷ []))) n.1 in
    let far = none_alike b (before ++ m ∷ []) ms next y i in
    (absent-split (name_in b y vdr_name) (names_at b vdr_name before) (name_in b m vdr_name ∷ []) (ap (stands_in (name_in b y vdr_name)) (sym (map-append (λ (k : ℕ). name_in b k vdr_name) before (m ∷ []))) ∙ far)).0

pub names_apart : (b before : List ℕ) (ms : List ℕ) → AreNew (names_at b vdr_name before) (names_at b vdr_name ms) → (x y : ℕ) → In x ms → In y ms → x ≢ y → same_name b vdr_name x y ≡ false
names_apart b before [] n x y i j ne = absurd i
names_apart b before (m ∷ ms) n x y i j ne =
    let rest : AreNew (names_at b vdr_name (before ++ m ∷ [])) (names_at b vdr_name ms) = subst (λ (z : List (List ℕ)). AreNew z (names_at b vdr_name ms)) (sym (map-append (λ (k : ℕ). name_in b k vdr_name) before (m ∷ []))) n.1 in
    by i j (λ i' j'. names_apart b (before ++ m ∷ []) ms rest x y i' j' ne)
  where
    next : AreNew (names_at b vdr_name (before ++ m ∷ [])) (names_at b vdr_name ms)
    next = subst (λ (z : List (List ℕ)). AreNew z (names_at b vdr_name ms)) (sym (map-append (λ (k : ℕ). name_in b k vdr_name) before (m ∷ []))) n.1

    later : (y : ℕ) → In y ms → bytes_eq (name_in b y vdr_name) (name_in b m vdr_name) ≡ false
    later y j =
        let far = none_alike b (before ++ m ∷ []) ms next y j in
        or_left (bytes_eq (name_in b y vdr_name) (name_in b m vdr_name)) (absent-split (name_in b y vdr_name) (names_at b vdr_name before) (name_in b m vdr_name ∷ []) (ap (stands_in (name_in b y vdr_name)) (sym (map-append (λ (k : ℕ). name_in b k vdr_name) before (m ∷ []))) ∙ far)).1
      where
        or_left : (q : Bool) → (q || false) ≡ false → q ≡ false
        or_left true e = e
        or_left false e = refl

    by : (x ≡ m) ⊎ In x ms → (y ≡ m) ⊎ In y ms → (In x ms → In y ms → same_name b vdr_name x y ≡ false) → same_name b vdr_name x y ≡ false
    by (inl e) (inl e') more = absurd (ne (e ∙ sym e'))
    by (inl e) (inr j) more = subst (λ (k : ℕ). same_name b vdr_name k y ≡ false) (sym e) (differ-turned (name_in b y vdr_name) (name_in b m vdr_name) (later y j))
    by (inr i) (inl e') more = subst (λ (k : ℕ). same_name b vdr_name x k ≡ false) (sym e') (later x i)
    by (inr i) (inr j) more = more i j

pub apart_into : (b all : List ℕ) (x : ℕ) → ((y : ℕ) → In y all → x ≢ y → same_name b vdr_name x y ≡ false) → is_named_apart b all x ≡ true
apart_into b [] x h = refl
apart_into b (z ∷ all) x h = and_from _ _ here (apart_into b all x (λ y i. h y (inr i)))
  where
    not_same : x ≢ z → (z == x) ≡ false
    not_same ne = elim (either (z == x)) [ inl e ↦ absurd (ne (sym (eqb-true z x e))) | inr e ↦ e ]

    here : ((z == x) || not (same_name b vdr_name x z)) ≡ true
    here = elim (cases_eq x z) [
      | inl e ↦ rw (eq-eqb z x (sym e)) refl
      | inr ne ↦ rw (not_same ne, h z (inl refl) ne) refl
    ]
