-- The rules of phases 4 to 9 hold exactly where an image is good by its shape.
use Rattle.std.proofs.Common.{◌≡◌, ℕ, ◌<◌, List, [], ◌∷◌, ◌++◌, length, map, true, eq-eqb, refl, sym, ap, subst, ◌∙◌, arith, inl}
use Rattle.cdf_format.proofs.Common.{eqb-true, leb-true, le-leb, flat_map, type_at, gdr_offset, gdr_r_vdr_head, gdr_z_vdr_head, gdr_adr_head, gdr_uir_head, adr_agr_edr_head, adr_az_edr_head, adr_name, adr_ngr_entries, adr_nz_entries, vdr_vxr_head, cdr_type, gdr_type, adr_type, agr_edr_type, az_edr_type, r_vdr_type, z_vdr_type, uir_type, Hold, AllHold, Walk, whole, stuck, records_of, In, AreTiles, tiling, tiles, is_a, Nodes, nodes_of, Met, met, lost, nodes_met, AttributeShape, VariableShape, Shape, adrs, vdrs, variables, Each, HasEntries, HasVariable, adr_chain, r_vdr_chain, z_vdr_chain, uir_chain, attribute_shape, variable_shape, owned_records, chain_rows, adrs_rows, r_vdrs_rows, z_vdrs_rows, differ_rows, same_name, adr_rows, entries_rows, index_rows, format_phases}
use Rattle.cdf_format.specs.Walks.{met_by}
use Rattle.cdf_format.specs.Shape.{gr_entry_chain, z_entry_chain, index_of, shape}
use Rattle.cdf_format.specs.RecordRules.{tiling_rows, record_rows}
use Rattle.cdf_format.specs.ChainRules.{phase5}
use Rattle.cdf_format.specs.AttributeRules.{attribute_rows, phase6}
use Rattle.cdf_format.specs.IndexRules.{met_rows, phase8}
use Rattle.cdf_format.specs.Phases.{owner_rows, phase9, phases_of}
use Rattle.cdf_format.specs.GoodImage.{IsGoodImage}
use Rattle.cdf_format.proofs.GoodByShape.{attribute_shape_rows, IsGoodByShape}
use Rattle.cdf_format.proofs.TilesLemmas.{tiling_sound, tiling_complete, tile_lies}
use Rattle.cdf_format.proofs.ChainsLemmas.{chain_sound, chain_complete, is_a-from, is_a-in, is_a-type}
use Rattle.cdf_format.proofs.IndexLemmas.{index_sound, index_complete}
use Rattle.cdf_format.proofs.RowLemmas.{Hold-append, Hold-split, Hold-member, Hold-members, chain_rows-hold, Hold-chain_rows}
use Rattle.cdf_format.proofs.ShapeLemmas.{adr_chain_is, r_vdr_chain_is, z_vdr_chain_is, uir_chain_is, shape_is}

first_tile : (b : List ℕ) (from upto : ℕ) (ts : List ℕ) → AreTiles b from upto ts → from < upto → In from ts
first_tile b from upto [] t lt = let e : from ≡ upto = t in absurd (omega arith)
first_tile b from upto (a ∷ ts) t lt = inl (sym t.0)

whole_tiling : (w : Walk) → Hold (tiling_rows w) → w ≡ whole (records_of w)
whole_tiling (whole ts) h = refl
whole_tiling (stuck ts place) h = absurd cc

record IsMet (b ts : List ℕ) (vdr : ℕ) (w : Met Nodes) : Type 0 where
  seen : List ℕ
  is : w ≡ met seen (nodes_met w)
  rows : Hold (index_rows b ts vdr (nodes_met w))

met_rows-hold : (b ts : List ℕ) (vdr : ℕ) (w : Met Nodes) → Hold (met_rows b ts vdr w) → IsMet b ts vdr w
met_rows-hold b ts vdr (met seen nodes) h = record { seen = seen; is = refl; rows = h }
met_rows-hold b ts vdr (lost place) h = absurd cc

pub map_adrs : (b ts ms : List ℕ) → map (λ (a : AttributeShape). a.adr) (map (attribute_shape b ts) ms) ≡ ms
map_adrs b ts [] = refl
map_adrs b ts (m ∷ ms) = ap (λ (r : List ℕ). m ∷ r) (map_adrs b ts ms)

pub map_vdrs : (b ts ms : List ℕ) → vdrs (map (variable_shape b ts) ms) ≡ ms
map_vdrs b ts [] = refl
map_vdrs b ts (m ∷ ms) = ap (λ (r : List ℕ). m ∷ r) (map_vdrs b ts ms)

map_split : (b ts ms ns : List ℕ) → map (variable_shape b ts) (ms ++ ns) ≡ map (variable_shape b ts) ms ++ map (variable_shape b ts) ns
map_split b ts [] ns = refl
map_split b ts (m ∷ ms) ns = ap (λ (r : List VariableShape). variable_shape b ts m ∷ r) (map_split b ts ms ns)

pub vdrs_append : (vs ws : List VariableShape) → vdrs (vs ++ ws) ≡ vdrs vs ++ vdrs ws
vdrs_append [] ws = refl
vdrs_append (v ∷ vs) ws = ap (λ (r : List ℕ). v.vdr ∷ r) (vdrs_append vs ws)

-- ---- from the rules to the shape

module _ (b : List ℕ) (tiled : AreTiles b 8 (length b) (tiles b)) where
  attributes_have : (ms : List ℕ) → Hold (flat_map (attribute_rows b (tiles b)) ms) → Each (HasEntries b (tiles b)) (map (attribute_shape b (tiles b)) ms) × Hold (flat_map (attribute_shape_rows b) (map (attribute_shape b (tiles b)) ms))
  attributes_have [] h = (tt, tt)
  attributes_have (m ∷ ms) h =
      let parts = Hold-split (attribute_rows b (tiles b) m) (flat_map (attribute_rows b (tiles b)) ms) h in
      let gr_rows = chain_rows 4 (gr_entry_chain b (tiles b) m) (entries_rows b m adr_ngr_entries) in
      let z_rows = chain_rows 4 (z_entry_chain b (tiles b) m) (entries_rows b m adr_nz_entries) in
      let p = Hold-split (adr_rows b m ++ gr_rows) z_rows parts.0 in
      let q = Hold-split (adr_rows b m) gr_rows p.0 in
      let gr = chain_rows-hold 4 (gr_entry_chain b (tiles b) m) (entries_rows b m adr_ngr_entries) q.1 in
      let z = chain_rows-hold 4 (z_entry_chain b (tiles b) m) (entries_rows b m adr_nz_entries) p.1 in
      let rest = attributes_have ms parts.1 in
      let gs = records_of (gr_entry_chain b (tiles b) m) in
      let zs = records_of (z_entry_chain b (tiles b) m) in (
        (record { gr_chain = chain_sound b (tiles b) agr_edr_type m adr_agr_edr_head gs gr.is; z_chain = chain_sound b (tiles b) az_edr_type m adr_az_edr_head zs z.is }, rest.0),
        Hold-append (attribute_shape_rows b (attribute_shape b (tiles b) m)) (flat_map (attribute_shape_rows b) (map (attribute_shape b (tiles b)) ms))
            (Hold-append (adr_rows b m ++ entries_rows b m adr_ngr_entries gs) (entries_rows b m adr_nz_entries zs) (Hold-append (adr_rows b m) (entries_rows b m adr_ngr_entries gs) q.0 gr.rows) z.rows) rest.1,
      )

  variables_have : (ms : List ℕ) → Hold (flat_map (λ vdr. met_rows b (tiles b) vdr (index_of b (tiles b) vdr)) ms)
      → Each (HasVariable b (tiles b)) (map (variable_shape b (tiles b)) ms) × Hold (flat_map (λ (v : VariableShape). index_rows b (tiles b) v.vdr v.index) (map (variable_shape b (tiles b)) ms))
  variables_have [] h = (tt, tt)
  variables_have (m ∷ ms) h =
      let parts = Hold-split (met_rows b (tiles b) m (index_of b (tiles b) m)) (flat_map (λ vdr. met_rows b (tiles b) vdr (index_of b (tiles b) vdr)) ms) h in
      let i = met_rows-hold b (tiles b) m (index_of b (tiles b) m) parts.0 in
      let nodes = nodes_met (index_of b (tiles b) m) in
      let rest = variables_have ms parts.1 in (
        (record { indexed = index_sound b (tiles b) (length b) m vdr_vxr_head i.seen nodes tiled i.is; packed_by = refl }, rest.0),
        Hold-append (index_rows b (tiles b) m nodes) (flat_map (λ (v : VariableShape). index_rows b (tiles b) v.vdr v.index) (map (variable_shape b (tiles b)) ms)) i.rows rest.1,
      )

pub good_by_rules : (b : List ℕ) → 8 < length b → type_at b 8 ≡ cdr_type → AllHold (format_phases b) → IsGoodByShape b (shape b)
unfolding shape
good_by_rules b long first rules =
    let ts = tiles b in
    let q4 = Hold-split (tiling_rows (tiling b)) (flat_map (record_rows b) (met_by (tiling b))) rules.0 in
    let all : tiling b ≡ whole ts = whole_tiling (tiling b) q4.0 in
    let met_is : met_by (tiling b) ≡ ts = ap met_by all in
    let tiled : AreTiles b 8 (length b) ts = tiling_sound b ts all in
    let each : Hold (flat_map (record_rows b) ts) = subst (λ (ms : List ℕ). Hold (flat_map (record_rows b) ms)) met_is q4.1 in
    let ar = chain_rows 2 (adr_chain b ts) (adrs_rows b) in
    let rr = chain_rows 5 (r_vdr_chain b ts) (r_vdrs_rows b) in
    let zr = chain_rows 8 (z_vdr_chain b ts) (z_vdrs_rows b) in
    let ur = chain_rows 11 (uir_chain b ts) (λ (members : List ℕ). []) in
    let p5 = Hold-split (ar ++ rr ++ zr) ur rules.1.0.1 in
    let q5 = Hold-split (ar ++ rr) zr p5.0 in
    let r5 = Hold-split ar rr q5.0 in
    let a = chain_rows-hold 2 (adr_chain b ts) (adrs_rows b) r5.0 in
    let r = chain_rows-hold 5 (r_vdr_chain b ts) (r_vdrs_rows b) r5.1 in
    let z = chain_rows-hold 8 (z_vdr_chain b ts) (z_vdrs_rows b) q5.1 in
    let u = chain_rows-hold 11 (uir_chain b ts) (λ (members : List ℕ). []) p5.1 in
    let as_ = records_of (adr_chain b ts) in
    let rs = records_of (r_vdr_chain b ts) in
    let zs = records_of (z_vdr_chain b ts) in
    let adrs_are : map (λ (x : AttributeShape). x.adr) (map (attribute_shape b ts) as_) ≡ as_ = map_adrs b ts as_ in
    let r_are : vdrs (map (variable_shape b ts) rs) ≡ rs = map_vdrs b ts rs in
    let z_are : vdrs (map (variable_shape b ts) zs) ≡ zs = map_vdrs b ts zs in
    let vs_are : map (variable_shape b ts) (rs ++ zs) ≡ map (variable_shape b ts) rs ++ map (variable_shape b ts) zs = map_split b ts rs zs in
    let all_are : vdrs (map (variable_shape b ts) rs ++ map (variable_shape b ts) zs) ≡ rs ++ zs = ap vdrs (sym vs_are) ∙ map_vdrs b ts (rs ++ zs) in
    let sixth : Hold (phase6 b ts as_) = subst (λ (ms : List ℕ). Hold (phase6 b ts ms)) adrs_are rules.1.1.0 in
    let eighth : Hold (phase8 b ts (rs ++ zs)) = subst (λ (ms : List ℕ). Hold (phase8 b ts ms)) all_are rules.1.1.1.1.0 in
    let p6 = Hold-split (flat_map (attribute_rows b ts) as_) (differ_rows 2 (same_name b adr_name) [] as_) sixth in
    let e6 = attributes_have b tiled as_ p6.0 in
    let e8 = variables_have b tiled (rs ++ zs) eighth in
    record {
      has_shape = record {
        tiled = tiled;
        typed = λ place i. (Hold-member (record_rows b) ts place each i).0;
        fixed = λ place i. leb-true _ _ (Hold-member (record_rows b) ts place each i).1.0;
        cdr_stands = is_a-from b ts cdr_type 8 (first_tile b 8 (length b) ts tiled (omega arith)) first;
        gdr_is = refl;
        gdr_stands = rules.1.0.0;
        attribute_chain = rw adrs_are (chain_sound b ts adr_type (gdr_offset b) gdr_adr_head as_ a.is);
        r_chain = rw r_are (chain_sound b ts r_vdr_type (gdr_offset b) gdr_r_vdr_head rs r.is);
        z_chain = rw z_are (chain_sound b ts z_vdr_type (gdr_offset b) gdr_z_vdr_head zs z.is);
        unused_chain = chain_sound b ts uir_type (gdr_offset b) gdr_uir_head (records_of (uir_chain b ts)) u.is;
        entry_chains = e6.0;
        have_variables = subst (Each (HasVariable b ts)) vs_are e8.0;
      };
      counting = rw (adrs_are, r_are, z_are) (Hold-append (adrs_rows b as_ ++ r_vdrs_rows b rs) (z_vdrs_rows b zs) (Hold-append (adrs_rows b as_) (r_vdrs_rows b rs) a.rows r.rows) z.rows);
      attributes = rw adrs_are (Hold-append (flat_map (attribute_shape_rows b) (map (attribute_shape b ts) as_)) (differ_rows 2 (same_name b adr_name) [] as_) e6.1 p6.1);
      of_variables = rules.1.1.1.0;
      indexes = subst (λ (vs : List VariableShape). Hold (flat_map (λ (v : VariableShape). index_rows b ts v.vdr v.index) vs)) vs_are e8.1;
      owned_once = λ place i. eqb-true _ _ (Hold-member (owner_rows (owned_records b (shape b))) ts place rules.1.1.1.1.1.0 i).0;
    }

-- ---- from the shape to the rules

module _ (b : List ℕ) (records : List ℕ) (tiled : AreTiles b 8 (length b) records) where
  attributes_rows : (as_ : List AttributeShape) → Each (HasEntries b records) as_ → Hold (flat_map (attribute_shape_rows b) as_)
      → Hold (flat_map (attribute_rows b records) (map (λ (a : AttributeShape). a.adr) as_))
  attributes_rows [] have h = tt
  attributes_rows (a ∷ more) have h =
      let parts = Hold-split (attribute_shape_rows b a) (flat_map (attribute_shape_rows b) more) h in
      let p = Hold-split (adr_rows b a.adr ++ entries_rows b a.adr adr_ngr_entries a.gr_entries) (entries_rows b a.adr adr_nz_entries a.z_entries) parts.0 in
      let q = Hold-split (adr_rows b a.adr) (entries_rows b a.adr adr_ngr_entries a.gr_entries) p.0 in
      let gr_rows = chain_rows 4 (gr_entry_chain b records a.adr) (entries_rows b a.adr adr_ngr_entries) in
      let z_rows = chain_rows 4 (z_entry_chain b records a.adr) (entries_rows b a.adr adr_nz_entries) in
      let gr = Hold-chain_rows 4 (gr_entry_chain b records a.adr) (entries_rows b a.adr adr_ngr_entries) a.gr_entries (chain_complete b records (length b) agr_edr_type a.adr adr_agr_edr_head a.gr_entries tiled have.0.gr_chain) q.1 in
      let z = Hold-chain_rows 4 (z_entry_chain b records a.adr) (entries_rows b a.adr adr_nz_entries) a.z_entries (chain_complete b records (length b) az_edr_type a.adr adr_az_edr_head a.z_entries tiled have.0.z_chain) p.1 in
      Hold-append (adr_rows b a.adr ++ gr_rows ++ z_rows) _ (Hold-append (adr_rows b a.adr ++ gr_rows) z_rows (Hold-append (adr_rows b a.adr) gr_rows q.0 gr) z) (attributes_rows more have.1 parts.1)

  indexes_rows : (vs : List VariableShape) → Each (HasVariable b records) vs → Hold (flat_map (λ (v : VariableShape). index_rows b records v.vdr v.index) vs) → Hold (flat_map (λ vdr. met_rows b records vdr (index_of b records vdr)) (vdrs vs))
  indexes_rows [] have h = tt
  indexes_rows (v ∷ more) have h =
      let parts = Hold-split (index_rows b records v.vdr v.index) (flat_map (λ (v : VariableShape). index_rows b records v.vdr v.index) more) h in
      let met_is : index_of b records v.vdr ≡ met (nodes_of v.index) v.index = index_complete b records (length b) v.vdr vdr_vxr_head v.index tiled have.0.indexed in
      Hold-append (met_rows b records v.vdr (index_of b records v.vdr)) (flat_map (λ vdr. met_rows b records vdr (index_of b records vdr)) (vdrs more)) (rw met_is parts.0) (indexes_rows more have.1 parts.1)

-- the rules on chains, attributes, variables, indexes and owners
pub phases_by_shape : (b : List ℕ) (s : Shape) → IsGoodByShape b s → AllHold (phases_of b s)
phases_by_shape b s g =
    let h = g.has_shape in
    let ts = s.records in
    let a = adr_chain_is b s h in
    let r = r_vdr_chain_is b s h in
    let z = z_vdr_chain_is b s h in
    let c = Hold-split (adrs_rows b (adrs s) ++ r_vdrs_rows b (vdrs s.r_variables)) (z_vdrs_rows b (vdrs s.z_variables)) g.counting in
    let c' = Hold-split (adrs_rows b (adrs s)) (r_vdrs_rows b (vdrs s.r_variables)) c.0 in
    let ar = chain_rows 2 (adr_chain b ts) (adrs_rows b) in
    let rr = chain_rows 5 (r_vdr_chain b ts) (r_vdrs_rows b) in
    let zr = chain_rows 8 (z_vdr_chain b ts) (z_vdrs_rows b) in
    let ur = chain_rows 11 (uir_chain b ts) (λ (members : List ℕ). []) in
    let chains : Hold (ar ++ rr ++ zr ++ ur) =
    Hold-append (ar ++ rr ++ zr) ur
    (Hold-append (ar ++ rr) zr (Hold-append ar rr (Hold-chain_rows 2 (adr_chain b ts) (adrs_rows b) (adrs s) a c'.0) (Hold-chain_rows 5 (r_vdr_chain b ts) (r_vdrs_rows b) (vdrs s.r_variables) r c'.1)) (Hold-chain_rows 8 (z_vdr_chain b ts) (z_vdrs_rows b) (vdrs s.z_variables) z c.1))
    (Hold-chain_rows 11 (uir_chain b ts) (λ (members : List ℕ). []) s.unused (uir_chain_is b s h) tt) in
    let gdr_here : is_a b ts gdr_type (gdr_offset b) ≡ true = subst (λ (x : ℕ). is_a b ts gdr_type x ≡ true) (sym h.gdr_is) h.gdr_stands in
    let fifth : Hold (phase5 b ts) = (gdr_here, chains) in
    let d = Hold-split (flat_map (attribute_shape_rows b) s.attributes) (differ_rows 2 (same_name b adr_name) [] (adrs s)) g.attributes in
    let sixth : Hold (phase6 b ts (adrs s)) = Hold-append _ (differ_rows 2 (same_name b adr_name) [] (adrs s)) (attributes_rows b ts h.tiled s.attributes h.entry_chains d.0) d.1 in
    let eighth : Hold (phase8 b ts (vdrs (variables s))) = indexes_rows b ts h.tiled (variables s) h.have_variables g.indexes in
    let ninth : Hold (phase9 ts (owned_records b s)) = Hold-members (owner_rows (owned_records b s)) ts (λ m i. (eq-eqb _ _ (g.owned_once m i), tt)) in
    (fifth, (sixth, (g.of_variables, (eighth, (ninth, tt)))))

-- ---- the two ways to say it

pub good_image : (b : List ℕ) (s : Shape) → IsGoodByShape b s → IsGoodImage b s
good_image b s g = record { has_shape = g.has_shape; phases = phases_by_shape b s g }

pub rules_by_good : (b : List ℕ) (s : Shape) → IsGoodImage b s → AllHold (format_phases b)
rules_by_good b s g =
    let h = g.has_shape in
    let ts = s.records in
    let all : tiling b ≡ whole ts = tiling_complete b ts h.tiled in
    let each : Hold (flat_map (record_rows b) ts) = Hold-members (record_rows b) ts (λ m i. (h.typed m i, (le-leb _ _ (h.fixed m i), tt))) in
    (rw all each, subst (λ (x : Shape). AllHold (phases_of b x)) (sym (shape_is b s h)) g.phases)

pub by_shape : (b : List ℕ) (s : Shape) → IsGoodImage b s → IsGoodByShape b s
by_shape b s g =
    let h = g.has_shape in
    let tile = is_a-in b s.records cdr_type 8 h.cdr_stands in
    let high = (tile_lies b 8 (length b) s.records 8 h.tiled tile).high in
    let long = (tile_lies b 8 (length b) s.records 8 h.tiled tile).long in
    subst (IsGoodByShape b) (shape_is b s h) (good_by_rules b (omega arith) (is_a-type b s.records cdr_type 8 h.cdr_stands) (rules_by_good b s g))
