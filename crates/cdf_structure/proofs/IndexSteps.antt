-- The rules on the index of a variable, and its records.
use Rattle.cdf_structure.proofs.Common.{AreTiles, Block, Bool, Finding, Hold, Hold-append, Index, Indexed, IsBroken, IsBroken-after, IsBroken-before, Leaf, List, MeetsIndex, Met, Nodes, Ok, Option, Row, Some, WalksIndex, [], ap, block_of, block_rows, cpr_at, cpr_of, cpr_records, either, flat_map, index_of, index_records, inl, inr, is_compressed, is_some, leaf_rows, leaves_of, length, lost, map, met, met_rows, negsuc, nodes_met, nodes_of, nodes_rows, pos, record_bytes, record_number_limit, refl, subst, sym, variable_records, variable_shape, vdr_vxr_head, ℕ, ◌++◌, ◌∙◌, ◌∷◌, ◌≡◌}
use Rattle.cdf_format.proofs.IndexLemmas.{index_sound, index_complete}
use Rattle.cdf_structure.proofs.Findings.{one_found}

module _ (b ts : List ℕ) (vdr : ℕ) where
  -- ---- the rules on blocks

  blocks_are : (leaves : List Leaf) → flat_map (block_rows b ts (is_compressed b vdr) (record_bytes b vdr)) (map block_of leaves) ≡ flat_map (leaf_rows b ts vdr) leaves
  blocks_are [] = refl
  blocks_are (leaf ∷ leaves) = ap (λ (rows : List Row). leaf_rows b ts vdr leaf ++ rows) (blocks_are leaves)

  -- ---- the index

  pub index_lost : (place : ℕ) → index_of b ts vdr ≡ lost place → IsBroken (met_rows b ts vdr (index_of b ts vdr)) 1 place
  index_lost place e = subst (λ (m : Met Nodes). IsBroken (met_rows b ts vdr m) 1 place) (sym e) (inl (refl, refl, refl))

  module _ (index : Index) (nodes : Nodes) (meets : MeetsIndex b ts vdr index nodes) where
    pub index_breaks : (rule place : ℕ) → IsBroken (nodes_rows b ts (negsuc 0) (pos record_number_limit) nodes) rule place → IsBroken (met_rows b ts vdr (index_of b ts vdr)) rule place
    index_breaks rule place broken = subst (λ (m : Met Nodes). IsBroken (met_rows b ts vdr m) rule place) (sym meets.walk_is) (IsBroken-before (nodes_rows b ts (negsuc 0) (pos record_number_limit) nodes) (flat_map (leaf_rows b ts vdr) (leaves_of nodes)) rule place broken)

    module _ (compressed : Bool) (packs : compressed ≡ is_compressed b vdr) (bytes : ℕ) (is : bytes ≡ record_bytes b vdr) where
      rows_are : flat_map (block_rows b ts compressed bytes) index.blocks.items ≡ flat_map (leaf_rows b ts vdr) (leaves_of nodes)
      rows_are = (λ i. flat_map (block_rows b ts (packs i) (is i)) (meets.blocks_are i)) ∙ blocks_are (leaves_of nodes)

      pub blocks_break : (rule place : ℕ) → IsBroken (flat_map (block_rows b ts compressed bytes) index.blocks.items) rule place → IsBroken (met_rows b ts vdr (index_of b ts vdr)) rule place
      blocks_break rule place broken =
          subst (λ (m : Met Nodes). IsBroken (met_rows b ts vdr m) rule place) (sym meets.walk_is) (IsBroken-after (nodes_rows b ts (negsuc 0) (pos record_number_limit) nodes) (flat_map (leaf_rows b ts vdr) (leaves_of nodes)) rule place (subst (λ (rows : List Row). IsBroken rows rule place) rows_are broken))

      pub index_holds : Hold (nodes_rows b ts (negsuc 0) (pos record_number_limit) nodes) → Hold (flat_map (block_rows b ts compressed bytes) index.blocks.items) → Hold (met_rows b ts vdr (index_of b ts vdr))
      index_holds walked blocks = subst (λ (m : Met Nodes). Hold (met_rows b ts vdr m)) (sym meets.walk_is) (Hold-append (nodes_rows b ts (negsuc 0) (pos record_number_limit) nodes) (flat_map (leaf_rows b ts vdr) (leaves_of nodes)) walked (subst Hold rows_are blocks))

  -- ---- what is found in an index that was walked

  module _ (index : Index) (walked : WalksIndex b ts vdr (Ok index)) where
    pub found_in_nodes : (f : Finding) → index.broken ≡ Some f → IsBroken (met_rows b ts vdr (index_of b ts vdr)) f.rule f.place
    found_in_nodes f is = index_breaks index walked.0 walked.1 f.rule f.place (one_found (nodes_rows b ts (negsuc 0) (pos record_number_limit) walked.0) index.broken f walked.1.found is)

-- ---- the records

-- a variable is compressed where it has a CPR
pub cpr_stands : (b : List ℕ) (vdr : ℕ) (cpr : Option ℕ) → cpr ≡ cpr_at b vdr → is_some cpr ≡ is_compressed b vdr
cpr_stands b vdr cpr packs = ap is_some packs ∙ elim (either (is_compressed b vdr)) [ inl e ↦ rw e refl | inr e ↦ rw e refl ]

pub records_are : (b ts : List ℕ) (variable : Indexed) (index : Index) (nodes : Nodes) → MeetsIndex b ts variable.vdr index nodes → AreTiles b 8 (length b) ts → variable.cpr ≡ cpr_at b variable.vdr
    → index_records variable index ≡ variable_records (variable_shape b ts variable.vdr)
records_are b ts variable index nodes meets tiled packs =
    (λ i. vdr ∷ nodes_are i ++ places_are i ++ cpr_is i)
    ∙ ap (λ (m : Met Nodes). vdr ∷ nodes_of (nodes_met m) ++ map (λ leaf. leaf.place) (leaves_of (nodes_met m)) ++ cpr_of b vdr) (sym meets.walk_is)
  where
    vdr : ℕ
    vdr = variable.vdr

    seen_of : Met Nodes → List ℕ
    seen_of (met seen m) = seen
    seen_of (lost place) = []

    nodes_are : index.nodes.list.items ≡ nodes_of nodes
    nodes_are = ap seen_of (sym meets.walk_is ∙ index_complete b ts (length b) variable.vdr vdr_vxr_head nodes tiled (index_sound b ts (length b) variable.vdr vdr_vxr_head index.nodes.list.items nodes tiled meets.walk_is))

    places : (leaves : List Leaf) → map (λ (block : Block). block.place) (map block_of leaves) ≡ map (λ (leaf : Leaf). leaf.place) leaves
    places [] = refl
    places (leaf ∷ leaves) = ap (λ (xs : List ℕ). leaf.place ∷ xs) (places leaves)

    places_are : map (λ (block : Block). block.place) index.blocks.items ≡ map (λ (leaf : Leaf). leaf.place) (leaves_of nodes)
    places_are = ap (map (λ (block : Block). block.place)) meets.blocks_are ∙ places (leaves_of nodes)

    listed : cpr_records (cpr_at b variable.vdr) ≡ cpr_of b variable.vdr
    listed = elim (either (is_compressed b variable.vdr)) [ inl e ↦ rw e refl | inr e ↦ rw e refl ]

    cpr_is : cpr_records variable.cpr ≡ cpr_of b variable.vdr
    cpr_is = ap cpr_records packs ∙ listed
