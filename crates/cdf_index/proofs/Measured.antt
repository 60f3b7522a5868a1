-- What a walk over an index collects and counts: the entries of blocks, the places of nodes, and the size.
use Rattle.cdf_index.proofs.Common.{AreTiles, Counts, HasIndex, HasNodes, IndexSize, List, Met, Nodes, [], arith, entry_count, entry_leaves, entry_met, flat_map, has, image_limit, index_at, is_linkable, used_count, vxr_type, Names, true, leaf_words, leaves_of, length, length-append, length-map, linkable-in, lower_nodes, map, map-append, max, met_below, met_block, met_in, met_node, nodes_of, place_met, size_of, tile_lies, tiles, used_met, widest_met, ℕ, ◌*◌, ◌++◌, ◌+◌, ◌∷◌, ◌≡◌, ◌≤◌}
use Rattle.cdf_edits.specs.Commands.Room.{entries_in, entries_below, widest, widest_below}
use Rattle.std.proofs.lemmas.Grind.{flat_map-append}
use Rattle.cdf_index.proofs.Searching.{few_nodes}
use Rattle.cdf_index.proofs.ByParts.{nodes_by, nodes_from}

pub collected : (nodes : Nodes) → (flat_map entry_met (met_in nodes) ≡ map leaf_words (leaves_of nodes)) × (flat_map place_met (met_in nodes) ≡ nodes_of nodes)
unfolding met_in met_below nodes_of lower_nodes leaves_of entry_leaves
collected =
    nodes_by (λ es. (flat_map entry_met (met_below es) ≡ map leaf_words (entry_leaves es)) × (flat_map place_met (met_below es) ≡ lower_nodes es)) (grind (arith, flat_map-append, map-append))

-- ---- the size

pub sizes_both : (xs ys : List Met) → (length (flat_map entry_met (xs ++ ys)) ≡ length (flat_map entry_met xs) + length (flat_map entry_met ys)) × (used_met (xs ++ ys) ≡ used_met xs + used_met ys) × (widest_met (xs ++ ys) ≡ max (widest_met xs) (widest_met ys))
sizes_both [] ys = omega arith
sizes_both (met_node place room used ∷ xs) ys = omega (arith, sizes_both xs ys)
sizes_both (met_block first last place ∷ xs) ys = omega (arith, sizes_both xs ys)

measured : (nodes : Nodes) → (used_met (met_in nodes) ≡ entries_in nodes) × (max 7 (widest_met (met_in nodes)) ≡ widest nodes) × (length (leaves_of nodes) ≤ entries_in nodes)
unfolding met_in met_below leaves_of entry_leaves entries_in entries_below widest widest_below
measured =
    nodes_by (λ es. (used_met (met_below es) ≡ entries_below es) × (max 7 (widest_met (met_below es)) ≡ widest_below es) × (length (entry_leaves es) ≤ entry_count es + entries_below es))
    (grind (arith, sizes_both, length-append))

pub seven_at_least : (nodes : Nodes) → 7 ≤ widest nodes
seven_at_least nodes = omega (arith, (measured nodes).1)

-- ---- no count stops before its end

-- a node has at most so many entries
abbrev most : ℕ
most = 67108864

module _ (b : List ℕ) (tiled : AreTiles b 8 (length b) (tiles b)) (short : length b ≤ image_limit) where
  few_used : (m : ℕ) → is_linkable b (tiles b) vxr_type m ≡ true → used_count b m ≤ most
  few_used m is = omega (arith, tile_lies b 8 (length b) (tiles b) m tiled (linkable-in b (tiles b) vxr_type m is))

  few_in : (levels : ℕ) (nodes : Nodes) → HasNodes b (tiles b) levels nodes → entries_in nodes ≤ length (nodes_of nodes) * most
  unfolding HasNodes Names nodes_of lower_nodes entries_in entries_below
  few_in = nodes_from (λ levels es. Names b (tiles b) levels es → entries_below es ≤ length (lower_nodes es) * most) (grind (arith, few_used, length-append))

pub measured_is : (b : List ℕ) (head : ℕ) → HasIndex b head → length b ≤ image_limit → (size : IndexSize) → Counts size (met_in (index_at b head)) → size ≡ size_of (index_at b head)
measured_is b head has short size c =
    let few = few_in b has.tiled short 8 (index_at b head) has.index.has_nodes in
    grind (arith, c.leaves, c.entries, c.widest, few_nodes has, collected (index_at b head), length-map (leaves_of (index_at b head)) leaf_words, measured (index_at b head))
