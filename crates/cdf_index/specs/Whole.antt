-- The walk over a whole index.
use Rattle.std.specs.Prelude.{◌≡◌, ◌≤◌, ℕ, List, [], ◌∷◌, ◌++◌, length, map}
use Rattle.std.specs.List.{flat_map}
use Rattle.cdf_format.specs.Index.{Nodes, no_node, node, Entries, no_entry, block, lower, Leaf, nodes_of, entry_count, link_to}
use Rattle.cdf_format.specs.Records.{cdr_place}
use Rattle.cdf_format.specs.Tiles.{AreTiles, tiles}
use Rattle.cdf_index.specs.Finding.{Stands}
use Rattle.cdf_index.specs.declared.collecting.IndexParts.{IndexParts}
use Rattle.cdf_index.specs.declared.entries.Entry.{Entry}

-- what is met: a node, by its place, its room and the number of its entries, or a block, by First, Last and its place
pub data Met : Type 0 where
  met_node : ℕ → ℕ → ℕ → Met
  met_block : ℕ → ℕ → ℕ → Met

unfoldable mutual
  -- a node, then what its entries name, in order, a lower chain with all that is below it, and then the next node of its chain
  pub met_in : Nodes → List Met
  met_in no_node = []
  met_in (node place room entries more) = met_node place room (entry_count entries) ∷ met_below entries ++ met_in more

  pub met_below : Entries → List Met
  met_below no_entry = []
  met_below (block first last place packed entries) = met_block first last place ∷ met_below entries
  met_below (lower first last nodes entries) = met_in nodes ++ met_below entries

-- what had gathered some now has these too
pub record Grew {G : Type 0} (has : G → List Met → Type 0) (was now : G) (more : List Met) : Type 0 where
  pub also : (met : List Met) → has was met → has now (met ++ more)

-- ---- the entries of blocks and the places of nodes, collected

-- what the entry of a leaf says
abbrev pub leaf_words : Leaf → Entry
leaf_words leaf = record { first = leaf.first; last = leaf.last; place = leaf.place }

abbrev pub places_in : List Entry → List ℕ
places_in entries = map (λ entry. entry.place) entries

abbrev pub entry_met : Met → List Entry
entry_met (met_node place room used) = []
entry_met (met_block first last place) = record { first = first; last = last; place = place } ∷ []

abbrev pub place_met : Met → List ℕ
place_met (met_node place room used) = place ∷ []
place_met (met_block first last place) = []

abbrev pub parts_of : IndexParts → List Met → Type 0
parts_of parts met = (parts.leaves.items ≡ flat_map entry_met met) × (parts.nodes.items ≡ flat_map place_met met)

-- ---- what stands in the image

-- a chain begins at a link
pub record SomeChain (b : List ℕ) (levels link : ℕ) : Type 0 where
  pub nodes : Nodes
  pub tiled : AreTiles b cdr_place (length b) (tiles b)
  pub stands : Stands b levels nodes
  pub link_is : link ≡ link_to nodes
  pub few : length (nodes_of nodes) ≤ length b
