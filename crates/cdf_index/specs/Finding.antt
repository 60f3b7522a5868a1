-- An index that a link leads to, as code walks it: what stands in the bytes, and what a search meets.
use Rattle.std.specs.Prelude.{◌≡◌, ◌≤◌, ◌<◌, ℕ, ◌+◌, ◌*◌, List, [], length, true}
use Rattle.cdf_model.specs.Limits.{level_limit, record_number_limit}
use Rattle.cdf_format.specs.Sound.{NodeFits}
use Rattle.cdf_format.specs.Fields.{size_at, word}
use Rattle.cdf_format.specs.Index.{Nodes, Leaf, nodes_of, leaves_of, link_to, room_at, used_count, last_at}
use Rattle.cdf_format.specs.IndexOf.{IsNode, HasNodes, IsIndex}
use Rattle.cdf_format.specs.IndexRules.{is_block}
use Rattle.cdf_format.specs.IndexWalk.{levels_on, nodes_met}
use Rattle.cdf_format.specs.Shape.{Each}
use Rattle.cdf_format.specs.Tiles.{AreTiles, tiles}
use Rattle.cdf_format.specs.Records.{cdr_place, vxr_first, vxr_bytes}
use Rattle.cdf_index.specs.Order.{InOrder, find_in, nodes_passed}

-- the index that a link leads to
abbrev pub index_at : List ℕ → ℕ → Nodes
index_at b head = nodes_met (levels_on level_limit b (tiles b) [] 0 head)

abbrev pub IsBlock : List ℕ → Leaf → Type 0
IsBlock b l = is_block b (tiles b) l.place ≡ true

-- First or Last of the entry with a number, by where this field of the first entry stands in a node
abbrev pub in_column : List ℕ → ℕ → ℕ → ℕ → ℕ
in_column b at field i = word b (at + (field + 4 * i)) 4

-- the first so many of these numbers ascend
abbrev pub Ascends : List ℕ → ℕ → ℕ → ℕ → Type 0
Ascends b at field used = (i : ℕ) → i + 1 < used → in_column b at field i ≤ in_column b at field (i + 1)

-- the first i of them are below a bound, and the one behind these is not
pub record IsCut (b : List ℕ) (at field used bound i : ℕ) : Type 0 where
  pub before : (j : ℕ) → j < i → in_column b at field j < bound
  pub most : i ≤ used
  pub stop : i < used → bound ≤ in_column b at field i

-- the record of a node is long enough, and its used entries ascend: each First, and each Last, which stand behind them
pub record IsOrderly (b : List ℕ) (at : ℕ) : Type 0 where
  pub fits : NodeFits b at
  pub firsts : Ascends b at (vxr_first 0).place (used_count b at)
  pub lasts : Ascends b at (vxr_first (room_at b at)).place (used_count b at)

-- nodes stand in the image, each is orderly, and their leaves are blocks
pub record Stands (b : List ℕ) (levels : ℕ) (nodes : Nodes) : Type 0 where
  pub has : HasNodes b (tiles b) levels nodes
  pub orderly : Each (IsOrderly b) (nodes_of nodes)
  pub blocks : Each (IsBlock b) (leaves_of nodes)

-- an index, in order
pub record HasIndex (b : List ℕ) (head : ℕ) : Type 0 where
  pub tiled : AreTiles b cdr_place (length b) (tiles b)
  pub index : IsIndex b (tiles b) head (index_at b head)
  pub fits : Each (NodeFits b) (nodes_of (index_at b head))
  pub blocks : Each (IsBlock b) (leaves_of (index_at b head))
  pub order : InOrder 0 record_number_limit (index_at b head)

-- a node stands at a place
pub record SomeNode (b : List ℕ) (at : ℕ) : Type 0 where
  pub levels : ℕ
  pub nodes : Nodes
  pub tiled : AreTiles b cdr_place (length b) (tiles b)
  pub stands : Stands b levels nodes
  pub is_node : IsNode nodes
  pub link : at ≡ link_to nodes

-- the node at a place lies in the image, and so do its entries in it
pub record NodeInside (b : List ℕ) (at : ℕ) : Type 0 where
  pub low : 8 ≤ at
  pub inside : at + size_at b at ≤ length b
  pub room : at + vxr_bytes (room_at b at) ≤ length b
  pub entries : vxr_bytes (room_at b at) ≤ size_at b at
  pub fits : used_count b at ≤ room_at b at

-- the first i entries of a node end before a record, and the one behind them does not
pub record Scanned (b : List ℕ) (rec at i : ℕ) : Type 0 where
  pub before : (j : ℕ) → j < i → last_at b at j < rec
  pub most : i ≤ used_count b at
  pub stop : i < used_count b at → rec ≤ last_at b at i

-- a chain that stands begins at a link
pub record ChainFrom (b : List ℕ) (link : ℕ) : Type 0 where
  pub levels : ℕ
  pub nodes : Nodes
  pub stands : Stands b levels nodes
  pub link_is : link ≡ link_to nodes

-- after so many turns the search is at a link
pub record At (b : List ℕ) (rec turn : ℕ) (nodes : Nodes) (link : ℕ) : Type 0 where
  pub left : ChainFrom b link
  pub same : find_in rec left.nodes ≡ find_in rec nodes
  pub passed : nodes_passed rec left.nodes + turn ≡ nodes_passed rec nodes
