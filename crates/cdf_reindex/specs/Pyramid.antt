-- An index built anew from its leaves, level by level.
use Rattle.std.specs.Prelude.{◌≡◌, ◌≤◌, ◌==◌, ℕ, ◌-◌, List, [], ◌∷◌, ◌++◌, length, map, if◌then◌else◌}
use Rattle.cdf_model.specs.Limits.{level_limit}
use Rattle.cdf_edits.specs.Commands.Reindex.{IsPyramid, levels_up}
use Rattle.cdf_edits.specs.Commands.Room.{node_entries, nodes_above}
use Rattle.cdf_edits.specs.Index.Grown.{with_both}
use Rattle.cdf_index.specs.Order.{InOrder, AreInOrder, NextsAreZero}
use Rattle.cdf_format.specs.Index.{Nodes, no_node, node, Entries, no_entry, block, lower, Leaf, nodes_of, leaves_of, entry_count}

-- a new node: where it stands, and its entries
pub record NewNode : Type 0 where
  pub place : ℕ
  pub entries : Entries

-- an entry for each leaf
abbrev pub entries_for : List Leaf → Entries
entries_for [] = no_entry
entries_for (leaf ∷ more) = block leaf.first leaf.last leaf.place leaf.packed (entries_for more)

-- First of the first entry, and Last of the last one, or else this number
abbrev pub first_of : Entries → ℕ
first_of no_entry = 0
first_of (block first last place packed entries) = first
first_of (lower first last nodes entries) = first

abbrev pub last_of : ℕ → Entries → ℕ
last_of n no_entry = n
last_of n (block first last place packed entries) = last_of last entries
last_of n (lower first last nodes entries) = last_of last entries

-- a new node with none behind it
abbrev pub alone : NewNode → Nodes
alone new = node new.place node_entries new.entries no_node

-- the entries of all nodes of a level
abbrev pub entries_of : List NewNode → Entries
entries_of [] = no_entry
entries_of (new ∷ more) = with_both new.entries (entries_of more)

-- the entries that name the nodes of a level
abbrev pub uppers : List NewNode → Entries
uppers [] = no_entry
uppers (new ∷ more) = lower (first_of new.entries) (last_of 0 new.entries) (alone new) (uppers more)

-- filled from the left: each node has an entry and no more than there is room for, and as many as that where another one follows
abbrev pub Filled : List NewNode → Type 0
Filled [] = Unit {0}
Filled (new ∷ more) = (1 ≤ entry_count new.entries) × (entry_count new.entries ≤ node_entries) × (1 ≤ length more → entry_count new.entries ≡ node_entries) × Filled more

-- Levels of nodes over these leaves, from the top one down: the lowest names the leaves, each other one the nodes below it, of which there are at least two.
abbrev pub AreLevels : List Leaf → List (List NewNode) → Type 0
AreLevels leaves [] = ⊥
AreLevels leaves (level ∷ []) = (entries_of level ≡ entries_for leaves) × Filled level
AreLevels leaves (level ∷ below ∷ more) = (entries_of level ≡ uppers below) × Filled level × (2 ≤ length below) × AreLevels leaves (below ∷ more)

-- the nodes of levels, from the lowest one up
abbrev pub from_below : List (List NewNode) → List NewNode
from_below [] = []
from_below (level ∷ more) = from_below more ++ level

abbrev pub places_of : List NewNode → List ℕ
places_of nodes = map (λ new. new.place) nodes

-- how many more nodes there will be above a level of so many, by as many levels at most
abbrev pub nodes_left : ℕ → ℕ → ℕ
nodes_left levels n = if n == 1 then 0 else nodes_above levels n

-- what levels up to a single node make: an index of their leaves
pub record MakesPyramid (leaves : List Leaf) (top : NewNode) (more : List (List NewNode)) : Type 0 where
  pub leaves_are : leaves_of (alone top) ≡ leaves
  pub filled : IsPyramid (alone top)
  pub order : (high : ℕ) → AreInOrder 0 high (entries_for leaves) → InOrder 0 high (alone top)
  pub nexts : NextsAreZero (alone top)
  pub few : length leaves ≤ 2147483648 → length ((top ∷ []) ∷ more) ≤ 6
  pub fewest : 1 ≤ length leaves → length leaves ≤ 2147483648 → length (nodes_of (alone top)) ≡ nodes_above level_limit (length leaves)
  pub places : length leaves ≤ 2147483648 → levels_up (level_limit - 1) (alone top) ≡ places_of (from_below ((top ∷ []) ∷ more))

abbrev pub LevelsMakePyramid : Type 0
LevelsMakePyramid = (leaves : List Leaf) (top : NewNode) (more : List (List NewNode)) → AreLevels leaves ((top ∷ []) ∷ more) → MakesPyramid leaves top more
