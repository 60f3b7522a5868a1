-- The last leaf of an index that begins at a record or before it (own).
use Rattle.std.specs.Prelude.{ℕ, zero, suc, List, [], ◌∷◌, ◌++◌, ◌==◌, nat_le, None, if◌then◌else◌}
use Rattle.std.specs.List.{filter, last_or}
use Rattle.std.specs.declared.option.Option.{Option}
use Rattle.cdf_format.specs.Index.{Nodes, no_node, node, Entries, no_entry, block, lower, Leaf, leaf, leaves_of, entry_leaves}
use Rattle.cdf_format.specs.IndexOf.{HasNodes}
use Rattle.cdf_format.specs.Tiles.{tiles}
use Rattle.cdf_index.specs.Finding.{HasIndex, index_at}

-- the last of some leaves that begins at a record or before it
abbrev pub last_begun : ℕ → List Leaf → Option Leaf
last_begun rec leaves = last_or None (filter (λ (l : Leaf). nat_le l.first rec) leaves)

-- ---- parts of an index

-- the entries of the first node of a chain
abbrev pub entries_of : Nodes → Entries
entries_of no_node = no_entry
entries_of (node place room entries more) = entries

-- the leaves that the entry with a number names, itself or through the chain below it
abbrev pub leaves_named : ℕ → Entries → List Leaf
leaves_named i no_entry = []
leaves_named zero (block first last place packed entries) = leaf first last place packed ∷ []
leaves_named zero (lower first last nodes entries) = leaves_of nodes
leaves_named (suc i) (block first last place packed entries) = leaves_named i entries
leaves_named (suc i) (lower first last nodes entries) = leaves_named i entries

-- those that the first so many entries name
abbrev pub leaves_before : ℕ → Entries → List Leaf
leaves_before zero entries = []
leaves_before (suc i) no_entry = []
leaves_before (suc i) (block first last place packed entries) = leaf first last place packed ∷ leaves_before i entries
leaves_before (suc i) (lower first last nodes entries) = leaves_of nodes ++ leaves_before i entries

-- those of the nodes of a chain before the node at a place
abbrev pub leaves_until : ℕ → Nodes → List Leaf
leaves_until end no_node = []
leaves_until end (node place room entries more) = if place == end then [] else entry_leaves entries ++ leaves_until end more

-- a link leads to an index of at most so many levels
pub record HasLevels (b : List ℕ) (levels link : ℕ) : Type 0 where
  pub index : HasIndex b link
  pub has : HasNodes b (tiles b) levels (index_at b link)
