-- The index of a variable, a tree of VXRs (CDF Internal Format Description, "Variable Index Record").
use Rattle.std.specs.Prelude.{ℕ, suc, ◌-◌, ◌/◌, min, List, [], ◌∷◌, ◌++◌, Bool}
use Rattle.cdf_format.specs.Fields.{counted, number, integer4, size_at}
use Rattle.cdf_format.specs.Records.{vxr_n_entries, vxr_n_used_entries, vxr_first, vxr_last, vxr_offset, vxr_entries, vxr_entry_size}

mutual
  -- a chain of VXRs: where the first stands, how many entries it has room for, its used entries, and the rest of the chain
  pub data Nodes : Type 0 where
    no_node : Nodes
    node : ℕ → ℕ → Entries → Nodes → Nodes

  -- used entries. One names the records from a first to a last, and a block, whether it is packed, or a lower chain; then come the others. First and Last stand in it without their sign.
  pub data Entries : Type 0 where
    no_entry : Entries
    block : ℕ → ℕ → ℕ → Bool → Entries → Entries
    lower : ℕ → ℕ → Nodes → Entries → Entries

-- the records from a first to a last, both without their sign, and where their block stands
pub record Leaf : Type 0 where
  pub first : ℕ
  pub last : ℕ
  pub place : ℕ
  pub packed : Bool

abbrev pub leaf : ℕ → ℕ → ℕ → Bool → Leaf
leaf first last place packed = record { first = first; last = last; place = place; packed = packed }

unfoldable mutual
  -- where the nodes stand, a node before its lower ones and these before the next node of its chain
  pub nodes_of : Nodes → List ℕ
  nodes_of no_node = []
  nodes_of (node place room entries more) = place ∷ lower_nodes entries ++ nodes_of more

  pub lower_nodes : Entries → List ℕ
  lower_nodes no_entry = []
  lower_nodes (block first last place packed entries) = lower_nodes entries
  lower_nodes (lower first last nodes entries) = nodes_of nodes ++ lower_nodes entries

unfoldable mutual
  -- the leaves in order, an entry that names a lower chain being replaced by the leaves of that chain
  pub leaves_of : Nodes → List Leaf
  leaves_of no_node = []
  leaves_of (node place room entries more) = entry_leaves entries ++ leaves_of more

  pub entry_leaves : Entries → List Leaf
  entry_leaves no_entry = []
  entry_leaves (block first last place packed entries) = leaf first last place packed ∷ entry_leaves entries
  entry_leaves (lower first last nodes entries) = leaves_of nodes ++ entry_leaves entries

abbrev pub entry_count : Entries → ℕ
entry_count no_entry = 0
entry_count (block first last place packed entries) = suc (entry_count entries)
entry_count (lower first last nodes entries) = suc (entry_count entries)

-- the link that leads to a chain
abbrev pub link_to : Nodes → ℕ
link_to no_node = 0
link_to (node place room entries more) = place

-- ---- fields of a node

abbrev pub room_at : List ℕ → ℕ → ℕ
room_at b place = number b place vxr_n_entries

-- an entry is used where its number is below NusedEntries, below Nentries, and below what the record has room for
abbrev pub used_count : List ℕ → ℕ → ℕ
used_count b place = min (counted (integer4 b place vxr_n_used_entries)) (min (counted (integer4 b place vxr_n_entries)) ((size_at b place - (vxr_entries 0).place) / vxr_entry_size))

-- First, Last and Offset of the entry with number i, as numbers without a sign
abbrev pub first_at : List ℕ → ℕ → ℕ → ℕ
first_at b place i = number b place (vxr_first i)

abbrev pub last_at : List ℕ → ℕ → ℕ → ℕ
last_at b place i = number b place (vxr_last (room_at b place) i)

abbrev pub offset_at : List ℕ → ℕ → ℕ → ℕ
offset_at b place i = number b place (vxr_offset (room_at b place) i)
