-- An index of which one node is edited (own).
use Rattle.std.specs.Prelude.{ℕ, ◌==◌, if◌then◌else◌}
use Rattle.cdf_format.specs.Index.{Nodes, no_node, node, Entries, no_entry, block, lower}

-- what becomes of a node with so much room, these entries and this chain behind it
abbrev pub Edit : Type 0
Edit = ℕ → Entries → Nodes → Nodes

unfoldable mutual
  -- the node at a place becomes what the edit makes of it
  pub redo : ℕ → Edit → Nodes → Nodes
  redo at edit no_node = no_node
  redo at edit (node place room entries more) = if place == at then edit room entries more else node place room (redo_below at edit entries) (redo at edit more)

  pub redo_below : ℕ → Edit → Entries → Entries
  redo_below at edit no_entry = no_entry
  redo_below at edit (block first last place packed entries) = block first last place packed (redo_below at edit entries)
  redo_below at edit (lower first last nodes entries) = lower first last (redo at edit nodes) (redo_below at edit entries)
