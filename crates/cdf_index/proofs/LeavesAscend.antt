-- The leaves of an index that is in order are so.
use Rattle.cdf_index.proofs.Common.{AreInOrder, Ascending, Entries, InOrder, Nodes, arith, ascending_both, ascending_from, block, entry_leaves, leaves_of, lower, no_entry, no_node, node, past_entries, suc, ℕ, ◌++◌, ◌≤◌}
use Rattle.cdf_index.proofs.OrderLemmas.{end_after}
use Rattle.cdf_index.proofs.ByParts.{entries_within}

pub end_before : (low high : ℕ) (entries : Entries) → AreInOrder low high entries → low ≤ suc high → past_entries low entries ≤ suc high
unfolding AreInOrder
end_before = entries_within (grind arith)

mutual
  unfolding InOrder AreInOrder leaves_of entry_leaves

  pub leaves_ascend : (low high : ℕ) (nodes : Nodes) → InOrder low high nodes → low ≤ suc high → Ascending low (suc high) (leaves_of nodes)
  leaves_ascend low high no_node o le = tt
  leaves_ascend low high (node place room entries more) o le =
      grind (arith, ascending_both low (past_entries low entries) (suc high) (entry_leaves entries) (leaves_of more), entries_ascend low high entries o.0, leaves_ascend (past_entries low entries) high more o.1, end_before low high entries o.0 le, end_after low high entries o.0)

  entries_ascend : (low high : ℕ) (entries : Entries) → AreInOrder low high entries → Ascending low (past_entries low entries) (entry_leaves entries)
  entries_ascend low high no_entry o = tt
  entries_ascend low high (block first last place packed entries) o = (o.0, o.1, end_after (suc last) high entries o.3, entries_ascend (suc last) high entries o.3)
  entries_ascend low high (lower first last nodes entries) o =
      let upto = past_entries (suc last) entries in
      grind (arith, o.0, ascending_from first low upto (leaves_of nodes ++ entry_leaves entries), ascending_both first (suc last) upto (leaves_of nodes) (entry_leaves entries), leaves_ascend first last nodes o.3, entries_ascend (suc last) high entries o.4, o.1, end_after (suc last) high entries o.4)
