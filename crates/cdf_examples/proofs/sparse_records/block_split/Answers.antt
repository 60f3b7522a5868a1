use Rattle.cdf_examples.proofs.Common.{chain_on, content, cover, cut_block_file, cut_entries, cut_nodes, digits, entries_below, entries_in, entries_on, entries_outline, entry_firsts, entry_leaves, firsts_of, leaves_of, levels_on, lower_nodes, nodes_above, nodes_of, nodes_on, nodes_rows, outline, refl, run_script, shape, tiles_from, used_rows, whole_block_file, widest, widest_below, with_leaf, with_lower}
use Rattle.cdf_examples.proofs.Tests.{keeps_rules}
use Rattle.cdf_examples.proofs.sparse_records.block_split.Goals as goal

pub returns : goal.returns
unfolding whole_block_file cut_block_file shape tiles_from chain_on content nodes_of lower_nodes leaves_of entry_leaves entries_on nodes_on levels_on nodes_rows used_rows run_script digits entries_in entries_below widest widest_below nodes_above firsts_of entry_firsts cover cut_nodes cut_entries with_leaf with_lower outline entries_outline
returns c = record {
  whole = refl;
  whole_rules = keeps_rules whole_block_file refl;
  length = refl;
  content = refl;
  rules = keeps_rules cut_block_file refl;
  blocks = refl;
  index = refl;
  room = refl;
  made = refl;
  replies = refl;
}
