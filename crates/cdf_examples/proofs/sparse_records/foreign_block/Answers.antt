use Rattle.cdf_examples.proofs.Common.{chain_on, content, cover, digits, entries_below, entries_in, entries_on, entry_firsts, entry_leaves, firsts_of, foreign_file, foreign_file_after, leaves_of, levels_on, lower_nodes, nodes_above, nodes_of, nodes_on, nodes_rows, refl, run_script, shape, tiles_from, used_rows, widest, widest_below}
use Rattle.cdf_examples.proofs.Tests.{keeps_rules}
use Rattle.cdf_examples.proofs.sparse_records.foreign_block.Goals as goal

pub returns : goal.returns
unfolding foreign_file foreign_file_after shape tiles_from chain_on content nodes_of lower_nodes leaves_of entry_leaves entries_on nodes_on levels_on nodes_rows used_rows run_script digits entries_in entries_below widest widest_below nodes_above firsts_of entry_firsts cover
returns c = record {
  shape = refl;
  content = refl;
  rules = keeps_rules foreign_file refl;
  blocks = refl;
  content_after = refl;
  rules_after = keeps_rules foreign_file_after refl;
  made = refl;
  replies = refl;
}
