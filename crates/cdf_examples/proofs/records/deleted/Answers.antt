use Rattle.cdf_examples.proofs.Common.{chain_on, content, cover, cut_entries, cut_nodes, deleted_file, digits, entries_below, entries_in, entries_on, entries_outline, entry_firsts, entry_leaves, firsts_of, full_file, leaves_of, levels_on, lower_nodes, nodes_above, nodes_of, nodes_on, nodes_rows, outline, records_file, refl, run_script, shape, tiles_from, used_rows, widest, widest_below}
use Rattle.cdf_examples.proofs.Tests.{keeps_rules}
use Rattle.cdf_examples.proofs.records.deleted.Goals as goal

pub returns : goal.returns
unfolding records_file full_file deleted_file shape tiles_from chain_on content nodes_of lower_nodes leaves_of entry_leaves entries_on nodes_on levels_on nodes_rows used_rows run_script digits entries_in entries_below widest widest_below nodes_above firsts_of entry_firsts cover cut_nodes cut_entries outline entries_outline
returns c = record {
  full = refl;
  full_rules = keeps_rules full_file refl;
  length = refl;
  content = refl;
  rules = keeps_rules deleted_file refl;
  replies = refl;
  put = refl;
  made = refl;
  blocks = refl;
  index = refl;
  room = refl;
}
