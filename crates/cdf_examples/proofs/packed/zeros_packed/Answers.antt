use Rattle.cdf_examples.proofs.Common.{chain_on, content, cover, entries_below, entries_in, entries_on, entry_firsts, entry_leaves, firsts_of, leaves_of, levels_on, lower_nodes, nodes_above, nodes_of, nodes_on, nodes_rows, packed_file, refl, run_script, shape, tiles_from, unpacked_file, used_rows, widest, widest_below}
use Rattle.cdf_examples.proofs.Tests.{breaks_first, keeps_rules}
use Rattle.cdf_examples.proofs.packed.zeros_packed.Goals as goal

pub returns : goal.returns
unfolding unpacked_file packed_file shape tiles_from chain_on content nodes_of lower_nodes leaves_of entry_leaves entries_on nodes_on levels_on nodes_rows used_rows run_script entries_in entries_below widest widest_below nodes_above firsts_of entry_firsts cover
returns c = record {
  empty = refl;
  empty_rules = keeps_rules unpacked_file refl;
  length = refl;
  shape = refl;
  owned = refl;
  space = refl;
  content = refl;
  rules = keeps_rules packed_file refl;
  unread = breaks_first packed_file packed_file 9 99 404 refl;
  made = refl;
  room = refl;
}
