use Rattle.cdf_examples.proofs.Common.{chain_on, content, cover, digits, entries_below, entries_in, entries_on, entry_firsts, entry_leaves, firsts_of, leaves_of, levels_on, lower_nodes, new_room, new_room_below, nodes_above, nodes_of, nodes_on, nodes_rows, records_file, refl, run_script, shape, tiles_from, used_rows, variable_file, widest, widest_below, with_leaf, with_lower}
use Rattle.cdf_examples.proofs.Tests.{keeps_rules}
use Rattle.cdf_examples.proofs.records.put_and_read.Goals as goal

pub returns : goal.returns
unfolding variable_file records_file shape tiles_from chain_on content nodes_of lower_nodes leaves_of entry_leaves entries_on nodes_on levels_on nodes_rows used_rows run_script digits entries_in entries_below widest widest_below nodes_above firsts_of entry_firsts cover with_leaf with_lower new_room new_room_below
returns c = record {
  length = refl;
  block = refl;
  shape = refl;
  owned = refl;
  space = refl;
  content = refl;
  rules = keeps_rules records_file refl;
  replies = refl;
  made = refl;
  blocks = refl;
  acts = (refl, (refl, (refl, (refl, refl))));
  room = refl;
  room_in_place = refl;
}
