use Rattle.cdf_examples.proofs.Common.{chain_on, content, cover, digits, entries_below, entries_in, entries_on, entry_firsts, entry_leaves, firsts_of, leaves_of, levels_on, lower_nodes, new_file, nodes_above, nodes_of, nodes_on, nodes_rows, r_variable_file, refl, run_script, set_up_file, shape, tiles_from, used_rows, widest, widest_below}
use Rattle.cdf_examples.proofs.Tests.{keeps_rules}
use Rattle.cdf_examples.proofs.variables.set_up.Goals as goal

pub returns : goal.returns
unfolding set_up_file r_variable_file new_file shape tiles_from chain_on content nodes_of lower_nodes leaves_of entry_leaves entries_on nodes_on levels_on nodes_rows used_rows run_script digits entries_in entries_below widest widest_below nodes_above firsts_of entry_firsts cover
returns c = record {
  set_up_length = refl;
  set_up_content = refl;
  set_up_rules = keeps_rules set_up_file refl;
  set_up_room = refl;
  length = refl;
  shape = refl;
  owned = refl;
  space = refl;
  content = refl;
  rules = keeps_rules r_variable_file refl;
  room = refl;
  made = refl;
  replies = refl;
}
