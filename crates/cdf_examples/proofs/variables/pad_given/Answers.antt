use Rattle.cdf_examples.proofs.Common.{chain_on, content, cover, entries_below, entries_in, entries_on, entry_firsts, entry_leaves, firsts_of, leaves_of, levels_on, lower_nodes, nodes_above, nodes_of, nodes_on, nodes_rows, refl, run_script, shape, tiles_from, used_rows, widest, widest_below, with_pad, without_pad}
use Rattle.cdf_examples.proofs.Tests.{keeps_rules}
use Rattle.cdf_examples.proofs.variables.pad_given.Goals as goal

pub returns : goal.returns
unfolding without_pad with_pad shape tiles_from chain_on content nodes_of lower_nodes leaves_of entry_leaves entries_on nodes_on levels_on nodes_rows used_rows run_script entries_in entries_below widest widest_below nodes_above firsts_of entry_firsts cover
returns c = record {
  before = refl;
  rules_before = keeps_rules without_pad refl;
  length = refl;
  shape = refl;
  space = refl;
  content = refl;
  rules = keeps_rules with_pad refl;
  variables = refl;
  made = refl;
  room = refl;
}
