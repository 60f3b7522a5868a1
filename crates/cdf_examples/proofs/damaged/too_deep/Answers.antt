use Rattle.cdf_examples.proofs.Common.{chain_on, entries_on, entry_leaves, leaves_of, levels_on, lower_nodes, nodes_of, nodes_on, nodes_rows, refl, shape, tiles_from, used_rows}
use Rattle.cdf_examples.specs.DeepFiles.{eight_levels, nine_levels}
use Rattle.cdf_examples.proofs.Tests.{breaks_first, keeps_rules}
use Rattle.cdf_examples.proofs.damaged.too_deep.Goals as goal

pub returns : goal.returns
unfolding eight_levels nine_levels shape tiles_from chain_on nodes_of lower_nodes leaves_of entry_leaves entries_on nodes_on levels_on nodes_rows used_rows
returns c = record { nine = breaks_first nine_levels nine_levels 8 1 1056 refl; eight = keeps_rules eight_levels refl }
