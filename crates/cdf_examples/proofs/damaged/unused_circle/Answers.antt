use Rattle.cdf_examples.proofs.Common.{Number, chain_on, changed, entries_on, entry_leaves, leaves_of, levels_on, lower_nodes, moved_file, nodes_of, nodes_on, nodes_rows, put, refl, shape, tiles_from, uir_next_uir, used_rows, with_field}
use Rattle.cdf_examples.proofs.Tests.{breaks_first}
use Rattle.cdf_examples.proofs.damaged.unused_circle.Goals as goal

pub returns : goal.returns
unfolding moved_file shape tiles_from chain_on nodes_of lower_nodes leaves_of entry_leaves entries_on nodes_on levels_on nodes_rows used_rows with_field put
returns c = record { verdict = breaks_first (changed moved_file (Number 728 uir_next_uir 728)) (changed moved_file (Number 728 uir_next_uir 728)) 5 11 728 refl }
