use Rattle.cdf_examples.proofs.Common.{chain_on, damaged_packing, entries_on, entry_leaves, leaves_of, levels_on, lower_nodes, nodes_of, nodes_on, nodes_rows, not_compressed_file, packed_file, put, refl, shape, tiles_from, used_rows, with_field}
use Rattle.cdf_examples.proofs.Tests.{EachBreaks-by, breaks_first}
use Rattle.cdf_examples.proofs.damaged.packing.Goals as goal

pub returns : goal.returns
unfolding packed_file not_compressed_file shape tiles_from chain_on nodes_of lower_nodes leaves_of entry_leaves entries_on nodes_on levels_on nodes_rows used_rows with_field put
returns c = record { verdicts = EachBreaks-by packed_file packed_file damaged_packing refl; not_compressed = breaks_first not_compressed_file not_compressed_file 8 6 784 refl }
