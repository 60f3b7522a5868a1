use Rattle.cdf_examples.proofs.Common.{Refused, all_deleted_file, block_unlisted_file, chain_on, content, cut_entries, cut_nodes, delete_t, entries_on, entries_outline, entry_leaves, inl, leaves_of, levels_on, lower_nodes, nodes_of, nodes_on, nodes_rows, outline, records_file, refl, shape, sized_nodes, sized_nodes_below, tiles_from, used_rows}
use Rattle.cdf_examples.proofs.Tests.{keeps_rules}
use Rattle.cdf_examples.proofs.Refusing.{none_unlisted}
use Rattle.cdf_examples.proofs.refused_cuts.block_off_list.Goals as goal

refused : Refused records_file (delete_t 0 3) block_unlisted_file
unfolding records_file block_unlisted_file shape content tiles_from chain_on nodes_of lower_nodes leaves_of entry_leaves entries_on nodes_on levels_on cut_nodes cut_entries outline entries_outline sized_nodes sized_nodes_below
refused acts claim =
    none_unlisted claim.acts_follow 748 (inl refl) refl refl

pub returns : goal.returns
unfolding block_unlisted_file all_deleted_file shape content tiles_from chain_on nodes_of lower_nodes leaves_of entry_leaves entries_on nodes_on levels_on nodes_rows used_rows
returns c = record {
  rules = keeps_rules block_unlisted_file refl;
  content = refl;
  refused = refused;
}
