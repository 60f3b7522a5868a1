use Rattle.cdf_examples.proofs.Common.{Refused, chain_on, content, cut_entries, cut_nodes, cut_unlisted_file, entries_on, entries_outline, entry_leaves, inl, leaves_of, levels_on, lower_nodes, made_sparse_file, nodes_of, nodes_on, nodes_rows, none_stored_file, outline, refl, set_sparse_t, shape, sized_nodes, sized_nodes_below, tiles_from, used_rows}
use Rattle.cdf_examples.proofs.Tests.{keeps_rules}
use Rattle.cdf_examples.proofs.Refusing.{none_unlisted}
use Rattle.cdf_examples.proofs.refused_cuts.sparse_off_list.Goals as goal

refused : Refused none_stored_file set_sparse_t cut_unlisted_file
unfolding none_stored_file cut_unlisted_file shape content tiles_from chain_on nodes_of lower_nodes leaves_of entry_leaves entries_on nodes_on levels_on cut_nodes cut_entries outline entries_outline sized_nodes sized_nodes_below
refused acts claim =
    none_unlisted claim.acts_follow 748 (inl refl) refl refl

pub returns : goal.returns
unfolding cut_unlisted_file made_sparse_file shape content tiles_from chain_on nodes_of lower_nodes leaves_of entry_leaves entries_on nodes_on levels_on nodes_rows used_rows
returns c = record {
  rules = keeps_rules cut_unlisted_file refl;
  content = refl;
  refused = refused;
}
