use Rattle.cdf_examples.proofs.Common.{Refused, chain_on, codes, content, entries_on, entry_leaves, inl, leaked_file, leaves_of, levels_on, lower_nodes, nodes_of, nodes_on, nodes_rows, packed_file, plain_file, put_r, refl, shape, tiles_from, used_rows}
use Rattle.cdf_examples.proofs.Tests.{keeps_rules}
use Rattle.cdf_examples.proofs.Refusing.{none_unlisted}
use Rattle.cdf_examples.proofs.refused_puts.old_block_leaked.Goals as goal

refused : Refused packed_file (put_r (codes "1")) leaked_file
unfolding packed_file leaked_file shape content tiles_from chain_on nodes_of lower_nodes leaves_of entry_leaves entries_on nodes_on levels_on
refused acts claim = none_unlisted claim.acts_follow 784 (inl refl) refl refl

pub returns : goal.returns
unfolding leaked_file plain_file shape content tiles_from chain_on nodes_of lower_nodes leaves_of entry_leaves entries_on nodes_on levels_on nodes_rows used_rows
returns c = record {
  rules = keeps_rules leaked_file refl;
  content = refl;
  refused = refused;
}
