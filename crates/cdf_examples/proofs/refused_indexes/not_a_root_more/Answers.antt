use Rattle.cdf_examples.proofs.Common.{Nodes, entry_leaves, leaves_of, length, lower_nodes, nodes_above, nodes_of, refl, subst, ◌≡◌}
use Rattle.cdf_examples.proofs.Refusing.{unequal}
use Rattle.cdf_examples.proofs.refused_indexes.not_a_root_more.Goals as goal

pub returns : goal.returns
unfolding nodes_of lower_nodes leaves_of entry_leaves nodes_above
returns c b now before after acts root only first last place packed is made = unequal 2 1 refl (subst (λ (index : Nodes). length (nodes_of index) ≡ nodes_above 8 (length (leaves_of index))) is made.fewest)
