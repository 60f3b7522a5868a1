use Rattle.cdf_examples.proofs.Common.{chain_on, damaged_attributes, entries_on, entry_leaves, leaves_of, levels_on, lower_nodes, nodes_of, nodes_on, nodes_rows, put, refl, shape, tiles_from, true, used_rows, usual_digest, usual_image, with_field, with_name, ◌++◌, ◌≡◌}
use Rattle.cdf_examples.proofs.Digests.{usual_breaks}
use Rattle.cdf_examples.proofs.Tests.{each_breaks}
use Rattle.cdf_examples.proofs.damaged.usual_attributes.Goals as goal

computed : each_breaks (usual_image ++ usual_digest) usual_image damaged_attributes ≡ true
unfolding usual_image with_field with_name put tiles_from chain_on shape nodes_of lower_nodes leaves_of entry_leaves entries_on nodes_on levels_on nodes_rows used_rows
computed = refl

pub returns : goal.returns
returns c = record { verdicts = usual_breaks damaged_attributes computed }
