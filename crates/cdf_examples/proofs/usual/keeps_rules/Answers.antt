use Rattle.cdf_examples.proofs.Common.{WellFormed, all_phases, block_words, chain_on, compress, digest_bytes, entries_on, entry_leaves, hash_after, leaves_of, levels_on, lower_nodes, md5, nodes_of, nodes_on, nodes_rows, refl, rounds, shape, subst, sym, tiles_from, true, used_rows, usual_digest, usual_image, ◌++◌, ◌≡◌}
use Rattle.cdf_examples.proofs.Digests.{usual_sealed, usual_digest_is}
use Rattle.cdf_examples.proofs.Tests.{AllHold-by, all_hold}
use Rattle.cdf_examples.proofs.usual.keeps_rules.Goals as goal

kept : all_hold (all_phases (usual_image ++ usual_digest)) ≡ true
unfolding usual_image tiles_from chain_on shape nodes_of lower_nodes leaves_of entry_leaves entries_on nodes_on levels_on nodes_rows used_rows md5 digest_bytes hash_after compress rounds block_words
kept = refl

pub returns : goal.returns
returns c = record { digest = usual_digest_is; rules = subst WellFormed (sym usual_sealed) (AllHold-by (all_phases (usual_image ++ usual_digest)) kept) }
