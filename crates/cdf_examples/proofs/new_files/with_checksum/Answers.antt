use Rattle.cdf_examples.proofs.Common.{WellFormed, all_phases, block_words, chain_on, checksum_digest, checksum_image, compress, content, digest_bytes, digits, hash_after, md5, new_file, refl, rounds, run_script, shape, subst, sym, tiles_from, true, ◌++◌, ◌≡◌}
use Rattle.cdf_examples.proofs.Digests.{checksum_sealed, checksum_digest_is, checksum_length}
use Rattle.cdf_examples.proofs.Tests.{AllHold-by, all_hold}
use Rattle.cdf_examples.proofs.new_files.with_checksum.Goals as goal

kept : all_hold (all_phases (checksum_image ++ checksum_digest)) ≡ true
unfolding checksum_image tiles_from chain_on shape md5 digest_bytes hash_after compress rounds block_words
kept = refl

pub returns-clause-digest : goal.returns-clause-digest
returns-clause-digest c = checksum_digest_is

pub returns-clause-length : goal.returns-clause-length
returns-clause-length c = checksum_length

pub returns-clause-content : goal.returns-clause-content
unfolding checksum_image content shape tiles_from chain_on
returns-clause-content c = refl

pub returns-clause-rules : goal.returns-clause-rules
returns-clause-rules c = subst WellFormed (sym checksum_sealed) (AllHold-by (all_phases (checksum_image ++ checksum_digest)) kept)

pub returns-clause-made : goal.returns-clause-made
unfolding run_script
returns-clause-made c = refl

pub returns-clause-replies : goal.returns-clause-replies
unfolding run_script digits
returns-clause-replies c = refl

pub returns-clause-room : goal.returns-clause-room
unfolding new_file content shape tiles_from chain_on
returns-clause-room c = refl
