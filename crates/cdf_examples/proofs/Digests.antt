-- The digests of files with a checksum, computed, and what follows for the files.
use Rattle.cdf_examples.proofs.Common.{Change, EachBreaks, List, Verdict, ap, block_words, checksum_digest, checksum_image, compress, digest_bytes, hash_after, length, md5, refl, rounds, sealed, subst, sym, true, usual_digest, usual_image, ℕ, ◌++◌, ◌∙◌, ◌≡◌}
use Rattle.cdf_examples.proofs.Tests.{each_breaks, EachBreaks-by}

pub checksum_digest_is : md5 checksum_image ≡ checksum_digest
unfolding checksum_image md5 digest_bytes hash_after compress rounds block_words
checksum_digest_is = refl

used : sealed checksum_image ≡ checksum_image ++ md5 checksum_image
unfolding checksum_image
used = refl

pub checksum_sealed : sealed checksum_image ≡ checksum_image ++ checksum_digest
checksum_sealed = used ∙ ap (λ (t : List ℕ). checksum_image ++ t) checksum_digest_is

pub usual_digest_is : md5 usual_image ≡ usual_digest
unfolding usual_image md5 digest_bytes hash_after compress rounds block_words
usual_digest_is = refl

usual_used : sealed usual_image ≡ usual_image ++ md5 usual_image
unfolding usual_image
usual_used = refl

pub usual_sealed : sealed usual_image ≡ usual_image ++ usual_digest
usual_sealed = usual_used ∙ ap (λ (t : List ℕ). usual_image ++ t) usual_digest_is

-- changes of the usual file
pub usual_breaks : (table : List (Change × Verdict)) → each_breaks (usual_image ++ usual_digest) usual_image table ≡ true → EachBreaks (sealed usual_image) table
usual_breaks table computed = subst (λ (f : List ℕ). EachBreaks f table) (sym usual_sealed) (EachBreaks-by (usual_image ++ usual_digest) usual_image table computed)

pub checksum_length : length (sealed checksum_image) ≡ 420
unfolding checksum_image
checksum_length = ap (λ (f : List ℕ). length f) checksum_sealed
