use Rattle.cdf_examples.proofs.Common.{Bool, Breaks, List, [], ap, block_words, chain_on, checksum_digest, checksum_image, compress, digest_bytes, entries_on, entry_leaves, false, hash_after, inl, inr, leaves_of, levels_on, lower_nodes, md5, nodes_of, nodes_on, nodes_rows, not, put, refl, rounds, sealed, shape, subst, sym, tiles_from, true, used_rows, usual_digest, usual_image, ℕ, ◌++◌, ◌==◌, ◌||◌, ◌∙◌, ◌∷◌, ◌≡◌, ◌≢◌}
use Rattle.std.proofs.Common.{◌&&◌}
use Rattle.std.proofs.lemmas.Bool.Decides.{eqb_tells}
use Rattle.cdf_examples.proofs.Digests.{checksum_sealed, usual_sealed}
use Rattle.cdf_examples.proofs.Tests.{breaks, breaks_first}
use Rattle.cdf_examples.proofs.damaged.digests.Goals as goal

-- the verdict is right exactly where the byte is another
told : (byte : ℕ) → breaks (put (usual_image ++ usual_digest) 2790 (byte ∷ [])) usual_image 10 1 2786 ≡ (not ((byte == 0x2a) && true) || false)
unfolding usual_image put tiles_from chain_on shape nodes_of lower_nodes leaves_of entry_leaves entries_on nodes_on levels_on nodes_rows used_rows md5 digest_bytes hash_after compress rounds block_words
told byte = refl

other : (byte : ℕ) → byte ≢ 0x2a → (byte == 0x2a) ≡ false
other byte differs = elim (eqb_tells byte 0x2a) [
  | inl same ↦ absurd (differs same.1)
  | inr apart ↦ apart.0
]

digest : (byte : ℕ) → byte ≢ 0x2a → Breaks (put (sealed usual_image) 2790 (byte ∷ [])) 10 1 2786
digest byte differs = subst (λ (f : List ℕ). Breaks (put f 2790 (byte ∷ [])) 10 1 2786) (sym usual_sealed)
    (breaks_first (put (usual_image ++ usual_digest) 2790 (byte ∷ [])) usual_image 10 1 2786 (told byte ∙ ap (λ (p : Bool). not (p && true) || false) (other byte differs)))

bit : breaks (put (checksum_image ++ checksum_digest) 64 (0x0b ∷ [])) (put checksum_image 64 (0x0b ∷ [])) 10 1 404 ≡ true
unfolding checksum_image put tiles_from chain_on shape nodes_of lower_nodes leaves_of entry_leaves entries_on nodes_on levels_on nodes_rows used_rows md5 digest_bytes hash_after compress rounds block_words
bit = refl

copyright : Breaks (put (sealed checksum_image) 64 (0x0b ∷ [])) 10 1 404
copyright = subst (λ (f : List ℕ). Breaks (put f 64 (0x0b ∷ [])) 10 1 404) (sym checksum_sealed) (breaks_first (put (checksum_image ++ checksum_digest) 64 (0x0b ∷ [])) (put checksum_image 64 (0x0b ∷ [])) 10 1 404 bit)

pub returns : goal.returns
returns c = record { digest = digest; copyright = copyright }
