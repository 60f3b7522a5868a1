-- What a good image has of its two first records, as they are read.
use Rattle.cdf_session.proofs.Common.{Cdr, Good, List, ap, arith, cdr_at, content, few_dimensions, flags, gdr_at, gdr_fits, gdr_offset, good_by_its_shape, has_bit, head_by_fields, head_of, length, majority_of, pos, r_num_dims, r_sizes, shape, signed4, sizes_fit, sym, transport, version_is, word, ℕ, ◌*◌, ◌+◌, ◌∙◌, ◌≡◌, ◌≤◌}
use Rattle.std.proofs.lemmas.Int.{of_z-to_z}
use Rattle.std.specs.Int.{w32, cast_signed, cast_unsigned}
use Rattle.cdf_format.proofs.HeadOf.{head_of_good}
use Rattle.cdf_records.specs.declared.gdr.Gdr.{Gdr}
use Rattle.cdf_records.specs.Pieces.{AreBytes}
use Rattle.cdf_records.proofs.Places.{word_fits}
use Rattle.cdf_session.specs.Heads.{head_with}

-- at the place that the first record gives, in an image that is still the same
module _ (was b : List ℕ) (cdr : Cdr) (good : Good was) (same : b ≡ was) (first : cdr ≡ cdr_at was 8) where
  there : gdr_offset was ≡ cdr.gdr_offset
  there = sym (ap (λ (c : Cdr). c.gdr_offset) first)

  pub gdr_fits_at : cdr.gdr_offset + 84 ≤ length b
  gdr_fits_at = transport (λ i. there i + 84 ≤ length (sym same i)) (gdr_fits was good)

  pub few_dimensions_at : word b (cdr.gdr_offset + 56) 4 ≤ 10
  few_dimensions_at = transport (λ i. word (sym same i) (there i + 56) 4 ≤ 10) (few_dimensions was good)

  pub sizes_fit_at : cdr.gdr_offset + 84 + 4 * r_num_dims b cdr.gdr_offset ≤ length b
  sizes_fit_at = transport (λ i. there i + 84 + 4 * r_num_dims (sym same i) (there i) ≤ length (sym same i)) (sizes_fit was good)

-- 4 bytes are the same number with and without a sign
unsigned_is : (b : List ℕ) (start m place : ℕ) → AreBytes b start m → start ≤ place → place + 4 ≤ start + m → cast_unsigned w32 (signed4 b place) ≡ word b place 4
unsigned_is b start m place bytes le fits = of_z-to_z w32 (word b place 4) (word_fits b start m place 4 bytes le fits)

-- the head that was read of images that are all the same
pub head_is : (was b b' : List ℕ) (cdr : Cdr) (gdr : Gdr) (rdims : List ℕ) → Good was → b ≡ was → b' ≡ was → cdr ≡ cdr_at was 8 → gdr ≡ gdr_at b cdr.gdr_offset → AreBytes was 8 56 → AreBytes b cdr.gdr_offset 84 → rdims ≡ r_sizes b' cdr.gdr_offset
    → head_with cdr gdr rdims ≡ head_of (content was)
head_is was b b' cdr gdr rdims good same same' cdr-is gdr-is first second sizes =
    let g = gdr_offset was in
    let there : cdr.gdr_offset ≡ g = ap (λ (c : Cdr). c.gdr_offset) cdr-is in
    let bytes : AreBytes was g 84 = transport (λ i. AreBytes (same i) (there i) 84) second in
    let from_image : head_with cdr gdr rdims ≡ head_with (cdr_at was 8) (gdr_at was g) (r_sizes was g) =
    λ i. head_with (cdr-is i) ((gdr-is ∙ (λ j. gdr_at (same j) (there j))) i) ((sizes ∙ (λ j. r_sizes (same' j) (there j))) i) in
    let version : signed4 was 28 ≡ pos 3 = ap (cast_signed w32) (version_is was good) in
    let encoding = unsigned_is was 8 56 36 first (omega arith) (omega arith) in
    let attributes = unsigned_is was g 84 (g + 48) bytes (omega arith) (omega arith) in
    let r_variables = unsigned_is was g 84 (g + 44) bytes (omega arith) (omega arith) in
    let z_variables = unsigned_is was g 84 (g + 60) bytes (omega arith) (omega arith) in
    let own : head_with (cdr_at was 8) (gdr_at was g) (r_sizes was g) ≡ head_by_fields was = λ i. record {
      version = version i;
      release = signed4 was 32;
      increment = signed4 was 52;
      encoding = encoding i;
      majority = majority_of (has_bit (flags was) 0);
      md5 = has_bit (flags was) 2;
      rdims = r_sizes was g;
      attrs = attributes i;
      rvars = r_variables i;
      zvars = z_variables i;
    } in
    from_image ∙ own ∙ sym (head_of_good was (shape was) (good_by_its_shape was good))
