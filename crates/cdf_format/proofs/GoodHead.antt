-- What a good image has of its two first records, and how long the image of a file is.
use Rattle.std.proofs.Common.{◌≡◌, ℕ, ◌+◌, ◌-◌, ◌*◌, ◌^◌, ◌≤◌, ◌<◌, List, length, sym, ap, subst, ◌∙◌, arith}
use Rattle.cdf_format.proofs.Common.{length-take, get_or_append_left, nat_le, IsSound, word, number, size_at, gdr_offset, eof, r_num_dims, counted, is_record, gdr_r_num_dims, cdr_type, gdr_type, fixed_size, trailer, trailer_length, image_of, sealed, shape, KeepsFormat, Good}
use Rattle.std.proofs.lemmas.Int.{to_z_pos}
use Rattle.std.specs.Int.{w64}
use Rattle.cdf_model.specs.Limits.{image_limit}
use Rattle.cdf_format.specs.Fields.{version, integer8}
use Rattle.cdf_format.specs.Records.{gdr_eof}
use Rattle.cdf_format.proofs.BytesLemmas.{word-same}
use Rattle.cdf_format.proofs.ChainsLemmas.{is_a-in, is_a-type}
use Rattle.cdf_format.proofs.FileRecords.{gdr_holds}
use Rattle.cdf_format.proofs.GoodSound.{good_is_sound}
use Rattle.cdf_format.proofs.ImageOf.{short_trailer, sealed_is_file}
use Rattle.cdf_format.proofs.Tests.{both, le_of, eq_of}
use Rattle.cdf_format.proofs.TilesLemmas.{tile_lies}

-- a field of an image is that of the sealed one
word_of_sealed : (b : List ℕ) (place n : ℕ) → place + n ≤ length b → word (sealed b) place n ≡ word b place n
word_of_sealed b place n fits = word-same b (sealed b) place n (record { each = λ i low high. get_or_append_left b (trailer b) 0 i (inside i high) })
  where
    inside : (i : ℕ) → i < place + n → i < length b
    inside i high = omega arith

module _ (b : List ℕ) (good : Good b) where
  sound : IsSound b (shape b)
  sound = good_is_sound b good

  pub cdr_fits : 320 ≤ length b
  cdr_fits =
      let h = sound.has_shape in
      let tile = is_a-in b (shape b).records cdr_type 8 h.cdr_stands in
      let long : 312 ≤ size_at b 8 = subst (λ (t : ℕ). fixed_size t ≤ size_at b 8) (is_a-type b (shape b).records cdr_type 8 h.cdr_stands) (h.fixed 8 tile) in
      let high = (tile_lies b 8 (length b) (shape b).records 8 h.tiled tile).high in
      omega arith

  gdr_high : (shape b).gdr + size_at b (shape b).gdr ≤ length b
  gdr_high =
      let h = sound.has_shape in
      (tile_lies b 8 (length b) (shape b).records (shape b).gdr h.tiled (is_a-in b (shape b).records gdr_type (shape b).gdr h.gdr_stands)).high

  sizes_fit_shape : (shape b).gdr + 84 + 4 * r_num_dims b (shape b).gdr ≤ length b
  sizes_fit_shape = fit (shape b).gdr (4 * r_num_dims b (shape b).gdr) (size_at b (shape b).gdr) (length b) sound.gdr_fits gdr_high
    where
      fit : (g d s n : ℕ) → 84 + d ≤ s → g + s ≤ n → g + 84 + d ≤ n
      fit g d s n p q = omega arith

  -- there is room for the sizes of the dimensions
  pub sizes_fit : gdr_offset b + 84 + 4 * r_num_dims b (gdr_offset b) ≤ length b
  sizes_fit = subst (λ (g : ℕ). g + 84 + 4 * r_num_dims b g ≤ length b) (sym sound.has_shape.gdr_is) sizes_fit_shape

  pub gdr_fits : gdr_offset b + 84 ≤ length b
  gdr_fits = fit (gdr_offset b) (4 * r_num_dims b (gdr_offset b)) (length b) sizes_fit
    where
      fit : (g d n : ℕ) → g + 84 + d ≤ n → g + 84 ≤ n
      fit g d n p = omega arith

  pub version_is : version b ≡ 3
  version_is = let long = cdr_fits in sym (word_of_sealed b 28 4 (omega arith)) ∙ eq_of (version (sealed b)) 3 good.1.1.0.1.1.0

  -- there are few dimensions
  pub few_dimensions : number b (gdr_offset b) gdr_r_num_dims ≤ 10
  few_dimensions =
      let f = sealed b in
      let long = cdr_fits in
      let g : gdr_offset f ≡ gdr_offset b = word_of_sealed b 20 8 (omega arith) in
      let least = 84 + 4 * r_num_dims f (gdr_offset f) in
      let few : number f (gdr_offset f) gdr_r_num_dims ≤ 10 = le_of (number f (gdr_offset f) gdr_r_num_dims) 10 (both (nat_le (number f (gdr_offset f) gdr_r_num_dims) 10) (is_record f (gdr_offset f) 2 least) (gdr_holds f good).0).0 in
      let here : number f (gdr_offset b) gdr_r_num_dims ≤ 10 = subst (λ (p : ℕ). number f p gdr_r_num_dims ≤ 10) g few in
      subst (λ (n : ℕ). n ≤ 10) (word_of_sealed b (gdr_offset b + 56) 4 (inside (gdr_offset b) (length b) gdr_fits)) here
    where
      inside : (g n : ℕ) → g + 84 ≤ n → g + 56 + 4 ≤ n
      inside g n p = omega arith

-- ---- the image of a well-formed file

pub image_is_good : (f : List ℕ) → KeepsFormat f → Good (image_of f)
image_is_good f holds = subst KeepsFormat (sym (sealed_is_file f holds)) holds

pub trailer_fits : (f : List ℕ) → KeepsFormat f → trailer_length f ≤ length f
trailer_fits f holds =
    let t = short_trailer f in
    let long : 320 ≤ length f = le_of 320 (length f) holds.1.1.0.0 in
    omega arith

pub image_fits : (f : List ℕ) → KeepsFormat f → length (image_of f) ≤ image_limit
image_fits f holds =
    let g = gdr_offset f in
    let rows = gdr_holds f holds in
    let end : eof f g ≡ length f - trailer_length f = eq_of (eof f g) (length f - trailer_length f) rows.1.1.0 in
    let small : counted (integer8 f g gdr_eof) ≤ image_limit = le_of (counted (integer8 f g gdr_eof)) image_limit rows.1.1.1.0 in
    let short : length f ≤ image_limit + 16 = le_of (length f) (image_limit + 16) holds.0.1.0 in
    let low : eof f g < 2 ^ 63 = omega arith in
    let plain : counted (integer8 f g gdr_eof) ≡ eof f g = ap counted (to_z_pos w64 (eof f g) low) in
    omega (arith, length-take (length f - trailer_length f) f)
