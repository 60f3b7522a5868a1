-- The two first records, as they stand.
use Rattle.std.proofs.Common.{Bool, FitsSigned, List, [], ap, append_assoc, arith, false, is_some, length, lit<, refl, true, ℕ, ℤ, ◌*◌, ◌++◌, ◌+◌, ◌<◌, ◌^◌, ◌||◌, ◌∙◌, ◌∷◌, ◌≡◌, ◌≤◌}
use Rattle.std.proofs.lemmas.Int.{ints, to_z-of_z, to_z_pos}
use Rattle.std.proofs.lemmas.List.{length-append}
use Rattle.std.specs.Int.{cast_signed, w32}
use Rattle.std.specs.List.{flat_map}
use Rattle.std.specs.Prelude.{not}
use Rattle.byteorder.specs.Endian.{big_bytes}
use Rattle.cdf_model.specs.declared.head.Majority.{Majority}
use Rattle.cdf_model.specs.declared.head.Majority.TheVariants.{Row, Column}
use Rattle.cdf_model.specs.DataSet.{DataSet}
use Rattle.cdf_model.specs.Encodings.{encoding_at}
use Rattle.cdf_model.specs.Limits.{signed_limit}
use Rattle.cdf_format.specs.Content.{majority_of}
use Rattle.cdf_format.specs.Fields.{counted, encoding, eof, flags, gdr_offset, has_bit, increment, nr_vars, num_attr, number, nz_vars, r_num_dims, r_sizes, release, version, words}
use Rattle.cdf_format.specs.NewFile.{copyright}
use Rattle.cdf_format.specs.Records.{Field, cdr_encoding, cdr_flags, cdr_gdr_offset, cdr_identifier, cdr_increment, cdr_release, cdr_rfu_a, cdr_rfu_b, cdr_rfu_e, cdr_version, gdr_adr_head, gdr_eof, gdr_leap_second_last_updated, gdr_nr_vars, gdr_num_attr, gdr_nz_vars, gdr_r_max_rec, gdr_r_num_dims, gdr_r_vdr_head, gdr_rfu_c, gdr_rfu_e, gdr_uir_head, gdr_z_vdr_head, record_type}
use Rattle.cdf_format.specs.RecordTypes.{cdr_type, gdr_type}
use Rattle.cdf_format.specs.Shape.{Each}
use Rattle.cdf_edits.proofs.Space.LaidOut.{length-words, says_laid_out, typed_body, words_laid_out}
use Rattle.cdf_edits.specs.Space.Placing.{IsBody, laid_out, type_of_body}
unfoldable use Rattle.cdf_writer.specs.Bodies.{cdr_body, gdr_body, cdr_bytes, gdr_front}
use Rattle.cdf_writer.specs.Bodies.{code4, file_flags}
use Rattle.cdf_writer.specs.declared.bodies.Heads.{Heads}
use Rattle.cdf_writer.specs.Fine.{FineFile}
use Rattle.cdf_writer.proofs.Stands.{Standing}

pub code4_fits : (z : ℤ) → FitsSigned w32 z → code4 z < 256 ^ 4
code4_fits z f = omega (arith, ints)

pub code4_back : (z : ℤ) → FitsSigned w32 z → cast_signed w32 (code4 z) ≡ z
code4_back z f = to_z-of_z w32 z f

pub small_signed : (n : ℕ) → n ≤ signed_limit → counted (cast_signed w32 n) ≡ n
small_signed n le = ap counted (to_z_pos w32 n (omega arith))

-- ---- the CDR

flags_fit : (m : Majority) (md5 : Bool) → file_flags m md5 < 256 ^ 4
flags_fit m md5 = grind arith

pub record FlagsSay (m : Majority) (md5 : Bool) : Type 0 where
  pub majority : majority_of (has_bit (file_flags m md5) 0) ≡ m
  pub single : has_bit (file_flags m md5) 1 ≡ true
  pub checksum : has_bit (file_flags m md5) 2 ≡ md5
  pub known : (not (has_bit (file_flags m md5) 2) || has_bit (file_flags m md5) 3) ≡ true

pub flags_say : (m : Majority) (md5 : Bool) → FlagsSay m md5
flags_say Row true = record { majority = refl; single = refl; checksum = refl; known = refl }
flags_say Row false = record { majority = refl; single = refl; checksum = refl; known = refl }
flags_say Column true = record { majority = refl; single = refl; checksum = refl; known = refl }
flags_say Column false = record { majority = refl; single = refl; checksum = refl; known = refl }

codes_fit : (code : ℕ) → is_some (encoding_at code) ≡ true → code < 256 ^ 4
codes_fit code e = grind (arith)

pub record CdrReads (b : List ℕ) (d : DataSet) (gdr : ℕ) : Type 0 where
  pub gdr_is : gdr_offset b ≡ gdr
  pub version_is : version b ≡ 3
  pub release_is : release b ≡ d.release
  pub encoding_is : encoding b ≡ d.encoding
  pub flags_are : flags b ≡ file_flags d.majority d.md5
  pub increment_is : increment b ≡ d.increment

cdr_fields : DataSet → ℕ → List (Field × ℕ)
cdr_fields d gdr =
    (record_type, cdr_type)
    ∷ (cdr_gdr_offset, gdr)
    ∷ (cdr_version, 3)
    ∷ (cdr_release, code4 d.release)
    ∷ (cdr_encoding, d.encoding)
    ∷ (cdr_flags, file_flags d.majority d.md5)
    ∷ (cdr_rfu_a, 0)
    ∷ (cdr_rfu_b, 0)
    ∷ (cdr_increment, code4 d.increment)
    ∷ (cdr_identifier, 2)
    ∷ (cdr_rfu_e, 0xffffffff)
    ∷ []

module _ (d : DataSet) (fine : FineFile d) (gdr : ℕ) where
  pub cdr_size : 8 + length (cdr_body d gdr) ≡ 312
  unfolding cdr_body cdr_bytes
  cdr_size = refl

  pub cdr_made : (type_of_body (cdr_body d gdr) ≡ cdr_type) × IsBody (cdr_body d gdr)
  unfolding cdr_body cdr_bytes
  cdr_made = typed_body {type = 1} {least = 312} ((cdr_gdr_offset, gdr)
      ∷ (cdr_version, 3)
      ∷ (cdr_release, code4 d.release)
      ∷ (cdr_encoding, d.encoding)
      ∷ (cdr_flags, file_flags d.majority d.md5)
      ∷ (cdr_rfu_a, 0)
      ∷ (cdr_rfu_b, 0)
      ∷ (cdr_increment, code4 d.increment)
      ∷ (cdr_identifier, 2)
      ∷ (cdr_rfu_e, 0xffffffff)
      ∷ []) copyright (cdr_body d gdr) (record { small = lit< tt; real = refl; in_use = λ e. cc; fixed = omega arith; enough = omega arith }) refl (omega arith)

  pub cdr_reads : (b : List ℕ) → gdr < 256 ^ 8 → Standing b 8 (cdr_body d gdr) → CdrReads b d gdr
  unfolding cdr_body cdr_fields cdr_bytes
  cdr_reads b gdr_fits s =
      let w = says_laid_out b 8 8 (cdr_fields d gdr) (copyright ++ s.behind.rest) (s.behind.there ∙ append_assoc (laid_out (cdr_fields d gdr)) copyright s.behind.rest) refl
      (lit< tt, (gdr_fits, (lit< tt, (code4_fits d.release fine.head.release_fits, (codes_fit d.encoding fine.head.encoded, (flags_fit d.majority d.md5, (lit< tt, (lit< tt, (code4_fits d.increment fine.head.increment_fits, (lit< tt, (lit< tt, tt))))))))))) in
      let (type_is, (gdr_is, (version_is, (release_is, (encoding_is, (flags_are, (a, (c, (increment_is, more))))))))) = w.0 in
      record {
        gdr_is = gdr_is;
        version_is = version_is;
        release_is = ap (cast_signed w32) release_is ∙ code4_back d.release fine.head.release_fits;
        encoding_is = encoding_is;
        flags_are = flags_are;
        increment_is = ap (cast_signed w32) increment_is ∙ code4_back d.increment fine.head.increment_fits;
      }

-- ---- the GDR

pub record HeadsFit (heads : Heads) : Type 0 where
  pub r : heads.r < 256 ^ 8
  pub z : heads.z < 256 ^ 8
  pub attributes : heads.attributes < 256 ^ 8
  pub end : heads.end < 256 ^ 8
  pub r_max_rec : heads.r_max_rec < 256 ^ 4

pub record CountsFit (d : DataSet) : Type 0 where
  pub r : length d.r_variables < 256 ^ 4
  pub z : length d.z_variables < 256 ^ 4
  pub attributes : length d.attributes < 256 ^ 4

pub record GdrReads (b : List ℕ) (g : ℕ) (d : DataSet) (heads : Heads) : Type 0 where
  pub r_is : number b g gdr_r_vdr_head ≡ heads.r
  pub z_is : number b g gdr_z_vdr_head ≡ heads.z
  pub attributes_is : number b g gdr_adr_head ≡ heads.attributes
  pub end_is : eof b g ≡ heads.end
  pub r_count : nr_vars b g ≡ length d.r_variables
  pub a_count : num_attr b g ≡ length d.attributes
  pub dims_said : number b g gdr_r_num_dims ≡ length d.rdims
  pub dims_count : r_num_dims b g ≡ length d.rdims
  pub z_count : nz_vars b g ≡ length d.z_variables
  pub unused_is : number b g gdr_uir_head ≡ 0
  pub dims_are : r_sizes b g ≡ d.rdims

gdr_fields : DataSet → Heads → List (Field × ℕ)
gdr_fields d heads =
    (record_type, gdr_type)
    ∷ (gdr_r_vdr_head, heads.r)
    ∷ (gdr_z_vdr_head, heads.z)
    ∷ (gdr_adr_head, heads.attributes)
    ∷ (gdr_eof, heads.end)
    ∷ (gdr_nr_vars, length d.r_variables)
    ∷ (gdr_num_attr, length d.attributes)
    ∷ (gdr_r_max_rec, heads.r_max_rec)
    ∷ (gdr_r_num_dims, length d.rdims)
    ∷ (gdr_nz_vars, length d.z_variables)
    ∷ (gdr_uir_head, 0)
    ∷ (gdr_rfu_c, 0)
    ∷ (gdr_leap_second_last_updated, 0xffffffff)
    ∷ (gdr_rfu_e, 0xffffffff)
    ∷ []

pub sizes_fit : (dims : List ℕ) → Each (λ n. (1 ≤ n) × (n ≤ signed_limit)) dims → Each (λ n. n < 256 ^ 4) dims
sizes_fit [] f = tt
sizes_fit (n ∷ dims) f = ((let l = f.0.1 in fits n l), sizes_fit dims f.1)
  where
    fits : (n : ℕ) → n ≤ 2147483647 → n < 256 ^ 4
    fits n l = omega arith

module _ (d : DataSet) (fine : FineFile d) (heads : Heads) where
  pub gdr_size : 8 + length (gdr_body d heads) ≡ 84 + 4 * length d.rdims
  unfolding gdr_body gdr_fields gdr_front
  gdr_size = omega (arith, length-append (laid_out (gdr_fields d heads)) (flat_map (big_bytes 4) d.rdims), length-words d.rdims)

  pub gdr_made : (type_of_body (gdr_body d heads) ≡ gdr_type) × IsBody (gdr_body d heads)
  unfolding gdr_body gdr_front
  gdr_made = typed_body {type = 2} {least = 84} ((gdr_r_vdr_head, heads.r)
      ∷ (gdr_z_vdr_head, heads.z)
      ∷ (gdr_adr_head, heads.attributes)
      ∷ (gdr_eof, heads.end)
      ∷ (gdr_nr_vars, length d.r_variables)
      ∷ (gdr_num_attr, length d.attributes)
      ∷ (gdr_r_max_rec, heads.r_max_rec)
      ∷ (gdr_r_num_dims, length d.rdims)
      ∷ (gdr_nz_vars, length d.z_variables)
      ∷ (gdr_uir_head, 0)
      ∷ (gdr_rfu_c, 0)
      ∷ (gdr_leap_second_last_updated, 0xffffffff)
      ∷ (gdr_rfu_e, 0xffffffff)
      ∷ []) (flat_map (big_bytes 4) d.rdims) (gdr_body d heads) (record { small = lit< tt; real = refl; in_use = λ e. cc; fixed = omega arith; enough = omega arith }) refl (let z = gdr_size in omega arith)

  pub gdr_reads : (b : List ℕ) (g : ℕ) → HeadsFit heads → CountsFit d → Standing b g (gdr_body d heads) → GdrReads b g d heads
  unfolding gdr_body gdr_fields gdr_front
  gdr_reads b g hf cf s =
      let few = fine.head.few_dims in
      let sizes = flat_map (big_bytes 4) d.rdims in
      let w = says_laid_out b g 8 (gdr_fields d heads) (sizes ++ s.behind.rest) (s.behind.there ∙ append_assoc (laid_out (gdr_fields d heads)) sizes s.behind.rest) refl
      (lit< tt, (hf.r, (hf.z, (hf.attributes, (hf.end, (cf.r, (cf.attributes, (hf.r_max_rec, (few_fit (length d.rdims) few, (cf.z, (lit< tt, (lit< tt, (lit< tt, (lit< tt, tt)))))))))))))) in
      let (type_is, (r_is, (z_is, (attributes_is, (end_is, (r_count, (a_count, (max, (dims_said, (z_count, (unused_is, more))))))))))) = w.0 in
      let count : r_num_dims b g ≡ length d.rdims = ap (λ (n : ℕ). counted (cast_signed w32 n)) dims_said ∙ small_signed (length d.rdims) (few_signed (length d.rdims) few) in
      record {
        r_is = r_is;
        z_is = z_is;
        attributes_is = attributes_is;
        end_is = end_is;
        r_count = r_count;
        a_count = a_count;
        dims_said = dims_said;
        dims_count = count;
        z_count = z_count;
        unused_is = unused_is;
        dims_are = ap (λ (n : ℕ). words b (g + 84) n) count ∙ (words_laid_out b (g + 84) d.rdims s.behind.rest w.1 (sizes_fit d.rdims fine.head.sizes)).0;
      }
    where
      few_fit : (k : ℕ) → k ≤ 10 → k < 256 ^ 4
      few_fit k le = omega arith

      few_signed : (k : ℕ) → k ≤ 10 → k ≤ 2147483647
      few_signed k le = omega arith
