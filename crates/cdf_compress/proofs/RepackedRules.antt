-- Of a descriptor Flags and CPRorSPRoffset are others, and its variable has no index: the variable has its rules yet, where those on how it is packed hold.
use Rattle.cdf_edits.proofs.Common.{Bool, Hold, List, Variable, VariableShape, [], ap, arith, asked, cast_signed, cpr_link, cpr_rows, dimension_limit, dimensions_at, dims_at, elems_at, false, has_dimensions, if◌then◌else◌, is_characters, is_compressed, is_max_rec, is_no_link, is_positive, is_z, length, list_all, nat_le, notation_of, number, record_limit, refl, size_at, true, type_of, type_of_variable, variable_of, variable_rows, vdr_data_type, vdr_end, vdr_max_rec, vdr_num_elems, vdr_r_pad_value, vdr_s_records, vdr_z_num_dims, vdr_z_pad_value, w32, z_vdr_type, ℕ, ◌*◌, ◌+◌, ◌==◌, ◌∙◌, ◌≡◌, ◌≤◌}
use Rattle.std.proofs.Common.{is_some, not, ◌&&◌, ◌||◌}
use Rattle.cdf_format.specs.Index.{no_node}
use Rattle.cdf_format.specs.VariableRules.{is_cpr}
use Rattle.cdf_model.specs.Place.{record_size}
use Rattle.cdf_model.specs.Types.{size_of}
use Rattle.cdf_format.specs.Fields.{counted}
use Rattle.cdf_edits.proofs.Frame.Meaning.{FileSame, if_same}
use Rattle.cdf_edits.proofs.Frame.VdrAlike.{copied_in_place, word_copied}
use Rattle.cdf_edits.proofs.Frame.VdrStays.{long_z}
use Rattle.cdf_compress.proofs.RepackedVdr.{RepackedVdr, early_same, middle_same, name_same, variable_repacked}

-- the rules on how a variable is packed
abbrev pub Packs : List ℕ → List ℕ → ℕ → Type 0
Packs now records v = ((is_compressed now v || is_no_link (cpr_link now v)) ≡ true) × (((not (is_compressed now v) || is_cpr now records (cpr_link now v)) ≡ true) × Hold (asked (is_compressed now v) (cpr_rows now records (cpr_link now v))))

module _ {b now : List ℕ} (file : FileSame b now) (own : VariableShape) (k : RepackedVdr b now own.vdr) (none : own.index ≡ no_node) where
  abbrev v : ℕ
  v = own.vdr

  said : variable_of now own ≡ record (variable_of b own) { rle = is_compressed now v }
  said = variable_repacked file own k none

  type_same : type_of_variable now v ≡ type_of_variable b v
  type_same = ap (λ (x : Variable). x.type) said

  elems_same : elems_at now v ≡ elems_at b v
  elems_same = ap (λ (x : Variable). x.elems) said

  dims_same : dims_at now v ≡ dims_at b v
  dims_same = ap (λ (x : Variable). x.dims) said

  z_same : is_z now v ≡ is_z b v
  z_same = ap (λ (t : ℕ). t == z_vdr_type) (word_copied (copied_in_place b now v 0 44 k.front) 8 4 (omega arith) (omega arith))

  count_same : is_z b v ≡ true → number now v vdr_z_num_dims ≡ number b v vdr_z_num_dims
  count_same e = word_copied (copied_in_place b now v 80 (size_at b v) k.back) 340 4 (omega arith) (few (dimensions_at b v) (size_at b v) (long_z b v k.end e))
    where
      few : (d s : ℕ) → 344 + 8 * d ≤ s → 340 + 4 ≤ s
      few d s p = omega arith

  dimensions_same : dimensions_at now v ≡ dimensions_at b v
  dimensions_same = if_same (is_z now v) (is_z b v) _ _ _ _ z_same (λ e. ap (λ (n : ℕ). counted (cast_signed w32 n)) (count_same e)) (λ e. file.dimensions)

  pub end_same : vdr_end now v ≡ vdr_end b v
  end_same =
      let z = z_same in
      let d = dimensions_same in
      let padded = k.padded in
      let t = type_same in
      let n = elems_same in
      λ i. (if z i then vdr_z_pad_value (d i) (size_of (t i) * n i) else vdr_r_pad_value (d i) (size_of (t i) * n i)).place + (if padded i then size_of (t i) * n i else 0)

  size_same : size_at now v ≡ size_at b v
  size_same = word_copied (copied_in_place b now v 0 44 k.front) 0 8 (omega arith) (omega arith)

  dimensions_rule : is_z b v ≡ true → has_dimensions now v ≡ has_dimensions b v
  dimensions_rule e = let count = count_same e in let size = size_same in let dims = dims_same in λ i. nat_le (count i) dimension_limit && (nat_le (344 + 4 * count i) (size i) && list_all is_positive (dims i))

  dimensions_ruled : (not (is_z now v) || has_dimensions now v) ≡ (not (is_z b v) || has_dimensions b v)
  dimensions_ruled = by (is_z b v) refl
    where
      by : (p : Bool) → is_z b v ≡ p → (not (is_z now v) || has_dimensions now v) ≡ (not (is_z b v) || has_dimensions b v)
      by true e = let z = z_same in let rule = dimensions_rule e in λ i. not (z i) || rule i
      by false e = rw (z_same, e) refl

  -- these are its rules, where those on how it is packed hold
  pub rules_repacked : (records records' : List ℕ) → Hold (variable_rows b records [] v) → Packs now records' v → Hold (variable_rows now records' [] v)
  rules_repacked records records' h packs =
      let h3 = h.1.1 in
      let h5 = h3.1.1 in
      let h7 = h5.1.1 in
      let name = name_same file k in
      let raw = early_same file k vdr_data_type (omega arith) in
      let raw_elems = middle_same file k vdr_num_elems (omega arith) (omega arith) in
      let type = type_same in
      let dimensions = dimensions_ruled in
      let end = end_same in
      let size = size_same in
      let said_by = said in
      let max = early_same file k vdr_max_rec (omega arith) in
      let sparse = middle_same file k vdr_s_records (omega arith) (omega arith) in (
        ap (λ (n : List ℕ). not (length n == 0)) name ∙ h.0,
        (
          refl,
          (
            ap (λ (n : ℕ). is_some (type_of (cast_signed w32 n))) raw ∙ h3.0,
            (
              (λ i. is_positive (raw_elems i) && ((raw_elems i == 1) || is_characters (notation_of (type i)))) ∙ h3.1.0,
              (
                dimensions ∙ h5.0,
                (
                  (λ i. nat_le (end i) (size i)) ∙ h5.1.0,
                  (
                    ap (λ (x : Variable). nat_le (record_size x.type x.elems x.dims x.varys) record_limit) said_by ∙ h7.0,
                    (
                      ap is_max_rec max ∙ h7.1.0,
                      (
                        ap (λ (n : ℕ). nat_le n 2) sparse ∙ h7.1.1.0,
                        packs,
                      ),
                    ),
                  ),
                ),
              ),
            ),
          ),
        ),
      )
