-- SRecords of a descriptor is written, and its variable has no index: the variable has its rules yet, and the image is good.
use Rattle.cdf_edits.proofs.Common.{Bool, Good, Hold, Kind, List, R, Variable, VariableShape, Z, [], ap, arith, asked, avoided, both, cast_signed, cpr_link, cpr_rows, cpr_type, dimension_limit, dimensions_at, dims_at, either, elems_at, false, field_marks, gdr_eof, gdr_type, has_bit, has_dimensions, if◌then◌else◌, image_limit, index_rows, inl, inr, is_a, is_a-in, is_a-type, is_characters, is_compressed, is_cpr, is_known_packing, is_max_rec, is_no_link, is_positive, is_z, length, list_all, nat_le, notation_of, number, of_le, record_limit, refl, shape, size_at, sparse_at, subst, sym, true, type_at, type_in, type_of, type_of_variable, variable_of, variable_rows, variables_chain, vdr_cpr_or_spr_offset, vdr_data_type, vdr_end, vdr_max_rec, vdr_num_elems, vdr_r_pad_value, vdr_s_records, vdr_z_num_dims, vdr_z_pad_value, w32, z_vdr_type, ℕ, ◌*◌, ◌+◌, ◌==◌, ◌∙◌, ◌≡◌, ◌≢◌, ◌≤◌}
use Rattle.std.proofs.Common.{is_some, not, ◌&&◌, ◌||◌}
use Rattle.cdf_format.specs.Index.{Nodes, leaves_of, no_node}
use Rattle.cdf_format.specs.IndexRules.{nodes_rows}
use Rattle.cdf_model.specs.Place.{record_size}
use Rattle.cdf_model.specs.Types.{size_of}
use Rattle.cdf_format.specs.Fields.{counted}
use Rattle.cdf_edits.proofs.Edits.Common.{StandsAmong, good_in_place, named_before, own_ruled, typed}
use Rattle.cdf_edits.proofs.Frame.Meaning.{FileSame, if_same}
use Rattle.cdf_edits.proofs.Rules.OfVdrCopied.{CprStays, cpr_stays}
use Rattle.cdf_edits.proofs.Frame.VdrAlike.{copied_in_place, word_copied}
use Rattle.cdf_edits.proofs.Frame.VdrStays.{long_z}
use Rattle.cdf_sparse.proofs.RuledVdr.{RuledVdr, early_same, flags_same, late_same, name_same, packed_same, variable_ruled}
use Rattle.cdf_sparse.proofs.SetRuleWritten as of_rule
use Rattle.cdf_sparse.specs.SetRule.{RuleWritten}

-- without a node no rule of an index can be broken
none_broken : (now records : List ℕ) (v : ℕ) → Hold (index_rows now records v no_node)
unfolding nodes_rows leaves_of
none_broken now records v = tt

module _ {b now : List ℕ} (file : FileSame b now) (own : VariableShape) (k : RuledVdr b now own.vdr) (none : own.index ≡ no_node) where
  abbrev v : ℕ
  v = own.vdr

  said : variable_of now own ≡ record (variable_of b own) { sparse = sparse_at now v }
  said = variable_ruled file own k none

  type_same : type_of_variable now v ≡ type_of_variable b v
  type_same = ap (λ (x : Variable). x.type) said

  elems_same : elems_at now v ≡ elems_at b v
  elems_same = ap (λ (x : Variable). x.elems) said

  dims_same : dims_at now v ≡ dims_at b v
  dims_same = ap (λ (x : Variable). x.dims) said

  z_same : is_z now v ≡ is_z b v
  z_same = ap (λ (t : ℕ). t == z_vdr_type) (word_copied (copied_in_place b now v 0 48 k.front) 8 4 (omega arith) (omega arith))

  count_same : is_z b v ≡ true → number now v vdr_z_num_dims ≡ number b v vdr_z_num_dims
  count_same e = word_copied (copied_in_place b now v 52 (size_at b v) k.back) 340 4 (omega arith) (few (dimensions_at b v) (size_at b v) (long_z b v k.end e))
    where
      few : (d s : ℕ) → 344 + 8 * d ≤ s → 340 + 4 ≤ s
      few d s p = omega arith

  dimensions_same : dimensions_at now v ≡ dimensions_at b v
  dimensions_same = if_same (is_z now v) (is_z b v) _ _ _ _ z_same (λ e. ap (λ (n : ℕ). counted (cast_signed w32 n)) (count_same e)) (λ e. file.dimensions)

  end_same : vdr_end now v ≡ vdr_end b v
  end_same =
      let z = z_same in
      let d = dimensions_same in
      let flags = flags_same file k in
      let t = type_same in
      let n = elems_same in
      λ i. (if z i then vdr_z_pad_value (d i) (size_of (t i) * n i) else vdr_r_pad_value (d i) (size_of (t i) * n i)).place + (if has_bit (flags i) 1 then size_of (t i) * n i else 0)

  size_same : size_at now v ≡ size_at b v
  size_same = word_copied (copied_in_place b now v 0 48 k.front) 0 8 (omega arith) (omega arith)

  dimensions_rule : is_z b v ≡ true → has_dimensions now v ≡ has_dimensions b v
  dimensions_rule e = let count = count_same e in let size = size_same in let dims = dims_same in λ i. nat_le (count i) dimension_limit && (nat_le (344 + 4 * count i) (size i) && list_all is_positive (dims i))

  dimensions_ruled : (not (is_z now v) || has_dimensions now v) ≡ (not (is_z b v) || has_dimensions b v)
  dimensions_ruled = by (is_z b v) refl
    where
      by : (p : Bool) → is_z b v ≡ p → (not (is_z now v) || has_dimensions now v) ≡ (not (is_z b v) || has_dimensions b v)
      by true e = let z = z_same in let rule = dimensions_rule e in λ i. not (z i) || rule i
      by false e = rw (z_same, e) refl

  -- its parameters keep their rules, where their record is what it was
  parameters_ruled : (records : List ℕ) → ((m : ℕ) → is_cpr b records m ≡ true → CprStays b now records m) → Hold (variable_rows b records [] v)
      → ((not (is_compressed now v) || is_cpr now records (cpr_link now v)) ≡ true) × Hold (asked (is_compressed now v) (cpr_rows now records (cpr_link now v)))
  parameters_ruled records stays h =
      let h11 = h.1.1.1.1.1.1.1.1.1.1 in
      let same = packed_same file k in
      let link = late_same file k vdr_cpr_or_spr_offset (omega arith) (omega arith) in
      elim (either (is_compressed b v)) [
        | inl packed ↦
            let was : is_cpr b records (cpr_link b v) ≡ true = rw packed at h11.0 in
            let rows = rw packed at h11.1 in
            let known : is_known_packing b (cpr_link b v) ≡ true = (rw was at rows).0 in
            let kept = stays (cpr_link b v) was in
            let packed_now : is_compressed now v ≡ true = same ∙ packed in
            let is : is_cpr now records (cpr_link now v) ≡ true = ap (is_cpr now records) link ∙ kept.is in
            let says : is_known_packing now (cpr_link now v) ≡ true = ap (is_known_packing now) link ∙ kept.packing ∙ known in
            (rw packed_now is, rw (packed_now, is) (says, tt))
        | inr plain ↦ let plain_now : is_compressed now v ≡ false = same ∙ plain in (rw plain_now refl, rw plain_now tt)
      ]

  pub rules_ruled : (records : List ℕ) → ((m : ℕ) → is_cpr b records m ≡ true → CprStays b now records m) → nat_le (number now v vdr_s_records) 2 ≡ true → Hold (variable_rows b records [] v) → Hold (variable_rows now records [] v)
  rules_ruled records stays small h =
      let h3 = h.1.1 in
      let h5 = h3.1.1 in
      let h7 = h5.1.1 in
      let h10 = h7.1.1.1 in
      let name = name_same file k in
      let raw = early_same file k vdr_data_type (omega arith) in
      let raw_elems = late_same file k vdr_num_elems (omega arith) (omega arith) in
      let type = type_same in
      let dimensions = dimensions_ruled in
      let end = end_same in
      let size = size_same in
      let said_by = said in
      let max = early_same file k vdr_max_rec (omega arith) in
      let link = late_same file k vdr_cpr_or_spr_offset (omega arith) (omega arith) in
      let same = packed_same file k in
      let parameters = parameters_ruled records stays h in (
        ap (λ (n : List ℕ). not (length n == 0)) name ∙ h.0,
        (
          refl,
          (
            ap (λ (n : ℕ). is_some (type_of (cast_signed w32 n))) raw ∙ h3.0,
            (
              (λ i. is_positive (raw_elems i) && ((raw_elems i == 1) || is_characters (notation_of (type i)))) ∙ h3.1.0,
              (
                dimensions ∙ h5.0,
                (
                  (λ i. nat_le (end i) (size i)) ∙ h5.1.0,
                  (
                    ap (λ (x : Variable). nat_le (record_size x.type x.elems x.dims x.varys) record_limit) said_by ∙ h7.0,
                    (
                      ap is_max_rec max ∙ h7.1.0,
                      (
                        small,
                        (
                          (λ i. same i || is_no_link (link i)) ∙ h10.0,
                          parameters,
                        ),
                      ),
                    ),
                  ),
                ),
              ),
            ),
          ),
        ),
      )

module _ {b now : List ℕ} {kind : Kind} {before : List VariableShape} {own : VariableShape} {after : List VariableShape} {code : ℕ} (good : Good b) (at : StandsAmong b kind before own after) (w : RuleWritten b now own.vdr code) where
  clear : (k : Kind) (v : ℕ) → avoided (field_marks (type_in (variables_chain k)) v vdr_s_records) gdr_type gdr_eof.place (gdr_eof.place + gdr_eof.width) ≡ true
  clear R v = refl
  clear Z v = refl

  -- no record of parameters is the descriptor
  not_vdr : (k : Kind) → type_in (variables_chain k) ≢ cpr_type
  not_vdr R e = cc
  not_vdr Z e = cc

  parameters_stay : (m : ℕ) → is_cpr b (shape b).records m ≡ true → CprStays b now (shape b).records m
  parameters_stay m is =
      let one = (both (is_a b (shape b).records cpr_type m) _ is).0 in
      let i = is_a-in b (shape b).records cpr_type m one in
      let other = λ (e : m ≡ own.vdr). not_vdr kind (sym (typed good at) ∙ ap (type_at b) (sym e) ∙ is_a-type b (shape b).records cpr_type m one) in
      cpr_stays b now (shape b).records (shape b).records m is (of_rule.kept_beside good at w m i other) i

  pub ruled_good : own.index ≡ no_node → code ≤ 2 → length b ≤ image_limit → Good now
  ruled_good none small short =
      let x = of_rule.own_edit good at w in
      let file = of_rule.file good at w in
      let k = of_rule.ruled_vdr good at w in
      let rows = subst (λ (n : Nodes). Hold (index_rows now (shape b).records own.vdr n)) (sym none) (none_broken now (shape b).records own.vdr) in
      let rules = rules_ruled file own k none (shape b).records parameters_stay (of_le (number now own.vdr vdr_s_records) 2 (omega (arith, small, w.code_is))) (own_ruled good at x).0 in
      good_in_place good at x w.as_long (clear kind own.vdr) (rules, rows) (named_before good at x (name_same file k)) short
