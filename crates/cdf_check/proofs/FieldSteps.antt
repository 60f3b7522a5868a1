-- The fields of a variable, as they are read, and the rules on them among all its rules.
use Rattle.cdf_check.proofs.Common.{AreFields, AreTiles, Field, Hold, IsBroken, List, [], ap, arith, both, cast_signed, cast_unsigned, has_name, inl, inr, is_a-in, is_positive, le_of, length, nat_le, number, of_z-to_z, packing_rows, record_type, records_rows, refl, shape_rows, size_at, tile_lies, true, value_rows, variable_rows, vdr_cpr_or_spr_offset, vdr_data_type, vdr_max_rec, vdr_name, vdr_num_elems, vdr_s_records, w32, w64, word_fits, ℕ, ◌&&◌, ◌*◌, ◌+◌, ◌∙◌, ◌≡◌, ◌≤◌}
use Rattle.cdf_format.specs.Chains.{is_a}
use Rattle.cdf_format.specs.Fields.{holds}
use Rattle.cdf_format.specs.RecordTypes.{cpr_type}
use Rattle.cdf_format.specs.Records.{cpr_p_count, cpr_parameters}
use Rattle.cdf_format.specs.VariableRules.{is_cpr}
use Rattle.cdf_model.specs.Limits.{signed_limit}
use Rattle.cdf_model.specs.Types.{type_of}
use Rattle.cdf_records.specs.Heads.{vdr_at}
use Rattle.cdf_records.specs.Pieces.{AreBytes}
use Rattle.cdf_records.specs.declared.vdr.Vdr.{Vdr}
use Rattle.cdf_check.specs.declared.variable_fields.Fields.{Fields}

-- ---- the fields

module _ (b : List ℕ) (vdr : ℕ) (head : Vdr) (read : head ≡ vdr_at b vdr) (bytes : AreBytes b vdr 84) where
  -- a number that was read with its sign, without it
  plain4 : (f : Field) → f.width ≡ 4 → f.place + 4 ≤ 84 → cast_unsigned w32 (cast_signed w32 (number b vdr f)) ≡ number b vdr f
  plain4 f wide fits = of_z-to_z w32 (number b vdr f) (rw wide (word_fits b vdr 84 (vdr + f.place) 4 bytes (omega arith) (omega (arith, fits))))

  again4 : (f : Field) → f.width ≡ 4 → f.place + 4 ≤ 84 → cast_unsigned w32 (cast_signed w32 (cast_unsigned w32 (cast_signed w32 (number b vdr f)))) ≡ number b vdr f
  again4 f wide fits = ap (λ (n : ℕ). cast_unsigned w32 (cast_signed w32 n)) (plain4 f wide fits) ∙ plain4 f wide fits

  plain8 : cast_unsigned w64 (cast_signed w64 (number b vdr vdr_cpr_or_spr_offset)) ≡ number b vdr vdr_cpr_or_spr_offset
  plain8 = of_z-to_z w64 (number b vdr vdr_cpr_or_spr_offset) (word_fits b vdr 84 (vdr + 72) 8 bytes (omega arith) (omega arith))

  pub fields_are : (fields : Fields) → fields.record_size ≡ head.record_size → fields.record_type ≡ cast_unsigned w32 (cast_signed w32 (cast_unsigned w32 head.record_type))
      → fields.data_type ≡ type_of (cast_signed w32 (cast_unsigned w32 head.data_type)) → fields.max_rec ≡ cast_unsigned w32 (cast_signed w32 (cast_unsigned w32 head.max_rec)) → fields.vxr_head ≡ head.vxr_head → fields.flags ≡ head.flags
      → fields.s_records ≡ cast_unsigned w32 (cast_signed w32 (cast_unsigned w32 head.s_records)) → fields.num_elems ≡ cast_unsigned w32 (cast_signed w32 (cast_unsigned w32 head.num_elems))
      → fields.cpr_or_spr_offset ≡ cast_unsigned w64 (cast_signed w64 (cast_unsigned w64 head.cpr_or_spr_offset)) → AreFields b vdr fields
  fields_are fields size type data_type max_rec index flags s_records num_elems link = record {
    size_is = size ∙ ap (λ (h : Vdr). h.record_size) read;
    type_is = type ∙ ap (λ (h : Vdr). cast_unsigned w32 (cast_signed w32 (cast_unsigned w32 h.record_type))) read ∙ again4 record_type refl (omega arith);
    data_type_is = data_type ∙ ap (λ (h : Vdr). type_of (cast_signed w32 (cast_unsigned w32 h.data_type))) read ∙ ap (λ (n : ℕ). type_of (cast_signed w32 n)) (plain4 vdr_data_type refl (omega arith));
    max_rec_is = max_rec ∙ ap (λ (h : Vdr). cast_unsigned w32 (cast_signed w32 (cast_unsigned w32 h.max_rec))) read ∙ again4 vdr_max_rec refl (omega arith);
    head_is = index ∙ ap (λ (h : Vdr). h.vxr_head) read;
    flags_are = flags ∙ ap (λ (h : Vdr). h.flags) read;
    s_records_are = s_records ∙ ap (λ (h : Vdr). cast_unsigned w32 (cast_signed w32 (cast_unsigned w32 h.s_records))) read ∙ again4 vdr_s_records refl (omega arith);
    num_elems_are = num_elems ∙ ap (λ (h : Vdr). cast_unsigned w32 (cast_signed w32 (cast_unsigned w32 h.num_elems))) read ∙ again4 vdr_num_elems refl (omega arith);
    link_is = link ∙ ap (λ (h : Vdr). cast_unsigned w64 (cast_signed w64 (cast_unsigned w64 h.cpr_or_spr_offset))) read ∙ ap (λ (n : ℕ). cast_unsigned w64 (cast_signed w64 n)) plain8 ∙ plain8;
  }

-- ---- the rules

module _ (b ts : List ℕ) (vdr : ℕ) where
  pub values_break : (rule place : ℕ) → IsBroken (value_rows b vdr) rule place → IsBroken (variable_rows b ts [] vdr) rule place
  values_break rule place (inl p) = inr (inr (inl p))
  values_break rule place (inr (inl p)) = inr (inr (inr (inl p)))
  values_break rule place (inr (inr p)) = absurd p

  pub records_break : (rule place : ℕ) → IsBroken (records_rows b vdr) rule place → IsBroken (variable_rows b ts [] vdr) rule place
  records_break rule place (inl p) = inr (inr (inr (inr (inr (inr (inr (inl p)))))))
  records_break rule place (inr (inl p)) = inr (inr (inr (inr (inr (inr (inr (inr (inl p))))))))
  records_break rule place (inr (inr p)) = absurd p

  pub packing_breaks : (rule place : ℕ) → IsBroken (packing_rows b ts vdr) rule place → IsBroken (variable_rows b ts [] vdr) rule place
  packing_breaks rule place p = inr (inr (inr (inr (inr (inr (inr (inr (inr p))))))))

  pub all_parts : has_name b vdr vdr_name ≡ true → Hold (value_rows b vdr) → Hold (shape_rows b vdr) → Hold (records_rows b vdr) → Hold (packing_rows b ts vdr) → Hold (variable_rows b ts [] vdr)
  all_parts name values shape records packing =
      (name, (refl, (values.0, (values.1.0, (shape.0, (shape.1.0, (shape.1.1.0, (records.0, (records.1.0, packing)))))))))

-- ---- the parameters

-- a CPR has its first parameter
pub parameters_lie : (b ts : List ℕ) (place : ℕ) → AreTiles b 8 (length b) ts → is_cpr b ts place ≡ true → place + 28 ≤ length b
parameters_lie b ts place tiled is =
    let parts = both (is_a b ts cpr_type place) (is_positive (number b place cpr_p_count) && holds b place (cpr_parameters (number b place cpr_p_count))) is in
    let more = both (is_positive (number b place cpr_p_count)) (holds b place (cpr_parameters (number b place cpr_p_count))) parts.1 in
    let some = le_of 1 (number b place cpr_p_count) (both (nat_le 1 (number b place cpr_p_count)) (nat_le (number b place cpr_p_count) signed_limit) more.0).0 in
    let room : 24 + 4 * number b place cpr_p_count ≤ size_at b place = le_of (24 + 4 * number b place cpr_p_count) (size_at b place) more.1 in
    let lies = tile_lies b 8 (length b) ts place tiled (is_a-in b ts cpr_type place parts.0) in
    omega (arith, some, room, lies.high)
