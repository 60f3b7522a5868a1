-- What the variables of a good image have is whole.
use Rattle.cdf_vars.proofs.Common.{Each, Good, IsVdr, Kind, List, None, Option, Some, Variable, VariableShape, [], ap, append_assoc, arith, cases_lt, content, extent, good_is_sound, inl, inr, length, length-map, map, max_rec_at, record_bytes, refl, shape, shapes_of, some_elements, subst, sym, unwrap_or, value_count, variable_at, variable_is, variable_of, variables_of, ℕ, ◌%◌, ◌*◌, ◌++◌, ◌+◌, ◌<◌, ◌∙◌, ◌∷◌, ◌≡◌, ◌≤◌}
use Rattle.std.specs.Prelude.{IfSome}
use Rattle.std.proofs.Math.Nat.{mul-mod_right}
use Rattle.cdf_edits.proofs.Edits.NumberedItems.{Rising, none, one}
use Rattle.cdf_edits.proofs.Edits.NumberedLookup.{item_here, item_later, none_below}
use Rattle.cdf_model.specs.Numbered.{item_at}
use Rattle.cdf_model.specs.Pads.{default_value}
use Rattle.cdf_model.specs.Reading.{pad_record}
use Rattle.cdf_model.specs.Types.{size_of}
use Rattle.cdf_model.specs.Whole.{IsWhole}
use Rattle.cdf_var_records.proofs.NextRecord.{few_records, recs_rise, up_to_max_rec}
use Rattle.cdf_var_records.proofs.RecordsRead.{item_long, value_long}
use Rattle.cdf_vars.proofs.VariableChains.{under_31_bits}
use Rattle.cdf_vars.proofs.VariableNames.{variables_are}
use Rattle.cdf_vars.specs.Events.{HasWholeVariables, IsWholeVariable}

module _ {A : Type 0} where
  -- what holds of each item that a number has holds of all
  each_item : (P : ℕ → A → Type 0) (low : ℕ) (items : List (ℕ × A)) → Rising low items → ((k : ℕ) (a : A) → item_at k items ≡ Some a → P k a) → Each (λ (pair : ℕ × A). P pair.0 pair.1) items
  each_item P low items none so = tt
  each_item P low items (one {n = n} {a = a} {rest = rest} p r) so = (so n a (item_here n a rest), each_item P (n + 1) rest r later)
    where
      gone : {c : A} → None ≡ Some c → ⊥
      gone q = cc

      later : (k : ℕ) (c : A) → item_at k rest ≡ Some c → P k c
      later k c is = elim (cases_lt n k) [
        | inl lt ↦ so k c (item_later k n a rest (λ q. absurd (omega arith)) ∙ is)
        | inr le ↦ absurd (let q = sym (none_below k (n + 1) rest (omega arith) r) ∙ is in gone q)
      ]

  each_map : (P Q : ℕ × A → Type 0) (items : List (ℕ × A)) → ((pair : ℕ × A) → P pair → Q pair) → Each P items → Each Q items
  each_map P Q [] so e = tt
  each_map P Q (pair ∷ items) so e = (so pair e.0, each_map P Q items so e.1)

  -- numbers below a bound are no more than that
  few_items : (high low : ℕ) (items : List (ℕ × A)) → Rising low items → Each (λ (pair : ℕ × A). pair.0 < high) items → low ≤ high → low + length items ≤ high
  few_items high low items none below le = omega arith
  few_items high low items (one {n = n} {a = a} {rest = rest} p r) below le = let rest_few = few_items high (n + 1) rest r below.1 (let lt = below.0 in omega arith) in omega arith

times_one : (k : ℕ) → k ≡ k * 1
times_one k = omega arith

module _ {b : List ℕ} {kind : Kind} {vdr : ℕ} (good : Good b) (v : IsVdr b kind vdr) where
  abbrev variable : Variable
  variable = variable_at b vdr

  abbrev most : ℕ
  most = extent (max_rec_at b vdr)

  abbrev IsOne : ℕ → List ℕ → Type 0
  IsOne k bytes = (length bytes ≡ record_bytes b vdr) × (k < most)

  ones : Each (λ (pair : ℕ × List ℕ). IsOne pair.0 pair.1) variable.recs
  ones = each_item IsOne 0 variable.recs (recs_rise good v) (λ k bytes is. (ap (λ (o : Option (List ℕ)). length (unwrap_or o (pad_record variable))) (sym is) ∙ item_long good v k, up_to_max_rec good v k bytes is))

  pad_whole : (o : Option (List ℕ)) → variable.pad ≡ o → IfSome o (IsWhole variable.type variable.elems)
  pad_whole None e = tt
  pad_whole (Some bytes) e =
      let size = size_of variable.type * variable.elems in
      let long : length bytes ≡ size = ap (λ (o : Option (List ℕ)). length (unwrap_or o (default_value variable.type variable.elems))) (sym e) ∙ value_long good v in
      (some_elements good v, ap (λ (k : ℕ). k % size) (long ∙ times_one size) ∙ mul-mod_right size 1)

  whole_variable : IsWholeVariable variable
  whole_variable = record {
    records = each_map _ _ variable.recs (λ pair is. (some_elements good v, ap (λ (k : ℕ). k % (size_of variable.type * variable.elems)) is.0 ∙ mul-mod_right (size_of variable.type * variable.elems) (value_count variable.dims variable.varys))) ones;
    pad = pad_whole variable.pad refl;
    few = let few = few_items most 0 variable.recs (recs_rise good v) (each_map _ _ variable.recs (λ pair is. is.1) ones) (omega arith) in let limit = few_records b vdr in omega arith;
  }

pub has_whole_variables : (b : List ℕ) (kind : Kind) → Good b → HasWholeVariables (content b) kind
has_whole_variables b kind good =
    let vs = shapes_of (shape b) kind in
    let are = variables_are b (shape b) (good_is_sound b good).has_shape kind in
    let many : length (variables_of (content b) kind) ≡ length vs = ap (λ (xs : List Variable). length xs) are ∙ length-map vs (variable_of b) in
    let few = under_31_bits b good kind in
    record {
      each = subst (Each IsWholeVariable) (sym are) (all [] vs refl);
      few = omega (arith, many, few, length-map vs (λ (v : VariableShape). v.vdr));
    }
  where
    all : (before after : List VariableShape) → shapes_of (shape b) kind ≡ before ++ after → Each IsWholeVariable (map (variable_of b) after)
    all before [] is = tt
    all before (own ∷ after) is =
        let v : IsVdr b kind own.vdr = record { before = before; own = own; after = after; was = is } in
        (subst IsWholeVariable (variable_is good v) (whole_variable good v), all (before ++ own ∷ []) after (is ∙ sym (append_assoc before (own ∷ []) after)))
