use Rattle.cdf_check.proofs.Common.{AreFields, AreValues, Err, Finds, None, Ok, Option, Some, Yields, cpr_at, has_name, packing_rows, read_done, read_failed, read_more, read_once, record_bytes, records_rows, rules, shape_rows, true, value_rows, vdr_name, ℕ, ◌≡◌}
use Rattle.cdf_check.proofs.FieldSteps.{all_parts, packing_breaks, records_break, values_break}
use Rattle.cdf_check.proofs.variable.check_variable.Goals as goal

pub returns-in-Err-clause-found : goal.returns-in-Err-clause-found
returns-in-Err-clause-found g c =
    let b = g.A.Area.image c.args.area.now in
    let are : AreFields b c.args.vdr c.in_ok-fields.fields = rw c.read_variable_name.ensures.area.image at c.in_ok-fields.ensures.fields in
    let broken : Yields (value_rows b c.args.vdr) (AreValues b c.args.vdr) (Err c.in-Err.broken) = rw c.in-Err.is at (c.check_values.ensures b are) in
    values_break b c.args.tiles.now c.args.vdr c.in-Err.broken.rule c.in-Err.broken.place broken

pub check_shape-requires-clause-value : goal.check_shape-requires-clause-value
check_shape-requires-clause-value g c =
    let b = g.A.Area.image c.args.area.now in
    let are : AreFields b c.args.vdr c.in_ok-fields.fields = rw c.read_variable_name.ensures.area.image at c.in_ok-fields.ensures.fields in
    let values : Yields (value_rows b c.args.vdr) (AreValues b c.args.vdr) (Ok c.in-Ok.value) = rw c.in-Ok.is at (c.check_values.ensures b are) in
    rw (c.read_fields.ensures.area.image, c.read_variable_name.ensures.area.image) values.1

pub returns-in-Some-clause-found : goal.returns-in-Some-clause-found
returns-in-Some-clause-found g c =
    let b = g.A.Area.image c.args.area.now in
    let are : AreFields b c.args.vdr c.in_ok-fields.fields = rw c.read_variable_name.ensures.area.image at c.in_ok-fields.ensures.fields in
    let broken : Finds (records_rows b c.args.vdr) (Some c.in-Some.broken) = rw c.in-Some.is at (c.check_records.ensures b are) in
    records_break b c.args.tiles.now c.args.vdr c.in-Some.broken.rule c.in-Some.broken.place broken

pub returns-in-Some-clause-area : goal.returns-in-Some-clause-area
returns-in-Some-clause-area g c = read_done (read_more (read_more (read_once c.in_ok-name.ensures.area) c.in_ok-fields.ensures.area) c.in_ok-bytes.ensures.area)

pub returns-in-Err-3-clause-found : goal.returns-in-Err-3-clause-found
returns-in-Err-3-clause-found g c =
    let b = g.A.Area.image c.args.area.now in
    let packing = rw (c.check_shape.ensures.area.image, c.read_fields.ensures.area.image, c.read_variable_name.ensures.area.image) at c.in_ok-cpr.ensures.found in
    let broken : Yields (packing_rows b c.args.tiles.now c.args.vdr) (λ (cpr : Option ℕ). cpr ≡ cpr_at b c.args.vdr) (Err c.in-Err-3.broken) = rw c.in-Err-3.is at packing in
    packing_breaks b c.args.tiles.now c.args.vdr c.in-Err-3.broken.rule c.in-Err-3.broken.place broken

pub returns-clause-found : goal.returns-clause-found
returns-clause-found g c =
    let b = g.A.Area.image c.args.area.now in
    let are : AreFields b c.args.vdr c.in_ok-fields.fields = rw c.read_variable_name.ensures.area.image at c.in_ok-fields.ensures.fields in
    let named : has_name b c.args.vdr vdr_name ≡ true = search (rules, c.if-is_empty.false, c.is_empty.ensures, c.as_slice.ensures, c.in_ok-name.ensures.value) in
    let values : Yields (value_rows b c.args.vdr) (AreValues b c.args.vdr) (Ok c.in-Ok.value) = rw c.in-Ok.is at (c.check_values.ensures b are) in
    let measured = rw (c.read_fields.ensures.area.image, c.read_variable_name.ensures.area.image) at c.in_ok-bytes.ensures.found in
    let shape : Yields (shape_rows b c.args.vdr) (λ (bytes : ℕ). bytes ≡ record_bytes b c.args.vdr) (Ok c.in-Ok-2.bytes) = rw c.in-Ok-2.is at measured in
    let records : Finds (records_rows b c.args.vdr) None = rw c.in_default.is at (c.check_records.ensures b are) in
    let found = rw (c.check_shape.ensures.area.image, c.read_fields.ensures.area.image, c.read_variable_name.ensures.area.image) at c.in_ok-cpr.ensures.found in
    let packing : Yields (packing_rows b c.args.tiles.now c.args.vdr) (λ (cpr : Option ℕ). cpr ≡ cpr_at b c.args.vdr) (Ok c.in-Ok-3.cpr) = rw c.in-Ok-3.is at found in (
      all_parts b c.args.tiles.now c.args.vdr named values.0 shape.0 records packing.0,
      record { name_is = c.in_ok-name.ensures.value; cpr_is = packing.1; bytes_are = shape.1; head_is = are.head_is },
    )

pub returns-clause-area : goal.returns-clause-area
returns-clause-area g c = read_done (read_more (read_more (read_more (read_once c.in_ok-name.ensures.area) c.in_ok-fields.ensures.area) c.in_ok-bytes.ensures.area) c.in_ok-cpr.ensures.area)

pub returns-in-Err-3-clause-area : goal.returns-in-Err-3-clause-area
returns-in-Err-3-clause-area g c = read_done (read_more (read_more (read_more (read_once c.in_ok-name.ensures.area) c.in_ok-fields.ensures.area) c.in_ok-bytes.ensures.area) c.in_ok-cpr.ensures.area)

pub returns-in_err-cpr-clause-area : goal.returns-in_err-cpr-clause-area
returns-in_err-cpr-clause-area g c = read_failed (read_more (read_more (read_once c.in_ok-name.ensures.area) c.in_ok-fields.ensures.area) c.in_ok-bytes.ensures.area) c.in_err-cpr.ensures.area c.from_residual-in_err-cpr.ensures.1
