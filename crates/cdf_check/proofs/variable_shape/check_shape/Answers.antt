use Rattle.cdf_check.proofs.Common.{Measures, None, Some, SomeIff, arith, inl, inr, of_le, read_done, read_more, read_once, record_bytes, record_limit, refl, size_at, vdr_end, ◌≡◌, ◌≤◌}
use Rattle.cdf_check.proofs.VariableShapes.{is_longer, is_small_enough, is_too_large}
use Rattle.cdf_check.proofs.variable_shape.check_shape.Goals as goal

pub returns-then-end-fields-clause-found : goal.returns-then-end-fields-clause-found
returns-then-end-fields-clause-found g c =
    let b = g.A.Area.image c.args.area.now in
    let vdr = c.args.vdr in
    let end : c.end_of-end.result ≡ vdr_end b vdr = rw c.read_dimensions.ensures.area.image at c.end_of-end.ensures in
    inr (inl (refl, refl, is_longer (vdr_end b vdr) (size_at b vdr) (omega (arith, end, c.requires.fields.size_is, c.if-end-fields.true))))

pub returns-then-end-fields-clause-area : goal.returns-then-end-fields-clause-area
returns-then-end-fields-clause-area g c = read_done (read_once c.in_ok-dimensions.ensures.area)

pub returns-in-None-clause-area : goal.returns-in-None-clause-area
returns-in-None-clause-area g c = read_done (read_more (read_once c.in_ok-dimensions.ensures.area) c.in_ok-bytes.ensures.area)

pub returns-in-None-clause-found : goal.returns-in-None-clause-found
returns-in-None-clause-found g c =
    let b = g.A.Area.image c.args.area.now in
    let vdr = c.args.vdr in
    let none : SomeIff None (record_bytes b vdr ≤ record_limit) (record_bytes b vdr) = rw (c.in-None.is, c.read_dimensions.ensures.area.image) at c.in_ok-bytes.ensures.value in
    inr (inr (inl (refl, refl, is_too_large (record_bytes b vdr) record_limit none)))

pub returns-in-Some-2-clause-found : goal.returns-in-Some-2-clause-found
returns-in-Some-2-clause-found g c =
    let b = g.A.Area.image c.args.area.now in
    let vdr = c.args.vdr in
    let read : Measures b vdr (Some c.in-Some.dimensions) = rw c.in-Some.is at c.in_ok-dimensions.ensures.dimensions in
    let end : c.end_of-end.result ≡ vdr_end b vdr = rw c.read_dimensions.ensures.area.image at c.end_of-end.ensures in
    let small : SomeIff (Some c.in-Some-2.bytes) (record_bytes b vdr ≤ record_limit) (record_bytes b vdr) = rw (c.in-Some-2.is, c.read_dimensions.ensures.area.image) at c.in_ok-bytes.ensures.value in
    ((read.0, (of_le (vdr_end b vdr) (size_at b vdr) (omega (arith, end, c.requires.fields.size_is, c.if-end-fields.false)), (is_small_enough (record_bytes b vdr) record_limit c.in-Some-2.bytes small, tt))), small.1)

pub returns-in-Some-2-clause-area : goal.returns-in-Some-2-clause-area
returns-in-Some-2-clause-area g c = read_done (read_more (read_once c.in_ok-dimensions.ensures.area) c.in_ok-bytes.ensures.area)
