use Rattle.cdf_check.proofs.Common.{Some, known_type, sym, vdr_data_type, ◌∙◌, ◌≡◌}
use Rattle.cdf_check.proofs.VariableShapes.{values_are}
use Rattle.cdf_check.proofs.variable.check_values.Goals as goal

pub returns : goal.returns
returns c b are =
    let known : known_type b c.args.vdr vdr_data_type ≡ Some c.in-Some.data_type = sym are.data_type_is ∙ c.in-Some.is in
    values_are b c.args.vdr c.in-Some.data_type c.args.fields.now.num_elems known are.num_elems_are (sym c.has_elements.ensures ∙ c.if-not-has_elements.false)
