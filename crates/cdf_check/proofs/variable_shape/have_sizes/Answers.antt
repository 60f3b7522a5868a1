use Rattle.cdf_check.proofs.Common.{rules, sym, ◌∙◌}
use Rattle.cdf_check.proofs.VariableShapes.{all_signed, as_read}
use Rattle.cdf_check.proofs.variable_shape.have_sizes.Goals as goal

pub returns : goal.returns
returns c = record {
  with_sign = c.are_sizes.ensures ∙ all_signed c.args.sizes.now (λ k lt. search (rules, c.type_inv.sizes k));
  same = λ e. as_read c.args.sizes.now (sym c.are_sizes.ensures ∙ e);
}
