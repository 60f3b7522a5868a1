use Rattle.cdf_values.proofs.Common.{arith, sym, ◌∙◌}
use Rattle.cdf_values.proofs.RangeLemmas.{negative_up_to}
use Rattle.cdf_values.proofs.number.read_negative.Goals as goal

pub returns : goal.returns
returns c =
    negative_up_to c.args.size c.half_range-half.result c.in_ok-number.number c.args.digits.now c.requires.some c.half_range-half.ensures (omega arith) (sym c.plain_number.ensures ∙ c.in_ok-number.was)
