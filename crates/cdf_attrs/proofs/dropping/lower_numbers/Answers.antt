use Rattle.cdf_attrs.proofs.Common.{arith}
use Rattle.std.proofs.lemmas.Grind.{common_steps}
use Rattle.cdf_attrs.proofs.DroppingSteps.{lower_step}
use Rattle.cdf_attrs.proofs.dropping.lower_numbers.Goals as goal

pub loop-i-preserved : goal.loop-i-preserved
loop-i-preserved c = grind (arith, common_steps, lower_step c.args.num c.args.entries.now.numbers c.args.entries.now.places c.loop-i.i)
