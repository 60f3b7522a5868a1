use Rattle.cdf_script.proofs.Numbers.{one_part, part_at}
use Rattle.cdf_script.proofs.argument.first_part.Goals as goal

pub returns-in-None : goal.returns-in-None
returns-in-None c = one_part c.args.text.now c.in-None.ensures

pub returns-in-Some : goal.returns-in-Some
returns-in-Some c = part_at c.args.text.now c.in-Some.end c.in-Some.ensures c.split_at.ensures.front c.split_at-in-Some.ensures.back
