use Rattle.cdf_attrs.proofs.GreatestNumber.{as_greatest}
use Rattle.cdf_attrs.proofs.removing.greatest_number.Goals as goal

pub returns-in-Some : goal.returns-in-Some
returns-in-Some c = as_greatest c.args.numbers.now c.in-Some.greatest c.requires c.in-Some.ensures.member c.in-Some.ensures.greatest
