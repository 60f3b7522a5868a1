use Rattle.cdf_structure.proofs.Common.{arith, nat_tests, ◌<◌}
use Rattle.cdf_structure.proofs.Searches.{past_last}
use Rattle.cdf_structure.proofs.met.is_past.Goals as goal

pub returns-in-Some : goal.returns-in-Some
returns-in-Some c = λ past.
    let less : c.in-Some.last.now < c.args.number = grind (arith, nat_tests, past) in
    past_last c.args.list.now c.in-Some.last.now c.args.number c.requires.ascends c.in-Some.ensures.value less
