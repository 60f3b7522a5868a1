use Rattle.cdf_structure.proofs.Tallies.{shared_stays}
use Rattle.cdf_structure.proofs.owners.Owners.is_shared.Goals as goal

pub returns : goal.returns
returns c = λ shared tiles more owned knows.
    let before = c.args.self.now in
    shared_stays tiles owned more before.has_owner.items before.shared (rw c.is_some.ensures at shared) knows
