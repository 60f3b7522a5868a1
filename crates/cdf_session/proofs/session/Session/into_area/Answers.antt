use Rattle.cdf_session.proofs.StepsRead.{sealed_well}
use Rattle.cdf_session.proofs.session.Session.into_area.Goals as goal

pub returns-clause-well_formed : goal.returns-clause-well_formed
returns-clause-well_formed g c = sealed_well _ c.self.invariant.0.good c.self.invariant.0.read
