use Rattle.cdf_session.proofs.OpenLemmas.{stays_open}
use Rattle.cdf_session.proofs.FewVariables.{variable_few}
use Rattle.cdf_session.proofs.WholeEvents.{whole_variables}
use Rattle.cdf_session.proofs.parts.SessionParts.variable.Goals as goal

pub invariant_of-self : goal.invariant_of-self
invariant_of-self g c = (stays_open _ _ _ _ _ _ c.self.invariant.0 c.variable_event.ensures.area.image c.variable_event.ensures.area.frame, rw (c.variable_event.ensures.area.image) c.self.invariant.1)

pub returns-clause-few : goal.returns-clause-few
returns-clause-few g c = variable_few (whole_variables _ c.self.invariant.0.good) c.args.kind c.args.num c.variable_event.result c.variable_event.ensures.event
