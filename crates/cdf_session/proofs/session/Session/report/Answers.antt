use Rattle.cdf_session.proofs.WholeEvents.{few_records}
use Rattle.cdf_session.proofs.session.Session.report.Goals as goal

pub report-requires : goal.report-requires
report-requires g c = record { few = rw c.self.view_is at (few_records (g.A.Area.image c.self.inside.area) c.self.invariant.0.good) }
