use Rattle.cdf_session.proofs.WholeEvents.{all_shown, few_records}
use Rattle.cdf_session.proofs.session.Session.dump.Goals as goal

pub dump-requires-clause-few : goal.dump-requires-clause-few
dump-requires-clause-few g c = rw c.self.view_is at (few_records (g.A.Area.image c.self.inside.area) c.self.invariant.0.good)

pub dump-requires-clause-shown : goal.dump-requires-clause-shown
dump-requires-clause-shown g c = all_shown (g.A.Area.image c.args.self.now) (rw c.self.view_is at c.self.invariant.0.good)
