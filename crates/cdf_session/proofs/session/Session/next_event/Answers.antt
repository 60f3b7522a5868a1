use Rattle.cdf_session.proofs.Common.{ap}
use Rattle.cdf_session.proofs.WalkLemmas.{gave_next, gives_event}
use Rattle.cdf_session.proofs.WholeEvents.{few_records}
use Rattle.cdf_session.proofs.session.Session.next_event.Goals as goal

pub next_event-requires-clause-few : goal.next_event-requires-clause-few
next_event-requires-clause-few g c = rw c.self.view_is at (few_records (g.A.Area.image c.self.inside.area) c.self.invariant.0.good)

pub returns-clause-event : goal.returns-clause-event
returns-clause-event g c k gave = gives_event _ c.args.walk.now.spot c.next_event.new.walk.spot k c.next_event.result gave.gave c.next_event.ensures.gives

pub returns-clause-gave : goal.returns-clause-gave
returns-clause-gave g c k gave = gave_next _ _ c.args.walk.now c.next_event.new.walk k c.next_event.result (ap (λ under. under.0) c.next_event.ensures.parts.under) gave c.next_event.ensures.gives c.next_event.ensures.stands
