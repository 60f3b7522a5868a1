use Rattle.cdf_walk.proofs.Shows.{shows_one}
use Rattle.cdf_walk.proofs.reporting.show_next.Goals as goal

pub returns-clause-same : goal.returns-clause-same
returns-clause-same g c = shows_one _ c.args.name.now _ _ c.in-Some.event _ _ (rw c.in-Some.is at c.in_ok-event.ensures.gives) c.in_ok-show.ensures.shown
