use Rattle.cdf_session.proofs.WalkLemmas.{gave_nothing}
use Rattle.cdf_session.proofs.session.Session.walk.Goals as goal

pub returns : goal.returns
returns g c = gave_nothing _ c.new.result c.new.ensures.spot (c.new.ensures.stands _)
