use Rattle.cdf_session.proofs.Common.{Good, rules, subst, sym}
use Rattle.cdf_area.proofs.Calls.{read_done, read_failed, read_more, read_once}
use Rattle.cdf_session.proofs.loading.load.Goals as goal

pub load-requires-2 : goal.load-requires-2
load-requires-2 g c = subst Good (sym c.load.ensures.area.image) c.requires

pub returns-in_err-vars-clause-area : goal.returns-in_err-vars-clause-area
returns-in_err-vars-clause-area g c = read_failed (read_once c.in_ok-attrs.ensures.area) c.in_err-vars.ensures.area (search rules)

pub returns-clause-area : goal.returns-clause-area
returns-clause-area g c = read_done (read_more (read_once c.in_ok-attrs.ensures.area) c.in_ok-vars.ensures.area)
