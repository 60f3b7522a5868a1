use Rattle.cdf_vars.proofs.Common.{Good, subst, sym}
use Rattle.cdf_vars.proofs.vars.Vars.load.Goals as goal

pub load-requires-2 : goal.load-requires-2
load-requires-2 g c = subst Good (sym c.load.ensures.area.image) c.requires
