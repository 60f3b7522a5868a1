use Rattle.cdf_vars.proofs.Common.{Good, subst, sym}
use Rattle.cdf_vars.proofs.vars.Vars.create_r.Goals as goal

pub create-requires-clause-good : goal.create-requires-clause-good
create-requires-clause-good g c = subst Good (sym c.read_dims.ensures.area.image) c.requires.good
