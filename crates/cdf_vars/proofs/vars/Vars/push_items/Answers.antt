use Rattle.cdf_vars.proofs.Common.{Good, subst, sym}
use Rattle.cdf_vars.proofs.vars.Vars.push_items.Goals as goal

pub push_kind-requires-2 : goal.push_kind-requires-2
push_kind-requires-2 g c = subst Good (sym c.push_kind.ensures.area.image) c.requires.good
