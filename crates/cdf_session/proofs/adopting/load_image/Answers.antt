use Rattle.cdf_session.proofs.Common.{Good, subst, sym}
use Rattle.cdf_session.proofs.adopting.load_image.Goals as goal

pub load-requires : goal.load-requires
load-requires g c = subst Good (sym c.new-image.ensures.image) c.requires
