use Rattle.cdf_put_steps.proofs.GoesAlong.{goes_along}
use Rattle.cdf_put_steps.proofs.laws.images_go_along.Goals as goal

pub returns : goal.returns
returns c b mid now kind before own own' own'' after acts acts' good at first second = goes_along good at first second
