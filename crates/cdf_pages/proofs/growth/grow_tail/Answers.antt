use Rattle.cdf_pages.proofs.Common.{refl}
use Rattle.cdf_pages.proofs.Touched.{touches_none}
use Rattle.cdf_pages.proofs.growth.grow_tail.Goals as goal

pub returns-then-is_empty-clause-touched : goal.returns-then-is_empty-clause-touched
returns-then-is_empty-clause-touched g c = touches_none _ _ _ refl
