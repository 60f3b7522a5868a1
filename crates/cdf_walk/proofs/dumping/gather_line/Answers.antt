use Rattle.cdf_store.proofs.Fronts.{front_none, on_err}
use Rattle.cdf_walk.proofs.dumping.gather_line.Goals as goal

pub returns-in_err-write_line-clause-part : goal.returns-in_err-write_line-clause-part
returns-in_err-write_line-clause-part g c = on_err _ (front_none _ _)
