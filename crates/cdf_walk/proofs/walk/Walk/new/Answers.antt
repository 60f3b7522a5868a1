use Rattle.cdf_model.proofs.Counts.{counts_none}
use Rattle.cdf_walk.proofs.walk.Walk.new.Goals as goal

pub returns-clause-stands : goal.returns-clause-stands
returns-clause-stands c = λ d. record { within = tt; counts = counts_none d }
