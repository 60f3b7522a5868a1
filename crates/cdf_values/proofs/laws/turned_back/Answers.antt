use Rattle.cdf_values.proofs.TurnedLemmas.{back, size_stays}
use Rattle.cdf_values.proofs.laws.turned_back.Goals as goal

pub returns-clause-back : goal.returns-clause-back
returns-clause-back c = back

pub returns-clause-size : goal.returns-clause-size
returns-clause-size c = size_stays
