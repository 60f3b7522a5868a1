use Rattle.cdf_format.specs.Phases.{all_phases}
use Rattle.cdf_format.proofs.Verdicts.{excluded}
use Rattle.cdf_format.proofs.laws.broken_is_not_well_formed.Goals as goal

pub returns : goal.returns
returns c = λ f phase rule place. excluded (all_phases f) phase rule place
