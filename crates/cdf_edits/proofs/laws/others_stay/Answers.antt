use Rattle.cdf_edits.proofs.Commands.OthersStay.{attributes_stay, variables_stay}
use Rattle.cdf_edits.proofs.laws.others_stay.Goals as goal

pub returns-clause-attributes : goal.returns-clause-attributes
returns-clause-attributes c = attributes_stay

pub returns-clause-variables : goal.returns-clause-variables
returns-clause-variables c = variables_stay
