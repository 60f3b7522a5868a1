use Rattle.cdf_format.proofs.NewFileRules.{new_is_good, new_content, new_length}
use Rattle.cdf_format.proofs.laws.new_file_is_good.Goals as goal

pub returns-clause-good : goal.returns-clause-good
returns-clause-good c = new_is_good

pub returns-clause-content : goal.returns-clause-content
returns-clause-content c = new_content

pub returns-clause-length : goal.returns-clause-length
returns-clause-length c = new_length
