use Rattle.cdf_format.proofs.FormatKept.{is_read, is_well_formed, keeps}
use Rattle.cdf_format.proofs.laws.well_formed_is_read.Goals as goal

pub returns-clause-keeps : goal.returns-clause-keeps
returns-clause-keeps c = keeps

pub returns-clause-read : goal.returns-clause-read
returns-clause-read c = is_read

pub returns-clause-back : goal.returns-clause-back
returns-clause-back c = is_well_formed
