use Rattle.cdf_model.proofs.RepliesRead.{values-back}
use Rattle.cdf_model.proofs.laws.shown_values_are_read_back.Goals as goal

pub returns : goal.returns
returns c = values-back
