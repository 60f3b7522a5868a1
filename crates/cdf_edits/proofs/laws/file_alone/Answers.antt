use Rattle.cdf_edits.proofs.Frame.OwnersApart.{file_is_alone}
use Rattle.cdf_edits.proofs.laws.file_alone.Goals as goal

pub returns : goal.returns
returns c = λ b now records s change sound sub finding. file_is_alone b s sound now records sub change finding
