use Rattle.cdf_edits.proofs.Frame.OwnersApart.{unused_are_alone}
use Rattle.cdf_edits.proofs.laws.unused_alone.Goals as goal

pub returns : goal.returns
returns c = λ b now records s sound sub change. unused_are_alone b s sound now records sub change
