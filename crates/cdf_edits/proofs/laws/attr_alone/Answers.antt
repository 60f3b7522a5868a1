use Rattle.cdf_edits.proofs.Frame.OwnersApart.{attribute_alone}
use Rattle.cdf_edits.proofs.laws.attr_alone.Goals as goal

pub returns : goal.returns
returns c = λ b now records s before own after sound sub all change. attribute_alone b s sound before own after all now records sub change
