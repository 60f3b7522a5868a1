use Rattle.cdf_edits.proofs.Edits.Composing.{edit_then}
use Rattle.cdf_edits.proofs.laws.edit_then.Goals as goal

pub returns : goal.returns
returns c = λ b mid now old between new marks more reborn later first second. edit_then first second
