use Rattle.cdf_puts.proofs.KnownStarts.{none_known}
use Rattle.cdf_session.proofs.kept.Kept.new.Goals as goal

pub returns : goal.returns
returns c b = record { starts = none_known b _ c.new.ensures; view = c.new-2.ensures b }
