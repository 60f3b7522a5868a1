use Rattle.cdf_edits.proofs.Commands.ReadingFollows.{reading_follows}
use Rattle.cdf_edits.proofs.laws.reading_follows.Goals as goal

pub returns : goal.returns
returns c = reading_follows
