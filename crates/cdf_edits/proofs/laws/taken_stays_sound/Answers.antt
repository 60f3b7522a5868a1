use Rattle.cdf_edits.proofs.Space.TakenWays.{whole_taken, split_taken, end_taken}
use Rattle.cdf_edits.proofs.laws.taken_stays_sound.Goals as goal

pub returns-clause-whole : goal.returns-clause-whole
returns-clause-whole c = whole_taken

pub returns-clause-split : goal.returns-clause-split
returns-clause-split c = split_taken

pub returns-clause-at_end : goal.returns-clause-at_end
returns-clause-at_end c = end_taken
