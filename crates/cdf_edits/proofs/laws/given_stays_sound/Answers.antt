use Rattle.cdf_edits.proofs.Space.RecordFreed.{unlisted_given, first_given}
use Rattle.cdf_edits.proofs.laws.given_stays_sound.Goals as goal

pub returns-clause-unlisted : goal.returns-clause-unlisted
returns-clause-unlisted c = unlisted_given

pub returns-clause-first : goal.returns-clause-first
returns-clause-first c = first_given
