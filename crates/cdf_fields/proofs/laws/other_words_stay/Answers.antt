use Rattle.cdf_fields.proofs.Writes.{other_words}
use Rattle.cdf_fields.proofs.laws.other_words_stay.Goals as goal

pub returns : goal.returns
returns c = other_words
