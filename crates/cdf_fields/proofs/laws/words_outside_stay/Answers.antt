use Rattle.cdf_fields.proofs.Writes.{word-put_outside}
use Rattle.cdf_fields.proofs.laws.words_outside_stay.Goals as goal

pub returns : goal.returns
returns c = word-put_outside
