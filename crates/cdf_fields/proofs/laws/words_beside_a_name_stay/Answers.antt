use Rattle.cdf_fields.proofs.NamesWritten.{words_beside}
use Rattle.cdf_fields.proofs.laws.words_beside_a_name_stay.Goals as goal

pub returns : goal.returns
returns c = words_beside
