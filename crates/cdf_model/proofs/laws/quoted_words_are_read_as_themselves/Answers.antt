use Rattle.cdf_model.proofs.QuotedText.{Reads-quoted}
use Rattle.cdf_model.proofs.laws.quoted_words_are_read_as_themselves.Goals as goal

pub returns : goal.returns
returns c = Reads-quoted
