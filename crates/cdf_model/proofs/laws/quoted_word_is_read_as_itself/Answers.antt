use Rattle.cdf_model.proofs.QuotedText.{meaning-quoted, before-quoted, first-quoted}
use Rattle.cdf_model.proofs.laws.quoted_word_is_read_as_itself.Goals as goal

pub returns : goal.returns
returns c = record { meaning = meaning-quoted; closed = before-quoted; word = first-quoted }
