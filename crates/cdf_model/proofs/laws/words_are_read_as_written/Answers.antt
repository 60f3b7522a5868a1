use Rattle.cdf_model.proofs.WordsRead.{Reads-written}
use Rattle.cdf_model.proofs.WordsWritten.{Writes-read}
use Rattle.cdf_model.proofs.laws.words_are_read_as_written.Goals as goal

pub returns : goal.returns
returns c = λ line ws. (Reads-written line ws, Writes-read line ws)
