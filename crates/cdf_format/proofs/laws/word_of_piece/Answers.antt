use Rattle.cdf_format.proofs.Pieces.{word_of_piece_lem}
use Rattle.cdf_format.proofs.laws.word_of_piece.Goals as goal

pub returns : goal.returns
returns c = word_of_piece_lem
