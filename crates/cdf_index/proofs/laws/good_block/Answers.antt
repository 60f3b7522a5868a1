use Rattle.cdf_index.proofs.GoodBlock.{good_block}
use Rattle.cdf_index.proofs.laws.good_block.Goals as goal

pub returns : goal.returns
returns c = λ b s before v after good sound all rec leaf found plain. good_block b s before v after good sound all rec leaf found plain
