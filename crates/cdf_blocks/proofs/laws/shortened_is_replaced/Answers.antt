use Rattle.cdf_blocks.proofs.WholeShortened.{replaced}
use Rattle.cdf_blocks.proofs.laws.shortened_is_replaced.Goals as goal

pub returns : goal.returns
returns c b now kind before own after old new plain good at one first last x = replaced good at one first last x
