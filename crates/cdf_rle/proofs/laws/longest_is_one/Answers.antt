use Rattle.cdf_rle.proofs.LongestLemmas.{longest_one}
use Rattle.cdf_rle.proofs.laws.longest_is_one.Goals as goal

pub returns : goal.returns
returns c = longest_one
