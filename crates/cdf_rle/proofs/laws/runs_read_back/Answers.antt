use Rattle.cdf_rle.proofs.PackedLemmas.{packs_one}
use Rattle.cdf_rle.proofs.laws.runs_read_back.Goals as goal

pub returns : goal.returns
returns c = packs_one
