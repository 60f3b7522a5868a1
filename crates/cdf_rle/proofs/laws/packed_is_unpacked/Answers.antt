use Rattle.cdf_rle.proofs.PackedLemmas.{unpacked-packs, packs-unpacked}
use Rattle.cdf_rle.proofs.laws.packed_is_unpacked.Goals as goal

pub returns : goal.returns
returns c packed plain = (unpacked-packs packed plain, packs-unpacked packed plain)
