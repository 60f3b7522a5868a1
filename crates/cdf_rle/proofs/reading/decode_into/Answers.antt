use Rattle.std.proofs.Common.{rules}
use Rattle.cdf_rle.proofs.PackedLemmas.{packs_filled}
use Rattle.cdf_rle.proofs.reading.decode_into.Goals as goal

pub returns-clause-filled : goal.returns-clause-filled
returns-clause-filled c = search (rules, packs_filled)
