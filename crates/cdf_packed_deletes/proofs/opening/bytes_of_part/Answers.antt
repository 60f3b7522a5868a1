use Rattle.cdf_index.specs.Sight.{seen}
use Rattle.cdf_packed_deletes.proofs.OpenParts.{slice_ends}
use Rattle.cdf_packed_deletes.proofs.opening.bytes_of_part.Goals as goal

pub slice_bounds-result-end : goal.slice_bounds-result-end
slice_bounds-result-end c = slice_ends (seen c.args.leaf.now) c.args.part.first c.args.part.last c.args.rec_bytes c.args.plain.now c.requires.lies c.requires.long c.from.result c.from-2.result c.from.ensures c.from-2.ensures
