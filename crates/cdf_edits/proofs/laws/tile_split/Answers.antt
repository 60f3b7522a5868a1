use Rattle.cdf_edits.proofs.Frame.TilesGrow.{tiles_split}
use Rattle.cdf_edits.proofs.laws.tile_split.Goals as goal

pub returns : goal.returns
returns c = tiles_split
