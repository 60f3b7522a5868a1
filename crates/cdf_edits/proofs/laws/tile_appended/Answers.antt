use Rattle.cdf_edits.proofs.Frame.TilesGrow.{tiles_push}
use Rattle.cdf_edits.proofs.laws.tile_appended.Goals as goal

pub returns : goal.returns
returns c = tiles_push
