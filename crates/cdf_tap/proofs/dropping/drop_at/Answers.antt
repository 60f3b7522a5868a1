use Rattle.std.proofs.Common.{◌∙◌, ap, map}
use Rattle.cdf_tap.proofs.Dropped.{map-remove}
use Rattle.cdf_tap.proofs.dropping.drop_at.Goals as goal

pub returns : goal.returns
returns g c = ap (map _) c.remove.ensures.items ∙ map-remove _ _ c.args.i
