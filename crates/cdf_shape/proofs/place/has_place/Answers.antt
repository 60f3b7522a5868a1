use Rattle.std.proofs.Common.{sym, arith}
use Rattle.cdf_shape.proofs.Places.{no_place}
use Rattle.cdf_shape.proofs.place.has_place.Goals as goal

pub returns-then-index-dims : goal.returns-then-index-dims
returns-then-index-dims c = sym (no_place c.args.dims.now c.args.index.now (λ same. omega arith))
