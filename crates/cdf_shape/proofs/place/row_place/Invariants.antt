use Rattle.std.proofs.Common.{drop}
use Rattle.cdf_model.specs.Place.{row_place}
use Rattle.cdf_shape.proofs.Places.{RowLeft}
use Rattle.cdf_shape.proofs.place.row_place.Given as goal

abbrev pub invariant-loop-k : goal.invariant-loop-k
invariant-loop-k l = RowLeft (drop l.k l.dims) (drop l.k l.varys) (drop l.k l.index) l.place (row_place l.dims l.varys l.index)
