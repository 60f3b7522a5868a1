use Rattle.std.proofs.Common.{drop}
use Rattle.cdf_model.specs.Place.{column_place, value_count}
use Rattle.cdf_shape.proofs.Places.{ColumnLeft}
use Rattle.cdf_shape.proofs.place.column_place.Given as goal

abbrev pub invariant-loop-k : goal.invariant-loop-k
invariant-loop-k l = ColumnLeft (drop l.k l.dims) (drop l.k l.varys) (drop l.k l.index) l.place l.before (column_place 1 l.dims l.varys l.index) (value_count l.dims l.varys)
