use Rattle.std.proofs.Common.{◌≡◌, drop, length}
use Rattle.cdf_model.specs.Place.{has_place}
use Rattle.cdf_shape.proofs.place.has_place.Given as goal

abbrev pub invariant-loop-size : goal.invariant-loop-size
invariant-loop-size l = has_place (drop (length l.yielded) l.dims) (drop (length l.yielded) l.index) ≡ has_place l.dims l.index
