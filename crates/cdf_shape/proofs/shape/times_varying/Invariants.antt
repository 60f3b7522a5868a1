use Rattle.std.proofs.Common.{◌≡◌, ◌*◌, ◌^◌, ◌-◌, ◌<◌, drop, length, min}
use Rattle.cdf_model.specs.Place.{value_count}
use Rattle.cdf_shape.proofs.shape.times_varying.Given as goal

abbrev pub invariant-loop-size : goal.invariant-loop-size
invariant-loop-size l = record {
  so_far : min (l.product * value_count (drop (length l.yielded) l.dims) (drop (length l.yielded) l.varys)) (2 ^ 64 - 1) ≡ min (l.number * value_count l.dims l.varys) (2 ^ 64 - 1);
  fits : l.product < 2 ^ 64;
}
