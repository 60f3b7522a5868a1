use Rattle.std.proofs.Common.{◌≡◌, ◌*◌, ◌++◌, length, drop}
use Rattle.std.specs.List.{repeat}
use Rattle.cdf_model.specs.Pads.{default_element}
use Rattle.cdf_model.proofs.pad.default_pad.Given as goal

abbrev pub invariant-loop-i : goal.invariant-loop-i
invariant-loop-i l = record {
  size : l.size ≡ length (default_element l.fn.t);
  out : l.out ≡ repeat l.i (default_element l.fn.t) ++ drop (l.i * l.size) l.fn.out;
}
