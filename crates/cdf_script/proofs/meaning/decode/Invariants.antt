use Rattle.std.proofs.Common.{◌≡◌, ◌+◌, length}
use Rattle.cdf_model.specs.Quoting.{meaning}
use Rattle.cdf_script.proofs.Escapes.{behind}
use Rattle.cdf_script.proofs.meaning.decode.Given as goal

abbrev pub invariant-loop-unit : goal.invariant-loop-unit
invariant-loop-unit l = record {
  so_far : meaning l.fn.place l.text ≡ behind l.bytes.items (meaning l.place l.left);
  all : l.place + length l.left ≡ l.fn.place + length l.text;
}

abbrev pub decreases-loop-unit : goal.decreases-loop-unit
decreases-loop-unit l = length l.left
