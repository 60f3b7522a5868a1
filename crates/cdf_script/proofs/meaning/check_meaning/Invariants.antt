use Rattle.std.proofs.Common.{◌≡◌, ◌+◌, length}
use Rattle.std.specs.Result.{result_err}
use Rattle.cdf_model.specs.Quoting.{meaning}
use Rattle.cdf_script.proofs.meaning.check_meaning.Given as goal

abbrev pub invariant-loop-unit : goal.invariant-loop-unit
invariant-loop-unit l = record {
  fault : result_err (meaning l.fn.place l.text) ≡ result_err (meaning l.place l.left);
  all : l.place + length l.left ≡ l.fn.place + length l.text;
}

abbrev pub decreases-loop-unit : goal.decreases-loop-unit
decreases-loop-unit l = length l.left
