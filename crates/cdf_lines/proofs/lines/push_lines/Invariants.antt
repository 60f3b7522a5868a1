use Rattle.std.proofs.Common.{◌≡◌, ◌++◌, length}
use Rattle.std.specs.List.{flat_map}
use Rattle.cdf_model.specs.Lines.{split, whole_lines}
use Rattle.cdf_lines.specs.Waiting.{lines_of}
use Rattle.cdf_lines.proofs.lines.push_lines.Given as goal

abbrev pub invariant-loop-line : goal.invariant-loop-line
invariant-loop-line l = (flat_map lines_of l.waiting.items ++ whole_lines l.left ≡ flat_map lines_of l.fn.waiting.items ++ whole_lines l.text) × ((split l.left).1 ≡ (split l.text).1)

abbrev pub decreases-loop-line : goal.decreases-loop-line
decreases-loop-line l = length l.left
