use Rattle.std.proofs.Common.{◌≡◌, length}
use Rattle.cdf_area.specs.OldBytes.{AllLieBelow, back, olds_of}
use Rattle.cdf_area.proofs.Olds.{total}
use Rattle.cdf_area.proofs.undo_log.UndoLog.put_back.Given as goal

abbrev pub invariant-loop-span : goal.invariant-loop-span
invariant-loop-span l = record {
  whole : total l.spans.items ≡ length l.saved.items;
  below : AllLieBelow (length l.bytes.items) (olds_of l.spans.items l.saved.items);
  leads : back (olds_of l.spans.items l.saved.items) l.bytes.items ≡ back l.fn.self l.fn.bytes.items;
}

abbrev pub decreases-loop-span : goal.decreases-loop-span
decreases-loop-span l = length l.spans.items
