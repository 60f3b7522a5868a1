use Rattle.std.proofs.Common.{List, None, Some, drop, length, true, ℕ, ◌≡◌, ◌≤◌}
use Rattle.cdf_journal.specs.Crashes.{InPart, Leads, Parts, with_part}
use Rattle.cdf_journal.specs.Log.{Grown, fits, patched}
use Rattle.cdf_journal.specs.Ranges.{body_of, members_of}
use Rattle.cdf_journal.specs.declared.disk.Part.TheVariants.{Log, Main}
use Rattle.cdf_journal.proofs.filling.write_ranges.Given as goal

abbrev pub invariant-loop-range : goal.invariant-loop-range
invariant-loop-range g l = record {
  fit : fits (g.D.Disk.size l.disk Main) (length l.file) (members_of l.file (drop l.range-index l.ranges)) ≡ true;
  leads : Leads g.D.Disk.may_leave g.D.Disk.moment g.D.Disk.left_since (InPart Main (Grown (body_of l.file l.ranges))) l.fn.disk l.disk;
  seen : (parts : Parts) → g.D.Disk.seen l.fn.disk ≡ Some parts → (m : List ℕ) × (g.D.Disk.seen l.disk ≡ Some (with_part parts Main m)) × (patched m (members_of l.file (drop l.range-index l.ranges)) ≡ patched parts.main (members_of l.file l.ranges));
  untold : g.D.Disk.seen l.fn.disk ≡ None → g.D.Disk.seen l.disk ≡ None;
  no_shorter : g.D.Disk.size l.fn.disk Main ≤ g.D.Disk.size l.disk Main;
  beside : g.D.Disk.size l.disk Log ≡ g.D.Disk.size l.fn.disk Log;
  faults : g.D.Disk.faults l.disk ≡ g.D.Disk.faults l.fn.disk;
}
