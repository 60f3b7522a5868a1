use Rattle.std.proofs.Common.{Some, length, take, ◌-◌, ◌≡◌, ◌≤◌}
use Rattle.cdf_journal.specs.declared.disk.Part.{Part}
use Rattle.cdf_journal.specs.Crashes.{Leads, Parts, part_of}
use Rattle.cdf_journal.proofs.reading.read_part.Given as goal

abbrev pub invariant-loop-part : goal.invariant-loop-part
invariant-loop-part g l = record {
  within : length l.bytes.items ≤ l.size;
  whole : l.size ≡ g.D.Disk.size l.fn.disk l.part;
  bytes : (parts : Parts) → g.D.Disk.seen l.fn.disk ≡ Some parts → l.bytes.items ≡ take (length l.bytes.items) (part_of parts l.part);
  seen : g.D.Disk.seen l.disk ≡ g.D.Disk.seen l.fn.disk;
  sizes : (other : Part) → g.D.Disk.size l.disk other ≡ g.D.Disk.size l.fn.disk other;
  leads : Leads g.D.Disk.may_leave g.D.Disk.moment g.D.Disk.left_since (λ a b. b ≡ a) l.fn.disk l.disk;
  faults : g.D.Disk.faults l.disk ≡ g.D.Disk.faults l.fn.disk;
}

abbrev pub decreases-loop-part : goal.decreases-loop-part
decreases-loop-part g l = l.size - length l.bytes.items
