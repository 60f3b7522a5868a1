use Rattle.std.proofs.Common.{List, Some, drop, ℕ, ◌++◌, ◌+◌, ◌≡◌, ◌≤◌, length}
use Rattle.std.specs.List.{flat_map}
use Rattle.cdf_base.specs.Bytes.{put}
use Rattle.cdf_journal.specs.Crashes.{Leads, Parts, with_part}
use Rattle.cdf_journal.specs.Log.{body_bytes, member_bytes}
use Rattle.cdf_journal.specs.Ranges.{body_of, members_of}
use Rattle.cdf_journal.specs.Stages.{KeepsGate}
use Rattle.cdf_journal.specs.declared.disk.Part.TheVariants.{Log, Main}
use Rattle.cdf_journal.proofs.laying.lay_members.Given as goal

abbrev pub invariant-loop-range : goal.invariant-loop-range
invariant-loop-range g l = record {
  gate : 8 ≤ l.at;
  at : l.at ≤ g.D.Disk.size l.disk Log;
  leads : Leads g.D.Disk.may_leave g.D.Disk.moment g.D.Disk.left_since KeepsGate l.fn.disk l.disk;
  seen : (parts : Parts) → g.D.Disk.seen l.fn.disk ≡ Some parts → (done : List ℕ) × (l.at ≡ 8 + length done) × (g.D.Disk.seen l.disk ≡ Some (with_part parts Log (put parts.log 8 done))) × (done ++ flat_map member_bytes (members_of l.file (drop l.range-index l.ranges)) ≡ body_bytes (body_of l.file l.ranges));
  no_shorter : g.D.Disk.size l.fn.disk Log ≤ g.D.Disk.size l.disk Log;
  beside : g.D.Disk.size l.disk Main ≡ g.D.Disk.size l.fn.disk Main;
  faults : g.D.Disk.faults l.disk ≡ g.D.Disk.faults l.fn.disk;
}
