-- What a disk in memory holds.
use Rattle.std.specs.Prelude.{◌≡◌, ◌+◌, ◌-◌, ◌^◌, ℕ, List, Bool, min, Contains, IsTrue}
use Rattle.cdf_mem_disk.specs.declared.mem_disk.MemDisk.{MemDisk}
use Rattle.cdf_journal.specs.Crashes.{Parts}
use Rattle.cdf_mem_disk.specs.Events.{crashed}
use Rattle.cdf_mem_disk.specs.MemParts.{parts_in}

-- how many calls were made, and the numbers of those that fail
abbrev pub calls_of : MemDisk → ℕ
calls_of disk = disk.plan.calls

abbrev pub failing_of : MemDisk → List ℕ
failing_of disk = disk.plan.failing.items

-- how many bytes the writes wrote that did not fail
abbrev pub written_of : MemDisk → ℕ
written_of disk = disk.written

-- what is left where a crash keeps the first so many writes and cuts since the parts were stored, and takes the others back
abbrev pub left_by : ℕ → MemDisk → Parts
left_by keep disk = crashed keep (parts_in disk.past.base) disk.past.history

-- A call was counted. It failed where that was planned, and where it failed reads give what they gave and no byte was written; it may also fail for want of memory, or where a second file was to be made.
pub record IsCall (old new : MemDisk) (failed : Bool) : Type 0 where
  pub counted : calls_of new ≡ min (calls_of old + 1) (2 ^ 64 - 1)
  pub kept : failing_of new ≡ failing_of old
  pub planned : Contains (failing_of old) (calls_of new) → IsTrue failed
  pub stays : IsTrue failed → parts_in new.past.parts ≡ parts_in old.past.parts
  pub unwritten : IsTrue failed → written_of new ≡ written_of old
