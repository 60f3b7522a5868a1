-- A source in memory counts its reads, and fails at those that are planned.
use Rattle.std.specs.Prelude.{◌≡◌, ℕ, ◌+◌, ◌≤◌, List, Bool, false, length, drop}
use Rattle.cdf_store.specs.declared.mem_source.MemSource.{MemSource}
use Rattle.cdf_store.specs.Plan.{PlannedCall}

-- how many reads were made, the numbers of those that fail, and the most bytes that one gives
abbrev pub calls_of : MemSource → ℕ
calls_of source = source.plan.calls

abbrev pub failing_of : MemSource → List ℕ
failing_of source = source.plan.failing.items

abbrev pub most_of : MemSource → ℕ
most_of source = source.most

-- the bytes that are left, and how often a read failed
abbrev pub left_of : MemSource → List ℕ
left_of source = drop source.place source.bytes.items

abbrev pub faults_of : MemSource → ℕ
faults_of source = source.faults

-- a read failed exactly where it was planned, and counts a fault there alone; it gave no more than the most
pub record IsRead (old new : MemSource) (failed : Bool) : Type 0 where
  pub planned : PlannedCall (calls_of old) (calls_of new) (failing_of old) (failing_of new) failed
  pub same : failed ≡ false → faults_of new ≡ faults_of old
  pub kept : most_of new ≡ most_of old
  pub given : length (left_of old) ≤ length (left_of new) + most_of old
