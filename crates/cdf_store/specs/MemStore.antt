-- A store in memory counts its calls, and fails at those that are planned.
use Rattle.std.specs.Prelude.{◌≡◌, ℕ, List, Bool, false, IsTrue, Some, None}
use Rattle.std.specs.declared.option.Option.{Option}
use Rattle.cdf_store.specs.declared.mem_store.MemStore.{MemStore}
use Rattle.cdf_store.specs.MemFiles.{entries_of}
use Rattle.cdf_store.specs.Plan.{PlannedCall}

-- how many calls were made without `reserve`, and the numbers of those that fail
abbrev pub calls_of : MemStore → ℕ
calls_of store = store.plan.calls

abbrev pub failing_of : MemStore → List ℕ
failing_of store = store.plan.failing.items

-- its files by name, the ranges written, and how often reads and writes failed
abbrev pub files_of : MemStore → List (List ℕ × List ℕ)
files_of store = entries_of store.files

abbrev pub touched_of : MemStore → List (ℕ × ℕ)
touched_of store = store.touched.items

abbrev pub read_faults_of : MemStore → ℕ
read_faults_of store = store.read_faults

abbrev pub write_faults_of : MemStore → ℕ
write_faults_of store = store.write_faults

-- a call failed exactly where it was planned, and then nothing was written; a fault is counted there alone
pub record IsCall (old new : MemStore) (failed : Bool) : Type 0 where
  pub planned : PlannedCall (calls_of old) (calls_of new) (failing_of old) (failing_of new) failed
  pub read : failed ≡ false → read_faults_of new ≡ read_faults_of old
  pub write : failed ≡ false → write_faults_of new ≡ write_faults_of old
  pub files : IsTrue failed → files_of new ≡ files_of old
  pub touched : IsTrue failed → touched_of new ≡ touched_of old

-- so is each call; room is made without a count
abbrev pub CallsAsPlanned : MemStore → MemStore → Option Bool → Type 0
CallsAsPlanned old new None = (calls_of new ≡ calls_of old) × (failing_of new ≡ failing_of old)
CallsAsPlanned old new (Some failed) = IsCall old new failed
