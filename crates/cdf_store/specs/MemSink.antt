-- A sink in memory counts its writes, and fails at those that are planned and at those for which it has no room.
use Rattle.std.specs.Prelude.{◌≡◌, ℕ, ◌+◌, ◌-◌, ◌^◌, ◌<◌, ◌↔◌, ◌⊎◌, min, List, Bool, false, length, IsTrue, Contains}
use Rattle.cdf_store.specs.declared.mem_sink.MemSink.{MemSink}

-- how many writes were made, the numbers of those that fail, and the bytes that it may take in all
abbrev pub calls_of : MemSink → ℕ
calls_of sink = sink.plan.calls

abbrev pub failing_of : MemSink → List ℕ
failing_of sink = sink.plan.failing.items

abbrev pub room_of : MemSink → ℕ
room_of sink = sink.room

-- the bytes that it took, and how often a write failed
abbrev pub written_of : MemSink → List ℕ
written_of sink = sink.taken.items

abbrev pub faults_of : MemSink → ℕ
faults_of sink = sink.faults

-- a write failed exactly where it was planned or its bytes have no room, and counts a fault there alone
pub record IsWrite (old new : MemSink) (bytes : List ℕ) (failed : Bool) : Type 0 where
  pub counted : calls_of new ≡ min (calls_of old + 1) (2 ^ 64 - 1)
  pub kept : failing_of new ≡ failing_of old
  pub room : room_of new ≡ room_of old
  pub fails : IsTrue failed ↔ (Contains (failing_of old) (calls_of new) ⊎ (room_of old < length (written_of old) + length bytes))
  pub same : failed ≡ false → faults_of new ≡ faults_of old
