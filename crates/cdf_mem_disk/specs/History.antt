-- How the calls of a disk in memory are kept (own).
use Rattle.std.specs.Prelude.{ℕ, ◌+◌, ◌≤◌, List, [], ◌∷◌, take, drop}
use Rattle.cdf_mem_disk.specs.declared.history.Call.{Call}
use Rattle.cdf_mem_disk.specs.declared.history.Call.TheVariants as call
use Rattle.cdf_mem_disk.specs.Events.{Event, Cut, Stored, Wrote}

-- what a call did; the bytes that it was to write stand among these
abbrev pub event_of : List ℕ → Call → Event
event_of bytes (call.Write part place start count done) = Wrote part place (take count (drop start bytes)) done
event_of bytes (call.Cut part size done) = Cut part size done
event_of bytes call.Store = Stored

-- all the bytes that it was to write stand among so many
abbrev pub IsWithin : ℕ → Call → Type 0
IsWithin n (call.Write part place start count done) = start + count ≤ n
IsWithin n (call.Cut part size done) = Unit {0}
IsWithin n call.Store = Unit {0}

abbrev pub AreWithin : ℕ → List Call → Type 0
AreWithin n [] = Unit {0}
AreWithin n (c ∷ calls) = IsWithin n c × AreWithin n calls
