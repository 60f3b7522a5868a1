-- What the real files tell beside what a store does.
use Rattle.std.specs.Prelude.{◌≡◌, Bool, IsTrue, IsFalse, IsSome, None, Some}
use Rattle.std.specs.declared.option.Option.{Option}
use Rattle.std.specs.declared.io.traits.Read
use Rattle.std.specs.declared.io.traits.Seek
use Rattle.std.specs.declared.io.traits.Write
use Rattle.cdf_store.specs.declared.file_failure.FileFailure.{FileFailure}
use Rattle.cdf_store.specs.declared.file_store.FileStore.{FileStore}
use Rattle.cdf_store.specs.declared.file_store.locks.Locks.{Locks}

-- why the last call failed that did
abbrev pub failure_of : {R F D : Type 0} → {r : Read.Ghosts F} → {w : Write.Ghosts F} → {s : Seek.Ghosts F} → {d : Read.Ghosts D} → FileStore R F D r w s d → Option FileFailure
failure_of store = store.faults.last

-- whether a write or a cut was made in the file
abbrev pub is_written_of : {R F D : Type 0} → {r : Read.Ghosts F} → {w : Write.Ghosts F} → {s : Seek.Ghosts F} → {d : Read.Ghosts D} → FileStore R F D r w s d → Bool
is_written_of store = store.is_written

-- what the locks of other programs are to its attaching
abbrev pub locks_of : {R F D : Type 0} → {r : Read.Ghosts F} → {w : Write.Ghosts F} → {s : Seek.Ghosts F} → {d : Read.Ghosts D} → FileStore R F D r w s d → Locks
locks_of store = store.locks

-- a call that failed leaves a reason, and another one leaves the reason of an earlier one; what was written stays so
pub record IsTold {R F D : Type 0} {r : Read.Ghosts F} {w : Write.Ghosts F} {s : Seek.Ghosts F} {d : Read.Ghosts D} (old new : FileStore R F D r w s d) (failed : Bool) : Type 0 where
  pub why : IsTrue failed → IsSome (failure_of new)
  pub kept : IsFalse failed → failure_of new ≡ failure_of old
  pub written : IsTrue (is_written_of old) → IsTrue (is_written_of new)

-- so is each call; room is made without a word
abbrev pub TellsWhy : {R F D : Type 0} → {r : Read.Ghosts F} → {w : Write.Ghosts F} → {s : Seek.Ghosts F} → {d : Read.Ghosts D} → FileStore R F D r w s d → FileStore R F D r w s d → Option Bool → Type 0
TellsWhy old new None = (failure_of new ≡ failure_of old) × (is_written_of new ≡ is_written_of old)
TellsWhy old new (Some failed) = IsTold old new failed
