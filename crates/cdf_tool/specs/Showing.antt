-- A reply that shows the data set is written in parts (own).
use Rattle.std.specs.Prelude.{◌≡◌, ◌⊎◌, ℕ, List, ◌++◌}
use Rattle.std.specs.declared.option.Option.{Option}
use Rattle.cdf_store.specs.Written.{IsFront}
use Rattle.cdf_model.specs.Taps.{Tap}
use Rattle.cdf_saving.specs.declared.status.Status.TheVariants as statuses
use Rattle.cdf_saving.specs.declared.status.Status.{Status}
use Rattle.cdf_tool.specs.Outlets.{Outlets}
use Rattle.cdf_tool.specs.Replay.{Wrote}
use Rattle.cdf_walk.specs.declared.error.WalkError.{WalkError}
use Rattle.cdf_walk.specs.declared.error.WalkError.TheVariants as errors

-- the status of a run whose dump or report stopped
abbrev pub status_of_walk : WalkError → Status
status_of_walk errors.SinkFault = statuses.OutputFault
status_of_walk errors.Fault = statuses.StoreReadFault
status_of_walk errors.NoMemory = statuses.NoMemory

-- what was gathered before was written, and then a front of a reply, or a part of both where the sink failed
abbrev pub WrotePart : Option (List ℕ) → Option (List ℕ) → List ℕ → List ℕ → Status → Type 0
WrotePart was now held reply status = (part : List ℕ) × IsFront part reply × Wrote was now (held ++ part) status

-- a front of a report was written, and the taps are as before; or the sink failed once it was there, and the taps are those that it leaves
abbrev pub StopsReply : Outlets → Outlets → List ℕ → List Tap → List ℕ → Status → Type 0
StopsReply was now held kept reply status = ((now.taps ≡ was.taps) × WrotePart was.written now.written held reply status) ⊎ ((now.taps ≡ kept) × Wrote was.written now.written (held ++ reply) status)
