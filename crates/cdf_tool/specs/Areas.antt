-- How a run over an area ends, and what of it is saved.
use Rattle.std.specs.Prelude.{Bool, Err, IfOk, List, Ok, [], false, true, ℕ, ◌≡◌, ◌≢◌, ◌⊎◌}
use Rattle.std.specs.declared.option.Option.{Option}
use Rattle.std.specs.declared.result.Result.{Result}
use Rattle.cdf_format.specs.Sealed.{image_of, sealed}
use Rattle.cdf_format.specs.WellFormed.{WellFormed}
use Rattle.cdf_model.specs.Limits.{image_limit}
use Rattle.cdf_session.specs.Sessions.{IsNoVerdict}
use Rattle.cdf_session.specs.Sessions.{Rejects as RejectedFor}
use Rattle.cdf_session.specs.declared.refusal.AdoptError.{AdoptError}
use Rattle.cdf_store.specs.Disk.{Disk, file_of}
use Rattle.cdf_saving.specs.Refusing.{was_refused}
use Rattle.cdf_saving.specs.Saved.{EndsSaving, TellsLeft}
use Rattle.cdf_saving.specs.Statuses.{status_of}
use Rattle.cdf_saving.specs.declared.notes.Left.{Left}
use Rattle.cdf_saving.specs.declared.refusals.Refusals.{Refusals}
use Rattle.cdf_saving.specs.declared.status.Status.TheVariants as statuses
use Rattle.cdf_saving.specs.declared.status.Status.{Status}
use Rattle.cdf_tool.specs.Ends.{EndsUnread, Opens}
use Rattle.cdf_tool.specs.Idle.{IfIdle}
use Rattle.cdf_tool.specs.Outlets.{Outlets}
use Rattle.cdf_tool.specs.Script.{FinishesWith, HaltsWith}

-- why no session began: no new file is rejected, and another one only for a rule that it breaks
abbrev pub Refuses : Bool → List ℕ → AdoptError → Type 0
Refuses true file why = IsNoVerdict why
Refuses false file why = RejectedFor file why

-- an image was opened, and its script was run to its end; the line on space is written where it is asked for
pub record Finished (new space : Bool) (file : List ℕ) (before left : Option (List ℕ)) (first : Outlets) (end : List ℕ) (refused : Bool) (now : Outlets) : Type 0 where
  pub image : List ℕ
  pub opens : Opens new file image
  pub finishes : FinishesWith space image_limit image before left first end refused now

-- an image was opened, and the run stopped in its script, or at the line on space
pub record Halted (new space : Bool) (file : List ℕ) (before left : Option (List ℕ)) (first now : Outlets) (status : Status) : Type 0 where
  pub image : List ℕ
  pub opens : Opens new file image
  pub halts : HaltsWith space image_limit image before left first now status

-- a run over an area came to its end, with this image, or stopped with a status
abbrev pub EndsOver : Bool → Bool → List ℕ → Option (List ℕ) → Option (List ℕ) → Outlets → Outlets → List ℕ → Result Refusals Status → Type 0
EndsOver new space file before left first now end (Ok refusals) = Finished new space file before left first end (was_refused refusals) now
EndsOver new space file before left first now end (Err status) = ((left ≡ before) × (now.taps ≡ first.taps) × EndsUnread new file first.written now.written status) ⊎ Halted new space file before left first now status

-- what becomes of the store once a run ended so over an area
abbrev pub EndsStored : {U : Type 0} → Bool → List ℕ → Disk U → Disk U → Result Refusals Status → Status → Type 0
EndsStored no_save end d d' (Err stopped) status = (status ≡ stopped) × (d' ≡ d)
EndsStored true end d d' (Ok refusals) status = (status ≡ status_of (was_refused refusals)) × (d' ≡ d)
EndsStored false end d d' (Ok refusals) status = EndsSaving (was_refused refusals) end d d' status

-- a run over an area with this file ended so, and this became of the store and is told of a saving that failed
pub record EndsAttached {U : Type 0} (new no_save space : Bool) (file : List ℕ) (d d' : Disk U) (before left : Option (List ℕ)) (first now : Outlets) (what : Option Left) (status : Status) : Type 0 where
  pub end : List ℕ
  pub outcome : Result Refusals Status
  pub over : EndsOver new space file before left first now end outcome
  pub well_formed : IfOk outcome (λ _. WellFormed (sealed end))
  pub stored : EndsStored no_save end d d' outcome status
  pub leaves : TellsLeft what (file_of d) (sealed end) (file_of d') status
  pub idle : new ≡ false → IfIdle image_limit (image_of file) before ((d' ≡ d) × (status ≢ statuses.StoreWriteFault))

abbrev pub status_from : Result Refusals Status → Status
status_from (Ok refusals) = status_of (was_refused refusals)
status_from (Err status) = status

-- a run over a new file that is not saved ended so
pub record EndsInMemory (space : Bool) (before left : Option (List ℕ)) (first now : Outlets) (status : Status) : Type 0 where
  pub end : List ℕ
  pub outcome : Result Refusals Status
  pub over : EndsOver true space [] before left first now end outcome
  pub well_formed : IfOk outcome (λ _. WellFormed (sealed end))
  pub status_is : status ≡ status_from outcome
