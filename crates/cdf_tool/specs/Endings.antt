-- What any run leaves, by what its words ask for (own).
use Rattle.std.specs.Prelude.{◌≡◌, ℕ, List, Bool, true, false, Some, None}
use Rattle.std.specs.declared.option.Option.{Option}
use Rattle.cdf_store.specs.Disk.{Disk}
use Rattle.cdf_saving.specs.declared.status.Status.{Status}
use Rattle.cdf_words.specs.Asking.{Asked}
use Rattle.cdf_tool.specs.Checking.{EndsChecked}
use Rattle.cdf_tool.specs.Ends.{EndsNamed}
use Rattle.cdf_tool.specs.Outlets.{Outlets}
use Rattle.cdf_tool.specs.Says.{SaysUsage}

-- a file was checked, with the taps as they were, or a script run
abbrev pub EndsAsked : {U : Type 0} → Bool → Asked → Disk U → Disk U → Option (List ℕ) → Option (List ℕ) → Outlets → Outlets → Status → Type 0
EndsAsked true a d d' before left first now status = (now.taps ≡ first.taps) × EndsChecked a d d' before left first.written now.written status
EndsAsked false a d d' before left first now status = EndsNamed a d d' before left first now status

abbrev pub Ends : {U : Type 0} → Option Asked → Disk U → Disk U → Option (List ℕ) → Option (List ℕ) → Outlets → Outlets → Status → Type 0
Ends None d d' before left first now status = (d' ≡ d) × (left ≡ before) × (now.taps ≡ first.taps) × SaysUsage first.written now.written status
Ends (Some a) d d' before left first now status = EndsAsked a.check a d d' before left first now status
