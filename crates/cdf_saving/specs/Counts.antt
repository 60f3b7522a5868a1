-- What the counts of the faults of devices say of the status that a run ends with (own).
use Rattle.std.specs.Prelude.{◌≡◌, ◌≤◌, ℕ, Ok, Err}
use Rattle.std.specs.declared.result.Result.{Result}
use Rattle.cdf_base.specs.Causes.{Rose}
use Rattle.cdf_saving.specs.declared.status.Status.{Status}
use Rattle.cdf_saving.specs.declared.status.Status.TheVariants as statuses

-- how often the store failed as it was read and as it was written, the sink, and the source
pub record Counts : Type 0 where
  pub reads : ℕ
  pub writes : ℕ
  pub output : ℕ
  pub source : ℕ

abbrev pub counts : ℕ → ℕ → ℕ → ℕ → Counts
counts reads writes output source = record { reads = reads; writes = writes; output = output; source = source }

-- A status blames one device, whose count rose; the others stay. Where the sink failed, the store may have failed before.
abbrev pub Counted : Counts → Counts → Status → Type 0
Counted c now statuses.StoreReadFault = (now ≡ record c { reads = now.reads }) × Rose c.reads now.reads
Counted c now statuses.StoreWriteFault = (now ≡ record c { writes = now.writes }) × Rose c.writes now.writes
Counted c now statuses.OutputFault = (now ≡ record c { reads = now.reads; output = now.output }) × (c.reads ≤ now.reads) × Rose c.output now.output
Counted c now statuses.ScriptFault = (now ≡ record c { source = now.source }) × Rose c.source now.source
Counted c now other = now ≡ c

-- a part of a run that came to its end saw no fault
abbrev pub CountedIn : {T : Type 0} → Counts → Counts → Result T Status → Type 0
CountedIn c now (Ok value) = now ≡ c
CountedIn c now (Err status) = Counted c now status

-- the count of failed writes rose where a saving failed, and else it stays
abbrev pub WritesCounted : ℕ → ℕ → Status → Type 0
WritesCounted before now statuses.StoreWriteFault = Rose before now
WritesCounted before now other = now ≡ before

-- the count of failed reads rose where the store failed as it was read for a saving, and else it stays
abbrev pub ReadsCounted : ℕ → ℕ → Status → Type 0
ReadsCounted before now statuses.StoreReadFault = Rose before now
ReadsCounted before now other = now ≡ before

-- it stays behind a run over an area that stopped, since nothing is saved then
abbrev pub ReadsCountedBehind : {T : Type 0} → Result T Status → ℕ → ℕ → Status → Type 0
ReadsCountedBehind (Ok value) before now status = ReadsCounted before now status
ReadsCountedBehind (Err stopped) before now status = now ≡ before
