-- What a run writes that does not come to its script.
use Rattle.std.specs.Prelude.{◌≡◌, ◌≢◌, ℕ, List, Bool, true, false, codes, Some, None}
use Rattle.std.specs.declared.option.Option.{Option}
use Rattle.std.specs.Fmt.{decimal}
use Rattle.std.specs.Io.KnownBytes.{Appends}
use Rattle.cdf_store.specs.Written.{AppendsFront}
use Rattle.cdf_check.specs.declared.verdict.Broken.{Broken}
use Rattle.cdf_format.specs.WellFormed.{Breaks}
use Rattle.cdf_model.specs.declared.space.Space.{Space}
use Rattle.cdf_model.specs.Texts.{◌⧺◌, newline, usage_text, no_file_text, rejected_text}
use Rattle.cdf_saving.specs.declared.status.Status.{Status}
use Rattle.cdf_saving.specs.declared.status.Status.TheVariants as statuses

-- how the program is called was written, or a part of it, or there was no memory to read the words
abbrev pub SaysUsage : Option (List ℕ) → Option (List ℕ) → Status → Type 0
SaysUsage first now statuses.Usage = Appends first now usage_text
SaysUsage first now statuses.OutputFault = AppendsFront first now usage_text
SaysUsage first now statuses.NoMemory = now ≡ first
SaysUsage first now other = ⊥

-- that there is no file was written, or a part of it
abbrev pub SaysNoFile : Option (List ℕ) → Option (List ℕ) → Status → Type 0
SaysNoFile first now statuses.NoFile = Appends first now no_file_text
SaysNoFile first now statuses.OutputFault = AppendsFront first now no_file_text
SaysNoFile first now other = ⊥

-- the file breaks this rule of the first phase that it breaks
pub record Rejects (file : List ℕ) : Type 0 where
  pub phase : ℕ
  pub rule : ℕ
  pub place : ℕ
  pub broken : Breaks file phase rule place

abbrev pub rejection : {file : List ℕ} → Rejects file → List ℕ
rejection r = rejected_text r.phase r.rule r.place

-- this rule is one that the file breaks, of the first phase of which it breaks one, and it was written
abbrev pub Names : Option Broken → Option (List ℕ) → Option (List ℕ) → Option (List ℕ) → Type 0
Names None file first now = ⊥
Names (Some broken) None first now = ⊥
Names (Some broken) (Some file) first now = Breaks file broken.phase broken.rule broken.at × Appends first now (rejected_text broken.phase broken.rule broken.at)

-- a rule is handed back with the status of a rejected file, and with no other: such a one
abbrev pub Tells : Option Broken → Option (List ℕ) → Option (List ℕ) → Option (List ℕ) → Status → Type 0
Tells None file first now status = status ≢ statuses.Rejected
Tells (Some broken) file first now status = (status ≡ statuses.Rejected) × Names (Some broken) file first now

-- the file that may be rejected, which no new one is
abbrev pub old_file : Bool → List ℕ → Option (List ℕ)
old_file true file = None
old_file false file = Some file

-- this rejection was written, or a part of it, or there was no memory to make it
abbrev pub SaysRejected : List ℕ → Option (List ℕ) → Option (List ℕ) → Status → Type 0
SaysRejected text first now statuses.Rejected = Appends first now text
SaysRejected text first now statuses.OutputFault = AppendsFront first now text
SaysRejected text first now statuses.NoMemory = now ≡ first
SaysRejected text first now other = ⊥

-- the parts of the line on space
abbrev pub used_text : Space → List ℕ
used_text s = codes "space eof " ⧺ decimal s.eof ⧺ codes " used " ⧺ decimal s.used

abbrev pub listed_text : Space → List ℕ
listed_text s = codes " listed " ⧺ decimal s.listed ⧺ codes " " ⧺ decimal s.listed_bytes

abbrev pub unlisted_text : Space → List ℕ
unlisted_text s = codes " unlisted " ⧺ decimal s.unlisted ⧺ codes " " ⧺ decimal s.unlisted_bytes ⧺ newline
