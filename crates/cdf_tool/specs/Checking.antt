-- What a run says of a file that is checked and no more (own).
use Rattle.std.specs.Prelude.{◌≡◌, ◌⊎◌, ℕ, List, ◌++◌, Bool, false, codes, Some, None}
use Rattle.std.specs.declared.option.Option.{Option}
use Rattle.std.specs.Io.KnownBytes.{Appends}
use Rattle.cdf_format.specs.Sealed.{image_of}
use Rattle.cdf_format.specs.WellFormed.{WellFormed}
use Rattle.cdf_model.specs.Texts.{◌⧺◌, newline}
use Rattle.cdf_store.specs.Disk.{Disk}
use Rattle.cdf_store.specs.Written.{AppendsFront}
use Rattle.cdf_saving.specs.Statuses.{Exactly}
use Rattle.cdf_saving.specs.declared.status.Status.TheVariants as statuses
use Rattle.cdf_saving.specs.declared.status.Status.{Status}
use Rattle.cdf_words.specs.Asking.{Asked}
use Rattle.cdf_tool.specs.Ends.{EndsUnread, Unread, Without}
use Rattle.cdf_tool.specs.Script.{last_line}
use Rattle.cdf_tool.specs.Stored.{Attached}

abbrev pub yes_text : List ℕ
yes_text = codes "yes" ⧺ newline

-- what is written of a well-formed file: `yes`, and then the line on space where it is asked for
abbrev pub accepted_text : Bool → List ℕ → List ℕ
accepted_text space image = yes_text ++ last_line space image

-- this was written, or a part of it where the sink failed, or nothing
abbrev pub SaysAccepted : List ℕ → Option (List ℕ) → Option (List ℕ) → Status → Type 0
SaysAccepted text first now statuses.Done = Appends first now text
SaysAccepted text first now statuses.OutputFault = AppendsFront first now text
SaysAccepted text first now statuses.StoreReadFault = now ≡ first
SaysAccepted text first now statuses.NoMemory = now ≡ first
SaysAccepted text first now other = ⊥

-- the file is well formed, and that is said
abbrev pub Accepted : Bool → List ℕ → Option (List ℕ) → Option (List ℕ) → Status → Type 0
Accepted space file first now status = WellFormed file × SaysAccepted (accepted_text space (image_of file)) first now status

-- the file in an area was checked, or no session began over it
abbrev pub EndsOverFile : Bool → List ℕ → Option (List ℕ) → Option (List ℕ) → Status → Type 0
EndsOverFile space file first now status = EndsUnread false file first now status ⊎ Accepted space file first now status

-- the file under the name was checked; nothing was read of the script
pub record Checked {U : Type 0} (a : Asked) (d d' : Disk U) (before left first now : Option (List ℕ)) (status : Status) : Type 0 where
  pub file : List ℕ
  pub attached : Attached a file d d'
  pub none_read : left ≡ before
  pub accepted : Accepted a.space file first now status

-- a run ended so that was asked for a check
abbrev pub EndsChecked : {U : Type 0} → Asked → Disk U → Disk U → Option (List ℕ) → Option (List ℕ) → Option (List ℕ) → Option (List ℕ) → Status → Type 0
EndsChecked a d d' before left first now status = Without a d d' before left first now status ⊎ (Unread a d d' before left first now status ⊎ Checked a d d' before left first now status)

-- the text of a well-formed file was written, and nothing else
abbrev pub IsAnswered : Bool → Option (List ℕ) → Option (List ℕ) → Option (List ℕ) → Type 0
IsAnswered space None first now = ⊥
IsAnswered space (Some file) first now = Appends first now (accepted_text space (image_of file))

-- Status 0 comes exactly where the file that was read is well formed, and then `yes` is written, and no other line.
pub record Checks (space : Bool) (held first now : Option (List ℕ)) (status : Status) : Type 0 where
  pub done : (file : List ℕ) → held ≡ Some file → Exactly statuses.Done status (WellFormed file)
  pub says : status ≡ statuses.Done → IsAnswered space held first now
