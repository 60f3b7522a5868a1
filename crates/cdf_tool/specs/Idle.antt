-- A script that changes nothing: each of its lines only reads, or is refused.
use Rattle.std.specs.Prelude.{Bool, List, [], false, true, ℕ, ◌||◌, ◌≡◌, ◌≢◌}
use Rattle.std.specs.List.{list_all}
use Rattle.std.specs.declared.option.Option.{Option}
use Rattle.cdf_edits.specs.Answers.{is_full}
use Rattle.cdf_format.specs.Content.{content}
use Rattle.cdf_model.specs.declared.command.Command.{Command}
use Rattle.cdf_model.specs.DataSet.{DataSet}
use Rattle.cdf_model.specs.Grammar.{Asks, Parsed, parse}
use Rattle.cdf_model.specs.Step.{ByStep, Route, step}
use Rattle.cdf_session.specs.Built.{built}
use Rattle.cdf_session.specs.Run.{turn}
use Rattle.cdf_store.specs.Disk.{Disk}
use Rattle.cdf_saving.specs.declared.status.Status.TheVariants as statuses
use Rattle.cdf_saving.specs.declared.status.Status.{Status}
use Rattle.cdf_tool.specs.Reading.{IfAll, line_reads, reads}

-- ---- over a data set

-- a line with its flag is blank, no command, a command that only reads, or is refused
abbrev pub is_idle : DataSet → Option (List ℕ) × Bool → Bool
is_idle d (line, full) = line_reads line || (turn d [] 0 (parse line) full).refused

abbrev pub all_idle : DataSet → List (Option (List ℕ) × Bool) → Bool
all_idle d ls = list_all (is_idle d) ls

-- ---- over an image, under a limit on its bytes (own)

-- the file is full for a command
abbrev pub route_full : Route → ℕ → List ℕ → Command → Bool
route_full (ByStep answer) limit b c = is_full limit b c answer
route_full other limit b c = false

abbrev pub command_full : Bool → ℕ → List ℕ → Command → Bool
command_full true limit b c = route_full (step (content b) c) limit b c
command_full false limit b c = false

abbrev pub full_for : ℕ → List ℕ → Parsed → Bool
full_for limit b (Asks c) = command_full (built c) limit b c
full_for limit b other = false

-- what a line asks for only reads, or is refused
unfoldable pub asks_idly : ℕ → List ℕ → Parsed → Bool
asks_idly limit b parsed = reads parsed || (turn (content b) [] 0 parsed (full_for limit b parsed)).refused

abbrev pub line_idles : ℕ → List ℕ → Option (List ℕ) → Bool
line_idles limit b line = asks_idly limit b (parse line)

abbrev pub all_idle_over : ℕ → List ℕ → List (Option (List ℕ)) → Bool
all_idle_over limit b ls = list_all (line_idles limit b) ls

-- where each line is idle over this image, this holds
abbrev pub IfIdle : ℕ → List ℕ → Option (List ℕ) → Type 0 → Type 0
IfIdle limit b before P = IfAll (line_idles limit b) before P

-- nothing was written to the store, and no saving failed
pub record IsUnmoved {U : Type 0} (d d' : Disk U) (status : Status) : Type 0 where
  pub files : d'.files ≡ d.files
  pub touched : d'.touched ≡ d.touched
  pub saved : status ≢ statuses.StoreWriteFault
