-- What lines of a script lead to (own).
use Rattle.std.specs.Prelude.{◌≡◌, ◌⊎◌, ℕ, ◌+◌, ◌≤◌, List, [], ◌∷◌, ◌++◌, map, length, Bool, true, false, Some, None}
use Rattle.std.specs.declared.option.Option.{Option}
use Rattle.std.specs.Io.KnownBytes.{Appends}
use Rattle.cdf_store.specs.Written.{AppendsFront, IsFront}
use Rattle.cdf_format.specs.Content.{content}
use Rattle.cdf_session.specs.History.{LineLeads, Moment, LinesLead, last_image}
use Rattle.cdf_model.specs.Grammar.{Parsed as Asked, Asks, Blank, parse}
use Rattle.cdf_model.specs.Limits.{line_limit}
use Rattle.cdf_model.specs.Sayable.{Sayable}
use Rattle.cdf_model.specs.Taps.{Tap}
use Rattle.cdf_model.specs.Turns.{Turn, State}
use Rattle.cdf_model.specs.declared.command.Command.TheVariants as commands
use Rattle.cdf_script.specs.declared.parsing.Parsed.{Parsed}
use Rattle.cdf_script.specs.declared.parsing.Parsed.TheVariants as forms
use Rattle.cdf_session.specs.Run.{turn, run_on}
use Rattle.cdf_lines.specs.declared.line.Line.{Line}
use Rattle.cdf_lines.specs.Pending.{Pending, GivesLine, line_of}
use Rattle.cdf_saving.specs.declared.status.Status.TheVariants as statuses
use Rattle.cdf_saving.specs.declared.status.Status.{Status}
use Rattle.cdf_walk.specs.Gathering.{Gathers}
use Rattle.cdf_tool.specs.Outlets.{Outlets}

-- the line of a number over an image, with these taps
abbrev pub turn_over : List ℕ → List Tap → ℕ → Asked → Bool → Turn
turn_over b taps n parsed full = turn (content b) taps n parsed full

abbrev pub line_of_moment : Moment → Option (List ℕ)
line_of_moment m = m.line

-- a line with its flag, as a run takes it
abbrev pub flagged_line : Moment → Option (List ℕ) × Bool
flagged_line m = (m.line, m.full)

-- before the next line over an image, with these taps, where so many lines were given
abbrev pub begun : List ℕ → List Tap → ℕ → State
begun b taps given = record { data_set = content b; taps = taps; count = given; text = []; refused = false }

-- the run of these moments from there on
abbrev pub tale : List ℕ → List Tap → ℕ → List Moment → State
tale b taps given moments = run_on (begun b taps given) (map flagged_line moments)

-- ---- one line

-- it was answered: it led to this image, and left these taps, it was refused or not, and this is its reply
pub record Turns (limit : ℕ) (b : List ℕ) (taps : List Tap) (n : ℕ) (parsed : Asked) (end : List ℕ) (kept : List Tap) (refused : Bool) (reply : List ℕ) : Type 0 where
  pub full : Bool
  pub leads : LineLeads limit b parsed full end
  pub taps_are : kept ≡ (turn_over b taps n parsed full).taps
  pub refused_is : refused ≡ (turn_over b taps n parsed full).refused
  pub reply_is : reply ≡ (turn_over b taps n parsed full).text

-- what a line asks for that was read
abbrev pub asked_by : Parsed → Asked
asked_by forms.Blank = Blank
asked_by (forms.Cmd c) = Asks c

-- a command that it asks for can be said
abbrev pub IsSayable : Asked → Type 0
IsSayable (Asks c) = Sayable c
IsSayable other = Unit {0}

-- the bytes of a line are no more than a line may have
abbrev pub IsShort : Option (List ℕ) → Type 0
IsShort None = Unit {0}
IsShort (Some line) = length line ≤ line_limit

abbrev pub AreShort : List (Option (List ℕ)) → Type 0
AreShort [] = Unit {0}
AreShort (line ∷ more) = IsShort line × AreShort more

-- what it asks for shows the events of the data set: a dump, or a report
abbrev pub shows : Asked → Bool
shows (Asks commands.Dump) = true
shows (Asks (commands.Report tap)) = true
shows other = false

-- this is a front of the reply to such a line
pub record IsShown (b : List ℕ) (taps : List Tap) (n : ℕ) (parsed : Asked) (part : List ℕ) : Type 0 where
  pub is : shows parsed ≡ true
  pub front : IsFront part (turn_over b taps n parsed false).text

-- ---- lines one after the other

-- After so many lines these were answered: one after the other they led to this image, and left these taps, one of them was refused or none, and this is the text of their replies.
pub record Goes (limit : ℕ) (b : List ℕ) (taps : List Tap) (given : ℕ) (lines : List (Option (List ℕ))) (end : List ℕ) (kept : List Tap) (refused : Bool) (text : List ℕ) : Type 0 where
  pub moments : List Moment
  pub lines_are : map line_of_moment moments ≡ lines
  pub steps : LinesLead limit b moments
  pub end_is : end ≡ last_image b moments
  pub taps_are : kept ≡ (tale b taps given moments).taps
  pub refused_is : refused ≡ (tale b taps given moments).refused
  pub text_is : text ≡ (tale b taps given moments).text

-- these are the first of the lines
abbrev pub AreFirst : List (Option (List ℕ)) → List (Option (List ℕ)) → Type 0
AreFirst some all = (rest : List (Option (List ℕ))) × (some ++ rest ≡ all)

-- this is nothing, or a front of the reply to the first of these lines, where that shows the data set
abbrev pub IsPartOfNext : List ℕ → List Tap → ℕ → List (Option (List ℕ)) → List ℕ → Type 0
IsPartOfNext b taps n [] part = part ≡ []
IsPartOfNext b taps n (line ∷ more) part = (part ≡ []) ⊎ IsShown b taps n (parse line) part

-- A replay that stopped wrote all replies that there were, or a part of them where the sink failed.
abbrev pub Wrote : Option (List ℕ) → Option (List ℕ) → List ℕ → Status → Type 0
Wrote was now text statuses.StoreReadFault = Appends was now text
Wrote was now text statuses.NoMemory = Appends was now text
Wrote was now text statuses.OutputFault = AppendsFront was now text
Wrote was now text other = ⊥

-- Some first ones of these lines were answered, and their replies written. Where the next one shows the data set, a front of its reply may be written too, and it left the taps.
pub record Stops (limit : ℕ) (b : List ℕ) (given : ℕ) (lines : List (Option (List ℕ))) (was now : Outlets) (status : Status) : Type 0 where
  pub done : List (Option (List ℕ))
  pub first : AreFirst done lines
  pub end : List ℕ
  pub refused : Bool
  pub text : List ℕ
  pub goes : Goes limit b was.taps given done end now.taps refused text
  pub part : List ℕ
  pub part_is : IsPartOfNext end now.taps (given + length done + 1) first.0 part
  pub wrote : Wrote was.written now.written (text ++ part) status

-- all lines were answered, and their replies written
pub record Replies (limit : ℕ) (b : List ℕ) (given : ℕ) (lines : List (Option (List ℕ))) (end : List ℕ) (refused : Bool) (was now : Outlets) : Type 0 where
  pub text : List ℕ
  pub goes : Goes limit b was.taps given lines end now.taps refused text
  pub written : Appends was.written now.written text

-- all lines that were ready were given
pub record IsDrained (old new : Pending) : Type 0 where
  pub ready : new.ready ≡ []
  pub rest : new.rest ≡ old.rest
  pub over : new.over ≡ old.over
  pub given : new.given ≡ old.given + length old.ready

-- ---- one line after the other

-- each of these lines asks for nothing
abbrev pub AreBlank : List (Option (List ℕ)) → Type 0
AreBlank [] = Unit {0}
AreBlank (line ∷ more) = (parse line ≡ Blank) × AreBlank more

-- blank lines were given
pub record Passes (old new : Pending) : Type 0 where
  pub blank : List (Option (List ℕ))
  pub are_blank : AreBlank blank
  pub first : old.ready ≡ blank ++ new.ready
  pub counted : new ≡ record old { given = old.given + length blank; line = new.line; ready = new.ready }

-- and then the next line
pub record GivesNext (old new : Pending) : Type 0 where
  pub passed : Pending
  pub passes : Passes old passed
  pub gives : GivesLine passed new

-- and no line is left
abbrev pub PassesAll : Pending → Pending → Type 0
PassesAll old new = Passes old new × (new.ready ≡ [])

-- a line was answered, and its reply gathered behind what was
pub record GathersReply (limit : ℕ) (b : List ℕ) (line : Line) (end : List ℕ) (refused : Bool) (was : Outlets) (held : List ℕ) (now : Outlets) (gathered : List ℕ) : Type 0 where
  pub reply : List ℕ
  pub turns : Turns limit b was.taps line.number (parse (line_of line)) end now.taps refused reply
  pub gathers : Gathers was.written (held ++ reply) now.written gathered

-- this is the reply to a line that was answered
pub record IsReply (limit : ℕ) (b : List ℕ) (taps : List Tap) (line : Line) (kept : List Tap) (reply : List ℕ) : Type 0 where
  pub end : List ℕ
  pub refused : Bool
  pub turns : Turns limit b taps line.number (parse (line_of line)) end kept refused reply

-- this is nothing, or a front of the reply to a line that shows the data set
abbrev pub IsPartOfReply : List ℕ → List Tap → Line → List ℕ → Type 0
IsPartOfReply b taps line part = (part ≡ []) ⊎ IsShown b taps line.number (parse (line_of line)) part

-- A line was answered, or not, or a front of its reply was written, where it shows the data set. What was gathered before was written, and then this, or a part of both where the sink failed.
pub record StopsAt (limit : ℕ) (b : List ℕ) (line : Line) (was : Outlets) (held : List ℕ) (now : Outlets) (status : Status) : Type 0 where
  pub reply : List ℕ
  pub answered : ((now.taps ≡ was.taps) × IsPartOfReply b was.taps line reply) ⊎ IsReply limit b was.taps line now.taps reply
  pub wrote : Wrote was.written now.written (held ++ reply) status
