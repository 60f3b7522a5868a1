-- What the run of a script over an image leaves (own). `first` is what the sink held as it began, with the taps of then, and `now` what it holds, with the taps that are left, `left` what the source has left.
use Rattle.std.specs.Prelude.{◌≡◌, ◌⊎◌, ℕ, ◌<◌, ◌≤◌, List, [], ◌++◌, Bool, true, false, length}
use Rattle.std.specs.declared.option.Option.{Option}
use Rattle.std.specs.Io.KnownBytes.{Appends, Consumes, IsAtEnd}
use Rattle.cdf_format.specs.Owners.{space_of}
use Rattle.cdf_format.specs.Shape.{shape}
use Rattle.cdf_store.specs.Written.{AppendsFront}
use Rattle.cdf_model.specs.Limits.{script_limit}
use Rattle.cdf_model.specs.Lines.{lines, whole_lines}
use Rattle.cdf_model.specs.Texts.{space_text}
use Rattle.cdf_saving.specs.declared.status.Status.TheVariants as statuses
use Rattle.cdf_saving.specs.declared.status.Status.{Status}
use Rattle.cdf_tool.specs.Taking.{piece_limit}
use Rattle.cdf_tool.specs.Outlets.{Outlets}
use Rattle.cdf_tool.specs.Replay.{Replies, Stops}

-- the script was read to its end, each of its lines was answered, and all replies were written
pub record Finishes (limit : ℕ) (b : List ℕ) (before left : Option (List ℕ)) (first : Outlets) (end : List ℕ) (refused : Bool) (now : Outlets) : Type 0 where
  pub taken : List ℕ
  pub consumed : Consumes before left taken
  pub short : length taken ≤ script_limit
  pub over : IsAtEnd left
  pub replies : Replies limit b 0 (lines taken) end refused first now

-- all replies to the whole lines of these bytes
pub record Answered (limit : ℕ) (b bytes : List ℕ) (first now : Outlets) : Type 0 where
  pub end : List ℕ
  pub refused : Bool
  pub replies : Replies limit b 0 (whole_lines bytes) end refused first now

-- the bytes taken are those of earlier pieces, and a last piece
pub record Pieces (taken : List ℕ) : Type 0 where
  pub earlier : List ℕ
  pub last : List ℕ
  pub are : earlier ++ last ≡ taken
  pub short : length last ≤ piece_limit

-- these lines follow the whole ones of the earlier pieces; a last line without a newline counts where nothing is left of the source
abbrev pub Follow : List (Option (List ℕ)) → List ℕ → List ℕ → Option (List ℕ) → Type 0
Follow more earlier taken left = (whole_lines earlier ++ more ≡ whole_lines taken) ⊎ (IsAtEnd left × (whole_lines earlier ++ more ≡ lines taken))

-- All replies to the whole lines of the earlier pieces were written, and replies to lines of the last one.
pub record StopsIn (limit : ℕ) (b taken : List ℕ) (left : Option (List ℕ)) (first now : Outlets) (status : Status) : Type 0 where
  pub pieces : Pieces taken
  pub image : List ℕ
  pub refused : Bool
  pub then : Outlets
  pub replies : Replies limit b 0 (whole_lines pieces.earlier) image refused first then
  pub more : List (Option (List ℕ))
  pub follow : Follow more pieces.earlier taken left
  pub stops : Stops limit image (length (whole_lines pieces.earlier)) more then now status

-- the piece that passed the limit of a script was not answered, and the whole lines before it were
pub record TooLong (limit : ℕ) (b taken : List ℕ) (first now : Outlets) : Type 0 where
  pub pieces : Pieces taken
  pub long : script_limit < length taken
  pub answered : Answered limit b pieces.earlier first now

-- what each status says of a run that stopped, where these bytes of the script were taken
abbrev pub HaltsAfter : ℕ → List ℕ → List ℕ → Option (List ℕ) → Outlets → Outlets → Status → Type 0
HaltsAfter limit b taken left first now statuses.StoreReadFault = (length taken ≤ script_limit) × StopsIn limit b taken left first now statuses.StoreReadFault
HaltsAfter limit b taken left first now statuses.OutputFault = (length taken ≤ script_limit) × StopsIn limit b taken left first now statuses.OutputFault
HaltsAfter limit b taken left first now statuses.NoMemory = (length taken ≤ script_limit) × StopsIn limit b taken left first now statuses.NoMemory
HaltsAfter limit b taken left first now statuses.ScriptFault = (length taken ≤ script_limit) × Answered limit b taken first now
HaltsAfter limit b taken left first now statuses.ScriptTooLong = TooLong limit b taken first now
HaltsAfter limit b taken left first now other = ⊥

-- some bytes were taken of the script, and then the run stopped so
pub record Halts (limit : ℕ) (b : List ℕ) (before left : Option (List ℕ)) (first now : Outlets) (status : Status) : Type 0 where
  pub taken : List ℕ
  pub consumed : Consumes before left taken
  pub how : HaltsAfter limit b taken left first now status

-- ---- the line on space

-- what is written once a script was answered: the line on what records take, where it is asked for
abbrev pub last_line : Bool → List ℕ → List ℕ
last_line true end = space_text (space_of end (shape end))
last_line false end = []

-- all replies were written, and then this line
pub record FinishesWith (space : Bool) (limit : ℕ) (b : List ℕ) (before left : Option (List ℕ)) (first : Outlets) (end : List ℕ) (refused : Bool) (now : Outlets) : Type 0 where
  pub then : Outlets
  pub finishes : Finishes limit b before left first end refused then
  pub line : Appends then.written now.written (last_line space end)
  pub taps : now.taps ≡ then.taps

-- nothing of this line was written, or a part of it where the sink failed
abbrev pub LineStops : List ℕ → Option (List ℕ) → Option (List ℕ) → Status → Type 0
LineStops line then now statuses.StoreReadFault = now ≡ then
LineStops line then now statuses.NoMemory = now ≡ then
LineStops line then now statuses.OutputFault = AppendsFront then now line
LineStops line then now other = ⊥

-- all replies were written, and not the whole line
pub record LacksLine (space : Bool) (limit : ℕ) (b : List ℕ) (before left : Option (List ℕ)) (first now : Outlets) (status : Status) : Type 0 where
  pub asked : space ≡ true
  pub end : List ℕ
  pub refused : Bool
  pub then : Outlets
  pub finishes : Finishes limit b before left first end refused then
  pub stops : LineStops (last_line true end) then.written now.written status
  pub taps : now.taps ≡ then.taps

-- ---- the saving

-- it was not begun: the store failed as it was read for it, or there was no memory
abbrev pub SavingStops : Status → Type 0
SavingStops statuses.StoreReadFault = Unit {0}
SavingStops statuses.NoMemory = Unit {0}
SavingStops other = ⊥

-- all replies were written, and the line, and nothing was saved
pub record LacksSaving (space : Bool) (limit : ℕ) (b : List ℕ) (before left : Option (List ℕ)) (first now : Outlets) (status : Status) : Type 0 where
  pub end : List ℕ
  pub refused : Bool
  pub finishes : FinishesWith space limit b before left first end refused now
  pub stops : SavingStops status

-- the run stopped in its script, at the line behind it, or before its saving
abbrev pub HaltsWith : Bool → ℕ → List ℕ → Option (List ℕ) → Option (List ℕ) → Outlets → Outlets → Status → Type 0
HaltsWith space limit b before left first now status = Halts limit b before left first now status ⊎ (LacksLine space limit b before left first now status ⊎ LacksSaving space limit b before left first now status)
