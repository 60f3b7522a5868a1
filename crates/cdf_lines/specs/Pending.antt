-- A script that comes in pieces: what is known of it and was not handed on.
use Rattle.std.specs.Prelude.{◌≡◌, ℕ, ◌+◌, List, [], ◌∷◌, ◌++◌, map, Bool, true, false, if◌then◌else◌, Some, None}
use Rattle.std.specs.declared.option.Option.{Option}
use Rattle.cdf_model.specs.Lines.{split, kept}
use Rattle.cdf_lines.specs.declared.line.Line.{Line}

-- the lines that have ended and were not given yet, and the line that has not ended
pub record Pending : Type 0 where
  pub given : ℕ  -- how many lines were given
  pub line : Option (List ℕ)  -- the line given last, empty before the first; none for one that is too long
  pub ready : List (Option (List ℕ))  -- lines in order; none for one that is too long
  pub rest : Option (List ℕ)  -- the line that has not ended; none once it is too long
  pub over : Bool  -- the script has ended

-- a line and more bytes of it
abbrev pub grown : Option (List ℕ) → List ℕ → Option (List ℕ)
grown None more = None
grown (Some line) more = kept (line ++ more)

-- the lines that the parts of a piece end
abbrev pub lines_ended : Option (List ℕ) → List (List ℕ) → List (Option (List ℕ))
lines_ended rest [] = []
lines_ended rest (l ∷ ls) = grown rest l ∷ map kept ls

-- the line that has not ended after the parts of a piece
abbrev pub rest_left : Option (List ℕ) → List (List ℕ) → List ℕ → Option (List ℕ)
rest_left rest [] more = grown rest more
rest_left rest (l ∷ ls) more = kept more

-- the lines that a piece ends
abbrev pub new_lines : Option (List ℕ) → List ℕ → List (Option (List ℕ))
new_lines rest piece = lines_ended rest (split piece).0

-- the line that has not ended after a piece
abbrev pub new_rest : Option (List ℕ) → List ℕ → Option (List ℕ)
new_rest rest piece = rest_left rest (split piece).0 (split piece).1

-- before the first piece
abbrev pub nothing_fed : Pending
nothing_fed = record { given = 0; line = Some []; ready = []; rest = Some []; over = false }

-- after a further piece
abbrev pub fed : Pending → List ℕ → Pending
fed p piece = record p { ready = p.ready ++ new_lines p.rest piece; rest = new_rest p.rest piece }

-- bytes after the last newline are a line if there are any
abbrev pub last_of : Option (List ℕ) → List (Option (List ℕ))
last_of None = None ∷ []
last_of (Some []) = []
last_of (Some (b ∷ line)) = Some (b ∷ line) ∷ []

-- after the last piece
abbrev pub finished : Pending → Pending
finished p = record p { ready = p.ready ++ last_of p.rest; rest = Some []; over = true }

-- the bytes of a line; none of one that is too long
abbrev pub line_of : Line → Option (List ℕ)
line_of line = if line.long then None else Some line.text.now

-- the first line that is ready is given
pub record GivesLine (old new : Pending) : Type 0 where
  pub first : old.ready ≡ new.line ∷ new.ready
  pub counted : new ≡ record old { given = old.given + 1; line = new.line; ready = new.ready }
