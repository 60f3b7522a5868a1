-- What a script makes of a data set where all commands are there, and no file is full.
use Rattle.std.specs.Prelude.{ℕ, ◌+◌, List, [], Bool, false, Some}
use Rattle.std.specs.List.{fold}
use Rattle.std.specs.declared.option.Option.{Option}
use Rattle.cdf_model.specs.declared.command.Command.{Command}
use Rattle.cdf_model.specs.DataSet.{DataSet}
use Rattle.cdf_model.specs.Grammar.{Parsed, Blank, Asks, Faulty, parse}
use Rattle.cdf_model.specs.Lines.{lines}
use Rattle.cdf_model.specs.Limits.{image_limit}
use Rattle.cdf_model.specs.Turns.{Turn, asked, faulty, State, start, after}
use Rattle.cdf_model.specs.Step.{Route, ByStep, step}
use Rattle.cdf_edits.specs.Answers.{is_full}
use Rattle.cdf_edits.specs.Commands.Room.{room}
use Rattle.cdf_format.specs.Content.{content}
use Rattle.cdf_text_examples.specs.Texts.{text_lines}

-- the line of number n
abbrev pub full_turn : DataSet → ℕ → Parsed → Turn
full_turn d n Blank = record { data_set = d; taps = []; text = []; refused = false }
full_turn d n (Asks c) = asked d [] n (step d c) false
full_turn d n (Faulty fault) = faulty d [] n fault

abbrev pub full_advance : State → Option (List ℕ) → State
full_advance s line = after s (full_turn s.data_set (s.count + 1) (parse line))

-- the run of a script of these lines
unfoldable pub run_script : DataSet → List (List ℕ) → State
run_script d script = fold full_advance (start d []) (lines (text_lines script))

-- all replies, and the data set that is left
abbrev pub replies : DataSet → List (List ℕ) → List ℕ
replies d script = (run_script d script).text

abbrev pub made_by : DataSet → List (List ℕ) → DataSet
made_by d script = (run_script d script).data_set

-- by how many bytes the command of a line may raise eof at most
abbrev pub room_for : List ℕ → List ℕ → ℕ
room_for b line = elim (parse (Some line)) [ Blank ↦ 0 | Asks c ↦ room b c | Faulty fault ↦ 0 ]

-- a command whose step has an answer would make the image too large
abbrev pub is_full_by : List ℕ → Command → Route → Bool
is_full_by b c (ByStep answer) = is_full image_limit b c answer
is_full_by b c other = false

abbrev pub makes_too_large : List ℕ → List ℕ → Bool
makes_too_large b line = elim (parse (Some line)) [ Blank ↦ false | Asks c ↦ is_full_by b c (step (content b) c) | Faulty fault ↦ false ]

-- at least one line is refused
abbrev pub is_refused : DataSet → List (List ℕ) → Bool
is_refused d script = (run_script d script).refused
