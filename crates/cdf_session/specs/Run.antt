-- A script is run line by line, each line on the data set that the lines before it made, and with the taps that they left (own).
use Rattle.std.specs.Prelude.{ℕ, ◌+◌, List, [], ◌∷◌, Bool, false, if◌then◌else◌}
use Rattle.std.specs.List.{fold}
use Rattle.std.specs.declared.option.Option.{Option}
use Rattle.cdf_model.specs.declared.answer.LineError.TheVariants.{UnknownWord}
use Rattle.cdf_model.specs.DataSet.{DataSet}
use Rattle.cdf_model.specs.Grammar.{Parsed, Blank, Asks, Faulty, parse}
use Rattle.cdf_model.specs.Lines.{lines}
use Rattle.cdf_model.specs.Step.{step}
use Rattle.cdf_model.specs.Taps.{Tap}
use Rattle.cdf_model.specs.Turns.{Turn, faulty, asked, State, start, after}
use Rattle.cdf_session.specs.Built.{built}

-- The line of a number, whose command may find the file full. A command that there is not yet is a word that is not known.
abbrev pub turn : DataSet → List Tap → ℕ → Parsed → Bool → Turn
turn d taps n Blank full = record { data_set = d; taps = taps; text = []; refused = false }
turn d taps n (Asks c) full = if built c then asked d taps n (step d c) full else faulty d taps n (UnknownWord 0)
turn d taps n (Faulty fault) full = faulty d taps n fault

-- a line, and whether the file was full for its command
abbrev pub advance : State → Option (List ℕ) × Bool → State
advance s (line, full) = after s (turn s.data_set s.taps (s.count + 1) (parse line) full)

-- the run of these lines from a state on
abbrev pub run_on : State → List (Option (List ℕ) × Bool) → State
run_on s ls = fold advance s ls

abbrev pub run_lines : DataSet → List Tap → List (Option (List ℕ) × Bool) → State
run_lines d taps ls = run_on (start d taps) ls

-- each line with its flag
abbrev pub flagged : List (Option (List ℕ)) → List Bool → List (Option (List ℕ) × Bool)
flagged [] full = []
flagged (line ∷ more) [] = (line, false) ∷ flagged more []
flagged (line ∷ more) (is_full ∷ full) = (line, is_full) ∷ flagged more full

-- The run of a script, for each line of which a flag says whether the file was full.
abbrev pub run_of : DataSet → List Tap → List ℕ → List Bool → State
run_of d taps script full = run_lines d taps (flagged (lines script) full)
