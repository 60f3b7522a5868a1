-- What a line of a script makes, and what a run holds so far (own).
use Rattle.std.specs.Prelude.{ℕ, ◌+◌, List, [], ◌++◌, Bool, true, false, ◌||◌, if◌then◌else◌}
use Rattle.cdf_model.specs.declared.answer.LineError.{LineError}
use Rattle.cdf_model.specs.declared.answer.Outcome.{Outcome}
use Rattle.cdf_model.specs.declared.answer.Outcome.TheVariants.{Done, Refused}
use Rattle.cdf_model.specs.declared.answer.Reason.TheVariants.{BadLine, NoSuchTap}
use Rattle.cdf_model.specs.Answers.{Answer, outcome, data_after}
use Rattle.cdf_model.specs.DataSet.{DataSet}
use Rattle.cdf_model.specs.EventTexts.{dump_text}
use Rattle.cdf_model.specs.Step.{Route, ByStep, ByContent, ByTaps}
use Rattle.cdf_model.specs.Taps.{Tap, has_tap, left_after, told}
use Rattle.cdf_model.specs.Texts.{framed, reply_text}

-- what one line makes: the data set after it, the taps that are left, the text of its reply, and whether it was refused
pub record Turn : Type 0 where
  pub data_set : DataSet
  pub taps : List Tap
  pub text : List ℕ
  pub refused : Bool

abbrev pub is_refused : Outcome → Bool
is_refused (Done reply) = false
is_refused (Refused reason) = true

-- the outcome of a line, which leaves the taps
abbrev pub replied : DataSet → List Tap → ℕ → Outcome → Turn
replied d taps n o = record { data_set = d; taps = taps; text = reply_text n o; refused = is_refused o }

-- a line that has a fault
abbrev pub faulty : DataSet → List Tap → ℕ → LineError → Turn
faulty d taps n fault = replied d taps n (Refused (BadLine fault))

-- a command that its step answers so, for which the file may be full
abbrev pub answered : DataSet → List Tap → ℕ → Answer → Bool → Turn
answered d taps n answer full = replied (data_after d answer full) taps n (outcome answer full)

-- what the taps of a name say; those that came to their end go
abbrev pub reported : DataSet → List Tap → ℕ → List ℕ → Turn
reported d taps n name =
    if has_tap taps name then record { data_set = d; taps = left_after taps name d; text = framed n (told taps name d); refused = false }
    else replied d taps n (Refused NoSuchTap)

abbrev pub asked : DataSet → List Tap → ℕ → Route → Bool → Turn
asked d taps n (ByStep answer) full = answered d taps n answer full
asked d taps n ByContent full = record { data_set = d; taps = taps; text = framed n (dump_text d); refused = false }
asked d taps n (ByTaps name) full = reported d taps n name

-- a run so far: the data set, the taps that are left, the number of lines, all text, and whether a line was refused
pub record State : Type 0 where
  pub data_set : DataSet
  pub taps : List Tap
  pub count : ℕ
  pub text : List ℕ
  pub refused : Bool

abbrev pub start : DataSet → List Tap → State
start d taps = record { data_set = d; taps = taps; count = 0; text = []; refused = false }

abbrev pub after : State → Turn → State
after s t = record { data_set = t.data_set; taps = t.taps; count = s.count + 1; text = s.text ++ t.text; refused = s.refused || t.refused }
