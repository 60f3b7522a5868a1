-- What a command comes to: it makes a data set, with a reply, or is refused for a reason (own).
use Rattle.std.specs.Prelude.{List, [], ◌∷◌, Bool, true, false, not, if◌then◌else◌, Some, None, Ok, Err}
use Rattle.std.specs.declared.option.Option.{Option}
use Rattle.std.specs.declared.result.Result.{Result}
use Rattle.cdf_model.specs.declared.answer.Outcome.{Outcome}
use Rattle.cdf_model.specs.declared.answer.Outcome.TheVariants.{Done, Refused}
use Rattle.cdf_model.specs.declared.answer.Reason.{Reason}
use Rattle.cdf_model.specs.declared.answer.Reason.TheVariants.{TooLarge}
use Rattle.cdf_model.specs.declared.answer.Reply.{Reply}
use Rattle.cdf_model.specs.DataSet.{DataSet}

pub data Answer : Type 0 where
  Go : DataSet → Reply → Answer
  Refuse : Reason → Answer

-- A command that the data set lets go is refused all the same where the file has no room for it: `full` says so.
abbrev pub is_accepted : Answer → Bool → Bool
is_accepted (Go d reply) full = not full
is_accepted (Refuse reason) full = false

abbrev pub outcome : Answer → Bool → Outcome
outcome (Go d reply) true = Refused TooLarge
outcome (Go d reply) false = Done reply
outcome (Refuse reason) full = Refused reason

-- a refused command leaves the data set
abbrev pub data_after : DataSet → Answer → Bool → DataSet
data_after d (Go made reply) true = d
data_after d (Go made reply) false = made
data_after d (Refuse reason) full = d

-- the first reason whose condition holds, else the answer
abbrev pub unless : List (Bool × Reason) → Answer → Answer
unless [] answer = answer
unless ((holds, reason) ∷ more) answer = if holds then Refuse reason else unless more answer

-- a reason where nothing is there, else the answer that hangs on it
abbrev pub given : {A : Type 0} → Reason → Option A → (A → Answer) → Answer
given reason None answer = Refuse reason
given reason (Some a) answer = answer a

-- the reason why there is no value, else the answer that hangs on it
abbrev pub valued : {A : Type 0} → Result A Reason → (A → Answer) → Answer
valued (Err reason) answer = Refuse reason
valued (Ok a) answer = answer a
