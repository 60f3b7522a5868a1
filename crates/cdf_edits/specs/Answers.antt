-- What a call answers that carries out a command, under a limit on the bytes of an image (own).
use Rattle.std.specs.Prelude.{◌≡◌, ℕ, ◌+◌, List, length, Bool, true, false, ◌&&◌, nat_lt}
use Rattle.cdf_model.specs.declared.answer.Outcome.{Outcome}
use Rattle.cdf_model.specs.declared.command.Command.{Command}
use Rattle.cdf_model.specs.Answers.{Answer, is_accepted, outcome}
use Rattle.cdf_model.specs.Step.{ByStep, step}
use Rattle.cdf_format.specs.Content.{content}
use Rattle.cdf_edits.specs.Commands.Room.{room}
use Rattle.cdf_edits.specs.Follows.{Follows}

-- a command whose step answers so goes, and would make an image of more than so many bytes
abbrev pub is_full : ℕ → List ℕ → Command → Answer → Bool
is_full limit b c answer = is_accepted answer false && nat_lt limit (length b + room b c)

-- what becomes of the image: a command that is accepted makes its own, and each other leaves it
abbrev pub MovesIf : Bool → List ℕ → Command → List ℕ → Type 0
MovesIf true b c now = Follows b c now
MovesIf false b c now = now ≡ b

abbrev pub Moves : List ℕ → Command → Answer → Bool → List ℕ → Type 0
Moves b c answer full now = MovesIf (is_accepted answer full) b c now

-- How a command whose step answers so leads from one image to another, under a limit on the bytes of an image. The flag says whether the image would be too large.
abbrev pub StepLeads : ℕ → List ℕ → Command → Answer → Bool → List ℕ → Type 0
StepLeads limit b c answer full now = (full ≡ is_full limit b c answer) × Moves b c answer full now

-- What a call answers that carries out a command under such a limit: its step has an answer, the outcome is that of the answer, and this is the image that it leads to.
pub record Answers (limit : ℕ) (b : List ℕ) (c : Command) (o : Outcome) (now : List ℕ) : Type 0 where
  pub answer : Answer
  pub step_is : step (content b) c ≡ ByStep answer
  pub outcome_is : o ≡ outcome answer (is_full limit b c answer)
  pub moves : Moves b c answer (is_full limit b c answer) now
