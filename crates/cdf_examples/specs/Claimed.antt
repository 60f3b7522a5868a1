-- What a command asks of an image that it leads to, beside its content and the rules of a well-formed file; an image that no acts lead to is refused (own).
use Rattle.std.specs.Prelude.{◌≤◌, ℕ, ◌+◌, List, length}
use Rattle.cdf_model.specs.declared.command.Command.{Command}
use Rattle.cdf_edits.specs.Commands.Allowances.{AllKeep}
use Rattle.cdf_edits.specs.Commands.Does.{Does}
use Rattle.cdf_edits.specs.Commands.Keeps.{allowances}
use Rattle.cdf_edits.specs.Commands.Room.{room}
use Rattle.cdf_edits.specs.Space.Acts.{Act, ActsFollow}
use Rattle.cdf_format.specs.Content.{content}
use Rattle.cdf_format.specs.Owners.{owned}
use Rattle.cdf_format.specs.Shape.{shape}

pub record Claimed (b : List ℕ) (c : Command) (now : List ℕ) (acts : List Act) : Type 0 where
  pub within : length now ≤ length b + room b c
  pub acts_follow : ActsFollow b now acts
  pub keeps : AllKeep b now (allowances b (content b) (shape b) c) acts (owned b (shape b))
  pub does : Does b c now acts

abbrev pub Refused : List ℕ → Command → List ℕ → Type 0
Refused b c now = (acts : List Act) → Claimed b c now acts → ⊥
