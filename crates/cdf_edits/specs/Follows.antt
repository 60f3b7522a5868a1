-- How a command changes an image: its content as the data set says, and no record that it does not concern (own).
use Rattle.std.specs.Prelude.{◌≡◌, ◌≤◌, ℕ, ◌+◌, List, length, map, Bool, true, false}
use Rattle.std.specs.List.{sum}
use Rattle.cdf_model.specs.declared.answer.Reply.{Reply}
use Rattle.cdf_model.specs.declared.command.Command.{Command}
use Rattle.cdf_model.specs.declared.command.Command.TheVariants as commands
use Rattle.cdf_model.specs.Answers.{Go}
use Rattle.cdf_model.specs.Step.{ByStep, step}
use Rattle.cdf_edits.specs.Commands.Allowances.{AllKeep}
use Rattle.cdf_edits.specs.Commands.Does.{Does}
use Rattle.cdf_edits.specs.Commands.Keeps.{allowances}
use Rattle.cdf_edits.specs.Commands.Room.{room}
use Rattle.cdf_edits.specs.Space.Acts.{Act, taken, ActsFollow}
use Rattle.cdf_format.specs.Content.{content}
use Rattle.cdf_format.specs.Owners.{owned}
use Rattle.cdf_format.specs.Shape.{shape}
use Rattle.cdf_format.specs.WellFormed.{Good}

abbrev pub only_reads : Command → Bool
only_reads commands.Info = true
only_reads commands.List = true
only_reads (commands.GetEntry attr kind num) = true
only_reads (commands.GetRec var rec) = true
only_reads (commands.GetVal var rec index) = true
only_reads commands.Dump = true
only_reads (commands.Report tap) = true
only_reads c = false

-- A command that goes makes of one good image another. It takes and frees records, in this order; those that it takes have no more bytes in all than it has room for. What it keeps of each record, by its owner, and what else it does is said by the page of its family.
pub record Follows (b : List ℕ) (c : Command) (now : List ℕ) : Type 0 where
  pub reply : Reply
  pub goes : step (content b) c ≡ ByStep (Go (content now) reply)
  pub good : Good now
  pub longer : length b ≤ length now
  pub within : length now ≤ length b + room b c
  pub reads : only_reads c ≡ true → now ≡ b
  pub acts : List Act
  pub takes_within : sum (map (λ take. take.1) (taken acts)) ≤ room b c
  pub acts_follow : ActsFollow b now acts
  pub keeps : AllKeep b now (allowances b (content b) (shape b) c) acts (owned b (shape b))
  pub does : Does b c now acts
