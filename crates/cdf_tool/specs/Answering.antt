-- What a line is answered (own).
use Rattle.std.specs.Prelude.{◌≡◌, ℕ, List, true, is_some}
use Rattle.cdf_model.specs.declared.answer.Outcome.{Outcome}
use Rattle.cdf_model.specs.declared.command.Command.{Command}
use Rattle.cdf_model.specs.declared.command.Command.TheVariants as commands
use Rattle.cdf_model.specs.Grammar.{Parsed, Asks}
use Rattle.cdf_model.specs.Taps.{Tap, has_tap}
use Rattle.cdf_model.specs.Texts.{reply_text}
use Rattle.cdf_model.specs.Turns.{is_refused}
use Rattle.cdf_tool.specs.declared.replay.Answer.{Answer}
use Rattle.cdf_tool.specs.declared.replay.Answer.TheVariants as answers
use Rattle.cdf_tool.specs.Replay.{Turns}

-- it is a reply that tells an outcome, and the line is refused as that says
abbrev pub IsReplyOf : ℕ → Outcome → Answer → Type 0
IsReplyOf n outcome (answers.Reply text refused) = (text.items ≡ reply_text n outcome) × (is_some refused ≡ is_refused outcome)
IsReplyOf n outcome other = ⊥

-- it is a reply, for which a command led to this image, whatever taps there are
abbrev pub RepliesTo : ℕ → List ℕ → ℕ → Command → List ℕ → Answer → Type 0
RepliesTo limit b n c end (answers.Reply text refused) = (taps : List Tap) → Turns limit b taps n (Asks c) end taps (is_some refused) text.items
RepliesTo limit b n c end other = ⊥

-- A line is answered by a reply, and led to this image. A dump, and a report of taps that there are, are yet to be written; the image is as before.
abbrev pub IsAnswer : ℕ → List ℕ → List Tap → ℕ → Parsed → List ℕ → Answer → Type 0
IsAnswer limit b taps n parsed end (answers.Reply text refused) = Turns limit b taps n parsed end taps (is_some refused) text.items
IsAnswer limit b taps n parsed end answers.Dump = (parsed ≡ Asks commands.Dump) × (end ≡ b)
IsAnswer limit b taps n parsed end (answers.Report name) = (parsed ≡ Asks (commands.Report name)) × (has_tap taps name ≡ true) × (end ≡ b)
