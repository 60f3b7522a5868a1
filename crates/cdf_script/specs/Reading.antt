-- Reading the words behind a command's name one after the other.
use Rattle.std.specs.Prelude.{◌≡◌, List, ◌∷◌, Bool, Ok, Err}
use Rattle.std.specs.declared.result.Result.{Result}
use Rattle.cdf_model.specs.declared.command.Command.{Command}
use Rattle.cdf_model.specs.Forms.{Slot, Meaning, Makes, CommandRow}
use Rattle.cdf_model.specs.Grammar.{Parsed, Asks, read}
use Rattle.cdf_model.specs.Quoting.{Word}
use Rattle.cdf_script.specs.declared.fault.ParseError.{ParseError}
use Rattle.cdf_script.specs.Faults.{Fails}

-- this command, or this fault; want of memory may come at any word
abbrev pub Answers : Parsed → Result Command ParseError → Type 0
Answers asked (Ok command) = asked ≡ Asks command
Answers asked (Err e) = Fails asked e

-- what words come to of which a command is made
pub record Reads (slots : List Slot) (many : Bool) (makes : Makes slots many) (words : List Word) (result : Result Command ParseError) : Type 0 where
  pub same : Answers (read slots many makes words) result

abbrev pub ReadsRow : CommandRow → List Word → Result Command ParseError → Type 0
ReadsRow r words result = Reads r.slots r.is_open r.makes words result

-- One word is read: what the words left come to by what is still to be read is what all come to, and so is a fault.
abbrev pub Takes : (slot : Slot) → List Word → List Word → Result (Meaning slot) ParseError → Type 0
Takes slot words left (Ok meaning) = (slots : List Slot) (many : Bool) (makes : Makes (slot ∷ slots) many) (result : Result Command ParseError) → Reads slots many (makes meaning) left result → Reads (slot ∷ slots) many makes words result
Takes slot words left (Err e) = (slots : List Slot) (many : Bool) (makes : Makes (slot ∷ slots) many) → Reads (slot ∷ slots) many makes words (Err e)
