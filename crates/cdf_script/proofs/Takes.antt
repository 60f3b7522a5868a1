-- One word of a form is read.
use Rattle.std.proofs.Common.{◌≡◌, ℕ, Bool, true, false, List, [], ◌∷◌, map, length, refl, sym, ap, subst, arith, Ok, Err}
use Rattle.std.specs.declared.result.Result.{Result}
use Rattle.std.specs.Result.{IsErrAnd}
use Rattle.cdf_model.specs.declared.command.Command.{Command}
use Rattle.cdf_model.specs.Forms.{Slot, AValue, Makes}
use Rattle.cdf_model.specs.Grammar.{Asks}
use Rattle.cdf_model.specs.Grammar.{Parsed as Asked}
use Rattle.cdf_script.specs.declared.parsing.Parsed.{Parsed}
use Rattle.cdf_script.specs.Asking.{Parses}
use Rattle.cdf_script.specs.Faults.{Fails}
use Rattle.cdf_model.specs.Quoting.{Word}
use Rattle.cdf_script.specs.declared.fault.ParseError.{ParseError}
use Rattle.cdf_script.specs.Reading.{Reads, ReadsRow}
use Rattle.cdf_script.specs.Verbs.{row_of}
use Rattle.cdf_script.specs.declared.verb.Verb.{Verb}

-- a fault is handed on as it is
pub hands_on : {slots : List Slot} {many : Bool} {makes : Makes slots many} {words : List Word} {result : Result Command ParseError} {e : ParseError} → IsErrAnd result (λ d. d ≡ e) → Reads slots many makes words (Err e) → Reads slots many makes words result
hands_on {slots = slots} {many = many} {makes = makes} {words = words} {result = Ok command} {e = e} same reads = absurd same
hands_on {slots = slots} {many = many} {makes = makes} {words = words} {result = Err d} {e = e} same reads = subst (λ x. Reads slots many makes words (Err x)) (sym same) reads

-- no word more is read
pub made : (command : Command) (words : List Word) → Reads [] false command words (Ok command)
made command words = record { same = refl }

pub all_values : (makes : List (List ℕ) → Command) {words : List Word} {values : List (List ℕ)} → values ≡ map (λ word. word.bytes) words → Reads [] true makes words (Ok (makes values))
all_values makes same = record { same = ap (λ values. Asks (makes values)) (sym same) }

pub one_value : (makes : List (List ℕ) → Command) {words : List Word} {values : List (List ℕ)} → values ≡ map (λ word. word.bytes) words → length words ≡ 1
    → Reads (AValue ∷ []) false makes words (Ok (makes values))
one_value makes {words = []} same one = absurd (omega arith)
one_value makes {words = word ∷ []} same one = record { same = ap (λ values. Asks (makes values)) (sym same) }
one_value makes {words = word ∷ other ∷ words} same one = absurd (omega arith)

pub parse_fails : (asked : Asked) (result : Result Parsed ParseError) (e : ParseError) → IsErrAnd result (λ d. d ≡ e) → Fails asked e → Parses asked result
parse_fails asked (Ok parsed) e same fails = absurd same
parse_fails asked (Err d) e same fails = subst (λ x. Fails asked x) (sym same) fails

-- the words of a verb that is known
pub by_verb : {verb known : Verb} {words : List Word} {result : Result Command ParseError} → verb ≡ known → ReadsRow (row_of known) words result → ReadsRow (row_of verb) words result
by_verb {words = words} {result = result} is reads = subst (λ v. ReadsRow (row_of v) words result) (sym is) reads
