-- A line that is not too long gives commands that a line can say.
use Rattle.std.proofs.Common.{◌≡◌, ℕ, ◌+◌, ◌≤◌, Bool, true, false, List, [], ◌∷◌, length, Some, None, Option, option_map, Result, Ok, Err, IfOk, IfSome, bytes_eq, find, if◌then◌else◌, nat_le, refl, subst, arith, leb-true}
use Rattle.std.proofs.lemmas.Bool.{cond_both}
use Rattle.std.proofs.lemmas.List.{length-map}
use Rattle.std.specs.Prelude.{⊤, codes}
use Rattle.cdf_model.specs.declared.answer.LineError.{LineError}
use Rattle.cdf_model.specs.declared.answer.LineError.TheVariants.{UnknownWord}
use Rattle.cdf_model.specs.declared.command.Command.{Command}
use Rattle.cdf_model.specs.declared.kinds.Scope.{Scope}
use Rattle.cdf_model.specs.declared.kinds.Scope.TheVariants.{Global, Variable}
use Rattle.cdf_model.specs.Arguments.{scope_in}
use Rattle.cdf_model.specs.Forms.{Slot, AScope, AValue, Meaning, Makes, CommandRow, rows}
use Rattle.cdf_model.specs.Grammar.{Parsed, Blank, Asks, Faulty, read_word, read, parse_words, parse_text, parse}
use Rattle.cdf_model.specs.Limits.{line_limit}
use Rattle.cdf_model.specs.Lines.{is_blank, kept}
use Rattle.cdf_model.specs.Quoting.{Word, words}
use Rattle.cdf_model.specs.Sayable.{Fit, CanBeGiven, Sayable}
use Rattle.cdf_model.proofs.Parsing.{OfEach, of_found, by_word, by_option, by_name, by_words}
use Rattle.cdf_model.proofs.WordSizes.{size, size-cons, bytes_of, words-fit}

-- what holds of what a word is read as that fits on a line
abbrev Fair : (slot : Slot) → Meaning slot → Type 0
Fair AScope scope = CanBeGiven scope
Fair AValue words = (length words ≡ 1) × Fit words
Fair slot meaning = ⊤

-- of words that fit on a line these make a command that a line can say
abbrev IsFair : (slots : List Slot) (many : Bool) → Makes slots many → Type 0
IsFair [] false command = Sayable command
IsFair [] true makes = (words : List (List ℕ)) → 1 ≤ length words → Fit words → Sayable (makes words)
IsFair (slot ∷ slots) many makes = (meaning : Meaning slot) → Fair slot meaning → IsFair slots many (makes meaning)

abbrev IsFairRow : CommandRow → Type 0
IsFairRow r = IsFair r.slots r.is_open r.makes

each-fair : OfEach IsFairRow rows
each-fair = search depth 60 fits 5000

-- a command that it gives can be said
abbrev Says : Parsed → Type 0
Says Blank = ⊤
Says (Asks c) = Sayable c
Says (Faulty fault) = ⊤

-- the scope that a word names is no assumed one
can_be_given : (word : List ℕ) → IfSome (scope_in word) CanBeGiven
can_be_given word =
    given (find (λ choice. bytes_eq word choice.0) scopes) (of_found (λ choice. CanBeGiven choice.1) (λ choice. bytes_eq word choice.0) scopes (tt, (tt, tt))) where
      scopes : List (List ℕ × Scope)
      scopes = (codes "global", Global) ∷ (codes "variable", Variable) ∷ []

      given : (o : Option (List ℕ × Scope)) → IfSome o (λ choice. CanBeGiven choice.1) → IfSome (option_map (λ choice. choice.1) o) CanBeGiven
      given None fact = tt
      given (Some choice) fact = fact

-- words fit on a line by parts
Fit-head : (word : Word) (words : List Word) → Fit (bytes_of (word ∷ words)) → Fit (word.bytes ∷ [])
Fit-head word words fit = omega (arith, size-cons word.bytes (bytes_of words), size-cons word.bytes [])

Fit-tail : (word : Word) (words : List Word) → Fit (bytes_of (word ∷ words)) → Fit (bytes_of words)
Fit-tail word words fit = omega (arith, size-cons word.bytes (bytes_of words))

Says-word : (slot : Slot) (word : Word) (more : Meaning slot → Parsed) → Fit (word.bytes ∷ []) → ((meaning : Meaning slot) → Fair slot meaning → Says (more meaning)) → Says (read_word slot word more)
Says-word AScope word more fit given = by_option Says (λ fault. tt) CanBeGiven (UnknownWord word.place) (scope_in word.bytes) more (can_be_given word.bytes) given
Says-word AValue word more fit given = given (word.bytes ∷ []) (refl, fit)
Says-word slot word more fit given = by_word Says (λ fault. tt) slot word more (λ meaning. given meaning tt)

Says-read : (slots : List Slot) (many : Bool) (makes : Makes slots many) (words : List Word) → IsFair slots many makes → length slots + (if many then 1 else 0) ≤ length words → Fit (bytes_of words) → Says (read slots many makes words)
Says-read [] false makes words fair enough fit = fair
Says-read [] true makes words fair enough fit = fair (bytes_of words) (omega (arith, length-map words (λ word. word.bytes))) fit
Says-read (slot ∷ slots) many makes [] fair enough fit = tt
Says-read (slot ∷ slots) many makes (word ∷ words) fair enough fit =
    Says-word slot word (λ meaning. read slots many (makes meaning) words) (Fit-head word words fit)
    (λ meaning fact. Says-read slots many (makes meaning) words (fair meaning fact) (omega arith) (Fit-tail word words fit))

-- the words of a line that is not too long: those behind a command's name fit on a line
abbrev FitBehind : List Word → Type 0
FitBehind ws = size (bytes_of ws) ≤ line_limit + 1

Says-words : (n : ℕ) (ws : List Word) → FitBehind ws → Says (parse_words n ws)
Says-words n [] fit = tt
Says-words n (name ∷ ws) fit =
    let behind : Fit (bytes_of ws) = omega (arith, size-cons name.bytes (bytes_of ws)) in
    by_name Says (λ fault. tt) IsFairRow each-fair n name ws
    (λ r fair enough. Says-read r.slots r.is_open r.makes ws fair enough behind)

FitBehind-words : (n : ℕ) (r : Result (List Word) LineError) → n ≤ line_limit → IfOk r (λ ws. size (bytes_of ws) ≤ n + 1) → IfOk r FitBehind
FitBehind-words n (Ok ws) short fit = omega arith
FitBehind-words n (Err fault) short fit = tt

Says-line : (line : List ℕ) → length line ≤ line_limit → Says (parse (Some line))
Says-line line short =
    cond_both (is_blank line) Blank (parse_text line) Says
    (λ yes. tt)
    (λ no. by_words Says (λ fault. tt) FitBehind (length line) (words line) (FitBehind-words (length line) (words line) short (words-fit line)) (Says-words (length line)))

pub sayable-line : (line : List ℕ) (c : Command) → length line ≤ line_limit → parse (Some line) ≡ Asks c → Sayable c
sayable-line line c short asks = subst Says asks (Says-line line short)

pub sayable-kept : (line : List ℕ) (c : Command) → parse (kept line) ≡ Asks c → Sayable c
sayable-kept line c asks =
    let says : Says (parse (kept line)) = cond_both (nat_le (length line) line_limit) (Some line) None (λ o. Says (parse o)) (λ short. Says-line line (leb-true (length line) line_limit short)) (λ long. tt) in
    subst Says asks says
