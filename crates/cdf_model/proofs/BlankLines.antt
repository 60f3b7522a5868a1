-- A line gives nothing only where it is blank.
use Rattle.std.proofs.Common.{◌≡◌, ℕ, ◌+◌, ◌≤◌, Bool, true, false, List, [], ◌∷◌, length, take, drop, Some, None, Option, Result, Ok, Err, IfOk, refl, subst, inl, inr, true≢false, arith, one-add}
use Rattle.std.proofs.lemmas.Bool.{cond_both, cases_Bool}
use Rattle.std.specs.Prelude.{⊤, ◌==◌}
use Rattle.cdf_model.specs.declared.answer.LineError.{LineError}
use Rattle.cdf_model.specs.Forms.{Slot, Makes}
use Rattle.cdf_model.specs.Grammar.{Parsed, Blank, Asks, Faulty, read, parse_words, parse_text, parse}
use Rattle.cdf_model.specs.Lines.{is_blank}
use Rattle.cdf_model.specs.Quoting.{Word, First, NoWord, AWord, Fault, is_separator, quote, at_end, before_quote, meaning, bare_word, closed_word, quoted_word, word_here, behind, separators, first_word, with_word, words_from, words}
use Rattle.cdf_model.proofs.Parsing.{by_word, by_any_name, by_words}
use Rattle.cdf_model.proofs.WordsRead.{go_on}

-- it is a command or a fault
abbrev IsAnswer : Parsed → Type 0
IsAnswer Blank = ⊥
IsAnswer (Asks c) = ⊤
IsAnswer (Faulty fault) = ⊤

-- words that are enough are read to the end
IsAnswer-read : (slots : List Slot) (many : Bool) (makes : Makes slots many) (words : List Word) → length slots ≤ length words → IsAnswer (read slots many makes words)
IsAnswer-read [] false makes words enough = tt
IsAnswer-read [] true makes words enough = tt
IsAnswer-read (slot ∷ slots) many makes [] enough = absurd (omega arith)
IsAnswer-read (slot ∷ slots) many makes (word ∷ words) enough =
    by_word IsAnswer (λ fault. tt) slot word (λ meaning. read slots many (makes meaning) words) (λ meaning. IsAnswer-read slots many (makes meaning) words (omega arith))

-- a word or a fault
abbrev Begins : First → Type 0
Begins NoWord = ⊥
Begins (AWord word used) = ⊤
Begins (Fault fault) = ⊤

Begins-closed : (place : ℕ) (text : List ℕ) (n : ℕ) (r : Result (List ℕ) LineError) → Begins (closed_word place text n r)
Begins-closed place text n (Ok bytes) = cond_both (at_end (drop (n + 1) text)) _ _ Begins (λ yes. tt) (λ no. tt)
Begins-closed place text n (Err fault) = tt

Begins-quoted : (place : ℕ) (text : List ℕ) (o : Option ℕ) → Begins (quoted_word place text o)
Begins-quoted place text None = tt
Begins-quoted place text (Some n) = Begins-closed place text n (meaning (place + 1) (take n text))

Begins-bare : (place : ℕ) (text : List ℕ) (n : ℕ) → Begins (bare_word place text n)
Begins-bare place text n = cond_both (at_end (drop n text)) _ _ Begins (λ yes. tt) (λ no. tt)

Begins-here : (place b : ℕ) (text : List ℕ) → Begins (word_here place (b ∷ text))
Begins-here place b text = cond_both (b == quote) _ _ Begins (λ yes. Begins-quoted place text (before_quote text)) (λ no. Begins-bare place (b ∷ text) _)

Begins-behind : (n : ℕ) (first : First) → Begins first → Begins (behind n first)
Begins-behind n NoWord begins = begins
Begins-behind n (AWord word used) begins = tt
Begins-behind n (Fault fault) begins = tt

-- a byte that is no separator stands behind the separators
Begins-text : (place : ℕ) (text : List ℕ) → is_blank text ≡ false → Begins (word_here place (drop (separators text) text))
Begins-text place [] filled = absurd (true≢false filled)
Begins-text place (b ∷ text) filled = elim (cases_Bool (is_separator b)) [
  | inl test ↦
      let more : is_blank text ≡ false = rw test at filled in
      rw (test, one-add) (Begins-text place text more)
  | inr test ↦ rw test (Begins-here place b text)
]

Begins-first : (place : ℕ) (text : List ℕ) → is_blank text ≡ false → Begins (first_word place text)
Begins-first place text filled = Begins-behind (separators text) _ (Begins-text (place + separators text) text filled)

-- a word or more
abbrev AreSome : List Word → Type 0
AreSome [] = ⊥
AreSome (word ∷ ws) = ⊤

AreSome-with_word : (word : Word) (r : Result (List Word) LineError) → IfOk (with_word word r) AreSome
AreSome-with_word word (Ok ws) = tt
AreSome-with_word word (Err fault) = tt

AreSome-go_on : (most place : ℕ) (text : List ℕ) (first : First) → Begins first → IfOk (go_on most place text first) AreSome
AreSome-go_on most place text NoWord begins = absurd begins
AreSome-go_on most place text (AWord word used) begins = AreSome-with_word word (words_from most (place + used) (drop used text))
AreSome-go_on most place text (Fault fault) begins = tt

AreSome-words : (line : List ℕ) → is_blank line ≡ false → IfOk (words line) AreSome
AreSome-words [] filled = absurd (true≢false filled)
AreSome-words (b ∷ line) filled = AreSome-go_on (length line) 0 (b ∷ line) (first_word 0 (b ∷ line)) (Begins-first 0 (b ∷ line) filled)

IsAnswer-words : (n : ℕ) (ws : List Word) → AreSome ws → IsAnswer (parse_words n ws)
IsAnswer-words n [] some = absurd some
IsAnswer-words n (name ∷ ws) some = by_any_name IsAnswer (λ fault. tt) n name ws (λ r enough. IsAnswer-read r.slots r.is_open r.makes ws (omega arith))

IsAnswer-text : (line : List ℕ) → is_blank line ≡ false → IsAnswer (parse_text line)
IsAnswer-text line filled = by_words IsAnswer (λ fault. tt) AreSome (length line) (words line) (AreSome-words line filled) (IsAnswer-words (length line))

pub blank-line : (line : List ℕ) → is_blank line ≡ true → parse (Some line) ≡ Blank
blank-line line test = rw test refl

pub line-blank : (line : List ℕ) → parse (Some line) ≡ Blank → is_blank line ≡ true
line-blank line nothing = elim (cases_Bool (is_blank line)) [
  | inl test ↦ test
  | inr test ↦
      let none : parse_text line ≡ Blank = rw test at nothing in
      absurd (subst IsAnswer none (IsAnswer-text line test))
]
