-- The words that are written on a line are read.
use Rattle.std.proofs.Common.{◌≡◌, ℕ, zero, suc, ◌+◌, ◌≤◌, true, false, ◌||◌, cond, List, [], ◌∷◌, ◌++◌, length, drop, map, Some, Result, Ok, Err, IsOkAnd, refl, sym, ◌∙◌, ap, ap₂, subst, append_assoc, append-nil, arith}
use Rattle.std.proofs.Math.Seq.{take-append_seam, drop-append_seam, drop-append-add}
use Rattle.std.proofs.lemmas.Bool.{ne_eqb, false≢true, and_parts, or_parts, not-true}
use Rattle.std.proofs.lemmas.List.{length-append, drop_all}
use Rattle.std.specs.Char.{is_ascii_hexdigit}
use Rattle.std.specs.List.{list_all, position_or_len}
use Rattle.std.specs.Prelude.{◌==◌}
use Rattle.cdf_model.specs.declared.answer.LineError.TheVariants.{BadQuote}
use Rattle.cdf_model.specs.declared.answer.LineError.{LineError}
use Rattle.cdf_model.specs.Quoting.{Word, First, NoWord, AWord, Fault, quote, is_separator, at_end, before_quote, meaning, first_word, word_here, bare_word, closed_word, quoted_word, behind, separators, with_word, words_from, words}
use Rattle.cdf_model.specs.Written.{WritesByte, Itself, AQuote, ABackslash, Digits, WritesBytes, is_bare, WritesWord, Bare, Quoted, WritesLine}

-- a byte between quotes has its meaning
meaning-byte : (front rest : List ℕ) (b : ℕ) (bytes : List ℕ) → WritesByte front b → ((place : ℕ) → meaning place rest ≡ Ok bytes) → (place : ℕ) → meaning place (front ++ rest) ≡ Ok (b ∷ bytes)
meaning-byte front rest b bytes (Itself _ no_quote no_backslash) means place = rw (no_backslash, means (place + 1)) refl
meaning-byte front rest b bytes AQuote means place = rw (means (place + 2)) refl
meaning-byte front rest b bytes ABackslash means place = rw (means (place + 2)) refl
meaning-byte front rest b bytes (Digits high low first second) means place = rw (first, second, means (place + 4)) refl

pub meaning-written : (bytes text : List ℕ) → WritesBytes text bytes → (place : ℕ) → meaning place text ≡ Ok bytes
meaning-written [] text written place = ap (meaning place) written
meaning-written (b ∷ bytes) text written place =
    ap (meaning place) written.2 ∙ meaning-byte written.0 written.1 b bytes written.3 (meaning-written bytes written.1 written.4) place

-- a hexadecimal digit is neither a quote nor a backslash
pub no_digit : (b other : ℕ) → is_ascii_hexdigit b ≡ true → is_ascii_hexdigit other ≡ false → (b == other) ≡ false
no_digit b other digit none = ne_eqb b other (λ same. false≢true (sym none ∙ ap is_ascii_hexdigit (sym same) ∙ digit))

-- a byte between quotes stands before the closing one
before-byte : (front rest : List ℕ) (b n : ℕ) → WritesByte front b → before_quote rest ≡ Some n → before_quote (front ++ rest) ≡ Some (length front + n)
before-byte front rest b n (Itself _ no_quote no_backslash) closed = rw (no_quote, no_backslash, closed) (ap Some (omega arith))
before-byte front rest b n AQuote closed = rw closed (ap Some (omega arith))
before-byte front rest b n ABackslash closed = rw closed (ap Some (omega arith))
before-byte front rest b n (Digits high low first second) closed =
    rw (no_digit high 34 first refl, no_digit high 92 first refl, no_digit low 34 second refl, no_digit low 92 second refl, closed) (ap Some (omega arith))

pub before-written : (bytes text rest : List ℕ) → WritesBytes text bytes → before_quote (text ++ quote ∷ rest) ≡ Some (length text)
before-written [] text rest written = ap (λ l. before_quote (l ++ quote ∷ rest)) written ∙ ap (λ l. Some (length l)) (sym written)
before-written (b ∷ bytes) text rest written =
    let front : List ℕ = written.0 in
    let more : List ℕ = written.1 in
    ap (λ l. before_quote (l ++ quote ∷ rest)) written.2
    ∙ ap before_quote (append_assoc front more (quote ∷ rest))
    ∙ before-byte front (more ++ quote ∷ rest) b (length more) written.3 (before-written bytes more rest written.4)
    ∙ ap Some (sym (ap length written.2 ∙ length-append front more))

closed-written : (place : ℕ) (bytes text rest : List ℕ) → WritesBytes text bytes → at_end rest ≡ true → quoted_word place (text ++ quote ∷ rest) (before_quote (text ++ quote ∷ rest)) ≡ AWord (record { place = place; bytes = bytes }) (length text + 2)
closed-written place bytes text rest written ends =
    let all : List ℕ = text ++ quote ∷ rest in
    let n : ℕ = length text in
    ap (quoted_word place all) (before-written bytes text rest written)
    ∙ ap (λ l. closed_word place all n (meaning (place + 1) l)) (take-append_seam text (quote ∷ rest))
    ∙ ap (closed_word place all n) (meaning-written bytes text written (place + 1))
    ∙ ap (λ l. cond (at_end l) (AWord (record { place = place; bytes = bytes }) (n + 2)) (Fault (BadQuote (place + n + 2)))) (drop-append-add text (quote ∷ rest) 1)
    ∙ ap (λ t. cond t (AWord (record { place = place; bytes = bytes }) (n + 2)) (Fault (BadQuote (place + n + 2)))) ends

bare-apart : (b : ℕ) (word : List ℕ) → list_all is_bare (b ∷ word) ≡ true → (is_separator b ≡ false) × ((b == quote) ≡ false)
bare-apart b word bare = or_parts (is_separator b) (b == quote) (not-true (is_separator b || (b == quote)) (and_parts (is_bare b) (list_all is_bare word) bare).0)

-- a bare word ends where a separator comes
bare-length : (word rest : List ℕ) → list_all is_bare word ≡ true → at_end rest ≡ true → position_or_len (λ b. is_separator b || (b == quote)) (word ++ rest) ≡ length word
bare-length [] [] bare ends = refl
bare-length [] (b ∷ rest) bare ends = rw ends refl
bare-length (b ∷ word) rest bare ends =
    let parts = and_parts (is_bare b) (list_all is_bare word) bare in
    rw (parts.0, bare-length word rest parts.1 ends) (omega arith)

here-bare : (place b : ℕ) (word rest : List ℕ) → list_all is_bare (b ∷ word) ≡ true → at_end rest ≡ true → word_here place (b ∷ word ++ rest) ≡ AWord (record { place = place; bytes = b ∷ word }) (length (b ∷ word))
here-bare place b word rest bare ends =
    let apart = bare-apart b word bare in
    let all : List ℕ = (b ∷ word) ++ rest in
    let n : ℕ = length (b ∷ word) in
    let first : word_here place all ≡ bare_word place all (position_or_len (λ c. is_separator c || (c == quote)) all) = rw apart.1 refl in
    first
    ∙ ap (bare_word place all) (bare-length (b ∷ word) rest bare ends)
    ∙ ap₂ (λ front back. cond (at_end back) (AWord (record { place = place; bytes = front }) n) (Fault (BadQuote (place + n)))) (take-append_seam (b ∷ word) rest) (drop-append_seam (b ∷ word) rest)
    ∙ ap (λ t. cond t (AWord (record { place = place; bytes = b ∷ word }) n) (Fault (BadQuote (place + n)))) ends

here-written : (place : ℕ) (text word rest : List ℕ) → WritesWord text word → at_end rest ≡ true → word_here place (text ++ rest) ≡ AWord (record { place = place; bytes = word }) (length text)
here-written place text word rest (Bare b more bare) ends = here-bare place b more rest bare ends
here-written place text word rest (Quoted between _ written) ends =
    let size : length ((quote ∷ between) ++ quote ∷ []) ≡ length between + 2 = omega (arith, length-append (quote ∷ between) (quote ∷ [])) in
    ap (λ l. quoted_word place l (before_quote l)) (append_assoc between (quote ∷ []) rest)
    ∙ closed-written place word between rest written ends
    ∙ ap (λ n. AWord (record { place = place; bytes = word }) n) (sym size)

-- separators come first, and no word begins with one
separators-gap : (gap rest : List ℕ) → list_all is_separator gap ≡ true → separators rest ≡ 0 → separators (gap ++ rest) ≡ length gap
separators-gap [] rest gaps none = none
separators-gap (b ∷ gap) rest gaps none =
    let parts = and_parts (is_separator b) (list_all is_separator gap) gaps in
    rw (parts.0, separators-gap gap rest parts.1 none) (omega arith)

separators-word : (text word rest : List ℕ) → WritesWord text word → separators (text ++ rest) ≡ 0
separators-word text word rest (Bare b more bare) = let apart = bare-apart b more bare in rw apart.0 refl
separators-word text word rest (Quoted between _ written) = refl

pub some-word : (text word : List ℕ) → WritesWord text word → 1 ≤ length text
some-word text word (Bare b more bare) = omega arith
some-word text word (Quoted between _ written) = omega arith

pub first-written : (place : ℕ) (gap text word rest : List ℕ) → list_all is_separator gap ≡ true → WritesWord text word → at_end rest ≡ true → first_word place (gap ++ (text ++ rest)) ≡ AWord (record { place = place + length gap; bytes = word }) (length gap + length text)
first-written place gap text word rest gaps written ends =
    let line : List ℕ = gap ++ (text ++ rest) in
    let n : ℕ = length gap in
    ap (λ m. behind m (word_here (place + m) (drop m line))) (separators-gap gap (text ++ rest) gaps (separators-word text word rest written))
    ∙ ap (λ l. behind n (word_here (place + n) l)) (drop-append_seam gap (text ++ rest))
    ∙ ap (behind n) (here-written (place + n) text word rest written ends)

first-none : (place : ℕ) (line : List ℕ) → list_all is_separator line ≡ true → first_word place line ≡ NoWord
first-none place line gaps =
    let n : ℕ = length line in
    let all : separators line ≡ n = ap separators (sym (append-nil line)) ∙ separators-gap line [] gaps refl in
    ap (λ m. behind m (word_here (place + m) (drop m line))) all
    ∙ ap (λ l. behind n (word_here (place + n) l)) (drop_all n line (omega arith))

-- the words that are read have these bytes
abbrev pub Reads : List (List ℕ) → Result (List Word) LineError → Type 0
Reads ws r = IsOkAnd r (λ read. map (λ word. word.bytes) read ≡ ws)

Reads-with_word : (word : Word) (ws : List (List ℕ)) (r : Result (List Word) LineError) → Reads ws r → Reads (word.bytes ∷ ws) (with_word word r)
Reads-with_word word ws (Ok read) reads = ap (λ l. word.bytes ∷ l) reads
Reads-with_word word ws (Err fault) reads = absurd reads

-- what is read, by what stands first
abbrev pub go_on : ℕ → ℕ → List ℕ → First → Result (List Word) LineError
go_on most place text first = elim first [
  | NoWord ↦ Ok []
  | AWord word used ↦ with_word word (words_from most (place + used) (drop used text))
  | Fault fault ↦ Err fault
]

Reads-from : (most place : ℕ) (ws : List (List ℕ)) (line : List ℕ) → WritesLine line ws → length line ≤ most → Reads ws (words_from most place line)
Reads-from zero place [] line written room = refl
Reads-from (suc most) place [] line written room = subst (λ (first : First). Reads [] (go_on most place line first)) (sym (first-none place line written)) refl
Reads-from zero place (word ∷ ws) line written room =
    let some = some-word written.1 word written.5 in
    absurd (omega (arith, ap length written.3, length-append written.0 (written.1 ++ written.2), length-append written.1 written.2))
Reads-from (suc most) place (word ∷ ws) line written room =
    let gap : List ℕ = written.0 in
    let text : List ℕ = written.1 in
    let rest : List ℕ = written.2 in
    let used : ℕ = length gap + length text in
    let some = some-word text word written.5 in
    let long : length line ≡ used + length rest = omega (arith, ap length written.3, length-append gap (text ++ rest), length-append text rest) in
    let step : first_word place line ≡ AWord (record { place = place + length gap; bytes = word }) used = ap (first_word place) written.3 ∙ first-written place gap text word rest written.4 written.5 written.6 in
    let left : drop used line ≡ rest = ap (drop used) written.3 ∙ drop-append-add gap (text ++ rest) (length text) ∙ drop-append_seam text rest in
    let more = Reads-from most (place + used) ws rest written.7 (omega arith) in
    let reads = subst (λ (l : List ℕ). Reads ws (words_from most (place + used) l)) (sym left) more in
    subst (λ (first : First). Reads (word ∷ ws) (go_on most place line first)) (sym step)
    (Reads-with_word (record { place = place + length gap; bytes = word }) ws (words_from most (place + used) (drop used line)) reads)

pub Reads-written : (line : List ℕ) (ws : List (List ℕ)) → WritesLine line ws → IsOkAnd (words line) (λ read. map (λ word. word.bytes) read ≡ ws)
Reads-written line ws written = Reads-from (length line) 0 ws line written (omega arith)
