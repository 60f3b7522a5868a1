-- The words of a line, with a separator behind each but the last, are no longer than the line.
use Rattle.std.proofs.Common.{◌≡◌, ℕ, zero, suc, ◌+◌, ◌-◌, ◌<◌, ◌≤◌, Bool, true, not, ◌||◌, cond, List, [], ◌∷◌, length, take, drop, map, sum, Some, None, Option, option_map, Result, Ok, Err, IfOk, IfSome, if◌then◌else◌, sym, ap, ◌∙◌, subst, inl, inr, arith, length-drop, length-take-le, drop-drop}
use Rattle.std.proofs.lemmas.Bool.{cond_both, cases_Bool}
use Rattle.std.proofs.lemmas.List.Sums.{prefix_len-le-length, sum_by-cons}
use Rattle.std.specs.List.{position_or_len}
use Rattle.std.specs.Char.{is_ascii_hexdigit}
use Rattle.std.specs.Prelude.{⊤, ◌==◌, ◌&&◌}
use Rattle.cdf_model.specs.declared.answer.LineError.{LineError}
use Rattle.cdf_model.specs.declared.answer.LineError.TheVariants.{BadQuote}
use Rattle.cdf_model.specs.Quoting.{Word, First, NoWord, AWord, Fault, is_separator, quote, backslash, at_end, with_byte, before_quote, after_backslash, meaning, escaped, digits, bare_word, closed_word, quoted_word, word_here, behind, separators, first_word, with_word, words_from, words}
use Rattle.cdf_model.proofs.WordsRead.{go_on}

-- a meaning of at most so many bytes
abbrev Within : ℕ → Result (List ℕ) LineError → Type 0
Within n r = IfOk r (λ bytes. length bytes ≤ n)

Within-more : (n m : ℕ) (r : Result (List ℕ) LineError) → n ≤ m → Within n r → Within m r
Within-more n m (Ok bytes) more within = omega arith
Within-more n m (Err fault) more within = tt

Within-with_byte : (b n m : ℕ) (r : Result (List ℕ) LineError) → n < m → Within n r → Within m (with_byte b r)
Within-with_byte b n m (Ok bytes) more within = omega arith
Within-with_byte b n m (Err fault) more within = tt

-- bytes mean no more bytes than they are
mutual
  Within-meaning : (place : ℕ) (text : List ℕ) → Within (length text) (meaning place text)
  Within-meaning place [] = omega arith
  Within-meaning place (b ∷ text) =
      cond_both (b == backslash) _ _ (Within (length (b ∷ text)))
      (λ yes. Within-more (length text) (length (b ∷ text)) (escaped place text) (omega arith) (Within-escaped place text))
      (λ no. Within-with_byte b (length text) (length (b ∷ text)) (meaning (place + 1) text) (omega arith) (Within-meaning (place + 1) text))

  Within-escaped : (place : ℕ) (text : List ℕ) → Within (length text) (escaped place text)
  Within-escaped place [] = tt
  Within-escaped place (b ∷ text) =
      cond_both (b == 120) _ _ (Within (length (b ∷ text)))
      (λ yes. Within-more (length text) (length (b ∷ text)) (digits place text) (omega arith) (Within-digits place text))
      (λ no. cond_both ((b == quote) || (b == backslash)) _ _ (Within (length (b ∷ text)))
      (λ yes. Within-with_byte b (length text) (length (b ∷ text)) (meaning (place + 2) text) (omega arith) (Within-meaning (place + 2) text))
      (λ no. tt))

  Within-digits : (place : ℕ) (text : List ℕ) → Within (length text) (digits place text)
  Within-digits place [] = tt
  Within-digits place (b ∷ []) = tt
  Within-digits place (b ∷ c ∷ text) =
      cond_both (is_ascii_hexdigit b && is_ascii_hexdigit c) _ _ (Within (length (b ∷ c ∷ text)))
      (λ yes. Within-with_byte _ (length text) (length (b ∷ c ∷ text)) (meaning (place + 4) text) (omega arith) (Within-meaning (place + 4) text))
      (λ no. tt)

-- the closing quote stands in the text
abbrev Inside : ℕ → Option ℕ → Type 0
Inside m o = IfSome o (λ n. n < m)

Inside-more : (m : ℕ) (o : Option ℕ) → Inside m o → Inside (suc m) (option_map (λ n. n + 1) o)
Inside-more m None inside = tt
Inside-more m (Some n) inside = omega arith

mutual
  Inside-before : (text : List ℕ) → Inside (length text) (before_quote text)
  Inside-before [] = tt
  Inside-before (b ∷ text) =
      cond_both (b == quote) _ _ (Inside (length (b ∷ text)))
      (λ yes. omega arith)
      (λ no. cond_both (b == backslash) _ _ (Inside (length (b ∷ text)))
      (λ yes. Inside-more (length text) (after_backslash text) (Inside-after text))
      (λ no. Inside-more (length text) (before_quote text) (Inside-before text)))

  Inside-after : (text : List ℕ) → Inside (length text) (after_backslash text)
  Inside-after [] = tt
  Inside-after (b ∷ text) = Inside-more (length text) (before_quote text) (Inside-before text)

-- a word that begins at once has no more bytes than are read for it, and ends the text or has a separator behind it
abbrev IsHere : List ℕ → First → Type 0
IsHere text NoWord = ⊤
IsHere text (AWord word used) = (length word.bytes ≤ used) × (used ≤ length text) × (at_end (drop used text) ≡ true)
IsHere text (Fault fault) = ⊤

IsHere-bare : (place : ℕ) (text : List ℕ) (n : ℕ) → n ≤ length text → IsHere text (bare_word place text n)
IsHere-bare place text n inside =
    cond_both (at_end (drop n text)) (AWord (record { place = place; bytes = take n text }) n) (Fault (BadQuote (place + n))) (IsHere text)
    (λ ends. (omega (arith, length-take-le n text inside), inside, ends))
    (λ no. tt)

IsHere-closed : (place b : ℕ) (text : List ℕ) (n : ℕ) (r : Result (List ℕ) LineError) → n < length text → Within n r → IsHere (b ∷ text) (closed_word place text n r)
IsHere-closed place b text n (Ok bytes) inside within =
    cond_both (at_end (drop (n + 1) text)) (AWord (record { place = place; bytes = bytes }) (n + 2)) (Fault (BadQuote (place + n + 2))) (IsHere (b ∷ text))
    (λ ends.
    let same : suc (n + 1) ≡ n + 2 = omega arith in
    (omega arith, omega arith, subst (λ k. at_end (drop k (b ∷ text)) ≡ true) same ends))
    (λ no. tt)
IsHere-closed place b text n (Err fault) inside within = tt

IsHere-quoted : (place b : ℕ) (text : List ℕ) (o : Option ℕ) → Inside (length text) o → IsHere (b ∷ text) (quoted_word place text o)
IsHere-quoted place b text None inside = tt
IsHere-quoted place b text (Some n) inside =
    let size : length (take n text) ≤ n = omega (arith, length-take-le n text (omega arith)) in
    IsHere-closed place b text n (meaning (place + 1) (take n text)) inside (Within-more _ n (meaning (place + 1) (take n text)) size (Within-meaning (place + 1) (take n text)))

IsHere-text : (place : ℕ) (text : List ℕ) → IsHere text (word_here place text)
IsHere-text place [] = tt
IsHere-text place (b ∷ text) =
    cond_both (b == quote) _ _ (IsHere (b ∷ text))
    (λ yes. IsHere-quoted place b text (before_quote text) (Inside-before text))
    (λ no.
    let ends : ℕ → Bool = λ c. is_separator c || (c == quote) in
    IsHere-bare place (b ∷ text) (position_or_len ends (b ∷ text)) (prefix_len-le-length (λ c. not (ends c)) (b ∷ text)))

-- one where a separator has to come before a word
abbrev lead : List ℕ → ℕ
lead text = if at_end text then 1 else 0

lead-one : (text : List ℕ) → lead text ≤ 1
lead-one text = cond_both (at_end text) 1 0 (λ n. n ≤ 1) (λ yes. omega arith) (λ no. omega arith)

lead-separators : (b : ℕ) (text : List ℕ) → lead (b ∷ text) ≤ separators (b ∷ text)
lead-separators b text = elim (cases_Bool (is_separator b)) [
  | inl test ↦ rw test (omega arith)
  | inr test ↦ rw test (omega arith)
]

-- of the first word the bytes and the separator before it are no more than are read for it
abbrev IsRead : List ℕ → First → Type 0
IsRead text NoWord = ⊤
IsRead text (AWord word used) = (length word.bytes + lead text ≤ used) × (used ≤ length text) × (at_end (drop used text) ≡ true)
IsRead text (Fault fault) = ⊤

IsRead-behind : (n : ℕ) (text : List ℕ) (first : First) → n ≤ length text → lead text ≤ n → IsHere (drop n text) first → IsRead text (behind n first)
IsRead-behind n text NoWord inside led here = tt
IsRead-behind n text (AWord word used) inside led here =
    let size = length-drop n text in
    (omega arith, omega arith, ap at_end (sym (drop-drop used n text)) ∙ here.2)
IsRead-behind n text (Fault fault) inside led here = tt

IsRead-first : (place : ℕ) (text : List ℕ) → IsRead text (first_word place text)
IsRead-first place [] = tt
IsRead-first place (b ∷ text) =
    let n : ℕ = separators (b ∷ text) in
    IsRead-behind n (b ∷ text) (word_here (place + n) (drop n (b ∷ text))) (prefix_len-le-length (λ c. not (not (is_separator c))) (b ∷ text)) (lead-separators b text) (IsHere-text (place + n) (drop n (b ∷ text)))

-- words, each with a separator
abbrev pub size : List (List ℕ) → ℕ
size words = sum (map (λ word. length word + 1) words)

pub size-cons : (word : List ℕ) (words : List (List ℕ)) → size (word ∷ words) ≡ length word + 1 + size words
size-cons word words = sum_by-cons (λ n. n) (length word + 1) (map (λ word. length word + 1) words)

abbrev pub bytes_of : List Word → List (List ℕ)
bytes_of ws = map (λ word. word.bytes) ws

abbrev IsSized : ℕ → Result (List Word) LineError → Type 0
IsSized n r = IfOk r (λ ws. size (bytes_of ws) ≤ n)

IsSized-with_word : (word : Word) (n m : ℕ) (r : Result (List Word) LineError) → IsSized n r → length word.bytes + 1 + n ≤ m → IsSized m (with_word word r)
IsSized-with_word word n m (Ok ws) sized room = omega (arith, size-cons word.bytes (bytes_of ws))
IsSized-with_word word n m (Err fault) sized room = tt

IsSized-go_on : (most place : ℕ) (text : List ℕ) (first : First) → IsRead text first → ((p : ℕ) (t : List ℕ) → IsSized (length t + 1 - lead t) (words_from most p t)) → IsSized (length text + 1 - lead text) (go_on most place text first)
IsSized-go_on most place text NoWord read more = omega arith
IsSized-go_on most place text (AWord word used) read more =
    let rest : List ℕ = drop used text in
    let ends : lead rest ≡ 1 = ap (λ t. cond t 1 0) read.2 in
    let size = length-drop used text in
    IsSized-with_word word (length rest + 1 - lead rest) (length text + 1 - lead text) (words_from most (place + used) rest) (more (place + used) rest) (omega arith)
IsSized-go_on most place text (Fault fault) read more = tt

IsSized-from : (most place : ℕ) (text : List ℕ) → IsSized (length text + 1 - lead text) (words_from most place text)
IsSized-from zero place text = omega arith
IsSized-from (suc most) place text = IsSized-go_on most place text (first_word place text) (IsRead-first place text) (λ p t. IsSized-from most p t)

-- the words of a line, with a separator for each but one
pub words-fit : (line : List ℕ) → IfOk (words line) (λ ws. size (bytes_of ws) ≤ length line + 1)
words-fit line = weaker (words line) (IsSized-from (length line) 0 line)
  where
    weaker : (r : Result (List Word) LineError) → IsSized (length line + 1 - lead line) r → IsSized (length line + 1) r
    weaker (Ok ws) sized = omega arith
    weaker (Err fault) sized = tt
