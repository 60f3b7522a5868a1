-- The words of a line, one after the other.
use Rattle.std.proofs.Common.{◌≡◌, ℕ, zero, suc, ◌+◌, ◌≤◌, Bool, true, false, List, [], ◌∷◌, length, drop, Some, None, refl, sym, ap, ◌∙◌, inl, inr, arith, length-drop}
use Rattle.std.proofs.lemmas.Bool.{cases_Bool}
use Rattle.std.specs.Prelude.{◌||◌, ◌==◌, if◌then◌else◌, Ok, Err}
use Rattle.std.specs.declared.option.Option.{Option}
use Rattle.std.specs.declared.result.Result.{Result}
use Rattle.std.specs.List.{position_or_len}
use Rattle.cdf_model.specs.declared.answer.LineError.{LineError}
use Rattle.cdf_model.specs.Quoting.{Word, First, NoWord, AWord, Fault, at_end, bare_word, before_quote, behind, closed_word, first_word, is_separator, quoted_word, separators, with_word, word_here, words_from, words}
use Rattle.cdf_script.specs.Left.{words_at, words_in, how_many}

behind-used : (n : ℕ) (first : First) (word : Word) (used : ℕ) → behind n first ≡ AWord word used → n ≤ used
behind-used n NoWord word used e = cc
behind-used n (AWord w m) word used e = let same : n + m ≡ used = cc in omega arith
behind-used n (Fault fault) word used e = cc

behind-same : (first : First) (word : Word) (used : ℕ) → behind 0 first ≡ AWord word used → first ≡ AWord word used
behind-same NoWord word used e = cc
behind-same (AWord w m) word used e = let same : 0 + m ≡ used = cc in let m_is : m ≡ used = omega arith in cc
behind-same (Fault fault) word used e = cc

bare-used : (place n : ℕ) (text : List ℕ) (ends : Bool) (word : Word) (used : ℕ) (w : Word) (fault : LineError) → (if ends then AWord w n else Fault fault) ≡ AWord word used → n ≡ used
bare-used place n text true word used w fault e = cc
bare-used place n text false word used w fault e = cc

closed-used : (place n : ℕ) (text : List ℕ) (bytes : Result (List ℕ) LineError) (word : Word) (used : ℕ) → closed_word place text n bytes ≡ AWord word used → n + 2 ≡ used
closed-used place n text (Ok bytes) word used e = bare-used place (n + 2) text (at_end (drop (n + 1) text)) word used _ _ e
closed-used place n text (Err fault) word used e = cc

quoted-used : (place : ℕ) (text : List ℕ) (end : Option ℕ) (word : Word) (used : ℕ) → quoted_word place text end ≡ AWord word used → 1 ≤ used
quoted-used place text None word used e = cc
quoted-used place text (Some n) word used e = let same = closed-used place n text _ word used e in omega arith

here-used : (place b : ℕ) (text : List ℕ) (word : Word) (used : ℕ) → is_separator b ≡ false → word_here place (b ∷ text) ≡ AWord word used → 1 ≤ used
here-used place b text word used other e = elim (cases_Bool (b == 34)) [
  | inl holds ↦ quoted-used place text (before_quote text) word used (rw holds at e)
  | inr fails ↦
      let n : ℕ = position_or_len (λ c. is_separator c || (c == 34)) text in
      let bare : bare_word place (b ∷ text) (1 + n) ≡ AWord word used = rw (fails, other) at e in
      let same = bare-used place (1 + n) (b ∷ text) (at_end (drop (1 + n) (b ∷ text))) word used _ _ bare in
      omega arith
]

-- a word takes a byte or more
pub takes_some : (place : ℕ) (text : List ℕ) (word : Word) (used : ℕ) → first_word place text ≡ AWord word used → 1 ≤ used
takes_some place [] word used e = cc
takes_some place (b ∷ text) word used e = elim (cases_Bool (is_separator b)) [
  | inl holds ↦
      let count : separators (b ∷ text) ≡ 1 + separators text = rw holds refl in
      let least = behind-used (separators (b ∷ text)) _ word used e in
      omega arith
  | inr fails ↦
      let count : separators (b ∷ text) ≡ 0 = rw fails refl in
      let here : behind 0 (word_here (place + 0) (b ∷ text)) ≡ AWord word used = rw count at e in
      here-used (place + 0) b text word used fails (behind-same _ word used here)
]

-- what the first word says of the words
abbrev pub next : ℕ → ℕ → List ℕ → First → Result (List Word) LineError
next most place text NoWord = Ok []
next most place text (AWord word used) = with_word word (words_from most (place + used) (drop used text))
next most place text (Fault fault) = Err fault

next-same : (m n place : ℕ) (text : List ℕ) (first : First)
    → ((word : Word) (used : ℕ) → first ≡ AWord word used → words_from m (place + used) (drop used text) ≡ words_from n (place + used) (drop used text))
    → next m place text first ≡ next n place text first
next-same m n place text NoWord same = refl
next-same m n place text (AWord word used) same = ap (with_word word) (same word used refl)
next-same m n place text (Fault fault) same = refl

-- more turns than bytes read no further word
enough : (m n place : ℕ) (text : List ℕ) → length text ≤ m → length text ≤ n → words_from m place text ≡ words_from n place text
enough zero zero place text p q = refl
enough zero (suc n) place [] p q = refl
enough zero (suc n) place (b ∷ text) p q = absurd (omega arith)
enough (suc m) zero place [] p q = refl
enough (suc m) zero place (b ∷ text) p q = absurd (omega arith)
enough (suc m) (suc n) place [] p q = refl
enough (suc m) (suc n) place (b ∷ text) p q =
    next-same m n place (b ∷ text) (first_word place (b ∷ text)) (λ word used e.
    let some = takes_some place (b ∷ text) word used e in
    let less = length-drop used (b ∷ text) in
    enough m n (place + used) (drop used (b ∷ text)) (omega arith) (omega arith))

-- the words that are left, by the first of them
abbrev pub words_by : ℕ → List ℕ → First → Result (List Word) LineError
words_by place text NoWord = Ok []
words_by place text (AWord word used) = with_word word (words_at (place + used) (drop used text))
words_by place text (Fault fault) = Err fault

by-next : (place b : ℕ) (text : List ℕ) (first : First) → ((word : Word) (used : ℕ) → first ≡ AWord word used → 1 ≤ used)
    → next (length text) place (b ∷ text) first ≡ words_by place (b ∷ text) first
by-next place b text NoWord some = refl
by-next place b text (AWord word used) some =
    let least = some word used refl in
    let less = length-drop used (b ∷ text) in
    ap (with_word word) (enough (length text) (length (drop used (b ∷ text))) (place + used) (drop used (b ∷ text)) (omega arith) (omega arith))
by-next place b text (Fault fault) some = refl

pub words_at-first : (place : ℕ) (text : List ℕ) → words_at place text ≡ words_by place text (first_word place text)
words_at-first place [] = refl
words_at-first place (b ∷ text) = by-next place b text (first_word place (b ∷ text)) (takes_some place (b ∷ text))

pub words_at-word : (place : ℕ) (text : List ℕ) (word : Word) (used : ℕ) → first_word place text ≡ AWord word used
    → words_at place text ≡ with_word word (words_at (place + used) (drop used text))
words_at-word place text word used e = words_at-first place text ∙ ap (words_by place text) e

pub words_at-none : (place : ℕ) (text : List ℕ) → first_word place text ≡ NoWord → words_at place text ≡ Ok []
words_at-none place text e = words_at-first place text ∙ ap (words_by place text) e

pub words_at-fault : (place : ℕ) (text : List ℕ) (fault : LineError) → first_word place text ≡ Fault fault → words_at place text ≡ Err fault
words_at-fault place text fault e = words_at-first place text ∙ ap (words_by place text) e

-- so many words more
abbrev pub counted : ℕ → Result ℕ LineError → Result ℕ LineError
counted n (Ok m) = Ok (n + m)
counted n (Err fault) = Err fault

pub counted-word : (n : ℕ) (word : Word) (words : Result (List Word) LineError) → counted n (how_many (with_word word words)) ≡ counted (n + 1) (how_many words)
counted-word n word (Ok words) = ap Ok (omega arith)
counted-word n word (Err fault) = refl

pub counts_word : (all : Result ℕ LineError) (n place used : ℕ) (text rest : List ℕ) (word : Word) → all ≡ counted n (how_many (words_at place text))
    → first_word place text ≡ AWord word used → rest ≡ drop used text → all ≡ counted (n + 1) (how_many (words_at (place + used) rest))
counts_word all n place used text rest word so_far first back =
    so_far ∙ ap (λ w. counted n (how_many w)) (words_at-word place text word used first) ∙ counted-word n word _ ∙ ap (λ t. counted (n + 1) (how_many (words_at (place + used) t))) (sym back)

pub counts_end : (all : Result ℕ LineError) (n place : ℕ) (text : List ℕ) → all ≡ counted n (how_many (words_at place text)) → first_word place text ≡ NoWord → all ≡ Ok n
counts_end all n place text so_far first = so_far ∙ ap (λ w. counted n (how_many w)) (words_at-none place text first) ∙ ap Ok (omega arith)

pub counts_fault : (all : Result ℕ LineError) (n place : ℕ) (text : List ℕ) (fault : LineError) → all ≡ counted n (how_many (words_at place text)) → first_word place text ≡ Fault fault → all ≡ Err fault
counts_fault all n place text fault so_far first = so_far ∙ ap (λ w. counted n (how_many w)) (words_at-fault place text fault first)

-- a word is taken from those that are left
pub record Taken (old : Result (List Word) LineError) (word : Word) (new : Result (List Word) LineError) (n m : ℕ) : Type 0 where
  pub front : words_in old ≡ word ∷ words_in new
  pub count : how_many new ≡ Ok m
  pub less : n ≡ m + 1

taken_from : (word : Word) (new : Result (List Word) LineError) (n : ℕ) → how_many (with_word word new) ≡ Ok n → (m : ℕ) × Taken (with_word word new) word new n m
taken_from word (Ok words) n e = (length words, record { front = refl; count = refl; less = let same : length (word ∷ words) ≡ n = cc in omega arith })
taken_from word (Err fault) n e = cc

pub takes_word : (place used n : ℕ) (text rest : List ℕ) (word : Word) → how_many (words_at place text) ≡ Ok n → first_word place text ≡ AWord word used → rest ≡ drop used text
    → (m : ℕ) × Taken (words_at place text) word (words_at (place + used) rest) n m
takes_word place used n text rest word count first back =
    let old = words_at-word place text word used first in
    let taken = taken_from word (words_at (place + used) (drop used text)) n (rw old at count) in
    rw (old, back) taken

pub no_word : (place n : ℕ) (text : List ℕ) → how_many (words_at place text) ≡ Ok n → first_word place text ≡ NoWord → words_in (words_at place text) ≡ []
no_word place n text count first = ap words_in (words_at-none place text first)

pub no_faulty_word : (place n : ℕ) (text : List ℕ) (fault : LineError) → how_many (words_at place text) ≡ Ok n → first_word place text ≡ Fault fault → ⊥
no_faulty_word place n text fault count first = let e : Err fault ≡ Ok n = rw (words_at-fault place text fault first) at count in cc

-- all words of a line, of which there are so many
pub all_words : (n : ℕ) (line : List ℕ) → Ok n ≡ how_many (words line) → words line ≡ Ok (words_in (words_at 0 line))
all_words n line count = known (words line) n count where
  known : (ws : Result (List Word) LineError) (n : ℕ) → Ok n ≡ how_many ws → ws ≡ Ok (words_in ws)
  known (Ok ws) n e = refl
  known (Err fault) n e = cc
