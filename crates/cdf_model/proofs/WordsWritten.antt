-- Words that are read are written on the line.
use Rattle.std.proofs.Common.{◌≡◌, ℕ, zero, suc, ◌+◌, ◌*◌, ◌≤◌, true, false, not, ◌&&◌, ◌||◌, List, [], ◌∷◌, ◌++◌, length, take, drop, map, Option, Some, None, Result, Ok, Err, IsOkAnd, refl, sym, ◌∙◌, ap, ap₂, subst, inl, inr, append_assoc, append-nil, arith}
use Rattle.std.proofs.Math.Seq.{take-append_seam, drop-append_seam, drop-append-add}
use Rattle.std.proofs.lemmas.List.{take-append-drop, length-append, length-take-le}
use Rattle.std.proofs.lemmas.List.Sums.{prefix_len-le-length}
use Rattle.std.proofs.lemmas.Bool.{cases_Bool, eqb-true, and_parts, or_cases}
use Rattle.std.specs.Char.{is_ascii_hexdigit}
use Rattle.std.specs.List.{list_all, prefix_len}
use Rattle.std.specs.Option.{option_map}
use Rattle.std.specs.Prelude.{◌==◌}
use Rattle.cdf_model.specs.declared.answer.LineError.{LineError}
use Rattle.cdf_model.specs.Quoting.{Word, First, NoWord, AWord, Fault, quote, is_separator, at_end, hex_value, with_byte, before_quote, after_backslash, meaning, escaped, digits, first_word, word_here, bare_word, closed_word, quoted_word, behind, separators, with_word, words_from, words}
use Rattle.cdf_model.specs.Written.{WritesByte, Itself, AQuote, ABackslash, Digits, WritesBytes, is_bare, WritesWord, Bare, Quoted, WritesLine}
use Rattle.cdf_model.proofs.WordsRead.{no_digit, some-word, Reads, go_on}

-- one byte fewer before the closing quote
counted : (o : Option ℕ) (n : ℕ) → option_map (λ m. m + 1) o ≡ Some n → (m : ℕ) × (o ≡ Some m) × (n ≡ suc m)
counted None n e = cc
counted (Some m) n e = let same : m + 1 ≡ n = cc in (m, refl, omega arith)

less : (o : Option ℕ) (n : ℕ) → option_map (λ m. m + 1) o ≡ Some (suc n) → o ≡ Some n
less o n e = let found = counted o (suc n) e in found.1 ∙ ap Some (omega arith)

-- a byte in front of those that are read
fronted : (b : ℕ) (r : Result (List ℕ) LineError) (bytes : List ℕ) → with_byte b r ≡ Ok bytes → (more : List ℕ) × (r ≡ Ok more) × (bytes ≡ b ∷ more)
fronted b (Ok more) bytes e = (more, refl, cc)
fronted b (Err fault) bytes e = cc

-- A text that ends at the first closing quote, and that has a meaning, writes it.
abbrev Writes : List ℕ → Type 0
Writes text = (rest bytes : List ℕ) (place : ℕ) → before_quote (text ++ quote ∷ rest) ≡ Some (length text) → meaning place text ≡ Ok bytes → WritesBytes text bytes

behind-x : (text rest bytes : List ℕ) (place : ℕ) → ((later : List ℕ) → length later ≤ length text → Writes later) → before_quote (text ++ quote ∷ rest) ≡ Some (length text) → digits place text ≡ Ok bytes → WritesBytes (92 ∷ 120 ∷ text) bytes
behind-x [] rest bytes place later closed means = cc
behind-x (high ∷ []) rest bytes place later closed means = cc
behind-x (high ∷ low ∷ text) rest bytes place later closed means = elim (cases_Bool (is_ascii_hexdigit high && is_ascii_hexdigit low)) [
  | inl test ↦
      let parts = and_parts (is_ascii_hexdigit high) (is_ascii_hexdigit low) test in
      let read = fronted (16 * hex_value high + hex_value low) (meaning (place + 4) text) bytes (rw test at means) in
      let two = less _ _ (rw (no_digit high 34 parts.0 refl, no_digit high 92 parts.0 refl) at closed) in
      let one = less _ _ (rw (no_digit low 34 parts.1 refl, no_digit low 92 parts.1 refl) at two) in
      subst (λ (l : List ℕ). WritesBytes (92 ∷ 120 ∷ high ∷ low ∷ text) l) (sym read.2)
      (92 ∷ 120 ∷ high ∷ low ∷ [], text, refl, Digits high low parts.0 parts.1, later text (omega arith) rest read.0 (place + 4) one read.1)
  | inr test ↦ let none = rw test at means in cc
]

escapes : (b : ℕ) → ((b == 34) || (b == 92)) ≡ true → WritesByte (92 ∷ b ∷ []) b
escapes b test = elim (or_cases (b == 34) (b == 92) test) [
  | inl is ↦ subst (λ (x : ℕ). WritesByte (92 ∷ x ∷ []) x) (sym (eqb-true b 34 is)) AQuote
  | inr is ↦ subst (λ (x : ℕ). WritesByte (92 ∷ x ∷ []) x) (sym (eqb-true b 92 is)) ABackslash
]

behind-backslash : (text rest bytes : List ℕ) (place : ℕ) → ((later : List ℕ) → length later ≤ length text → Writes later) → after_backslash (text ++ quote ∷ rest) ≡ Some (length text) → escaped place text ≡ Ok bytes → WritesBytes (92 ∷ text) bytes
behind-backslash [] rest bytes place later closed means = cc
behind-backslash (b ∷ text) rest bytes place later closed means =
    let one = less _ _ closed in
    elim (cases_Bool (b == 120)) [
      | inl test ↦
          subst (λ (x : ℕ). WritesBytes (92 ∷ x ∷ text) bytes) (sym (eqb-true b 120 test))
          (behind-x text rest bytes place (λ more small. later more (omega arith)) one (rw test at means))
      | inr no_x ↦ elim (cases_Bool ((b == 34) || (b == 92))) [
        | inl test ↦
            let read = fronted b (meaning (place + 2) text) bytes (rw (no_x, test) at means) in
            subst (λ (l : List ℕ). WritesBytes (92 ∷ b ∷ text) l) (sym read.2)
            (92 ∷ b ∷ [], text, refl, escapes b test, later text (omega arith) rest read.0 (place + 2) one read.1)
        | inr test ↦ let none = rw (no_x, test) at means in cc
      ]
    ]

writes-text : (most : ℕ) (text : List ℕ) → length text ≤ most → Writes text
writes-text most [] room rest bytes place closed means = let none : [] ≡ bytes = cc in subst (λ (l : List ℕ). WritesBytes [] l) none refl
writes-text zero (b ∷ text) room rest bytes place closed means = absurd (omega arith)
writes-text (suc most) (b ∷ text) room rest bytes place closed means = elim (cases_Bool (b == 34)) [
  | inl test ↦ let none : Some 0 ≡ Some (suc (length text)) = rw test at closed in let never : 0 ≡ suc (length text) = cc in absurd (omega arith)
  | inr no_quote ↦ elim (cases_Bool (b == 92)) [
    | inl test ↦
        subst (λ (x : ℕ). WritesBytes (x ∷ text) bytes) (sym (eqb-true b 92 test))
        (behind-backslash text rest bytes place (λ more small. writes-text most more (omega arith)) (less _ _ (rw (no_quote, test) at closed)) (rw test at means))
    | inr no_backslash ↦
        let read = fronted b (meaning (place + 1) text) bytes (rw no_backslash at means) in
        let one = less _ _ (rw (no_quote, no_backslash) at closed) in
        subst (λ (l : List ℕ). WritesBytes (b ∷ text) l) (sym read.2)
        (b ∷ [], text, refl, Itself b no_quote no_backslash, writes-text most text (omega arith) rest read.0 (place + 1) one read.1)
  ]
]

-- a text that has a closing quote after n bytes
abbrev Closes : List ℕ → ℕ → Type 0
Closes text n = (front : List ℕ) × (rest : List ℕ) × (text ≡ front ++ quote ∷ rest) × (n ≡ length front)

Closes-behind : (b : ℕ) (text : List ℕ) (n m : ℕ) → m ≡ suc n → Closes text n → Closes (b ∷ text) m
Closes-behind b text n m e found = (b ∷ found.0, found.1, ap (λ l. b ∷ l) found.2, omega (arith, found.3))

closes-escaped : (text : List ℕ) (n : ℕ) → ((later : List ℕ) (m : ℕ) → length later ≤ length text → before_quote later ≡ Some m → Closes later m) → after_backslash text ≡ Some n → Closes text n
closes-escaped [] n later e = cc
closes-escaped (b ∷ text) n later e = let one = counted (before_quote text) n e in Closes-behind b text one.0 n one.2 (later text one.0 (omega arith) one.1)

closes : (most : ℕ) (text : List ℕ) (n : ℕ) → length text ≤ most → before_quote text ≡ Some n → Closes text n
closes most [] n room e = cc
closes zero (b ∷ text) n room e = absurd (omega arith)
closes (suc most) (b ∷ text) n room e = elim (cases_Bool (b == 34)) [
  | inl test ↦
      let here : Some 0 ≡ Some n = rw test at e in
      let none : 0 ≡ n = cc in
      ([], text, ap (λ x. x ∷ text) (eqb-true b 34 test), sym none)
  | inr no_quote ↦ elim (cases_Bool (b == 92)) [
    | inl test ↦
        let one = counted (after_backslash text) n (rw (no_quote, test) at e) in
        Closes-behind b text one.0 n one.2 (closes-escaped text one.0 (λ later m small. closes most later m (omega arith)) one.1)
    | inr no_backslash ↦
        let one = counted (before_quote text) n (rw (no_quote, no_backslash) at e) in
        Closes-behind b text one.0 n one.2 (closes most text one.0 (omega arith) one.1)
  ]
]

-- what a word that was read between quotes tells
abbrev Between : List ℕ → List ℕ → ℕ → Type 0
Between text bytes used = (front : List ℕ) × (rest : List ℕ) × (text ≡ front ++ quote ∷ rest) × WritesBytes front bytes × (at_end rest ≡ true) × (used ≡ length front + 2)

between-closed : (place n used : ℕ) (text : List ℕ) (word : Word) (r : Result (List ℕ) LineError) → before_quote text ≡ Some n → meaning (place + 1) (take n text) ≡ r → closed_word place text n r ≡ AWord word used → Between text word.bytes used
between-closed place n used text word (Err fault) closed means e = cc
between-closed place n used text word (Ok bytes) closed means e =
    let found = closes (length text) text n (omega arith) closed in
    let front : List ℕ = found.0 in
    let rest : List ℕ = found.1 in
    let before : take n text ≡ front = ap₂ take found.3 found.2 ∙ take-append_seam front (quote ∷ rest) in
    let after : drop (n + 1) text ≡ rest = ap₂ (λ m l. drop (m + 1) l) found.3 found.2 ∙ drop-append-add front (quote ∷ rest) 1 in
    let closed_here : before_quote (front ++ quote ∷ rest) ≡ Some (length front) = ap before_quote (sym found.2) ∙ closed ∙ ap Some found.3 in
    elim (cases_Bool (at_end (drop (n + 1) text))) [
      | inl test ↦
          let read : AWord (record { place = place; bytes = bytes }) (n + 2) ≡ AWord word used = rw test at e in
          let same : record { place = place; bytes = bytes } ≡ word = cc in
          let all : n + 2 ≡ used = cc in
          let means_word : meaning (place + 1) front ≡ Ok word.bytes = ap (meaning (place + 1)) (sym before) ∙ means ∙ ap (λ (w : Word). Ok w.bytes) same in
          (front, rest, found.2, writes-text (length front) front (omega arith) rest word.bytes (place + 1) closed_here means_word, ap at_end (sym after) ∙ test, omega (arith, found.3))
      | inr test ↦ let none = rw test at e in cc
    ]

between : (place used : ℕ) (text : List ℕ) (word : Word) (o : Option ℕ) → before_quote text ≡ o → quoted_word place text o ≡ AWord word used → Between text word.bytes used
between place used text word None closed e = cc
between place used text word (Some n) closed e = between-closed place n used text word (meaning (place + 1) (take n text)) closed refl e

-- the bytes that come before the first that is none of a bare word
bare-front : (n : ℕ) (text : List ℕ) → n ≡ prefix_len is_bare text → list_all is_bare (take n text) ≡ true
bare-front zero text e = refl
bare-front (suc n) [] e = refl
bare-front (suc n) (b ∷ text) e = elim (cases_Bool (is_bare b)) [
  | inl test ↦ let counted : suc n ≡ 1 + prefix_len is_bare text = rw test at e in rw (test, bare-front n text (omega arith)) refl
  | inr test ↦ let none : suc n ≡ 0 = rw test at e in absurd (omega arith)
]

-- what a word that was read tells
abbrev Stands : List ℕ → List ℕ → ℕ → Type 0
Stands text bytes used = (front : List ℕ) × (rest : List ℕ) × (text ≡ front ++ rest) × WritesWord front bytes × (at_end rest ≡ true) × (used ≡ length front)

stands-bare : (place used n : ℕ) (b : ℕ) (text : List ℕ) (word : Word) → is_bare b ≡ true → n ≡ prefix_len is_bare (b ∷ text) → bare_word place (b ∷ text) n ≡ AWord word used → Stands (b ∷ text) word.bytes used
stands-bare place used zero b text word bare e read = let counted : 0 ≡ 1 + prefix_len is_bare text = rw bare at e in absurd (omega arith)
stands-bare place used (suc n) b text word bare e read = elim (cases_Bool (at_end (drop n text))) [
  | inl test ↦
      let here : AWord (record { place = place; bytes = b ∷ take n text }) (suc n) ≡ AWord word used = rw test at read in
      let same : record { place = place; bytes = b ∷ take n text } ≡ word = cc in
      let all : suc n ≡ used = cc in
      let inside : n ≤ length text = omega (arith, prefix_len-le-length is_bare (b ∷ text)) in
      let written : WritesWord (b ∷ take n text) (b ∷ take n text) = Bare b (take n text) (bare-front (suc n) (b ∷ text) e) in
      (b ∷ take n text, drop n text, ap (λ l. b ∷ l) (sym (take-append-drop n text)), subst (λ (w : Word). WritesWord (b ∷ take n text) w.bytes) same written, test, omega (arith, length-take-le n text inside))
  | inr test ↦ let none = rw test at read in cc
]

here_bare : (place b : ℕ) (text : List ℕ) → (b == 34) ≡ false → word_here place (b ∷ text) ≡ bare_word place (b ∷ text) (prefix_len is_bare (b ∷ text))
here_bare place b text no_quote = rw no_quote refl

stands : (place used : ℕ) (text : List ℕ) (word : Word) → separators text ≡ 0 → word_here place text ≡ AWord word used → Stands text word.bytes used
stands place used [] word begins read = cc
stands place used (b ∷ text) word begins read = elim (cases_Bool (is_separator b)) [
  | inl test ↦ let counted : 1 + separators text ≡ 0 = rw test at begins in absurd (omega arith)
  | inr apart ↦ elim (cases_Bool (b == 34)) [
    | inl test ↦
        let found = between place used text word (before_quote text) refl (rw test at read) in
        let front : List ℕ = found.0 in
        let rest : List ℕ = found.1 in
        let whole : List ℕ = (quote ∷ front) ++ quote ∷ [] in
        let same : b ∷ text ≡ whole ++ rest = ap₂ (λ x l. x ∷ l) (eqb-true b 34 test) (found.2 ∙ sym (append_assoc front (quote ∷ []) rest)) in
        (whole, rest, same, Quoted front word.bytes found.3, found.4, omega (arith, found.5, length-append (quote ∷ front) (quote ∷ [])))
    | inr test ↦
        let bare : is_bare b ≡ true = rw (apart, test) refl in
        stands-bare place used (prefix_len is_bare (b ∷ text)) b text word bare refl (sym (here_bare place b text test) ∙ read)
  ]
]

-- separators come first
gap-front : (n : ℕ) (text : List ℕ) → n ≡ separators text → list_all is_separator (take n text) ≡ true
gap-front zero text e = refl
gap-front (suc n) [] e = refl
gap-front (suc n) (b ∷ text) e = elim (cases_Bool (is_separator b)) [
  | inl test ↦ let counted : suc n ≡ 1 + separators text = rw test at e in rw (test, gap-front n text (omega arith)) refl
  | inr test ↦ let none : suc n ≡ 0 = rw test at e in absurd (omega arith)
]

gap-back : (n : ℕ) (text : List ℕ) → n ≡ separators text → separators (drop n text) ≡ 0
gap-back zero text e = sym e
gap-back (suc n) [] e = refl
gap-back (suc n) (b ∷ text) e = elim (cases_Bool (is_separator b)) [
  | inl test ↦ let counted : suc n ≡ 1 + separators text = rw test at e in gap-back n text (omega arith)
  | inr test ↦ let none : suc n ≡ 0 = rw test at e in absurd (omega arith)
]

behind-word : (n used : ℕ) (word : Word) (first : First) → behind n first ≡ AWord word used → (u : ℕ) × (first ≡ AWord word u) × (used ≡ n + u)
behind-word n used word NoWord e = cc
behind-word n used word (AWord other u) e = let same : other ≡ word = cc in let all : n + u ≡ used = cc in (u, ap (λ w. AWord w u) same, sym all)
behind-word n used word (Fault fault) e = cc

-- what the first word of a line tells
abbrev Begins : List ℕ → List ℕ → ℕ → Type 0
Begins line bytes used = (gap : List ℕ) × (text : List ℕ) × (rest : List ℕ) × (line ≡ gap ++ (text ++ rest)) × (list_all is_separator gap ≡ true) × WritesWord text bytes × (at_end rest ≡ true) × (used ≡ length gap + length text)

begins : (place used : ℕ) (line : List ℕ) (word : Word) → first_word place line ≡ AWord word used → Begins line word.bytes used
begins place used line word e =
    let n : ℕ = separators line in
    let here = behind-word n used word (word_here (place + n) (drop n line)) e in
    let found = stands (place + n) here.0 (drop n line) word (gap-back n line refl) here.1 in
    let long : length (take n line) ≡ n = length-take-le n line (prefix_len-le-length (λ x. not (not (is_separator x))) line) in
    (take n line, found.0, found.1, sym (take-append-drop n line) ∙ ap (λ l. take n line ++ l) found.2, gap-front n line refl, found.3, found.4, omega (arith, here.2, found.5))

-- a text with a byte that is no separator has a first word or a fault
closed-some : (place n : ℕ) (text : List ℕ) (r : Result (List ℕ) LineError) → closed_word place text n r ≡ NoWord → ⊥
closed-some place n text (Err fault) e = cc
closed-some place n text (Ok bytes) e = elim (cases_Bool (at_end (drop (n + 1) text))) [
  | inl test ↦ let none = rw test at e in cc
  | inr test ↦ let none = rw test at e in cc
]

quoted-some : (place : ℕ) (text : List ℕ) (o : Option ℕ) → quoted_word place text o ≡ NoWord → ⊥
quoted-some place text None e = cc
quoted-some place text (Some n) e = closed-some place n text (meaning (place + 1) (take n text)) e

bare-some : (place n : ℕ) (text : List ℕ) → bare_word place text n ≡ NoWord → ⊥
bare-some place n text e = elim (cases_Bool (at_end (drop n text))) [
  | inl test ↦ let none = rw test at e in cc
  | inr test ↦ let none = rw test at e in cc
]

here-none : (place : ℕ) (text : List ℕ) → word_here place text ≡ NoWord → text ≡ []
here-none place [] e = refl
here-none place (b ∷ text) e = elim (cases_Bool (b == 34)) [
  | inl test ↦ absurd (quoted-some place text (before_quote text) (rw test at e))
  | inr test ↦ absurd (bare-some place (prefix_len is_bare (b ∷ text)) (b ∷ text) (sym (here_bare place b text test) ∙ e))
]

behind-none : (n : ℕ) (first : First) → behind n first ≡ NoWord → first ≡ NoWord
behind-none n NoWord e = refl
behind-none n (AWord word used) e = cc
behind-none n (Fault fault) e = cc

ends : (place : ℕ) (line : List ℕ) → first_word place line ≡ NoWord → list_all is_separator line ≡ true
ends place line e =
    let n : ℕ = separators line in
    let none = here-none (place + n) (drop n line) (behind-none n (word_here (place + n) (drop n line)) e) in
    let all : take n line ≡ line = sym (append-nil (take n line)) ∙ ap (λ l. take n line ++ l) (sym none) ∙ take-append-drop n line in
    ap (list_all is_separator) (sym all) ∙ gap-front n line refl

tail-read : (word : Word) (ws : List (List ℕ)) (r : Result (List Word) LineError) → Reads ws (with_word word r) → (more : List (List ℕ)) × (ws ≡ word.bytes ∷ more) × Reads more r
tail-read word ws (Ok read) reads = (map (λ w. w.bytes) read, sym reads, refl)
tail-read word ws (Err fault) reads = absurd reads

Writes-by : (most place : ℕ) (ws : List (List ℕ)) (line : List ℕ) (first : First) → length line ≤ suc most → ((rest : List ℕ) (more : List (List ℕ)) (at : ℕ) → length rest ≤ most → Reads more (words_from most at rest) → WritesLine rest more) → first_word place line ≡ first → Reads ws (go_on most place line first) → WritesLine line ws
Writes-by most place ws line NoWord room later e reads = subst (λ (l : List (List ℕ)). WritesLine line l) reads (ends place line e)
Writes-by most place ws line (AWord word used) room later e reads =
    let found = begins place used line word e in
    let gap : List ℕ = found.0 in
    let text : List ℕ = found.1 in
    let rest : List ℕ = found.2 in
    let more = tail-read word ws (words_from most (place + used) (drop used line)) reads in
    let left : drop used line ≡ rest = ap₂ drop found.7 found.3 ∙ drop-append-add gap (text ++ rest) (length text) ∙ drop-append_seam text rest in
    let some = some-word text word.bytes found.5 in
    let long : length line ≡ length gap + (length text + length rest) = omega (arith, ap length found.3, length-append gap (text ++ rest), length-append text rest) in
    let reads_rest = subst (λ (l : List ℕ). Reads more.0 (words_from most (place + used) l)) left more.2 in
    subst (λ (l : List (List ℕ)). WritesLine line l) (sym more.1)
    (gap, text, rest, found.3, found.4, found.5, found.6, later rest more.0 (place + used) (omega arith) reads_rest)
Writes-by most place ws line (Fault fault) room later e reads = absurd reads

Writes-from : (most place : ℕ) (ws : List (List ℕ)) (line : List ℕ) → length line ≤ most → Reads ws (words_from most place line) → WritesLine line ws
Writes-from zero place ws [] room reads = subst (λ (l : List (List ℕ)). WritesLine [] l) reads refl
Writes-from zero place ws (b ∷ line) room reads = absurd (omega arith)
Writes-from (suc most) place ws line room reads =
    Writes-by most place ws line (first_word place line) room (λ rest more at small read. Writes-from most at more rest small read) refl reads

pub Writes-read : (line : List ℕ) (ws : List (List ℕ)) → IsOkAnd (words line) (λ read. map (λ word. word.bytes) read ≡ ws) → WritesLine line ws
Writes-read line ws reads = Writes-from (length line) 0 ws line (omega arith) reads
