-- A text is split at its newlines.
use Rattle.std.proofs.Common.{◌≡◌, ℕ, zero, suc, ◌+◌, ◌-◌, ◌<◌, ◌≤◌, true, false, List, [], ◌∷◌, map, length, get_or, take, drop, refl, sym, ◌∙◌, ap, arith, add_assoc, add-one, inl, inr}
use Rattle.std.proofs.lemmas.Bool.{cases_eq}
use Rattle.std.proofs.lemmas.Bool.Decides.{nat_tests}
use Rattle.std.proofs.lemmas.List.{take_all, take-append-drop, length-drop, length-take-le}
use Rattle.std.proofs.Math.Seq.{take-suc}
use lib.Seq.{drop-drop}
use Rattle.std.proofs.lemmas.Grind.{common_steps}
use Rattle.std.specs.Prelude.{◌==◌, Some, None, position}
use Rattle.std.specs.List.{position_or_len}
use Rattle.cdf_model.proofs.LinesOf.{split-cons}
use Rattle.cdf_model.specs.Limits.{line_limit}
use Rattle.cdf_model.specs.Lines.{split}
use Rattle.cdf_lines.proofs.Pieces.{split-append, split-whole}
use Rattle.cdf_lines.specs.Parts.{FirstLine, LeadingLines}
use Rattle.cdf_lines.specs.Waiting.{short_lines}

-- the place of the first newline, or the length
abbrev place : List ℕ → ℕ
place text = position_or_len (λ b. b == 10) text

-- a text is one line as far as its first newline
split-at : (text : List ℕ) (n : ℕ) → place text ≡ n → n < length text → split text ≡ (take n text ∷ (split (drop (suc n) text)).0, (split (drop (suc n) text)).1)
split-at [] n here inside = absurd (omega arith)
split-at (b ∷ text) zero here inside = elim (cases_eq b 10) [
  | inl newline ↦ let test : (b == 10) ≡ true = grind (arith, nat_tests) in split-cons b text ∙ rw test refl
  | inr other ↦
      let test : (b == 10) ≡ false = grind (arith, nat_tests) in
      let behind : 1 + place text ≡ 0 = rw test at here in
      absurd (omega arith)
]
split-at (b ∷ text) (suc n) here inside = elim (cases_eq b 10) [
  | inl newline ↦
      let test : (b == 10) ≡ true = grind (arith, nat_tests) in
      let nothing : 0 ≡ suc n = rw test at here in
      absurd (omega arith)
  | inr other ↦
      let test : (b == 10) ≡ false = grind (arith, nat_tests) in
      let behind : 1 + place text ≡ suc n = rw test at here in
      split-cons b text ∙ rw (test, split-at text n (omega arith) (omega arith)) refl
]

-- a text without a newline has no line that has ended
split-none : (text : List ℕ) → length text ≤ place text → split text ≡ ([], text)
split-none [] outside = refl
split-none (b ∷ text) outside = elim (cases_eq b 10) [
  | inl newline ↦
      let test : (b == 10) ≡ true = grind (arith, nat_tests) in
      let nothing : length (b ∷ text) ≤ 0 = rw test at outside in
      absurd (omega arith)
  | inr other ↦
      let test : (b == 10) ≡ false = grind (arith, nat_tests) in
      let behind : length (b ∷ text) ≤ 1 + place text = rw test at outside in
      split-cons b text ∙ rw (test, split-none text (omega arith)) refl
]

pub rest_is : (text : List ℕ) (n : ℕ) → take (length text - n) (drop n text) ≡ drop n text
rest_is text n = take_all (length text - n) (drop n text) (simp length-drop (omega arith))

pub no_line : (text : List ℕ) → None ≡ position (λ b. b == 10) text → split text ≡ ([], text)
no_line text found = split-none text (grind (arith, nat_tests, common_steps))

pub line_at : (text : List ℕ) (n : ℕ) → Some n ≡ position (λ b. b == 10) text → FirstLine text (take n text) (take (length text - (n + 1)) (drop (n + 1) text))
line_at text n found =
    let here : place text ≡ n = grind (arith, nat_tests, common_steps) in
    let inside : n < length text = grind (arith, nat_tests, common_steps) in
    rw (rest_is text (n + 1)) (record {
      parts = rw add-one (split-at text n here inside);
      sizes = omega (arith, length-take-le n text (omega arith), length-drop (n + 1) text);
    })

-- a text that a newline ends has only whole lines
pub ends-whole : (text : List ℕ) (n : ℕ) → n < length text → get_or text n 0 ≡ 10 → (split (take (n + 1) text)).1 ≡ []
ends-whole text n inside last = rw (add-one, take-suc text n 0 inside, last, split-append (take n text) (10 ∷ [])) refl

-- whole lines in front of a text
pub whole_first : (text : List ℕ) (n : ℕ) → n ≤ length text → n ≤ line_limit → (split (take n text)).1 ≡ [] → LeadingLines text (take n text) (drop n text)
whole_first text n inside short ends = record {
  parts = ap split (sym (take-append-drop n text)) ∙ split-whole (take n text) (drop n text) ends;
  sizes = omega (arith, length-take-le n text inside, length-drop n text);
  short = omega (arith, length-take-le n text inside);
}

-- the next line of a block, where its newline is found
pub next_line : (behind : List ℕ) (start n : ℕ) → start ≤ length behind → Some n ≡ position (λ b. b == 10) (take (length behind - start) (drop start behind))
    → short_lines (drop start behind) ≡ Some (take n (drop start behind)) ∷ short_lines (drop (start + n + 1) behind)
next_line behind start n inside found =
    let first = line_at (drop start behind) n (found ∙ ap (position (λ b. b == 10)) (rest_is behind start)) in
    ap (λ (parts : List (List ℕ) × List ℕ). map Some parts.0) first.parts ∙ ap (λ (text : List ℕ). Some (take n (drop start behind)) ∷ short_lines text) (rest_is (drop start behind) (n + 1) ∙ drop-drop (n + 1) start behind ∙ ap (λ (k : ℕ). drop k behind) (sym (add_assoc start n 1)))

-- no line is left where no newline is found
pub no_next_line : (behind : List ℕ) (start : ℕ) → None ≡ position (λ b. b == 10) (take (length behind - start) (drop start behind)) → short_lines (drop start behind) ≡ []
no_next_line behind start found = ap (λ (parts : List (List ℕ) × List ℕ). map Some parts.0) (no_line (drop start behind) (found ∙ ap (position (λ b. b == 10)) (rest_is behind start)))
