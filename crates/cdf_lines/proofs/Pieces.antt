-- Whatever the pieces, the lines are those of their bytes joined.
use Rattle.std.proofs.Common.{◌≡◌, ℕ, true, false, cond, List, [], ◌∷◌, ◌++◌, map, length, length-append, append_assoc, append-nil, refl, sym, ◌∙◌, ap, arith}
use Rattle.std.proofs.lemmas.List.{map-append}
use Rattle.std.proofs.lemmas.Bool.Decides.{nat_tests}
use Rattle.std.specs.Prelude.{◌==◌, nat_le, Some, None}
use Rattle.std.specs.declared.option.Option.{Option}
use Rattle.cdf_model.specs.Limits.{line_limit}
use Rattle.cdf_model.proofs.LinesOf.{in_front, split-cons}
use Rattle.cdf_model.specs.Lines.{split, last_line, kept, whole_lines, lines}
use Rattle.cdf_lines.specs.Pending.{Pending, grown, lines_ended, rest_left, new_lines, new_rest, fed, last_of}

-- the parts of a text behind those of another
abbrev behind : List (List ℕ) → List ℕ → List (List ℕ) → List ℕ → List (List ℕ) × List ℕ
behind ls rest [] more = (ls, rest ++ more)
behind ls rest (m ∷ ms) more = (ls ++ (rest ++ m) ∷ ms, more)

behind-nothing : (ms : List (List ℕ)) (more : List ℕ) → (ms, more) ≡ behind [] [] ms more
behind-nothing [] more = refl
behind-nothing (m ∷ ms) more = refl

behind-newline : (ls : List (List ℕ)) (rest : List ℕ) (ms : List (List ℕ)) (more : List ℕ) → ([] ∷ (behind ls rest ms more).0, (behind ls rest ms more).1) ≡ behind ([] ∷ ls) rest ms more
behind-newline ls rest [] more = refl
behind-newline ls rest (m ∷ ms) more = refl

behind-in_front : (b : ℕ) (ls : List (List ℕ)) (rest : List ℕ) (ms : List (List ℕ)) (more : List ℕ) → in_front b (behind ls rest ms more).0 (behind ls rest ms more).1 ≡ behind (in_front b ls rest).0 (in_front b ls rest).1 ms more
behind-in_front b [] rest [] more = refl
behind-in_front b [] rest (m ∷ ms) more = refl
behind-in_front b (l ∷ ls) rest [] more = refl
behind-in_front b (l ∷ ls) rest (m ∷ ms) more = refl

pub split-append : (a b : List ℕ) → split (a ++ b) ≡ behind (split a).0 (split a).1 (split b).0 (split b).1
split-append [] b = behind-nothing (split b).0 (split b).1
split-append (x ∷ a) b =
    split-cons x (a ++ b)
    ∙ rw (split-append a b) (elim (x == 10) as (λ t. cond t ([] ∷ (behind (split a).0 (split a).1 (split b).0 (split b).1).0, (behind (split a).0 (split a).1 (split b).0 (split b).1).1) (in_front x (behind (split a).0 (split a).1 (split b).0 (split b).1).0 (behind (split a).0 (split a).1 (split b).0 (split b).1).1) ≡ behind (cond t ([] ∷ (split a).0, (split a).1) (in_front x (split a).0 (split a).1)).0 (cond t ([] ∷ (split a).0, (split a).1) (in_front x (split a).0 (split a).1)).1 (split b).0 (split b).1) [
      | true ↦ behind-newline (split a).0 (split a).1 (split b).0 (split b).1
      | false ↦ behind-in_front x (split a).0 (split a).1 (split b).0 (split b).1
    ])
    ∙ sym (ap (λ (parts : List (List ℕ) × List ℕ). behind parts.0 parts.1 (split b).0 (split b).1) (split-cons x a))

behind-whole : (ls ms : List (List ℕ)) (more : List ℕ) → behind ls [] ms more ≡ (ls ++ ms, more)
behind-whole ls [] more = λ i. (sym (append-nil ls) i, more)
behind-whole ls (m ∷ ms) more = refl

-- the parts of a text behind whole lines
pub split-whole : (a b : List ℕ) → (split a).1 ≡ [] → split (a ++ b) ≡ ((split a).0 ++ (split b).0, (split b).1)
split-whole a b ends = split-append a b ∙ ap (λ (rest : List ℕ). behind (split a).0 rest (split b).0 (split b).1) ends ∙ behind-whole (split a).0 (split b).0 (split b).1

-- a line that is too long stays so
grown-kept : (line more : List ℕ) → grown (kept line) more ≡ kept (line ++ more)
grown-kept line more = elim (nat_le (length line) line_limit) as (λ t. nat_le (length line) line_limit ≡ t → grown (cond t (Some line) None) more ≡ kept (line ++ more)) [
  | true ↦ λ fits. refl
  | false ↦ λ long. let longer : nat_le (length (line ++ more)) line_limit ≡ false = grind (arith, nat_tests, length-append {A = ℕ}) in rw longer
] refl

grown-append : (rest : Option (List ℕ)) (a b : List ℕ) → grown (grown rest a) b ≡ grown rest (a ++ b)
grown-append None a b = refl
grown-append (Some line) a b = grown-kept (line ++ a) b ∙ ap kept (append_assoc line a b)

module _ (rest : Option (List ℕ)) where
  -- the lines that end in one text and in another behind it
  lines_behind : (ls : List (List ℕ)) (left : List ℕ) (ms : List (List ℕ)) (more : List ℕ) → lines_ended rest (behind ls left ms more).0 ≡ lines_ended rest ls ++ lines_ended (rest_left rest ls left) ms
  lines_behind [] left [] more = refl
  lines_behind [] left (m ∷ ms) more = ap (λ (l : Option (List ℕ)). l ∷ map kept ms) (sym (grown-append rest left m))
  lines_behind (l ∷ ls) left [] more = sym (append-nil _)
  lines_behind (l ∷ ls) left (m ∷ ms) more = ap (λ (k : List (Option (List ℕ))). grown rest l ∷ k) (map-append kept ls ((left ++ m) ∷ ms) ∙ ap (λ (k : Option (List ℕ)). map kept ls ++ k ∷ map kept ms) (sym (grown-kept left m)))

  rest_behind : (ls : List (List ℕ)) (left : List ℕ) (ms : List (List ℕ)) (more : List ℕ) → rest_left rest (behind ls left ms more).0 (behind ls left ms more).1 ≡ rest_left (rest_left rest ls left) ms more
  rest_behind [] left [] more = sym (grown-append rest left more)
  rest_behind [] left (m ∷ ms) more = refl
  rest_behind (l ∷ ls) left [] more = sym (grown-kept left more)
  rest_behind (l ∷ ls) left (m ∷ ms) more = refl

  new_lines-append : (a b : List ℕ) → new_lines rest (a ++ b) ≡ new_lines rest a ++ new_lines (new_rest rest a) b
  new_lines-append a b = rw (split-append a b) (lines_behind (split a).0 (split a).1 (split b).0 (split b).1)

  new_rest-append : (a b : List ℕ) → new_rest rest (a ++ b) ≡ new_rest (new_rest rest a) b
  new_rest-append a b = rw (split-append a b) (rest_behind (split a).0 (split a).1 (split b).0 (split b).1)

-- two pieces are as their bytes joined
pub fed-append : (p : Pending) (a b : List ℕ) → fed (fed p a) b ≡ fed p (a ++ b)
fed-append p a b = λ i. record p {
  ready = (append_assoc p.ready (new_lines p.rest a) (new_lines (new_rest p.rest a) b) ∙ ap (λ (l : List (Option (List ℕ))). p.ready ++ l) (sym (new_lines-append p.rest a b))) i;
  rest = sym (new_rest-append p.rest a b) i;
}

-- before the first piece nothing waits
lines_at_start : (ls : List (List ℕ)) → lines_ended (Some []) ls ≡ map kept ls
lines_at_start [] = refl
lines_at_start (l ∷ ls) = refl

rest_at_start : (ls : List (List ℕ)) (rest : List ℕ) → rest_left (Some []) ls rest ≡ kept rest
rest_at_start [] rest = refl
rest_at_start (l ∷ ls) rest = refl

-- a further piece ends its lines
pub whole_lines-append : (taken piece : List ℕ) → whole_lines (taken ++ piece) ≡ whole_lines taken ++ new_lines (kept (split taken).1) piece
whole_lines-append taken piece =
    sym (lines_at_start (split (taken ++ piece)).0)
    ∙ new_lines-append (Some []) taken piece
    ∙ (λ i. lines_at_start (split taken).0 i ++ new_lines (rest_at_start (split taken).0 (split taken).1 i) piece)

-- what has not ended after a further piece
pub rest-append : (taken piece : List ℕ) → kept (split (taken ++ piece)).1 ≡ new_rest (kept (split taken).1) piece
rest-append taken piece =
    sym (rest_at_start (split (taken ++ piece)).0 (split (taken ++ piece)).1)
    ∙ new_rest-append (Some []) taken piece
    ∙ ap (λ (rest : Option (List ℕ)). new_rest rest piece) (rest_at_start (split taken).0 (split taken).1)

pub kept-last_line : (rest : List ℕ) → map kept (last_line rest) ≡ last_of (kept rest)
kept-last_line [] = refl
kept-last_line (b ∷ rest) = elim (nat_le (length (b ∷ rest)) line_limit) as (λ t. cond t (Some (b ∷ rest)) None ∷ [] ≡ last_of (cond t (Some (b ∷ rest)) None)) [ true ↦ refl | false ↦ refl ]

-- all lines of a text: those that a newline ends, and what stands after the last newline
pub lines-split : (text : List ℕ) → lines text ≡ whole_lines text ++ last_of (kept (split text).1)
lines-split text = map-append kept (split text).0 (last_line (split text).1) ∙ ap (λ (ls : List (Option (List ℕ))). whole_lines text ++ ls) (kept-last_line (split text).1)
