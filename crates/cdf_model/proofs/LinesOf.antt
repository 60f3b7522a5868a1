-- The lines of a text, each with its newline, are the text.
use Rattle.std.proofs.Common.{◌≡◌, ℕ, Bool, true, false, List, [], ◌∷◌, if◌then◌else◌, refl, sym, ◌∙◌, ap, subst, inl, inr, arith}
use Rattle.std.proofs.lemmas.Bool.{cases_eq, cond_both}
use Rattle.std.proofs.lemmas.Bool.Decides.{nat_tests}
use Rattle.std.specs.Prelude.{⊤, ◌==◌}
use Rattle.std.specs.List.{list_all, onto_first, slice_split}
use Rattle.cdf_model.specs.Lines.{parted, split, joined, is_one_line}

-- a byte in front of lines that are ended and of one that is not
abbrev pub in_front : ℕ → List (List ℕ) → List ℕ → List (List ℕ) × List ℕ
in_front b [] rest = ([], b ∷ rest)
in_front b (line ∷ lines) rest = ((b ∷ line) ∷ lines, rest)

-- there is a piece
abbrev AreSome : List (List ℕ) → Type 0
AreSome [] = ⊥
AreSome (piece ∷ more) = ⊤

AreSome-pieces : (text : List ℕ) → AreSome (slice_split (λ b. b == 10) text)
AreSome-pieces [] = tt
AreSome-pieces (b ∷ text) = cond_both (b == 10) _ _ AreSome (λ newline. tt) (λ other. longer (slice_split (λ c. c == 10) text)) where
  longer : (pieces : List (List ℕ)) → AreSome (onto_first b pieces)
  longer [] = tt
  longer (piece ∷ more) = tt

-- what is split from a byte on: it ends a line, or stands in front of what is split behind it
pub split-cons : (b : ℕ) (text : List ℕ) → split (b ∷ text) ≡ (if b == 10 then ([] ∷ (split text).0, (split text).1) else in_front b (split text).0 (split text).1)
split-cons b text = by_pieces (b == 10) (slice_split (λ c. c == 10) text) (AreSome-pieces text) where
  by_pieces : (newline : Bool) (pieces : List (List ℕ)) → AreSome pieces
      → parted (if newline then ([] ∷ pieces) else (onto_first b pieces)) ≡ (if newline then ([] ∷ (parted pieces).0, (parted pieces).1) else in_front b (parted pieces).0 (parted pieces).1)
  by_pieces newline [] some = absurd some
  by_pieces true (piece ∷ more) some = refl
  by_pieces false (piece ∷ []) some = refl
  by_pieces false (piece ∷ next ∷ more) some = refl

joined-in_front : (b : ℕ) (ls : List (List ℕ)) (rest : List ℕ) → joined (in_front b ls rest).0 (in_front b ls rest).1 ≡ b ∷ joined ls rest
joined-in_front b [] rest = refl
joined-in_front b (l ∷ ls) rest = refl

pub joined-split : (text : List ℕ) → joined (split text).0 (split text).1 ≡ text
joined-split [] = refl
joined-split (b ∷ text) = subst (λ s. joined s.0 s.1 ≡ b ∷ text) (sym (split-cons b text)) (elim (cases_eq b 10) [
  | inl newline ↦
      let test : (b == 10) ≡ true = grind (arith, nat_tests) in
      rw test (ap (λ (l : List ℕ). 10 ∷ l) (joined-split text) ∙ (λ i. sym newline i ∷ text))
  | inr other ↦
      let test : (b == 10) ≡ false = grind (arith, nat_tests) in
      rw test (joined-in_front b (split text).0 (split text).1 ∙ ap (λ (l : List ℕ). b ∷ l) (joined-split text))
])

-- a byte that is no newline, in front of lines without one
one_line-in_front : (b : ℕ) (ls : List (List ℕ)) (rest : List ℕ) → (b == 10) ≡ false → list_all is_one_line ls ≡ true → list_all is_one_line (in_front b ls rest).0 ≡ true
one_line-in_front b [] rest other one = refl
one_line-in_front b (l ∷ ls) rest other one = rw other one

one_rest-in_front : (b : ℕ) (ls : List (List ℕ)) (rest : List ℕ) → (b == 10) ≡ false → is_one_line rest ≡ true → is_one_line (in_front b ls rest).1 ≡ true
one_rest-in_front b [] rest other one = rw other one
one_rest-in_front b (l ∷ ls) rest other one = one

pub one_line-split : (text : List ℕ) → list_all is_one_line (split text).0 ≡ true
one_line-split [] = refl
one_line-split (b ∷ text) = subst (λ s. list_all is_one_line s.0 ≡ true) (sym (split-cons b text)) (elim (cases_eq b 10) [
  | inl newline ↦
      let test : (b == 10) ≡ true = grind (arith, nat_tests) in
      rw test (one_line-split text)
  | inr other ↦
      let test : (b == 10) ≡ false = grind (arith, nat_tests) in
      rw test (one_line-in_front b (split text).0 (split text).1 test (one_line-split text))
])

pub one_rest-split : (text : List ℕ) → is_one_line (split text).1 ≡ true
one_rest-split [] = refl
one_rest-split (b ∷ text) = subst (λ s. is_one_line s.1 ≡ true) (sym (split-cons b text)) (elim (cases_eq b 10) [
  | inl newline ↦
      let test : (b == 10) ≡ true = grind (arith, nat_tests) in
      rw test (one_rest-split text)
  | inr other ↦
      let test : (b == 10) ≡ false = grind (arith, nat_tests) in
      rw test (one_rest-in_front b (split text).0 (split text).1 test (one_rest-split text))
])
