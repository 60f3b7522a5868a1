-- A reader that is read up to a limit.
use Rattle.std.proofs.Common.{◌≡◌, ℕ, ◌+◌, ◌≤◌, List, [], ◌++◌, append-nil, length, take, Option, None, Some, IfSome, sym, ◌∙◌, ap, arith}
use Rattle.std.proofs.lemmas.List.{take_all, take-append-le}
use Rattle.std.specs.Io.KnownBytes.{Consumes, IsAtEnd}

-- these bytes were read, and so many more may be
abbrev pub ReadSoFar : Option (List ℕ) → Option (List ℕ) → List ℕ → List ℕ → ℕ → ℕ → Type 0
ReadSoFar old now before bytes room limit = (got : List ℕ) × Consumes old now got × (bytes ≡ before ++ got) × (length got + room ≡ limit)

take_exactly : (got rest : List ℕ) (limit : ℕ) → length got ≡ limit → take limit (got ++ rest) ≡ got
take_exactly got rest limit size = take-append-le limit got rest (omega arith) ∙ take_all limit got (omega arith)

-- as many bytes as the limit has were read
pub read_to_limit : (old new : Option (List ℕ)) (before bytes : List ℕ) (room limit : ℕ) → ReadSoFar old new before bytes room limit → room ≤ 0
    → IfSome old (λ left. bytes ≡ before ++ take limit left)
read_to_limit None new before bytes room limit so_far full = tt
read_to_limit (Some left) None before bytes room limit (got, p, is, size) full = absurd p
read_to_limit (Some left) (Some rest) before bytes room limit (got, p, is, size) full =
    is ∙ ap (λ (l : List ℕ). before ++ l) (sym (ap (take limit) p ∙ take_exactly got rest limit (omega arith)))

-- the reader has no more bytes
pub read_to_end : (old mid new : Option (List ℕ)) (before bytes more : List ℕ) (room limit : ℕ) → ReadSoFar old mid before bytes room limit → Consumes mid new more → more ≡ [] → IsAtEnd new
    → IfSome old (λ left. bytes ≡ before ++ take limit left)
read_to_end None mid new before bytes more room limit so_far q none e = tt
read_to_end (Some left) None new before bytes more room limit (got, p, is, size) q none e = absurd p
read_to_end (Some left) (Some rest) None before bytes more room limit so_far q none e = absurd q
read_to_end (Some left) (Some rest) (Some end) before bytes more room limit (got, p, is, size) q none e =
    let no_rest : rest ≡ [] = q ∙ ap (λ (l : List ℕ). l ++ end) none ∙ e in
    let all : left ≡ got = p ∙ ap (λ (l : List ℕ). got ++ l) no_rest ∙ append-nil got in
    is ∙ ap (λ (l : List ℕ). before ++ l) (sym (ap (take limit) all ∙ take_all limit got (omega arith)))
