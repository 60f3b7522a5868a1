-- A field that is read from a piece of the bytes.
use Rattle.std.proofs.Common.{◌≡◌, ℕ, zero, suc, ◌+◌, ◌≤◌, List, take, drop, slice_index, refl, ◌∙◌, ap, arith}
use Rattle.cdf_format.proofs.Common.{get_or-take, get_or-drop, word}

pub word-piece : (b : List ℕ) (place i n m : ℕ) → i + n ≤ m → word (take m (drop place b)) i n ≡ word b (place + i) n
word-piece b place i zero m le = refl
word-piece b place i (suc n) m le =
    let first : slice_index (take m (drop place b)) i ≡ slice_index b (place + i) = get_or-take m (drop place b) i 0 (omega arith) ∙ get_or-drop place b i 0 in
    let next : place + suc i ≡ suc (place + i) = omega arith in
    let others : word (take m (drop place b)) (suc i) n ≡ word b (suc (place + i)) n = word-piece b place (suc i) n m (omega arith) ∙ ap (λ (k : ℕ). word b k n) next in
    rw (first, others) refl

pub word_of_piece_lem : (b : List ℕ) (place n : ℕ) → word (take n (drop place b)) 0 n ≡ word b place n
word_of_piece_lem b place n =
    let same : place + 0 ≡ place = omega arith in
    word-piece b place 0 n n (omega arith) ∙ ap (λ (k : ℕ). word b k n) same
