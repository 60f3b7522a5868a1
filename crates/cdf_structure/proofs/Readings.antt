-- Fields of a record and the bytes that are read for them.
use Rattle.cdf_structure.proofs.Common.{List, ap, arith, size_at, word, ℕ, ◌+◌, ◌≡◌}

-- the first field stands where the record does
pub first_word : (b : List ℕ) (place : ℕ) → size_at b place ≡ word b place 8
first_word b place =
    let same : place + 0 ≡ place = omega arith in
    ap (λ (at : ℕ). word b at 8) same
