-- Where a column of a node is cut in two: the numbers below a bound, and the others.
use Rattle.cdf_index.proofs.Common.{Ascends, IsCut, List, arith, in_column, suc, zero, ℕ, ◌+◌, ◌-◌, ◌<◌, ◌≡◌, ◌≤◌}

-- a number of a column is at most a later one
climbs : (b : List ℕ) (at field used : ℕ) → Ascends b at field used → (i n : ℕ) → i + n < used → in_column b at field i ≤ in_column b at field (i + n)
climbs b at field used a i zero lt = let z : i + 0 ≡ i = omega arith in rw z (omega arith)
climbs b at field used a i (suc n) lt = let z : i + n + 1 ≡ i + suc n = omega arith in omega (arith, climbs b at field used a i n (omega arith), rw z at (a (i + n) (omega arith)))

-- where the last number before a place is below a bound, and the one there is not, the column is cut there
pub is_cut : (b : List ℕ) (at field used bound i : ℕ) → Ascends b at field used → ((j : ℕ) → j + 1 ≡ i → in_column b at field j < bound) → i ≤ used → (i < used → bound ≤ in_column b at field i) → IsCut b at field used bound i
is_cut b at field used bound i a last most stop = record { before = λ j lt. omega (arith, climbs b at field used a j (i - 1 - j) (omega arith), last (j + (i - 1 - j)) (omega arith)); most = most; stop = stop }
