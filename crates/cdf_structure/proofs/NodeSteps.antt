-- Nodes and entries of an index, as they are read. A byte behind the image counts as 0.
use Rattle.cdf_structure.proofs.Common.{List, arith, min, slice_index, suc, word, ℕ, ◌*◌, ◌+◌, ◌-◌, ◌/◌, ◌<◌, ◌≡◌, ◌≤◌}

-- the entries that are used lie in their record
pub used_lies : (used room size i : ℕ) → 28 ≤ size → i < min used (min room ((size - 28) / 16)) → 28 + 16 * i + 16 ≤ size
used_lies used room size i long lt = omega (arith, lt)

pub used_few : (used room size i : ℕ) → i < min used (min room ((size - 28) / 16)) → (i < used) × (i < room)
used_few used room size i lt = (omega (arith, lt), omega (arith, lt))

-- 4 bytes, one after the other
pub four_bytes : (b : List ℕ) (at first second third fourth : ℕ) → first ≡ slice_index b at → second ≡ slice_index b (at + 1) → third ≡ slice_index b (at + 2) → fourth ≡ slice_index b (at + 3)
    → first * 0x1000000 + second * 0x10000 + third * 0x100 + fourth ≡ word b at 4
four_bytes b at first second third fourth p q r s =
    let one : at + 1 ≡ suc at = omega arith in
    let two : at + 2 ≡ suc (suc at) = omega arith in
    let three : at + 3 ≡ suc (suc (suc at)) = omega arith in
    let p1 = rw one at q in
    let p2 = rw two at r in
    let p3 = rw three at s in
    omega (arith, p, p1, p2, p3)

pub eight_bytes : (b : List ℕ) (at high low : ℕ) → high ≡ word b at 4 → low ≡ word b (at + 4) 4 → high * 0x100000000 + low ≡ word b at 8
eight_bytes b at high low p q =
    let four : at + 4 ≡ suc (suc (suc (suc at))) = omega arith in
    let rest = rw four at q in
    omega (arith, p, rest)
