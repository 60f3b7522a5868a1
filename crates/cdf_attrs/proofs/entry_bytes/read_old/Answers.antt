use Rattle.cdf_attrs.proofs.Common.{AreBytes, List, ap, arith, cast_signed, cast_unsigned, of_z-to_z, read_done, read_once, word, word4_fits, ℕ, ℤ, ◌+◌, ◌∙◌, ◌≡◌, ◌≤◌}
use Rattle.std.proofs.Common.{w32}
use Rattle.cdf_records.specs.declared.aedr.Aedr.{Aedr}
use Rattle.cdf_attrs.proofs.entry_bytes.read_old.Goals as goal

-- a number without a sign, by the one with a sign that was read
back : {n : ℕ} {z : ℤ} {b : List ℕ} {place : ℕ} (at : ℕ) → n ≡ cast_unsigned w32 (cast_signed w32 (cast_unsigned w32 z)) → z ≡ cast_signed w32 (word b (place + at) 4) → AreBytes b place 56 → at + 4 ≤ 56 → n ≡ word b (place + at) 4
back {b = b} {place = place} at e f bytes fits =
    let once = of_z-to_z w32 (word b (place + at) 4) (word4_fits b place 56 (place + at) bytes (omega arith) (omega arith)) in
    e ∙ ap (λ (x : ℤ). cast_unsigned w32 (cast_signed w32 (cast_unsigned w32 x))) f ∙ ap (λ (m : ℕ). cast_unsigned w32 (cast_signed w32 m)) once ∙ once

pub returns-clause-reserved : goal.returns-clause-reserved
returns-clause-reserved g c =
    let head = c.in_ok-head.ensures.value in
    let one = back 40 c.cast_unsigned.ensures (ap (λ (h : Aedr). h.rfu_b) head) c.in_ok-head.ensures.bytes (omega arith) in
    let two = back 44 c.cast_unsigned-2.ensures (ap (λ (h : Aedr). h.rfu_c) head) c.in_ok-head.ensures.bytes (omega arith) in
    let three = back 48 c.cast_unsigned-3.ensures (ap (λ (h : Aedr). h.rfu_d) head) c.in_ok-head.ensures.bytes (omega arith) in
    let four = back 52 c.cast_unsigned-4.ensures (ap (λ (h : Aedr). h.rfu_e) head) c.in_ok-head.ensures.bytes (omega arith) in
    λ i. record { b = one i; c = two i; d = three i; e = four i }

pub returns-clause-area : goal.returns-clause-area
returns-clause-area g c = read_done (read_once c.in_ok-head.ensures.area)
