-- The pieces of plain bytes that are records: of those that are put, and of a block into which they are written.
use Rattle.cdf_base.proofs.Puts.{byte-put_after, byte-put_before, length-put}
use Rattle.cdf_base.specs.Bytes.{put}
use Rattle.cdf_edits.proofs.Common.{List, Same, ap, arith, drop, is_little, length, length-append, pad_record, piece_kept, suc, sym, turned, either, inl, inr, zero, ℕ, ◌*◌, ◌++◌, ◌+◌, ◌-◌, ◌<◌, ◌==◌, ◌∙◌, ◌≡◌, ◌≤◌, ◌⊎◌}
use Rattle.cdf_edits.proofs.Edits.LeafPieces.{times_le}
use Rattle.cdf_edits.specs.Commands.PutSteps.{Put, records_from}
use Rattle.cdf_fields.proofs.Writes.{drop-put_there}
use Rattle.std.proofs.Common.{if◌then◌else◌, take}
use Rattle.std.proofs.lemmas.List.{drop-append-le, drop-drop, drop_at, length-drop, take-append-le, take_at}

-- the bytes of a record by its number in a block
abbrev pub piece : ℕ → ℕ → List ℕ → List ℕ
piece size j xs = take size (drop (j * size) xs)

-- ---- bytes written over others

module _ (xs ys : List ℕ) (at : ℕ) (fits : at + length ys ≤ length xs) where
  inside_put : (o size : ℕ) → o + size ≤ length ys → take size (drop (at + o) (put xs at ys)) ≡ take size (drop o ys)
  inside_put o size le =
      let there : drop (at + o) (put xs at ys) ≡ drop o (ys ++ drop (at + length ys) xs) = sym (drop-drop o at (put xs at ys)) ∙ ap (drop o) (drop-put_there xs ys at (omega arith)) in
      ap (take size) (there ∙ drop-append-le o ys (drop (at + length ys) xs) (omega arith)) ∙ take-append-le size (drop o ys) (drop (at + length ys) xs) (omega (arith, length-drop o ys))

  before_put : (place size : ℕ) → place + size ≤ at → take size (drop place (put xs at ys)) ≡ take size (drop place xs)
  before_put place size le =
      let same : Same xs (put xs at ys) 0 at = record { each = λ p low high. byte-put_before xs at ys p (omega arith) high } in
      piece_kept xs (put xs at ys) 0 at same place size (omega arith) le (omega arith) (omega (arith, length-put xs at ys fits))

  after_put : (place size : ℕ) → at + length ys ≤ place → place + size ≤ length xs → take size (drop place (put xs at ys)) ≡ take size (drop place xs)
  after_put place size low le =
      let same : Same xs (put xs at ys) (at + length ys) (length xs) = record { each = λ p low high. byte-put_after xs at ys p (omega arith) low } in
      piece_kept xs (put xs at ys) (at + length ys) (length xs) same place size low le (omega arith) (omega (arith, length-put xs at ys fits))

-- records written over those of a block: so many, from one on
module _ (xs ys : List ℕ) (size most i c : ℕ) (long : length xs ≡ most * size) (long' : length ys ≡ c * size) (fits : i + c ≤ most) where
  all_fit : i * size + length ys ≤ length xs
  all_fit = let le = times_le (i + c) most size fits in omega (arith, long, long', le)

  pub piece_written : (j : ℕ) → i ≤ j → j < i + c → piece size j (put xs (i * size) ys) ≡ piece size (j - i) ys
  piece_written j low high =
      let at : j * size ≡ i * size + (j - i) * size = ap (λ (n : ℕ). n * size) (apart i j low) ∙ spread i (j - i) in
      let le = times_le (suc (j - i)) c size (omega arith) in
      ap (λ (n : ℕ). take size (drop n (put xs (i * size) ys))) at ∙ inside_put xs ys (i * size) all_fit ((j - i) * size) size (omega (arith, le, long'))
    where
      apart : (i j : ℕ) → i ≤ j → j ≡ i + (j - i)
      apart i j le = omega arith

      spread : (a b : ℕ) → (a + b) * size ≡ a * size + b * size
      spread a b = omega arith

  pub piece_beside : (j : ℕ) → (j < i) ⊎ (i + c ≤ j) → j < most → piece size j (put xs (i * size) ys) ≡ piece size j xs
  piece_beside j (inl lt) under = let le = times_le (suc j) i size (omega arith) in before_put xs ys (i * size) all_fit (j * size) size (omega (arith, le))
  piece_beside j (inr ge) under =
      let le = times_le (i + c) j size ge in
      let end = times_le (suc j) most size (omega arith) in
      after_put xs ys (i * size) all_fit (j * size) size (omega (arith, le, long')) (omega (arith, end, long))

-- ---- the records that are put

-- record k of those that are put
abbrev pub put_record : Put → List ℕ → ℕ → List ℕ
put_record p b k = if k == p.rec then p.raw else turned p.found.variable.type (is_little b) (pad_record p.found.variable)

module _ (p : Put) (b : List ℕ) (size : ℕ) (raw_long : length p.raw ≡ size) (pad_long : length (turned p.found.variable.type (is_little b) (pad_record p.found.variable)) ≡ size) where
  record_long : (k : ℕ) → length (put_record p b k) ≡ size
  record_long k = elim (either (k == p.rec)) [ inl e ↦ rw e raw_long | inr e ↦ rw e pad_long ]

  pub records_long : (k c : ℕ) → length (records_from p b k c) ≡ c * size
  records_long k zero = omega arith
  records_long k (suc c) = omega (arith, length-append (put_record p b k) (records_from p b (k + 1) c), record_long k, records_long (k + 1) c)

  pub piece_put : (k c j : ℕ) → j < c → piece size j (records_from p b k c) ≡ put_record p b (k + j)
  piece_put k zero j lt = absurd (omega arith)
  piece_put k (suc c) zero lt =
      let none : 0 * size ≡ 0 = omega arith in
      let same : k ≡ k + 0 = omega arith in
      ap (λ (n : ℕ). take size (drop n (records_from p b k (suc c)))) none ∙ take_at (put_record p b k) (records_from p b (k + 1) c) size (record_long k) ∙ ap (put_record p b) same
  piece_put k (suc c) (suc j) lt =
      let next : suc j * size ≡ size + j * size = omega arith in
      let same : (k + 1) + j ≡ k + suc j = omega arith in
      ap (λ (n : ℕ). take size (drop n (records_from p b k (suc c)))) next
      ∙ ap (take size) (sym (drop-drop (j * size) size (records_from p b k (suc c))) ∙ ap (drop (j * size)) (drop_at (put_record p b k) (records_from p b (k + 1) c) size (record_long k)))
      ∙ piece_put (k + 1) c j (omega arith) ∙ ap (put_record p b) same
