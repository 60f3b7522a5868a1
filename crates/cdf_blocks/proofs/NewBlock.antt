-- A new record of a block: what it has, and that it has it as long as it stays.
use Rattle.std.proofs.Common.{Bool, List, [], ap, append_assoc, arith, drop, false, length, length-append, max, refl, replicate, suc, sym, take, true, zero, ℕ, ◌+◌, ◌-◌, ◌<◌, ◌∙◌, ◌++◌, ◌∷◌, ◌≡◌, ◌≤◌}
use Rattle.std.specs.Prelude.{get_or}
use Rattle.std.proofs.lemmas.List.{length-replicate, take_at}
use Rattle.cdf_edits.proofs.Common.{Field, IsBody, Same-part, byte, get_or-drop, image_limit, laid_out, number, size_at, type_of_body, uir_type}
use Rattle.cdf_edits.proofs.Edits.Common.{Kept, apart}
use Rattle.cdf_edits.proofs.Space.LaidOut.{IsType, laid_kept, placed_laid, typed_body, value_laid}
use Rattle.cdf_edits.specs.Space.Placing.{Placed}
use Rattle.cdf_format.specs.Fields.{counted, integer8}
use Rattle.cdf_format.specs.Records.{cvvr_c_size, cvvr_rfu_a, record_type}
use Rattle.std.proofs.lemmas.Int.{to_z_pos}
use Rattle.std.specs.Int.{cast_signed, w64}
use Rattle.cdf_blocks.specs.Blocks.{Holds, block_body, spared, stored_body, stored_end, type_of_block}

-- ---- how long it is

length-spared : (xs : List ℕ) → length (spared xs) ≡ max 20 (length xs)
length-spared xs = length-append xs (replicate (20 - length xs) 0) ∙ omega (arith, length-replicate {A = ℕ} (20 - length xs) 0)

pub body_long : (packed : Bool) (bytes : List ℕ) → 8 + length (block_body packed bytes) ≡ max 28 (stored_end packed (length bytes))
body_long true bytes = let e = length-spared (stored_body bytes true) in omega (arith, e, length-append (laid_out ((record_type, 13) ∷ (cvvr_rfu_a, 0) ∷ (cvvr_c_size, length bytes) ∷ [])) bytes)
body_long false bytes = let e = length-spared (stored_body bytes false) in omega (arith, e, length-append (laid_out ((record_type, 7) ∷ [])) bytes)

-- the bytes are no longer than the record
pub bytes_short : (packed : Bool) (bytes : List ℕ) (n : ℕ) → 8 + length (block_body packed bytes) ≤ n → length bytes ≤ n
bytes_short true bytes n le = omega (arith, body_long true bytes, le)
bytes_short false bytes n le = omega (arith, body_long false bytes, le)

-- ---- it makes a record

is_vvr : IsType 7 28
is_vvr = record { small = omega arith; real = refl; in_use = apart 7 uir_type refl; fixed = omega arith; enough = omega arith }

is_cvvr : IsType 13 28
is_cvvr = record { small = omega arith; real = refl; in_use = apart 13 uir_type refl; fixed = omega arith; enough = omega arith }

pub body_is : (packed : Bool) (bytes : List ℕ) → (type_of_body (block_body packed bytes) ≡ type_of_block packed) × IsBody (block_body packed bytes)
body_is true bytes = typed_body ((cvvr_rfu_a, 0) ∷ (cvvr_c_size, length bytes) ∷ []) (bytes ++ replicate (20 - length (stored_body bytes true)) 0) (block_body true bytes) is_cvvr (append_assoc (laid_out ((record_type, 13) ∷ (cvvr_rfu_a, 0) ∷ (cvvr_c_size, length bytes) ∷ [])) bytes _) (omega (arith, body_long true bytes))
body_is false bytes = typed_body [] (bytes ++ replicate (20 - length (stored_body bytes false)) 0) (block_body false bytes) is_vvr (append_assoc (laid_out ((record_type, 7) ∷ [])) bytes _) (omega (arith, body_long false bytes))

-- ---- its bytes

zeros_at : (k : ℕ) (more : List ℕ) (j : ℕ) → j < k → get_or (replicate k 0 ++ more) j 0 ≡ 0
zeros_at zero more j lt = absurd (omega arith)
zeros_at (suc k) more zero lt = refl
zeros_at (suc k) more (suc j) lt = zeros_at k more j (omega arith)

zero_at : (xs : List ℕ) (k : ℕ) (more : List ℕ) (j : ℕ) → length xs ≤ j → j < length xs + k → get_or ((xs ++ replicate k 0) ++ more) j 0 ≡ 0
zero_at [] k more j le lt = zeros_at k more j (omega arith)
zero_at (x ∷ xs) k more zero le lt = absurd (omega arith)
zero_at (x ∷ xs) k more (suc j) le lt = zero_at xs k more j (omega arith) (omega arith)

-- what a record of a block has that was taken for it
pub record NewBlock (now : List ℕ) (place : ℕ) (packed : Bool) (bytes : List ℕ) : Type 0 where
  pub holds : Holds now place bytes packed
  pub spare : (i : ℕ) → stored_end packed (length bytes) ≤ i → i < max 28 (stored_end packed (length bytes)) → byte now (place + i) ≡ 0
  pub reserved : packed ≡ true → number now place cvvr_rfu_a ≡ 0

-- behind its type there stand these, and then bytes 0
spare_of : (now : List ℕ) (place n : ℕ) (xs more : List ℕ) → drop (place + 12) now ≡ (xs ++ replicate n 0) ++ more → (i : ℕ) → 12 + length xs ≤ i → i < 12 + length xs + n → byte now (place + i) ≡ 0
spare_of now place n xs more e i le lt =
    let to : (place + 12) + (i - 12) ≡ place + i = omega arith in
    ap (λ (p : ℕ). get_or now p 0) (sym to) ∙ sym (get_or-drop (place + 12) now (i - 12) 0) ∙ ap (λ (ys : List ℕ). get_or ys (i - 12) 0) e ∙ zero_at xs n more (i - 12) (omega arith) (omega arith)

-- rfuA and cSize
abbrev fields_of : ℕ → List (Field × ℕ)
fields_of n = (cvvr_rfu_a, 0) ∷ (cvvr_c_size, n) ∷ []

module _ {b filled now : List ℕ} {place : ℕ} (bytes : List ℕ) (short : length bytes ≤ image_limit) where
  packed_now : Placed b filled (block_body true bytes) place → Kept filled now place → size_at filled place ≡ 8 + length (block_body true bytes) → length filled ≤ length now → NewBlock now place true bytes
  packed_now p k size longer =
      let fields = fields_of (length bytes) in
      let n = 20 - length (stored_body bytes true) in
      let xs = laid_out fields ++ bytes in
      let zs = replicate n 0 in
      let there = placed_laid (laid_out ((record_type, 13) ∷ [])) (xs ++ zs) 12 refl p (ap (λ (ys : List ℕ). ys ++ zs) (append_assoc (laid_out ((record_type, 13) ∷ [])) (laid_out fields) bytes) ∙ append_assoc (laid_out ((record_type, 13) ∷ [])) xs zs) in
      let long : length xs ≡ 12 + length bytes = length-append (laid_out fields) bytes in
      let many : length (stored_body bytes true) ≡ 16 + length bytes = length-append (laid_out ((record_type, 13) ∷ fields)) bytes in
      let all : length (xs ++ zs) ≡ length xs + n = length-append xs zs ∙ ap (λ (m : ℕ). length xs + m) (length-replicate {A = ℕ} n 0) in
      let whole = body_long true bytes in
      let laid = laid_kept filled now (place + 12) (place + size_at filled place) (xs ++ zs) there.0 there.1 (Same-part filled now place (place + size_at filled place) (place + 12) (place + size_at filled place) k.same (omega arith) (omega arith)) (omega (arith, all, long, size, whole, many)) k.inside longer in
      let more = drop (length (xs ++ zs)) (drop (place + 12) now) in
      let w = value_laid now place 12 fields bytes (zs ++ more) (laid ∙ append_assoc xs zs more) refl (omega arith, (omega (arith, short), tt)) in
      let small : length bytes < 9223372036854775808 = omega (arith, short) in
      let count : counted (integer8 now place cvvr_c_size) ≡ length bytes = ap (λ (m : ℕ). counted (cast_signed w64 m)) w.0.1.0 ∙ ap counted (to_z_pos w64 (length bytes) small) in
      record {
        holds = (w.0.1.0, ap (λ (m : ℕ). take m (drop (place + 24) now)) count ∙ w.1);
        spare = λ i le lt. spare_of now place n xs more laid i (omega (arith, long, le)) (omega (arith, long, lt, many));
        reserved = λ e. w.0.0;
      }

  plain_now : Placed b filled (block_body false bytes) place → Kept filled now place → size_at filled place ≡ 8 + length (block_body false bytes) → length filled ≤ length now → NewBlock now place false bytes
  plain_now p k size longer =
      let n = 20 - length (stored_body bytes false) in
      let zs = replicate n 0 in
      let there = placed_laid (laid_out ((record_type, 7) ∷ [])) (bytes ++ zs) 12 refl p (append_assoc (laid_out ((record_type, 7) ∷ [])) bytes zs) in
      let many : length (stored_body bytes false) ≡ 4 + length bytes = length-append (laid_out ((record_type, 7) ∷ [])) bytes in
      let all : length (bytes ++ zs) ≡ length bytes + n = length-append bytes zs ∙ ap (λ (m : ℕ). length bytes + m) (length-replicate {A = ℕ} n 0) in
      let whole = body_long false bytes in
      let laid = laid_kept filled now (place + 12) (place + size_at filled place) (bytes ++ zs) there.0 there.1 (Same-part filled now place (place + size_at filled place) (place + 12) (place + size_at filled place) k.same (omega arith) (omega arith)) (omega (arith, all, size, whole, many)) k.inside longer in
      let more = drop (length (bytes ++ zs)) (drop (place + 12) now) in
      record {
        holds = ap (take (length bytes)) (laid ∙ append_assoc bytes zs more) ∙ take_at bytes (zs ++ more) (length bytes) refl;
        spare = λ i le lt. spare_of now place n bytes more laid i le (omega (arith, lt, many));
        reserved = λ e. absurd cc;
      }

  pub block_now : (packed : Bool) → Placed b filled (block_body packed bytes) place → Kept filled now place → size_at filled place ≡ 8 + length (block_body packed bytes) → length filled ≤ length now → NewBlock now place packed bytes
  block_now true = packed_now
  block_now false = plain_now
