-- How far packed bytes are read into a room.
use Rattle.std.proofs.Common.{◌≡◌, ◌∙◌, ℕ, suc, ◌+◌, ◌-◌, ◌<◌, ◌≤◌, List, [], ◌∷◌, ◌++◌, length, take, drop, replicate, get_or, true, false, ap, sym, inl, inr, arith, append_assoc, length-append, length-drop, length-take}
use Rattle.std.proofs.lemmas.List.{drop-drop, drop_all, drop_more, length-take-le, length-replicate}
use Rattle.std.proofs.lemmas.Slice.{take-put_mid}
use Rattle.std.proofs.lemmas.Bool.{cases_lt}
use Rattle.std.proofs.lemmas.Bool.Decides.{nat_tests}
use borrow.Rule.Slice.PartMut.{put_mid}
use Rattle.cdf_model.specs.RunLengths.{is_cut, plain_of}
use Rattle.cdf_rle.specs.Filling.{first_past, PassesEnd}
use Rattle.cdf_rle.specs.Stretches.{data_length}
use Rattle.cdf_rle.proofs.PackedLemmas.{unpacked_is}
use Rattle.cdf_rle.proofs.DataLemmas.{plain_of-data, is_cut-data, first_past-data, first_past-in_data}

-- The items before a place are read, and have filled so much of the room.
pub record IsRead (packed room : List ℕ) (place filled : ℕ) : Type 0 where
  pub within : place ≤ length packed
  pub fits : filled ≤ length room
  pub whole : is_cut (drop place packed) ≡ false
  pub plain : plain_of packed ≡ take filled room ++ plain_of (drop place packed)
  pub past : first_past packed (length room) ≡ place + first_past (drop place packed) (length room - filled)

-- Items from a place up to the next stand for these bytes.
record IsPiece (packed : List ℕ) (place next : ℕ) (bytes : List ℕ) : Type 0 where
  within : next ≤ length packed
  whole : is_cut (drop place packed) ≡ is_cut (drop next packed)
  plain : plain_of (drop place packed) ≡ bytes ++ plain_of (drop next packed)
  past : (room : ℕ) → length bytes ≤ room → place + first_past (drop place packed) room ≡ next + first_past (drop next packed) (room - length bytes)

length-put_mid : (room filling : List ℕ) (at n : ℕ) → length filling ≡ n → at + n ≤ length room → length (put_mid at n room filling) ≡ length room
length-put_mid room filling at n long within = simp (length-append, length-take, length-drop) (omega arith)

-- the bytes that a piece stands for are written behind the others
read_more : (packed room bytes : List ℕ) (place filled next n k : ℕ) → IsRead packed room place filled → IsPiece packed place next bytes
    → length bytes ≡ n → n ≤ length room - filled → k ≡ n → IsRead packed (put_mid filled k room bytes) next (filled + n)
read_more packed room bytes place filled next n k before piece count fits same =
    let long : length (put_mid filled k room bytes) ≡ length room = length-put_mid room bytes filled k (omega arith) (omega (arith, before.fits)) in
    record {
      within = piece.within;
      fits = omega (arith, before.fits);
      whole = sym piece.whole ∙ before.whole;
      plain =
          before.plain ∙ ap (λ (xs : List ℕ). take filled room ++ xs) piece.plain
          ∙ sym (append_assoc (take filled room) bytes (plain_of (drop next packed)))
          ∙ ap (λ (xs : List ℕ). xs ++ plain_of (drop next packed)) (sym (take-put_mid filled k room bytes (filled + n) (omega arith) before.fits));
      past =
          let left : length room - filled - length bytes ≡ length room - (filled + n) = omega arith in
          rw long (before.past ∙ piece.past (length room - filled) (omega arith) ∙ ap (λ (m : ℕ). next + first_past (drop next packed) m) left);
    }

piece-data : (packed : List ℕ) (place next : ℕ) → next ≡ place + data_length (drop place packed) → next ≤ length packed → IsPiece packed place next (take (next - place) (drop place packed))
piece-data packed place next ends within =
    let count : next - place ≡ data_length (drop place packed) = omega arith in
    let rest : drop (data_length (drop place packed)) (drop place packed) ≡ drop next packed = drop-drop _ _ packed ∙ ap (λ (n : ℕ). drop n packed) (sym ends) in
    let long : length (take (next - place) (drop place packed)) ≡ next - place = length-take-le _ _ (omega (arith, length-drop place packed)) in
    record {
      within = within;
      whole = is_cut-data (drop place packed) ∙ ap is_cut rest;
      plain = rw count (plain_of-data (drop place packed) ∙ ap (λ (xs : List ℕ). take (data_length (drop place packed)) (drop place packed) ++ plain_of xs) rest);
      past = λ room fits.
          let step = first_past-data (drop place packed) room (omega arith) in
          let same : first_past (drop (data_length (drop place packed)) (drop place packed)) (room - data_length (drop place packed)) ≡ first_past (drop next packed) (room - (next - place)) = rw (rest, count) in
          rw long (omega (arith, step, same));
    }

-- a stretch of data is read
pub read-data : (packed room : List ℕ) (place filled next k : ℕ) → IsRead packed room place filled → next ≡ place + data_length (drop place packed) → next ≤ length packed
    → next - place ≤ length room - filled → k ≡ next - place → IsRead packed (put_mid filled k room (take (next - place) (drop place packed))) next (filled + (next - place))
read-data packed room place filled next k before ends within fits same =
    read_more packed room _ place filled next (next - place) k before (piece-data packed place next ends within) (length-take-le _ _ (omega (arith, length-drop place packed))) fits same

-- a 0 has its count where no last 0 is without one
pub has_count : (packed : List ℕ) (place : ℕ) → place < length packed → get_or packed place 0 ≡ 0 → is_cut (drop place packed) ≡ false → place + 1 < length packed
has_count packed place within is_zero whole =
    elim (cases_lt (place + 1) (length packed)) [
      | inl more ↦ more
      | inr none ↦
          let alone : drop place packed ≡ 0 ∷ [] =
          drop_more packed place 0 within ∙ ap (λ (b : ℕ). b ∷ drop (place + 1) packed) is_zero ∙ ap (λ (xs : List ℕ). 0 ∷ xs) (drop_all (place + 1) packed none) in
          let cut : is_cut (drop place packed) ≡ true = ap is_cut alone in
          cc
    ]

-- the pair at a place, and what stands behind it
at_pair : (packed : List ℕ) (place : ℕ) → place + 1 < length packed → get_or packed place 0 ≡ 0 → drop place packed ≡ 0 ∷ get_or packed (place + 1) 0 ∷ drop (place + 2) packed
at_pair packed place within is_zero =
    let next : place + 1 + 1 ≡ place + 2 = omega arith in
    let first = drop_more packed place 0 (omega arith) in
    let second = rw next at (drop_more packed (place + 1) 0 within) in
    cc

first_past-pair : (n room : ℕ) (more : List ℕ) → suc n ≤ room → first_past (0 ∷ n ∷ more) room ≡ 2 + first_past more (room - suc n)
first_past-pair n room more fits = grind (arith, nat_tests)

first_past-at_pair : (n room : ℕ) (more : List ℕ) → room < suc n → first_past (0 ∷ n ∷ more) room ≡ 0
first_past-at_pair n room more past = grind (arith, nat_tests)

piece-pair : (packed : List ℕ) (place n : ℕ) → place + 1 < length packed → drop place packed ≡ 0 ∷ n ∷ drop (place + 2) packed → IsPiece packed place (place + 2) (replicate (suc n) 0)
piece-pair packed place n within pair = record {
  within = omega arith;
  whole = ap is_cut pair;
  plain = ap plain_of pair;
  past = λ room fits.
      let count : length {A = ℕ} (replicate n 0) ≡ n = length-replicate n 0 in
      let step : first_past (drop place packed) room ≡ 2 + first_past (drop (place + 2) packed) (room - suc n) = ap (λ (xs : List ℕ). first_past xs room) pair ∙ first_past-pair n room (drop (place + 2) packed) (omega arith) in
      rw count (omega (arith, step));
}

-- a pair is read
pub read-pair : (packed room zeros : List ℕ) (place filled k : ℕ) → IsRead packed room place filled → place < length packed → get_or packed place 0 ≡ 0
    → get_or packed (place + 1) 0 + 1 ≤ length room - filled → k ≡ get_or packed (place + 1) 0 + 1 → zeros ≡ replicate k 0
    → IsRead packed (put_mid filled k room zeros) (place + 2) (filled + (get_or packed (place + 1) 0 + 1))
read-pair packed room zeros place filled k before inside is_zero fits same written =
    let n : ℕ = get_or packed (place + 1) 0 in
    let within = has_count packed place inside is_zero before.whole in
    let piece = piece-pair packed place n within (at_pair packed place within is_zero) in
    let count : k ≡ suc n = omega arith in
    let all : zeros ≡ replicate (suc n) 0 = written ∙ ap (λ (m : ℕ). replicate m 0) count in
    rw all (read_more packed room (replicate (suc n) 0) place filled (place + 2) (n + 1) k before piece (length-replicate (suc n) 0 ∙ omega arith) fits (omega arith))

passes_end : (packed : List ℕ) (size at : ℕ) → is_cut packed ≡ false → size < length (plain_of packed) → at ≡ first_past packed size → PassesEnd packed size at
passes_end packed size at whole long place = rw (unpacked_is packed whole) (long, place)

-- what is read, and what the others stand for
left_over : (packed room : List ℕ) (place filled : ℕ) → IsRead packed room place filled → length (plain_of packed) ≡ filled + length (plain_of (drop place packed))
left_over packed room place filled read =
    ap length read.plain ∙ length-append (take filled room) (plain_of (drop place packed)) ∙ ap (λ (m : ℕ). m + length (plain_of (drop place packed))) (length-take-le filled room read.fits)

pub past-data : (packed room : List ℕ) (place filled next size : ℕ) → is_cut packed ≡ false → IsRead packed room place filled → next ≡ place + data_length (drop place packed) → next ≤ length packed
    → length room ≡ size → length room - filled < next - place → PassesEnd packed size (place + (length room - filled))
past-data packed room place filled next size whole read ends within same past =
    let piece = piece-data packed place next ends within in
    let long : length (plain_of (drop place packed)) ≡ next - place + length (plain_of (drop next packed)) =
    ap length piece.plain ∙ length-append _ (plain_of (drop next packed)) ∙ ap (λ (m : ℕ). m + length (plain_of (drop next packed))) (length-take-le _ _ (omega (arith, length-drop place packed))) in
    let at = first_past-in_data (drop place packed) (length room - filled) (omega arith) in
    passes_end packed size _ whole (omega (arith, left_over packed room place filled read, read.fits)) (rw (← same) (sym (read.past ∙ ap (λ (m : ℕ). place + m) at)))

pub past-pair : (packed room : List ℕ) (place filled size : ℕ) → is_cut packed ≡ false → IsRead packed room place filled → place < length packed → get_or packed place 0 ≡ 0
    → length room ≡ size → length room - filled < get_or packed (place + 1) 0 + 1 → PassesEnd packed size place
past-pair packed room place filled size whole read inside is_zero same past =
    let n : ℕ = get_or packed (place + 1) 0 in
    let within = has_count packed place inside is_zero read.whole in
    let pair = at_pair packed place within is_zero in
    let long : length (plain_of (drop place packed)) ≡ suc n + length (plain_of (drop (place + 2) packed)) =
    ap (λ (xs : List ℕ). length (plain_of xs)) pair ∙ length-append (replicate (suc n) 0) (plain_of (drop (place + 2) packed)) ∙ ap (λ (m : ℕ). m + length (plain_of (drop (place + 2) packed))) (length-replicate (suc n) 0) in
    let at = ap (λ (xs : List ℕ). first_past xs (length room - filled)) pair ∙ first_past-at_pair n (length room - filled) (drop (place + 2) packed) (omega arith) in
    passes_end packed size place whole (omega (arith, left_over packed room place filled read, read.fits)) (rw (← same) (omega (arith, read.past, at)))
