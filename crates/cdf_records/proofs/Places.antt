-- The fields of a piece of the bytes.
use Rattle.std.proofs.Common.{◌≡◌, ℕ, zero, suc, ◌+◌, ◌-◌, ◌*◌, ◌^◌, ◌<◌, ◌≤◌, List, [], ◌∷◌, ◌++◌, append_assoc, take, drop, slice_index, length, sym, ◌∙◌, ap, mul-le-mul_right, arith}
use Rattle.std.proofs.Math.Nat.{pow-succ'}
use Rattle.std.proofs.lemmas.List.{get_or-take, get_or-drop}
use Rattle.cdf_format.specs.Fields.{word, words}
use Rattle.cdf_format.proofs.Pieces.{word-piece}
use Rattle.cdf_records.specs.Pieces.{AreBytes, Shows}

-- a field that is read from the bytes from its place on
pub word_of_rest : (b : List ℕ) (place n : ℕ) → place + n ≤ length b → word (take (length b - place) (drop place b)) 0 n ≡ word b place n
word_of_rest b place n fits =
    let same : place + 0 ≡ place = omega arith in
    word-piece b place 0 n (length b - place) (omega arith) ∙ ap (λ (k : ℕ). word b k n) same

-- bytes that are read from a place of a list show its fields
pub shows_piece : (b bytes : List ℕ) (start : ℕ) → bytes ≡ take (length bytes) (drop start b) → Shows bytes (word b) start
shows_piece b bytes start is = record {
  same = λ place n fits. ap (λ (xs : List ℕ). word xs place n) is ∙ word-piece b start place n (length bytes) fits;
}

pub bytes_piece : (b bytes : List ℕ) (start : ℕ) → bytes ≡ take (length bytes) (drop start b) → ((i : ℕ) → slice_index bytes i < 256) → AreBytes b start (length bytes)
bytes_piece b bytes start is below = record {
  below = λ i inside.
      let here : slice_index bytes i ≡ slice_index b (start + i) = ap (λ (xs : List ℕ). slice_index xs i) is ∙ (get_or-take (length bytes) (drop start b) i 0 inside ∙ get_or-drop start b i 0) in
      let small = below i in
      rw here at small;
}

-- a field of bytes fits its width
pub word_fits : (b : List ℕ) (start m place n : ℕ) → AreBytes b start m → start ≤ place → place + n ≤ start + m → word b place n < 256 ^ n
word_fits b start m place zero bytes from to = omega arith
word_fits b start m place (suc n) bytes from to =
    let there : start + (place - start) ≡ place = omega arith in
    let byte = rw there at (bytes.below (place - start) (omega arith)) in
    let rest = word_fits b start m (suc place) n bytes (omega arith) (omega arith) in
    let top : slice_index b place * 256 ^ n ≤ 255 * 256 ^ n = mul-le-mul_right (256 ^ n) (omega arith) in
    rw (pow-succ' 256 n) (omega arith)

pub word4_fits : (b : List ℕ) (start m place : ℕ) → AreBytes b start m → start ≤ place → place + 4 ≤ start + m → word b place 4 < 2 ^ 32
word4_fits b start m place bytes from to = word_fits b start m place 4 bytes from to

-- a number that is read goes to the end of those that were read before
pub words_more : (b found : List ℕ) (place n m : ℕ) → n ≡ suc m → (found ++ word b place 4 ∷ []) ++ words b (place + 4) m ≡ found ++ words b place n
words_more b found place n m is =
    append_assoc found (word b place 4 ∷ []) (words b (place + 4) m) ∙ ap (λ (k : ℕ). found ++ words b place k) (sym is)
