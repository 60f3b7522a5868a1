-- Fields of bytes that stay the same.
use Rattle.std.proofs.Common.{◌≡◌, ℕ, zero, suc, ◌+◌, ◌-◌, ◌*◌, ◌^◌, ◌<◌, ◌≤◌, List, ◌∷◌, ◌++◌, length, take, drop, slice_index, refl, sym, ap, ap₂, ◌∙◌, arith}
use Rattle.cdf_format.proofs.Common.{length-append, length-take, get_or-drop, get_or-take, get_or_append_left, w32, cast_signed, ◌==◌, Field, word, number, name_in, size_at, type_at, Same, next_of}
use Rattle.std.proofs.lemmas.List.{length-drop, get_or-append_right, ext_get_or}
use Rattle.std.specs.List.{before_first}
use Rattle.cdf_base.specs.Bytes.{put}
use Rattle.cdf_format.specs.Fields.{words, integer4}
use Rattle.cdf_format.specs.Bytes.{byte}
use Rattle.cdf_format.specs.Stored.{field_bytes}

pub Same-part : (b now : List ℕ) (from upto from' upto' : ℕ) → Same b now from upto → from ≤ from' → upto' ≤ upto → Same b now from' upto'
Same-part b now from upto from' upto' s l h = record { each = λ i p q. s.each i (omega arith) (omega arith) }

pub word-same : (b now : List ℕ) (place n : ℕ) → Same b now place (place + n) → word now place n ≡ word b place n
word-same b now place zero s = refl
word-same b now place (suc n) s =
    let here : slice_index now place ≡ slice_index b place = s.each place (omega arith) (omega arith) in
    let rest = word-same b now (suc place) n (Same-part b now place (place + suc n) (suc place) (suc place + n) s (omega arith) (omega arith)) in
    ap₂ (λ (x y : ℕ). x * 256 ^ n + y) here rest

-- within bytes that are the same
module _ (b now : List ℕ) (from upto : ℕ) (s : Same b now from upto) where
  pub word_kept : (place n : ℕ) → from ≤ place → place + n ≤ upto → word now place n ≡ word b place n
  word_kept place n l h = word-same b now place n (Same-part b now from upto place (place + n) s l h)

  pub words_kept : (place n : ℕ) → from ≤ place → place + 4 * n ≤ upto → words now place n ≡ words b place n
  words_kept place zero l h = refl
  words_kept place (suc n) l h = ap₂ (λ (x : ℕ) (xs : List ℕ). x ∷ xs) (word_kept place 4 l (omega arith)) (words_kept (place + 4) n (omega arith) (omega arith))

  pub piece_kept : (place n : ℕ) → from ≤ place → place + n ≤ upto → upto ≤ length b → length b ≤ length now → take n (drop place now) ≡ take n (drop place b)
  piece_kept place n l h inside longer =
      let e : length (take n (drop place now)) ≡ n = simp (length-take, length-drop) (omega arith) in
      let f : length (take n (drop place b)) ≡ n = simp (length-take, length-drop) (omega arith) in
      ext_get_or 0 (take n (drop place now)) (take n (drop place b)) (e ∙ sym f) (λ i lt.
      get_or-take n (drop place now) i 0 (omega arith) ∙ get_or-drop place now i 0 ∙ s.each (place + i) (omega arith) (omega arith) ∙ sym (get_or-drop place b i 0) ∙ sym (get_or-take n (drop place b) i 0 (omega arith)))

-- a record whose bytes are the same
module _ (b now : List ℕ) (m : ℕ) (s : Same b now m (m + size_at b m)) where
  pub number_kept : (f : Field) → f.place + f.width ≤ size_at b m → number now m f ≡ number b m f
  number_kept f fits = word_kept b now m (m + size_at b m) s (m + f.place) f.width (omega arith) (omega arith)

  pub integer_kept : (f : Field) → f.place + 4 ≤ size_at b m → integer4 now m f ≡ integer4 b m f
  integer_kept f fits = ap (cast_signed w32) (word_kept b now m (m + size_at b m) s (m + f.place) 4 (omega arith) (omega arith))

  pub size_kept : 8 ≤ size_at b m → size_at now m ≡ size_at b m
  size_kept long = word_kept b now m (m + size_at b m) s (m + 0) 8 (omega arith) (omega arith)

  pub type_kept : 12 ≤ size_at b m → type_at now m ≡ type_at b m
  type_kept long = word_kept b now m (m + size_at b m) s (m + 8) 4 (omega arith) (omega arith)

  pub next_kept : 20 ≤ size_at b m → next_of now m ≡ next_of b m
  next_kept long = word_kept b now m (m + size_at b m) s (m + 12) 8 (omega arith) (omega arith)

  pub bytes_kept : (f : Field) → f.place + f.width ≤ size_at b m → m + size_at b m ≤ length b → length b ≤ length now → field_bytes now m f ≡ field_bytes b m f
  bytes_kept f fits inside longer = piece_kept b now m (m + size_at b m) s (m + f.place) f.width (omega arith) (omega arith) inside longer

  pub name_kept : (f : Field) → f.place + f.width ≤ size_at b m → m + size_at b m ≤ length b → length b ≤ length now → name_in now m f ≡ name_in b m f
  name_kept f fits inside longer = ap (before_first (λ (x : ℕ). x == 0)) (bytes_kept f fits inside longer)

-- ---- what a write leaves

pub length-put : (b : List ℕ) (at : ℕ) (xs : List ℕ) → at + length xs ≤ length b → length (put b at xs) ≡ length b
unfolding put
length-put b at xs h = simp (length-append, length-take, length-drop) (omega arith)

pub byte-put_before : (b : List ℕ) (at : ℕ) (xs : List ℕ) (i : ℕ) → at ≤ length b → i < at → byte (put b at xs) i ≡ byte b i
unfolding put
byte-put_before b at xs i h lt =
    let l : i < length (take at b) = omega (arith, length-take at b) in
    get_or_append_left (take at b) (xs ++ drop (at + length xs) b) 0 i l ∙ get_or-take at b i 0 lt

pub byte-put_inside : (b : List ℕ) (at : ℕ) (xs : List ℕ) (i : ℕ) → at ≤ length b → i < length xs → byte (put b at xs) (at + i) ≡ byte xs i
unfolding put
byte-put_inside b at xs i h lt =
    let l : length (take at b) ≡ at = omega (arith, length-take at b) in
    let e : (at + i) - at ≡ i = omega arith in
    get_or-append_right (take at b) (xs ++ drop (at + length xs) b) at (at + i) 0 l (omega arith) ∙ rw e (get_or_append_left xs (drop (at + length xs) b) 0 i lt)

pub byte-put_after : (b : List ℕ) (at : ℕ) (xs : List ℕ) (i : ℕ) → at ≤ length b → at + length xs ≤ i → byte (put b at xs) i ≡ byte b i
unfolding put
byte-put_after b at xs i h le =
    let l : length (take at b) ≡ at = omega (arith, length-take at b) in
    let e : (at + length xs) + ((i - at) - length xs) ≡ i = omega arith in
    get_or-append_right (take at b) (xs ++ drop (at + length xs) b) at i 0 l (omega arith)
    ∙ get_or-append_right xs (drop (at + length xs) b) (length xs) (i - at) 0 refl (omega arith)
    ∙ get_or-drop (at + length xs) b ((i - at) - length xs) 0
    ∙ rw e refl
