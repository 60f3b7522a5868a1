-- What a write of bytes leaves of the numbers in a list.
use Rattle.std.proofs.Common.{◌≡◌, ◌⊎◌, ℕ, ℤ, zero, suc, ◌+◌, ◌^◌, ◌<◌, ◌≤◌, inl, inr, pos, negsuc, List, ◌++◌, length, take, drop, slice_index, refl, sym, ◌∙◌, ap, arith}
use Rattle.std.proofs.lemmas.List.{drop_at, length-take-le}
use Rattle.std.proofs.lemmas.Int.{to_z-of_z}
use Rattle.std.specs.Int.{w32, w64, cast_signed, cast_unsigned}
use Rattle.std.specs.Int.RustNames.{FitsSigned}
use Rattle.byteorder.specs.Endian.{big_bytes, big_from}
use Rattle.byteorder.specs.Numbers.{big_number-reads_back, big_from-take, length-bytes_high_first}
use Rattle.cdf_base.specs.Bytes.{put}
use Rattle.cdf_base.proofs.Puts.{length-put, byte-put_before, byte-put_after}
use Rattle.cdf_format.specs.Fields.{LiesIn, integer4, integer8, number, with_field, word}
use Rattle.cdf_format.specs.Records.{Field}
use Rattle.cdf_format.proofs.Pieces.{word_of_piece_lem}

word-put_before : (b xs : List ℕ) (place other n : ℕ) → place ≤ length b → other + n ≤ place → word (put b place xs) other n ≡ word b other n
word-put_before b xs place other zero room before = refl
word-put_before b xs place other (suc n) room before =
    let first = byte-put_before b place xs other room (omega arith) in
    let others = word-put_before b xs place (suc other) n room (omega arith) in
    rw (first, others) refl

word-put_after : (b xs : List ℕ) (place other n : ℕ) → place ≤ length b → place + length xs ≤ other → word (put b place xs) other n ≡ word b other n
word-put_after b xs place other zero room after = refl
word-put_after b xs place other (suc n) room after =
    let first = byte-put_after b place xs other room after in
    let others = word-put_after b xs place (suc other) n room (omega arith) in
    rw (first, others) refl

pub word-put_outside : (b xs : List ℕ) (place other n : ℕ) → place + length xs ≤ length b → (other + n ≤ place) ⊎ (place + length xs ≤ other) → word (put b place xs) other n ≡ word b other n
word-put_outside b xs place other n room (inl before) = word-put_before b xs place other n (omega arith) before
word-put_outside b xs place other n room (inr after) = word-put_after b xs place other n (omega arith) after

-- what stands from the place of a write on
pub drop-put_there : (b xs : List ℕ) (place : ℕ) → place ≤ length b → drop place (put b place xs) ≡ xs ++ drop (place + length xs) b
unfolding put
drop-put_there b xs place room = drop_at (take place b) (xs ++ drop (place + length xs) b) place (length-take-le place b room)

pub word-put_number : (b : List ℕ) (place width n : ℕ) → place ≤ length b → n < 256 ^ width → word (put b place (big_bytes width n)) place width ≡ n
word-put_number b place width n room fits =
    let xs = big_bytes width n in
    let rest = drop (place + length xs) b in
    sym (word_of_piece_lem (put b place xs) place width)
    ∙ big_from-take 0 width width (drop place (put b place xs)) (omega arith)
    ∙ ap (λ (l : List ℕ). big_from 0 width l) (drop-put_there b xs place room)
    ∙ big_number-reads_back width n rest fits

pub field_reads : (b : List ℕ) (place : ℕ) (f : Field) (n : ℕ) → LiesIn b place f → n < 256 ^ f.width → number (with_field b place f n) place f ≡ n
unfolding with_field
field_reads b place f n lies fits = word-put_number b (place + f.place) f.width n (omega arith) fits

pub other_words : (b : List ℕ) (place : ℕ) (f : Field) (m other n : ℕ) → LiesIn b place f → (other + n ≤ place + f.place) ⊎ (place + f.place + f.width ≤ other) → word (with_field b place f m) other n ≡ word b other n
unfolding with_field
other_words b place f m other n lies apart =
    let long = length-bytes_high_first f.width m in
    word-put_outside b (big_bytes f.width m) (place + f.place) other n (rw long lies) (rw long apart)

pub other_bytes : (b : List ℕ) (place : ℕ) (f : Field) (n i : ℕ) → LiesIn b place f → (i < place + f.place) ⊎ (place + f.place + f.width ≤ i) → slice_index (with_field b place f n) i ≡ slice_index b i
unfolding with_field
other_bytes b place f n i lies (inl before) = byte-put_before b (place + f.place) (big_bytes f.width n) i (omega arith) before
other_bytes b place f n i lies (inr after) = byte-put_after b (place + f.place) (big_bytes f.width n) i (omega arith) (rw (length-bytes_high_first f.width n) after)

pub length-with_field : (b : List ℕ) (place : ℕ) (f : Field) (n : ℕ) → LiesIn b place f → length (with_field b place f n) ≡ length b
unfolding with_field
length-with_field b place f n lies = length-put b (place + f.place) (big_bytes f.width n) (rw (length-bytes_high_first f.width n) lies)

small4 : (z : ℤ) → FitsSigned w32 z → cast_unsigned w32 z < 256 ^ 4
small4 (pos n) fits = omega (arith, fits.sfits)
small4 (negsuc n) fits = omega arith

small8 : (z : ℤ) → FitsSigned w64 z → cast_unsigned w64 z < 256 ^ 8
small8 (pos n) fits = omega (arith, fits.sfits)
small8 (negsuc n) fits = omega arith

pub field_reads4 : (b : List ℕ) (place : ℕ) (f : Field) (z : ℤ) → f.width ≡ 4 → LiesIn b place f → FitsSigned w32 z → integer4 (with_field b place f (cast_unsigned w32 z)) place f ≡ z
field_reads4 b place f z wide lies fits =
    let n = cast_unsigned w32 z in
    let small : n < 256 ^ f.width = rw wide (small4 z fits) in
    ap (λ (width : ℕ). cast_signed w32 (word (with_field b place f n) (place + f.place) width)) (sym wide)
    ∙ ap (cast_signed w32) (field_reads b place f n lies small)
    ∙ to_z-of_z w32 z fits

pub field_reads8 : (b : List ℕ) (place : ℕ) (f : Field) (z : ℤ) → f.width ≡ 8 → LiesIn b place f → FitsSigned w64 z → integer8 (with_field b place f (cast_unsigned w64 z)) place f ≡ z
field_reads8 b place f z wide lies fits =
    let n = cast_unsigned w64 z in
    let small : n < 256 ^ f.width = rw wide (small8 z fits) in
    ap (λ (width : ℕ). cast_signed w64 (word (with_field b place f n) (place + f.place) width)) (sym wide)
    ∙ ap (cast_signed w64) (field_reads b place f n lies small)
    ∙ to_z-of_z w64 z fits
