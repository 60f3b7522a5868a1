-- The front of a file that has grown is written over.
use Rattle.cdf_pages.proofs.Common.{Disk, HasTailBehind, List, None, Option, ap, arith, byte-put_after, byte-put_before, byte-put_inside, cases_lt, file_of, get_or-take, get_or_append_left, get_or_default, image_of, inl, inr, length, length-append, length-take-le, length-written, max, min, put, same_lists, slice_index, sym, take, take_all, ℕ, ◌++◌, ◌+◌, ◌-◌, ◌<◌, ◌∙◌, ◌≡◌, ◌≤◌}
use Rattle.cdf_pages.proofs.Between.{tail_in}
use Rattle.cdf_pages.proofs.Images.{image_file, image_size}
use Rattle.cdf_pages.proofs.SavedPage.{image_front, image_tail}

-- what is known once the changed pages are written: d is the disk before, d1 the one now
pub record Paged {U : Type 0} (p p1 : ℕ → Option (List ℕ)) (d d1 : Disk U) (n size : ℕ) (tail : List ℕ) : Type 0 where
  pub none : (q : ℕ) → p1 q ≡ None
  pub long : length (file_of d1) ≡ length (file_of d)
  pub image : image_of p1 (file_of d1) n ≡ image_of p (file_of d) n
  pub same : (i : ℕ) → min n size ≤ i → slice_index (file_of d1) i ≡ slice_index (file_of d) i
  pub whole : length (file_of d) ≡ max size (n + length tail)
  pub behind : HasTailBehind tail n (file_of d) (size - n)

module _ {U : Type 0} {p p1 : ℕ → Option (List ℕ)} {d d1 : Disk U} {n size : ℕ} {tail : List ℕ} (s : Paged p p1 d d1 n size tail) where
  new : List ℕ
  new = image_of p (file_of d) n ++ tail

  pub new_size : length (image_of p (file_of d) n ++ tail) ≡ n + length tail
  new_size = omega (arith, length-append (image_of p (file_of d) n) tail, image_size p (file_of d) n)

  pub inside : n + length tail ≤ length (file_of d1)
  inside = omega (arith, s.long, s.whole)

  -- the front of the tail ends in the file
  pub front_inside : (before : ℕ) → before ≡ min (length tail) (size - n) → n + length (take before tail) ≤ length (file_of d1)
  front_inside before is = omega (arith, inside, length-take-le before tail (omega (arith, is)), is)

  -- it stands in the new file
  pub front_in : (before : ℕ) → before ≡ min (length tail) (size - n)
      → (n + length (take before tail) ≤ length (image_of p (file_of d) n ++ tail)) × ((t : ℕ) → t < length (take before tail) → slice_index (take before tail) t ≡ slice_index (image_of p (file_of d) n ++ tail) (n + t))
  front_in before is =
      let count = length-take-le before tail (omega (arith, is)) in (
        omega (arith, new_size, count, is),
        λ t lt.
            get_or-take before tail t 0 (omega (arith, lt, count)) ∙ (tail_in (image_of p (file_of d) n) tail n (image_size p (file_of d) n)).1 t (omega (arith, lt, count, is)),
      )

  -- the tail's front was written, or a part of it
  module _ (d2 : Disk U) (long : length (file_of d2) ≡ length (file_of d1)) (kept : take n (file_of d2) ≡ take n (file_of d1)) where
    pub image_kept : image_of p1 (file_of d2) n ≡ image_of p (file_of d) n
    image_kept = image_front p1 (file_of d1) (file_of d2) n s.none (omega (arith, inside)) (omega (arith, long)) kept ∙ s.image

    pub long_kept : n ≤ length (file_of d2)
    long_kept = omega (arith, long, inside)

  -- it was written whole
  module _ (d2 : Disk U) (before : ℕ) (is_before : before ≡ min (length tail) (size - n)) (is : file_of d2 ≡ put (file_of d1) n (take before tail)) where
    count : length (take before tail) ≡ before
    count = length-take-le before tail (omega (arith, is_before))

    room : n ≤ length (file_of d1)
    room = omega (arith, inside)

    pub long_whole : length (file_of d2) ≡ max size (n + length tail)
    long_whole = omega (arith, ap (λ (l : List ℕ). length l) is, length-written (file_of d1) n (take before tail) room, count, is_before, s.long, s.whole)

    image_byte : (i : ℕ) → i < n → slice_index (file_of d2) i ≡ slice_index (image_of p (file_of d) n ++ tail) i
    image_byte i lt =
        ap (λ (l : List ℕ). slice_index l i) is ∙ byte-put_before (file_of d1) n (take before tail) i room lt ∙ sym (get_or-take n (file_of d1) i 0 lt)
        ∙ ap (λ (l : List ℕ). slice_index l i) (sym (image_file p1 (file_of d1) n s.none room) ∙ s.image) ∙ sym (get_or_append_left (image_of p (file_of d) n) tail 0 i (omega (arith, lt, image_size p (file_of d) n)))

    tail_byte : (t : ℕ) → t < length tail → slice_index (file_of d2) (n + t) ≡ slice_index tail t
    tail_byte t lt = ap (λ (l : List ℕ). slice_index l (n + t)) is ∙ elim (cases_lt t before) [
      | inl front ↦ byte-put_inside (file_of d1) n (take before tail) t room (omega (arith, front, count)) ∙ get_or-take before tail t 0 front
      | inr rest ↦ byte-put_after (file_of d1) n (take before tail) (n + t) room (omega (arith, rest, count)) ∙ s.same (n + t) (omega arith) ∙ s.behind t (omega (arith, rest, lt, is_before)) lt
    ]

    byte : (i : ℕ) → i < n + length tail → slice_index (file_of d2) i ≡ slice_index (image_of p (file_of d) n ++ tail) i
    byte i lt = elim (cases_lt i n) [
      | inl front ↦ image_byte i front
      | inr rest ↦
          (let e : n + (i - n) ≡ i = omega (arith, rest) in
          ap (slice_index (file_of d2)) (sym e) ∙ tail_byte (i - n) (omega (arith, rest, lt)) ∙ (tail_in (image_of p (file_of d) n) tail n (image_size p (file_of d) n)).1 (i - n) (omega (arith, rest, lt)) ∙ ap (slice_index (image_of p (file_of d) n ++ tail)) e)
    ]

    pub file_cut : take (n + length tail) (file_of d2) ≡ image_of p (file_of d) n ++ tail
    file_cut =
        let end = n + length tail in
        let long : length (take end (file_of d2)) ≡ end = length-take-le end (file_of d2) (omega (arith, long_whole)) in
        same_lists _ _ (long ∙ sym new_size) (λ i z lt.
        let low : i < end = omega (arith, lt, long) in
        get_or-take end (file_of d2) i z low ∙ get_or_default (file_of d2) i z 0 (omega (arith, low, long_whole)) ∙ byte i low ∙ get_or_default (image_of p (file_of d) n ++ tail) i 0 z (omega (arith, low, new_size)))

    -- nothing stands behind it
    pub file_new : size ≤ n + length tail → file_of d2 ≡ image_of p (file_of d) n ++ tail
    file_new short = sym (take_all (n + length tail) (file_of d2) (omega (arith, long_whole, short))) ∙ file_cut

  -- the file has become the new one
  module _ (d3 : Disk U) (is : file_of d3 ≡ image_of p (file_of d) n ++ tail) where
    pub image_new : image_of p1 (file_of d3) n ≡ image_of p (file_of d) n
    image_new = image_tail p1 (file_of d3) (image_of p (file_of d) n) tail n s.none (image_size p (file_of d) n) is

    pub long_new : n ≤ length (file_of d3)
    long_new = omega (arith, ap (λ (l : List ℕ). length l) is, new_size)
