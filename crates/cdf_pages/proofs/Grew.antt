-- A file that grows, with its old bytes in front.
use Rattle.cdf_pages.proofs.Common.{Backed, Bool, Disk, Err, FailsSaving, Grows, HasBehind, HasTailBehind, Holds, HoldsBetween, HoldsGrown, IsBetween, IsSome, IsWhole, List, None, Ok, OnErr, OnOk, Option, Result, Some, WrittenPart, ap, arith, byte-put_before, byte-put_inside, byte_of, cases_lt, cut, drop, false, file_of, get_or-drop, get_or-take, get_or_append_left, image_of, inl, inr, length, length-append, length-take-le, length-written, max, min, pages_in, put, slice_index, subst, sym, take, take-put, take-take, take_all, true, written, ℕ, ◌%◌, ◌*◌, ◌++◌, ◌+◌, ◌-◌, ◌/◌, ◌<◌, ◌∙◌, ◌≡◌, ◌≤◌}
use Rattle.std.specs.Prelude.{is_ok}
use Rattle.cdf_pages.specs.declared.save_error.SaveError.TheVariants.{Failed}
use Rattle.cdf_pages.proofs.Between.{tail_in}
use Rattle.cdf_pages.proofs.Disks.{file_held, holds_cut, holds_first, holds_next, is_held}
use Rattle.cdf_pages.proofs.Images.{at_page, byte-image, image_same, length-image}
use Rattle.cdf_pages.proofs.SavedPage.{backed_longer, byte_kept}

grows_first : (old new : List ℕ) → Grows old new old
grows_first old new = record { front = take_all (length old) old (omega arith); long = omega arith; short = inl (omega arith); each = λ i low lt. absurd (omega (arith, low, lt)) }

-- bytes of the new file are appended
grows_put : (old new now : List ℕ) (place : ℕ) (xs : List ℕ) → Grows old new now → place ≡ length now → place + length xs ≤ length new → ((t : ℕ) → t < length xs → slice_index xs t ≡ slice_index new (place + t)) → Grows old new (put now place xs)
grows_put old new now place xs g at fits same =
    let room : place ≤ length now = omega (arith, at) in
    let long = length-written now place xs room in
    let before : length old ≤ place = omega (arith, g.long, at) in
    record {
      front = sym (take-take (length old) place (put now place xs) before) ∙ ap (take (length old)) (take-put now place xs room) ∙ take-take (length old) place now before ∙ g.front;
      long = omega (arith, g.long, long);
      short = inr (omega (arith, long, at, fits));
      each = λ i low lt. elim (cases_lt i place) [
        | inl front ↦ byte-put_before now place xs i room front ∙ g.each i low (omega (arith, front, at))
        | inr behind ↦ (let e : place + (i - place) ≡ i = omega (arith, behind) in
            let within : i - place < length xs = omega (arith, behind, lt, long, at) in
            ap (slice_index (put now place xs)) (sym e) ∙ byte-put_inside now place xs (i - place) room within ∙ same (i - place) within ∙ ap (slice_index new) e)
      ];
    }

-- an old byte stays
front_byte : (old new now : List ℕ) (i : ℕ) → Grows old new now → i < length old → slice_index now i ≡ slice_index old i
front_byte old new now i g lt = sym (get_or-take (length old) now i 0 lt) ∙ ap (λ (l : List ℕ). slice_index l i) g.front

grows_between : (old new now : List ℕ) → Grows old new now → IsBetween old new now
grows_between old new now g = record {
  long = inl g.long;
  short = g.short;
  each = λ i lt. elim (cases_lt i (length old)) [
    | inl before ↦ inl (before, front_byte old new now i g before)
    | inr behind ↦ inr (elim g.short [ inl short ↦ omega (arith, short, behind, lt) | inr short ↦ omega (arith, short, lt) ], g.each i behind lt)
  ];
  grown = λ less. g.front;
}

-- the same of the disk
pub holds_grown_first : {U : Type 0} (d : Disk U) (new : List ℕ) → IsWhole d → IsSome d.held → HoldsGrown d new d
holds_grown_first d new whole is = record { bytes = file_of d; grows = grows_first (file_of d) new; holds = holds_first d whole is }

module _ {U : Type 0} (d now : Disk U) (new : List ℕ) (place : ℕ) (xs : List ℕ) (h : HoldsGrown d new now) (at : place ≡ length (file_of now)) (fits : place + length xs ≤ length new)
    (same : (t : ℕ) → t < length xs → slice_index xs t ≡ slice_index new (place + t)) where
  pub written_grown : (next : Disk U) → next ≡ written now place xs → HoldsGrown d new next
  written_grown next e = record {
    bytes = put h.bytes place xs;
    grows = grows_put (file_of d) new h.bytes place xs h.grows (at ∙ ap length (file_held d now h.bytes h.holds)) fits same;
    holds = holds_next d now next h.bytes place xs h.holds e;
  }

module _ {U : Type 0} (d now : Disk U) (new : List ℕ) (place : ℕ) (xs : List ℕ) (h : HoldsGrown d new now) (at : place ≡ length (file_of now)) (fits : place + length xs ≤ length new)
    (same : (t : ℕ) → t < length xs → slice_index xs t ≡ slice_index new (place + t)) where
  pub part_grown : (next : Disk U) → WrittenPart now place xs next → HoldsGrown d new next
  part_grown next (inl stays) = subst (HoldsGrown d new) (sym stays) h
  part_grown next (inr w) =
      let n = w.0 in
      let long : length (take n xs) ≡ n = length-take-le n xs w.1 in
      let within = w.1 in
      written_grown d now new place (take n xs) h at (omega (arith, long, within, fits)) (λ t lt.
      let low : t < n = omega (arith, lt, long) in get_or-take n xs t 0 low ∙ same t (omega (arith, low, within))) next w.2

module _ {U : Type 0} (d now : Disk U) (new : List ℕ) (h : HoldsGrown d new now) where
  file_is : file_of now ≡ h.bytes
  file_is = file_held d now h.bytes h.holds

  grows_now : Grows (file_of d) new (file_of now)
  grows_now = subst (Grows (file_of d) new) (sym file_is) h.grows

  pub grown_held : IsSome now.held
  grown_held = is_held d now h.bytes h.holds

  pub grown_longer : length (file_of d) ≤ length (file_of now)
  grown_longer = grows_now.long

  pub grown_between : HoldsBetween d new now
  grown_between = record { bytes = h.bytes; between = grows_between (file_of d) new h.bytes h.grows; holds = h.holds }

  -- it is cut back
  pub cut_back : (next : Disk U) (n : ℕ) → n ≡ length (file_of d) → next ≡ cut now n → Holds d (file_of d) next
  cut_back next n size e = subst (λ (l : List ℕ). Holds d l next) (ap (λ m. take m h.bytes) size ∙ h.grows.front) (holds_cut d now next h.bytes n h.holds e)

-- an image over the file stays, since its bytes that lie in no changed page are old ones
module _ {U : Type 0} (p : ℕ → Option (List ℕ)) (d now : Disk U) (tail : List ℕ) (n : ℕ) (h : HoldsGrown d (image_of p (file_of d) n ++ tail) now) (backed : Backed p (length (file_of d)) n) where
  grew : Grows (file_of d) (image_of p (file_of d) n ++ tail) (file_of now)
  grew = grows_now d now (image_of p (file_of d) n ++ tail) h

  byte_stays : (i : ℕ) → i < n → byte_of p (file_of now) i ≡ byte_of p (file_of d) i
  byte_stays i lt = byte_kept (p (i / 65536)) (file_of now) (file_of d) i (λ none. front_byte (file_of d) (image_of p (file_of d) n ++ tail) (file_of now) i grew (backed i lt none))

  pub grown_image : image_of p (file_of now) n ≡ image_of p (file_of d) n
  grown_image = image_same p p (file_of now) (file_of d) n byte_stays

  pub grown_backed : Backed p (length (file_of now)) n
  grown_backed = backed_longer p p (length (file_of d)) (length (file_of now)) n grew.long (λ q e. e) backed

  -- it grew as far as it is to
  module _ (size : ℕ) (at : size ≡ length (file_of d)) (long : length (file_of now) ≡ max size (n + length tail)) where
    pub grown_behind : HasBehind p (file_of now) size n
    grown_behind i low lt =
        let there : i < length (file_of now) = omega (arith, lt, long) in
        let within : i < length (image_of p (file_of d) n) = omega (arith, lt, length-image p (file_of d) n) in
        grew.each i (omega (arith, low, at)) there ∙ get_or_append_left (image_of p (file_of d) n) tail 0 i within ∙ byte-image p (file_of d) n i 0 lt ∙ sym (byte_stays i lt)

    pub grown_tail : HasTailBehind tail n (file_of now) (size - n)
    grown_tail t low lt =
        let there : n + t < length (file_of now) = omega (arith, lt, long) in
        grew.each (n + t) (omega (arith, low, at)) there ∙ sym ((tail_in (image_of p (file_of d) n) tail n (length-image p (file_of d) n)).1 t lt)

-- a piece of a changed page, as far as the image goes, stands in the image and in front of a tail
pub piece_in_image : (p : ℕ → Option (List ℕ)) (file page xs tail : List ℕ) (n k within live place : ℕ) → p k ≡ Some page → length page ≡ 65536 → live ≡ min 65536 (n - k * 65536) → within < live → place ≡ k * 65536 + within → xs ≡ take (live - within) (drop within page) → length xs ≡ live - within
    → (place + length xs ≤ length (image_of p file n ++ tail)) × ((t : ℕ) → t < length xs → slice_index xs t ≡ slice_index (image_of p file n ++ tail) (place + t))
piece_in_image p file page xs tail n k within live place there whole end inside at is size =
    let long = length-image p file n in (
      omega (arith, long, size, end, inside, at, length-append (image_of p file n) tail),
      λ t lt.
          let low : t < live - within = omega (arith, lt, size) in
          let lies : place + t < n = omega (arith, low, end, at) in
          let here : (place + t) / 65536 ≡ k = omega (arith, low, end, at) in
          let rest : (place + t) % 65536 ≡ within + t = omega (arith, low, end, at) in
          ap (λ (l : List ℕ). slice_index l t) is ∙ get_or-take (live - within) (drop within page) t 0 low ∙ get_or-drop within page t 0 ∙ ap (slice_index page) (sym rest)
          ∙ sym (get_or_append_left (image_of p file n) tail 0 (place + t) (omega (arith, lies, long)) ∙ byte-image p file n (place + t) 0 lies ∙ at_page p file page (place + t) k here there),
    )

-- that a page of the image past the file's end is a changed one
pub page_behind : (p : ℕ → Option (List ℕ)) (size n place : ℕ) → Backed p size n → size ≤ place → place < n → p (place / 65536) ≡ None → ⊥
page_behind p size n place backed low lt none = omega (arith, backed place lt none, low)

-- one page fewer is left
pub one_page_less : (n place live : ℕ) → place < n → live ≡ min 65536 (n - place / 65536 * 65536) → pages_in (place / 65536 * 65536 + live) (n - (place / 65536 * 65536 + live)) + 1 ≤ pages_in place (n - place)
one_page_less n place live lt end = omega (arith, lt, end)

-- after a cut back that may fail
module _ {U E : Type 0} (d now next : Disk U) (new : List ℕ) (n : ℕ) (h : HoldsGrown d new now) (size : n ≡ length (file_of d)) where
  pub cut_or_not : (r : Result (Unit {0}) E) → OnOk r (next ≡ cut now n) → OnErr r (next ≡ now) → HoldsGrown d new next
  cut_or_not (Ok done) is none = record { bytes = file_of d; grows = grows_first (file_of d) new; holds = cut_back d now new h next n size is }
  cut_or_not (Err e) none stays = subst (HoldsGrown d new) (sym stays) h

  pub kept_or_not : (r : Result (Unit {0}) E) (kept : Bool) → kept ≡ is_ok r → OnOk r (next ≡ cut now n) → OnErr r (next ≡ now) → FailsSaving {T = Unit {0}} d new next (Err (Failed kept))
  kept_or_not (Ok done) true same is none = cut_back d now new h next n size is
  kept_or_not (Ok done) false same is none = cc same
  kept_or_not (Err e) true same none stays = cc same
  kept_or_not (Err e) false same none stays = grown_between d next new (subst (HoldsGrown d new) (sym stays) h)
