-- A file into which parts of a new one are written stays between the old one and the new one.
use Rattle.cdf_pages.proofs.Common.{Disk, Holds, HoldsBetween, IsBetween, IsSome, IsWhole, List, WrittenPart, ap, arith, byte-put_after, byte-put_before, byte-put_inside, cases_lt, cut, file_of, get_or-append_right, get_or-take, inl, inr, length, length-append, length-take-le, length-written, put, refl, slice_index, subst, sym, take, take-put, take_all, written, ℕ, ◌++◌, ◌+◌, ◌-◌, ◌<◌, ◌∙◌, ◌≡◌, ◌≤◌}
use Rattle.cdf_pages.proofs.Disks.{file_held, holds_cut, holds_first, holds_next}

pub between_same : (old new : List ℕ) → IsBetween old new old
between_same old new = record { long = inl (omega arith); short = inl (omega arith); each = λ i lt. inl (lt, refl); grown = λ less. take_all (length old) old (omega arith) }

-- bytes of the new file are written over those of one that is as long
pub between_put : (old new now : List ℕ) (place : ℕ) (xs : List ℕ) → IsBetween old new now → length new ≤ length now → place + length xs ≤ length new → ((t : ℕ) → t < length xs → slice_index xs t ≡ slice_index new (place + t)) → IsBetween old new (put now place xs)
between_put old new now place xs b whole fits same =
    let room : place ≤ length now = omega (arith, whole, fits) in
    let long : length (put now place xs) ≡ length now = omega (arith, length-written now place xs room, whole, fits) in
    record {
      long = elim b.long [ inl o ↦ inl (omega (arith, o, long)) | inr n ↦ inr (omega (arith, n, long)) ];
      short = elim b.short [ inl o ↦ inl (omega (arith, o, long)) | inr n ↦ inr (omega (arith, n, long)) ];
      grown = λ less. absurd (omega (arith, less, long, whole));
      each = λ i lt. elim (cases_lt i place) [
        | inl before ↦ (let is = byte-put_before now place xs i room before in
            elim (b.each i (omega (arith, before, room))) [ inl o ↦ inl (o.0, is ∙ o.1) | inr n ↦ inr (n.0, is ∙ n.1) ])
        | inr from_ ↦ elim (cases_lt i (place + length xs)) [
          | inl within ↦ (let e : place + (i - place) ≡ i = omega arith in
              inr (omega (arith, within, fits), ap (slice_index (put now place xs)) (sym e) ∙ byte-put_inside now place xs (i - place) room (omega arith) ∙ same (i - place) (omega arith) ∙ ap (slice_index new) e))
          | inr after ↦ (let is = byte-put_after now place xs i room after in
              elim (b.each i (omega (arith, lt, long))) [ inl o ↦ inl (o.0, is ∙ o.1) | inr n ↦ inr (n.0, is ∙ n.1) ])
        ]
      ];
    }

-- the same of the disk
pub holds_between_first : {U : Type 0} (d : Disk U) (new : List ℕ) → IsWhole d → IsSome d.held → HoldsBetween d new d
holds_between_first d new whole is = record { bytes = file_of d; between = between_same (file_of d) new; holds = holds_first d whole is }

module _ {U : Type 0} (d now : Disk U) (new : List ℕ) (place : ℕ) (xs : List ℕ) (h : HoldsBetween d new now) (whole : length new ≤ length (file_of now)) (fits : place + length xs ≤ length new)
    (same : (t : ℕ) → t < length xs → slice_index xs t ≡ slice_index new (place + t)) where
  pub written_between : (next : Disk U) → next ≡ written now place xs → HoldsBetween d new next
  written_between next e =
      let file = file_held d now h.bytes h.holds in
      record {
        bytes = put h.bytes place xs;
        between = between_put (file_of d) new h.bytes place xs h.between (omega (arith, whole, ap length file)) fits same;
        holds = holds_next d now next h.bytes place xs h.holds e;
      }

module _ {U : Type 0} (d now : Disk U) (new : List ℕ) (place : ℕ) (xs : List ℕ) (h : HoldsBetween d new now) (whole : length new ≤ length (file_of now)) (fits : place + length xs ≤ length new)
    (same : (t : ℕ) → t < length xs → slice_index xs t ≡ slice_index new (place + t)) where
  -- a part of them
  pub part_between : (next : Disk U) → WrittenPart now place xs next → HoldsBetween d new next
  part_between next (inl stays) = subst (HoldsBetween d new) (sym stays) h
  part_between next (inr w) =
      let n = w.0 in
      let long : length (take n xs) ≡ n = length-take-le n xs w.1 in
      let within = w.1 in
      written_between d now new place (take n xs) h whole (omega (arith, long, within, fits)) (λ t lt.
      let low : t < n = omega (arith, lt, long) in get_or-take n xs t 0 low ∙ same t (omega (arith, low, within))) next w.2

-- the file has become the new one
pub holds_new : {U : Type 0} (d now : Disk U) (new : List ℕ) → HoldsBetween d new now → file_of now ≡ new → Holds d new now
holds_new d now new h e = subst (λ (l : List ℕ). Holds d l now) (sym (file_held d now h.bytes h.holds) ∙ e) h.holds

pub cut_new : {U : Type 0} (d now next : Disk U) (new : List ℕ) (n : ℕ) → HoldsBetween d new now → next ≡ cut now n → take n (file_of now) ≡ new → Holds d new next
cut_new d now next new n h e is =
    subst (λ (l : List ℕ). Holds d l next) (ap (take n) (sym (file_held d now h.bytes h.holds)) ∙ is) (holds_cut d now next h.bytes n h.holds e)

-- a tail stands behind the image
pub tail_in : (image tail : List ℕ) (place : ℕ) → length image ≡ place → (place + length tail ≤ length (image ++ tail)) × ((t : ℕ) → t < length tail → slice_index tail t ≡ slice_index (image ++ tail) (place + t))
tail_in image tail place e = (
  omega (arith, e, length-append image tail),
  λ t lt.
      sym (get_or-append_right image tail place (place + t) 0 e (omega arith) ∙ ap (slice_index tail) (omega arith)),
)

module _ {U : Type 0} (d next : Disk U) (place : ℕ) (xs : List ℕ) (room : place ≤ length (file_of d)) where
  pub front_written : next ≡ written d place xs → take place (file_of next) ≡ take place (file_of d)
  front_written e = ap (λ x. take place (file_of x)) e ∙ take-put (file_of d) place xs room

module _ {U : Type 0} (d next : Disk U) (place : ℕ) (xs : List ℕ) (room : place ≤ length (file_of d)) where
  pub front_part : WrittenPart d place xs next → take place (file_of next) ≡ take place (file_of d)
  front_part (inl same) = ap (λ x. take place (file_of x)) same
  front_part (inr w) = front_written d next place (take w.0 xs) room w.2

-- a write that ends before the end of the file, and what stands behind it
module _ {U : Type 0} (d next : Disk U) (place end : ℕ) (xs : List ℕ) (inside : place + length xs ≤ end) (room : end ≤ length (file_of d)) where
  pub long_written : next ≡ written d place xs → length (file_of next) ≡ length (file_of d)
  long_written e = omega (arith, ap (λ x. length (file_of x)) e, length-written (file_of d) place xs (omega (arith, inside, room)), inside, room)

  pub same_written : next ≡ written d place xs → (i : ℕ) → end ≤ i → slice_index (file_of next) i ≡ slice_index (file_of d) i
  same_written e i behind = ap (λ x. slice_index (file_of x) i) e ∙ byte-put_after (file_of d) place xs i (omega (arith, inside, room)) (omega (arith, inside, behind))

module _ {U : Type 0} (d next : Disk U) (place end : ℕ) (xs : List ℕ) (inside : place + length xs ≤ end) (room : end ≤ length (file_of d)) where
  pub long_part : WrittenPart d place xs next → length (file_of next) ≡ length (file_of d)
  long_part (inl same) = ap (λ x. length (file_of x)) same
  long_part (inr w) = long_written d next place end (take w.0 xs) (omega (arith, inside, w.1, length-take-le w.0 xs w.1)) room w.2

  pub same_part : WrittenPart d place xs next → (i : ℕ) → end ≤ i → slice_index (file_of next) i ≡ slice_index (file_of d) i
  same_part (inl same) i behind = ap (λ x. slice_index (file_of x) i) same
  same_part (inr w) i behind = same_written d next place end (take w.0 xs) (omega (arith, inside, w.1, length-take-le w.0 xs w.1)) room w.2 i behind
