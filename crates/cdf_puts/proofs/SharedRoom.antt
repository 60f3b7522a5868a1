-- What the blocks of a packed variable take that have some records: that of one block and those behind it, and of the blocks that a put rewrites.
use Rattle.cdf_puts.proofs.Common.{Ascending, Bool, Each, Leaf, List, Nodes, Range, Some, Variable, [], ap, arith, cuts_before_put, either, false, filter, first_written, if◌then◌else◌, inl, inr, leaf_of, leaves_of, ltb, map, max, nat_tests, packed_room, range, ranges_of, record_length, refl, shared, suc, sum_by-cons, sym, true, with_range, ℕ, ◌*◌, ◌+◌, ◌-◌, ◌<◌, ◌∙◌, ◌∷◌, ◌≡◌, ◌≤◌, ◌||◌}
use Rattle.cdf_edits.specs.Commands.Room.{is_rewritten}
use Rattle.cdf_format.specs.Records.{linked_size}
use Rattle.cdf_puts.proofs.CoveringRanges.{of_leaves}
use Rattle.cdf_puts.specs.SharedRoom.{shared_room}
use Rattle.std.specs.List.{sum}

pub leaf_there : (k low upto : ℕ) (xs : List Leaf) (l : Leaf) → Ascending low upto xs → leaf_of k xs ≡ Some l → (low ≤ k) × (k ≤ l.last)
leaf_there k low upto [] l a e = absurd cc
leaf_there k low upto (x ∷ xs) l a e = grind (arith, nat_tests, leaf_there k (suc x.last) upto xs l a.3, a.0, a.1, e)

-- ---- the ranges that share a record, each with its own number of bytes

module _ (h : Range → ℕ) where
  abbrev pub room : ℕ → ℕ → List Range → ℕ
  room first last rs = sum (map h (filter (λ (r : Range). ltb 0 (shared first last r)) rs))

  pub room_more : (first last : ℕ) (r : Range) (rs : List Range) → room first last (r ∷ rs) ≡ (if ltb 0 (shared first last r) then h r else 0) + room first last rs
  room_more first last r rs = elim (either (ltb 0 (shared first last r))) [
    | inl t ↦ rw t (sum_by-cons (λ n. n) (h r) (map h (filter (λ (x : Range). ltb 0 (shared first last x)) rs)))
    | inr t ↦ rw t (omega arith)
  ]

  -- a range more
  pub room_with : (first last : ℕ) (new : Range) (rs : List Range) → room first last (with_range new rs) ≡ (if ltb 0 (shared first last new) then h new else 0) + room first last rs
  room_with first last new [] = room_more first last new []
  room_with first last new (r ∷ rs) = grind (arith, room_with first last new rs, room_more first last new (r ∷ rs), room_more first last r (with_range new rs), room_more first last r rs)

  -- nothing is left behind the last record
  pub none_left : (k last : ℕ) (rs : List Range) → last < k → room k last rs ≡ 0
  none_left k last [] lt = refl
  none_left k last (r ∷ rs) lt = grind (arith, nat_tests, room_more k last r rs, none_left k last rs lt)

  -- no more is from a later record on
  pub later_less : (k k' last : ℕ) (rs : List Range) → k ≤ k' → room k' last rs ≤ room k last rs
  later_less k k' last [] le = omega arith
  later_less k k' last (r ∷ rs) le = grind (arith, nat_tests, room_more k last r rs, room_more k' last r rs, later_less k k' last rs le)

  -- leaves that begin behind both share as much with the records from the one on as from the other on
  pub same_later : (k k' last low upto : ℕ) (xs : List Leaf) → Ascending low upto xs → k ≤ low → k' ≤ low → room k last (of_leaves xs) ≡ room k' last (of_leaves xs)
  same_later k k' last low upto [] a le le' = refl
  same_later k k' last low upto (x ∷ xs) a le le' =
      let first = a.0 in
      let order = a.1 in
      let rest = same_later k k' last (suc x.last) upto xs a.3 (omega arith) (omega arith) in
      let one : max k x.first ≡ max k' x.first = omega arith in
      let same : shared k last (range x.first x.last) ≡ shared k' last (range x.first x.last) = omega arith in
      room_more k last (range x.first x.last) (of_leaves xs)
      ∙ (λ i. (if ltb 0 (same i) then h (range x.first x.last) else 0) + rest i)
      ∙ sym (room_more k' last (range x.first x.last) (of_leaves xs))

  -- the leaf that has the record, and those behind it
  pub leaf_room : (k last low upto : ℕ) (xs : List Leaf) (l : Leaf) → Ascending low upto xs → leaf_of k xs ≡ Some l → k ≤ last → room k last (of_leaves xs) ≡ h (range l.first l.last) + room (l.last + 1) last (of_leaves xs)
  leaf_room k last low upto [] l a is le = absurd cc
  leaf_room k last low upto (x ∷ xs) l a is le =
      grind (arith, nat_tests, a.0, a.1, is, room_more k last (range x.first x.last) (of_leaves xs), room_more (l.last + 1) last (range x.first x.last) (of_leaves xs), leaf_room k last (suc x.last) upto xs l a.3, leaf_there k (suc x.last) upto xs l a.3, same_later k (x.last + 1) last (suc x.last) upto xs a.3)

abbrev pub bytes_of : ℕ → Range → ℕ
bytes_of size r = linked_size + (r.last + 1 - r.first) * size

-- ---- the blocks that a put rewrites

-- the same leaves are taken, and so the same bytes
pub same_taken : (h : Range → ℕ) (f g : Range → Bool) (xs : List Leaf) → Each (λ (x : Leaf). f (range x.first x.last) ≡ g (range x.first x.last)) xs → sum (map h (filter f (of_leaves xs))) ≡ sum (map h (filter g (of_leaves xs)))
same_taken h f g xs each = ap (λ (rs : List Range). sum (map h rs)) (taken xs each)
  where
    taken : (xs : List Leaf) → Each (λ (x : Leaf). f (range x.first x.last) ≡ g (range x.first x.last)) xs → filter f (of_leaves xs) ≡ filter g (of_leaves xs)
    taken [] each = refl
    taken (x ∷ xs) each = grind (arith, each.0, taken xs each.1)

-- where nothing is cut first: all that have a record that is put
pub uncut_each : (v : Variable) (n : ℕ) (xs : List Leaf) → cuts_before_put v n ≡ false → Each (λ (x : Leaf). is_rewritten v n (range x.first x.last) ≡ ltb 0 (shared (first_written v n) n (range x.first x.last))) xs
uncut_each v n [] loose = tt
uncut_each v n (x ∷ xs) loose = (rw loose (or_false (ltb 0 (shared (first_written v n) n (range x.first x.last)))), uncut_each v n xs loose)
  where
    or_false : (p : Bool) → (p || false) ≡ p
    or_false true = refl
    or_false false = refl

pub rewritten_room : (v : Variable) (nodes : Nodes) (n : ℕ) → v.rle ≡ true → cuts_before_put v n ≡ false → shared_room (record_length v) (first_written v n) n (ranges_of nodes) ≡ packed_room v nodes n
rewritten_room v nodes n packed uncut = sym (rw packed (same_taken (bytes_of (record_length v)) (is_rewritten v n) (λ (r : Range). ltb 0 (shared (first_written v n) n r)) (leaves_of nodes) (uncut_each v n (leaves_of nodes) uncut)))
