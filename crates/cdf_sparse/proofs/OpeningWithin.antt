-- What an open cut takes for the later records of a leaf that it divides is within the room of `del-recs`.
use Rattle.cdf_puts.proofs.Common.{Leaf, List, None, Option, Some, VariableShape, arith, inl, inr, leaves_of, lt-ltb, record_bytes, refl, times_le, variable_of, widest, ℕ, ◌*◌, ◌+◌, ◌-◌, ◌≡◌, ◌≤◌, cases_lt, le-ltb, Range}
use Rattle.cdf_edits.specs.Commands.Room.{cut_room, del_recs_cuts_in_part, range_bytes}
use Rattle.cdf_format.specs.Records.{linked_size}
use Rattle.cdf_index.specs.Order.{leaf_of}
use Rattle.cdf_puts.proofs.PutBytes.{found_covering}
use Rattle.cdf_sparse.proofs.TwiceRoom.{divided_part, sum_has}
use Rattle.cdf_sparse.specs.Opening.{divided_room, opening_room}

module _ (b : List ℕ) (own : VariableShape) (first last : ℕ) (order : first ≤ last) where
  abbrev size : ℕ
  size = record_bytes b own.vdr

  abbrev whole : ℕ
  whole = cut_room (variable_of b own) own.index first last

  abbrev wide : ℕ
  wide = widest own.index

  abbrev part_room : Range → ℕ
  part_room r = 3 * linked_size + 2 * range_bytes (variable_of b own) r

  by_leaf : (o : Option Leaf) → leaf_of last (leaves_of own.index) ≡ o → divided_room first last size wide o ≤ whole
  by_leaf None e = omega arith
  by_leaf (Some l) e = elim (cases_lt l.first first) [
    | inr le ↦ rw (le-ltb l.first first le) (omega arith)
    | inl begins ↦ elim (cases_lt last l.last) [
      | inr le ↦ rw (lt-ltb l.first first begins, le-ltb last l.last le) (omega arith)
      | inl ends ↦
          let i = (found_covering last (leaves_of own.index) l e).0 in
          let part = divided_part first last l order (record { begins = begins; ends = ends }) in
          let has_part = sum_has part_room (del_recs_cuts_in_part (variable_of b own) first last) (leaves_of own.index) l i (rw part refl) in
          let fewer = times_le (l.last - last) (l.last + 1 - l.first) size (omega (arith, begins, ends, order)) in
          rw (lt-ltb l.first first begins, lt-ltb last l.last ends) (omega (arith, has_part, fewer))
    ]
  ]

  pub opening_within : opening_room first last size own.index ≤ whole
  opening_within = by_leaf (leaf_of last (leaves_of own.index)) refl
