-- What the blocks of a packed variable take that have some records, one block after the other, and that they are the blocks which a put rewrites.
use Rattle.cdf_var_records.proofs.Common.{Ascending, Bool, Each, IsBlockRoom, List, Nodes, None, Range, Some, Variable, [], ap, arith, cuts_before_put, either, extent, false, first_written, has_bit, if◌then◌else◌, inl, inr, is_sparse, le-ltb, leaf_of, leaves_of, lt-ltb, ltb, map, max, nat_tests, next_first, next_past, none_begins, number, of_leaves, packed_room, range, ranges_of, record_number_limit, refl, shared_room, suc, sum_by-cons, sym, true, variable_at, ℕ, ◌*◌, ◌+◌, ◌-◌, ◌<◌, ◌∙◌, ◌∷◌, ◌≡◌, ◌≤◌, ◌||◌}
unfoldable use Rattle.cdf_var_records.proofs.Common.{firsts_of}
use Rattle.cdf_edits.proofs.Common.{Leaf, filter}
use Rattle.cdf_edits.specs.Commands.Room.{is_rewritten}
use Rattle.cdf_edits.specs.Index.Blocks.{record_length, shared}
use Rattle.cdf_format.specs.Records.{linked_size, vdr_compression_bit, vdr_flags}
use Rattle.cdf_index.proofs.LeafRules.{least_below}
use Rattle.cdf_puts.proofs.SharedRoom.{bytes_of, leaf_room, leaf_there, none_left, room, room_more, same_taken, uncut_each}
use Rattle.cdf_var_records.proofs.PutRoomCount.{IsBehind, leaves_behind}
use Rattle.cdf_var_records.specs.declared.packed_room.BlockRoom.{BlockRoom}
use Rattle.std.specs.List.{sum}

-- ---- the ranges that share a record, each with its own number of bytes

module _ (h : Range → ℕ) where
  -- no leaf has the record, nor begins before the next one
  pub gap_room : (k next last : ℕ) (xs : List Leaf) → k < next → Each (IsBehind k (next - 1)) xs → leaf_of k xs ≡ None → room h k last (of_leaves xs) ≡ room h next last (of_leaves xs)
  gap_room k next last [] lt behind none = refl
  gap_room k next last (x ∷ xs) lt behind none =
      grind (arith, nat_tests, none, behind.0, room_more h k last (range x.first x.last) (of_leaves xs), room_more h next last (range x.first x.last) (of_leaves xs), gap_room k next last xs lt behind.1)

-- ---- one block

pub leaf_block : (nodes : Nodes) (size k : ℕ) (l : Leaf) (bytes : ℕ) → Ascending 0 (suc record_number_limit) (leaves_of nodes) → leaf_of k (leaves_of nodes) ≡ Some l → l.last ≤ record_number_limit → bytes ≡ bytes_of size (range l.first l.last) → IsBlockRoom (ranges_of nodes) size k (record { next = l.last + 1; bytes = bytes })
leaf_block nodes size k l bytes a found within is =
    let there = (leaf_there k 0 (suc record_number_limit) (leaves_of nodes) l a found).1 in
    record {
      some = omega arith;
      inside = omega arith;
      counts = λ last le. leaf_room (bytes_of size) k last 0 (suc record_number_limit) (leaves_of nodes) l a found le ∙ ap (λ (n : ℕ). n + shared_room size (l.last + 1) last (ranges_of nodes)) (sym is);
    }

pub none_more : (n : ℕ) → n ≡ 0 + n
none_more n = omega arith

pub no_block : (nodes : Nodes) (size k next : ℕ) → leaf_of k (leaves_of nodes) ≡ None → k ≤ record_number_limit → next ≡ next_first k (firsts_of nodes) → IsBlockRoom (ranges_of nodes) size k (record { next = next; bytes = 0 })
no_block nodes size k next none small is =
    let past = next_past k (firsts_of nodes) small in
    let some : k < next = omega arith in
    let begins = none_begins k (next - 1) (firsts_of nodes) (omega arith) in
    record {
      some = some;
      inside = let upto = least_below (record_number_limit + 1) (filter (ltb k) (firsts_of nodes)) in omega arith;
      counts = λ last le. gap_room (bytes_of size) k next last (leaves_of nodes) some (leaves_behind k (next - 1) nodes begins) none ∙ none_more (shared_room size next last (ranges_of nodes));
    }

-- ---- one block more

pub one_more : (rs : List Range) (size first last k room : ℕ) (block : BlockRoom) → k ≤ last → IsBlockRoom rs size k block → shared_room size first last rs ≡ room + shared_room size k last rs → shared_room size first last rs ≡ (room + block.bytes) + shared_room size block.next last rs
one_more rs size first last k room block le is so_far = omega (arith, so_far, is.counts last le)

pub all_there : (rs : List Range) (size first last k room : ℕ) → last < k → shared_room size first last rs ≡ room + shared_room size k last rs → room ≡ shared_room size first last rs
all_there rs size first last k room lt so_far = omega (arith, so_far, none_left (bytes_of size) k last rs lt)

-- ---- the blocks that a put rewrites

-- under a rule, past MaxRec + 1: all that reach past MaxRec
cut_each : (v : Variable) (n low : ℕ) (xs : List Leaf) → cuts_before_put v n ≡ true → first_written v n ≡ n → extent v.max_rec < n → n ≤ record_number_limit → Ascending low (suc record_number_limit) xs
    → Each (λ (x : Leaf). is_rewritten v n (range x.first x.last) ≡ ltb 0 (shared (extent v.max_rec) record_number_limit (range x.first x.last))) xs
cut_each v n low [] cuts first past small a = tt
cut_each v n low (x ∷ xs) cuts first past small a =
    let order = a.1 in
    let within = a.2 in
    let rest = cut_each v n (suc x.last) xs cuts first past small a.3 in
    let one : (ltb 0 (shared n n (range x.first x.last)) || ltb 0 (shared (extent v.max_rec) record_number_limit (range x.first x.last))) ≡ ltb 0 (shared (extent v.max_rec) record_number_limit (range x.first x.last)) = grind (arith, nat_tests) in
    (rw (cuts, first) one, rest)

-- by the flags that were read of a VDR
pub flag_is : (b : List ℕ) (vdr : ℕ) {flags : ℕ} {packed : Bool} → flags ≡ number b vdr vdr_flags → packed ≡ has_bit flags vdr_compression_bit → (variable_at b vdr).rle ≡ packed
flag_is b vdr flags_are says = ap (λ (n : ℕ). has_bit n vdr_compression_bit) (sym flags_are) ∙ sym says

pub not_packed : (v : Variable) (nodes : Nodes) (n : ℕ) → v.rle ≡ false → 0 ≡ packed_room v nodes n
not_packed v nodes n loose = rw loose refl

module _ (v : Variable) (nodes : Nodes) (n from size : ℕ) (packed : v.rle ≡ true) (from_is : from ≡ first_written v n) (size_is : size ≡ record_length v) where
  packed_is : packed_room v nodes n ≡ sum (map (bytes_of (record_length v)) (filter (is_rewritten v n) (ranges_of nodes)))
  packed_is = rw packed refl

  sized : (first last : ℕ) → shared_room (record_length v) first last (ranges_of nodes) ≡ shared_room size first last (ranges_of nodes)
  sized first last = λ i. shared_room (sym size_is i) first last (ranges_of nodes)

  pub cut_rewrites : n ≤ record_number_limit → Ascending 0 (suc record_number_limit) (leaves_of nodes) → extent v.max_rec < from → shared_room size (extent v.max_rec) record_number_limit (ranges_of nodes) ≡ packed_room v nodes n
  cut_rewrites small a past = elim (either (is_sparse v.sparse)) [
    | inl t ↦
        let is : from ≡ n = rw t at from_is in
        let cuts : cuts_before_put v n ≡ true = rw (t, lt-ltb (extent v.max_rec) n (omega arith)) refl in
        sym (packed_is ∙ same_taken (bytes_of (record_length v)) (is_rewritten v n) _ (leaves_of nodes) (cut_each v n 0 (leaves_of nodes) cuts (sym from_is ∙ is) (omega arith) small a) ∙ sized (extent v.max_rec) record_number_limit)
    | inr t ↦ absurd (omega (arith, rw t at from_is))
  ]

  pub uncut_rewrites : from ≤ extent v.max_rec → shared_room size from n (ranges_of nodes) ≡ packed_room v nodes n
  uncut_rewrites le =
      sym (packed_is ∙ same_taken (bytes_of (record_length v)) (is_rewritten v n) _ (leaves_of nodes) (uncut_each v n (leaves_of nodes) uncut) ∙ sized (first_written v n) n ∙ ap (λ (k : ℕ). shared_room size k n (ranges_of nodes)) (sym from_is))
    where
      uncut : cuts_before_put v n ≡ false
      uncut = elim (either (is_sparse v.sparse)) [
        | inl t ↦ let is : from ≡ n = rw t at from_is in rw (t, le-ltb (extent v.max_rec) n (omega arith)) refl
        | inr t ↦ rw t refl
      ]
