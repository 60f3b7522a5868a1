-- The room that is left of a put into a packed variable once the records of one leaf are put: of a leaf that was there, or of one that is added.
use Rattle.std.proofs.Common.{Bool, None, Some, ap, arith, min, subst, suc, sym, ℕ, ◌+◌, ◌∙◌, ◌≡◌, ◌≤◌}
use Rattle.std.specs.Prelude.{find, if◌then◌else◌}
use Rattle.cdf_edits.specs.Commands.Room.{blocks_room, entries_in, packed_room, uncovered, widest}
use Rattle.cdf_edits.specs.Index.Blocks.{block_count, covers, firsts_of, next_first, range, ranges_before_put, ranges_of, record_length, shared, with_range}
use Rattle.cdf_edits.specs.Index.Grown.{new_room, with_leaf}
use Rattle.cdf_edits.proofs.Common.{ltb}
use Rattle.cdf_format.specs.Index.{Leaf, Nodes, leaf, leaves_of}
use Rattle.cdf_format.specs.Records.{vxr_bytes}
use Rattle.cdf_index.proofs.Common.{Ascending}
use Rattle.cdf_index.proofs.LeafMore.{leaves_more, ranges_new}
use Rattle.cdf_index.proofs.LeavesAscend.{leaves_ascend}
use Rattle.cdf_index.specs.Order.{InOrder}
use Rattle.cdf_model.specs.DataSet.{Variable}
use Rattle.cdf_model.specs.Limits.{record_number_limit}
use Rattle.cdf_puts.proofs.CoveringRanges.{Ends, covering_ends, covering_leaf, covering_past, covering_room, covering_same, of_leaves}
use Rattle.cdf_puts.proofs.SharedRoom.{bytes_of, later_less, leaf_room, room, room_with}
use Rattle.cdf_puts.specs.Covering.{Covering, block_bytes, new_last, node_bytes}
use Rattle.cdf_puts.specs.SharedRoom.{shared_room}
use Rattle.cdf_packed_puts.specs.Putting.{RoomLeft}

upto : (k n : ℕ) → k ≤ n → min k (n + 1) ≡ k
upto k n le = omega arith

none_of : (a more m : ℕ) → m ≡ 0 → (if ltb 0 m then a else 0) + more ≡ more
none_of a more m e = rw e (omega arith)

module _ {v : Variable} {index index' : Nodes} {n k bytes : ℕ} (r : RoomLeft v index index' n k bytes) (small : n ≤ record_number_limit) (le : k ≤ n) where
  covering : Covering v index index' n k r.taken
  covering = subst (λ (m : ℕ). Covering v index index' n m r.taken) (upto k n le) r.covers

  abbrev size : ℕ
  size = record_length v

  ascends : Ascending 0 (suc record_number_limit) (leaves_of index')
  ascends = leaves_ascend 0 record_number_limit index' covering.ordered (omega arith)

  -- ---- a leaf has the record

  module _ (l : Leaf) (e : find (λ (leaf : Leaf). covers k (range leaf.first leaf.last)) (leaves_of index') ≡ Some l) where
    room_is : shared_room size k n (ranges_of index') ≡ bytes_of size (range l.first l.last) + shared_room size (l.last + 1) n (ranges_of index')
    room_is = leaf_room (bytes_of size) k n 0 (suc record_number_limit) (leaves_of index') l ascends e le

    pub old_fits : bytes + bytes_of size (range l.first l.last) ≤ r.taken + packed_room v index n
    old_fits = let is = room_is in let enough = r.enough in omega arith

    pub old_put : (index'' : Nodes) → InOrder 0 record_number_limit index'' → ranges_of index'' ≡ ranges_of index' → firsts_of index'' ≡ firsts_of index' → widest index'' ≡ widest index' → entries_in index'' ≡ entries_in index' → (bytes' : ℕ) → bytes' ≤ bytes + bytes_of size (range l.first l.last) → RoomLeft v index index'' n (l.last + 1) bytes'
    old_put index'' order ranges firsts wide entries bytes' most = record {
      taken = r.taken;
      covers = covering_same (covering_past covering small le l e) order ranges firsts wide entries;
      enough = let same = ap (shared_room size (l.last + 1) n) ranges in let is = room_is in let was = r.enough in omega arith;
    }

  -- ---- none has it, and a new block ends here

  abbrev last : ℕ
  last = new_last v index' k

  pub new_ends : Ends k (next_first k (firsts_of index')) (block_count v) (new_last v index' k)
  new_ends = covering_ends covering small le

  module _ (same : ranges_before_put v index n ≡ ranges_of index) (vacant : find (λ (leaf : Leaf). covers k (range leaf.first leaf.last)) (leaves_of index') ≡ None) where
    pub new_fits : bytes + block_bytes v k (new_last v index' k) + vxr_bytes (widest index') ≤ blocks_room v index (uncovered v index n) + packed_room v index n
    new_fits = let room = covering_room covering small le same vacant in let enough = r.enough in omega arith

    -- no more is left to do than before
    behind : (place at : ℕ) (packed : Bool) → shared_room size (last + 1) n (ranges_of (with_leaf (leaf k last place packed) at index')) ≤ shared_room size k n (ranges_of index')
    behind place at packed =
        let ranges : ranges_of (with_leaf (leaf k last place packed) at index') ≡ with_range (range k last) (ranges_of index') = ap of_leaves (leaves_more (leaf k last place packed) at 0 record_number_limit index' covering.ordered) ∙ ranges_new (leaf k last place packed) (leaves_of index') in
        let none : shared (last + 1) n (range k last) ≡ 0 = omega arith in
        let same : shared_room size (last + 1) n (ranges_of (with_leaf (leaf k last place packed) at index')) ≡ shared_room size (last + 1) n (ranges_of index') =
        ap (shared_room size (last + 1) n) ranges ∙ room_with (bytes_of size) (last + 1) n (range k last) (ranges_of index') ∙ none_of (bytes_of size (range k last)) (room (bytes_of size) (last + 1) n (ranges_of index')) (shared (last + 1) n (range k last)) none in
        let from = new_ends.0 in
        let less = later_less (bytes_of size) k (last + 1) n (ranges_of index') (omega arith) in
        subst (λ (m : ℕ). m ≤ shared_room size k n (ranges_of index')) (sym same) less

    pub new_put : (place at : ℕ) (packed : Bool) → new_room k index' ≤ widest index' → (bytes' : ℕ) → bytes' ≤ bytes + block_bytes v k (new_last v index' k) + node_bytes k index' → RoomLeft v index (with_leaf (leaf k (new_last v index' k) place packed) at index') n (new_last v index' k + 1) bytes'
    new_put place at packed narrow bytes' most = record {
      taken = r.taken + block_bytes v k (new_last v index' k) + node_bytes k index';
      covers = covering_leaf covering small le same vacant place at packed narrow;
      enough = let left = behind place at packed in let before = r.enough in omega arith;
    }
