-- How a put gives its records a block, one after the other, and how many bytes that takes at most by then (own; of a variable of which nothing has to be cut first).
use Rattle.std.specs.Prelude.{◌≡◌, ◌≤◌, ◌<◌, ℕ, suc, ◌+◌, ◌-◌, ◌*◌, ◌==◌, max, List, [], ◌∷◌, nat_le, if◌then◌else◌, find, None}
use Rattle.cdf_model.specs.DataSet.{Variable}
use Rattle.cdf_model.specs.Limits.{record_number_limit}
use Rattle.cdf_edits.specs.Commands.Room.{blocks_room, entries_in, uncovered, widest}
use Rattle.cdf_edits.specs.Index.Blocks.{Range, ranges_of, covers, covered, record_length, block_count, firsts_of, next_first, new_range, cover, first_written, ranges_after_put}
use Rattle.cdf_edits.specs.Index.Grown.{new_room}
use Rattle.cdf_format.specs.Index.{Nodes}
use Rattle.cdf_format.specs.Records.{vxr_bytes, vvr_bytes, linked_size}
use Rattle.cdf_index.specs.Order.{InOrder}

-- the last record of a block that is made for record k
abbrev pub new_last : Variable → Nodes → ℕ → ℕ
new_last v index k = (new_range v (firsts_of index) k).last

-- the bytes of a block of these records, a VVR, and those of the VXR that its entry needs, if it needs one
abbrev pub block_bytes : Variable → ℕ → ℕ → ℕ
block_bytes v first last = max linked_size (vvr_bytes ((last + 1 - first) * record_length v))

abbrev pub node_bytes : ℕ → Nodes → ℕ
node_bytes first index = if new_room first index == 0 then 0 else vxr_bytes (new_room first index)

-- how many of these numbers are at most k
abbrev pub count_upto : ℕ → List ℕ → ℕ
count_upto k [] = 0
count_upto k (first ∷ more) = if nat_le first k then suc (count_upto k more) else count_upto k more

-- So many of the records up to n are in new blocks by now, and those are so many: each of them is full, but for one before each First of `index` that was passed.
pub record Counted (v : Variable) (index index' : Nodes) (n k taken : ℕ) : Type 0 where
  pub records : ℕ
  pub blocks : ℕ
  pub records_are : covered (first_written v n) n (ranges_of index') ≡ covered (first_written v n) n (ranges_of index) + records
  pub blocks_are : blocks * block_count v ≤ records + count_upto k (firsts_of index) * block_count v
  pub bytes_are : taken ≤ records * record_length v + blocks * (linked_size + vxr_bytes (widest index))

-- Each record up to n gets a block where it has none, which makes these ranges of those: from `next` on, in so many steps at most; the records from k up to it have one.
pub record Ahead (v : Variable) (firsts : List ℕ) (n k : ℕ) (ranges after : List Range) : Type 0 where
  pub next : ℕ
  pub steps : ℕ
  pub upto : k ≤ next
  pub enough : n + 1 ≤ steps + next
  pub between : (j : ℕ) → k ≤ j → j < next → j ≤ n → find (covers j) ranges ≡ None → ⊥
  pub leads : cover steps v firsts next n ranges ≡ after

-- Record n is put. The index was `index` and is `index'` by now: what is written before record k has its block, and so many bytes were taken for it.
-- What is left to do leads to the ranges that the put leaves; a First past k is one of `index`; no node is wider than its widest, and at most as many entries came as records got a block; and the room for new blocks is enough.
pub record Covering (v : Variable) (index index' : Nodes) (n k taken : ℕ) : Type 0 where
  pub ordered : InOrder 0 record_number_limit index'
  pub from : first_written v n ≤ k
  pub ahead : Ahead v (firsts_of index) n k (ranges_of index') (ranges_after_put v index n)
  pub nexts : (m : ℕ) → k ≤ m → next_first m (firsts_of index') ≡ next_first m (firsts_of index)
  pub as_wide : widest index' ≤ widest index
  pub grown : entries_in index' + covered (first_written v n) n (ranges_of index) ≤ entries_in index + covered (first_written v n) n (ranges_of index')
  pub fits : taken ≤ blocks_room v index (uncovered v index n)
  pub counted : k ≤ n → Counted v index index' n k taken
