-- How many bytes the blocks take at most that have some records of a packed variable, one block after the other (own).
use Rattle.std.specs.Prelude.{◌≡◌, ◌≤◌, ◌<◌, ℕ, ◌+◌, List}
use Rattle.cdf_edits.specs.Index.Blocks.{Range}
use Rattle.cdf_model.specs.Limits.{record_number_limit}
use Rattle.cdf_puts.specs.SharedRoom.{shared_room}
use Rattle.cdf_var_records.specs.declared.packed_room.BlockRoom.{BlockRoom}

-- what the range takes that has record k, or 0 where none has it, and a record up to which no other range begins
pub record IsBlockRoom (ranges : List Range) (size k : ℕ) (block : BlockRoom) : Type 0 where
  pub some : k < block.next
  pub inside : block.next ≤ record_number_limit + 1
  pub counts : (last : ℕ) → k ≤ last → shared_room size k last ranges ≡ block.bytes + shared_room size block.next last ranges
