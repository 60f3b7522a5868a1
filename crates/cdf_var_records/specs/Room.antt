-- How many of the records that a put writes have no block, and how many bytes new blocks for them take (own).
use Rattle.std.specs.Prelude.{◌≡◌, ◌≤◌, ◌<◌, ℕ, zero, suc, ◌+◌, ◌-◌, ◌*◌, ◌/◌, min, max, List, map, Bool, if◌then◌else◌}
use Rattle.std.specs.List.{sum}
use Rattle.cdf_edits.specs.Commands.Room.{entries_in, put_room, quotient_up, uncovered, widest}
use Rattle.cdf_edits.specs.Index.Blocks.{Range, block_limit}
use Rattle.cdf_format.specs.Fields.{number}
use Rattle.cdf_format.specs.Index.{Nodes}
use Rattle.cdf_format.specs.Records.{linked_size, vdr_vxr_head, vxr_bytes}
use Rattle.cdf_index.specs.Finding.{index_at}
use Rattle.cdf_puts.specs.Starts.{ExpectsEntries}
use Rattle.cdf_puts.specs.declared.starts.Starts.{Starts}
use Rattle.cdf_var_records.specs.Records.{variable_at}
use Rattle.cdf_var_records.specs.declared.put_room.NewBlocks.{NewBlocks}
use Rattle.cdf_var_records.specs.declared.put_room.Stretch.{Stretch}

-- how many records from a first on and before an end are in these ranges
abbrev pub covered_before : ℕ → ℕ → List Range → ℕ
covered_before first end ranges = sum (map (λ r. min end (r.last + 1) - max first r.first) ranges)

-- how many records a new block has, by whether records vary, by BlockingFactor and by the bytes of a record
abbrev pub count_in_block : Bool → ℕ → ℕ → ℕ
count_in_block vary wanted length = if vary then max 1 (min wanted (block_limit / length)) else 1

-- records from k on and before an end, which have a block or have none
pub record IsStretch (ranges : List Range) (k r : ℕ) (s : Stretch) : Type 0 where
  pub some : k < s.end
  pub inside : s.end ≤ r + 1
  pub counts : covered_before k s.end ranges + s.missing ≡ s.end - k

-- the bytes of so many records in new blocks, in an index of so many used entries whose widest node has room for so many
abbrev pub bytes_by : ℕ → ℕ → ℕ → ℕ → ℕ → ℕ
bytes_by count size zero entries wide = 0
bytes_by count size (suc u) entries wide = (u + count) * size + (quotient_up (suc u) count + entries + 1) * (linked_size + vxr_bytes wide)

-- the room of new blocks in such an index, and in this one
abbrev pub room_by : NewBlocks → ℕ → ℕ → ℕ
room_by blocks entries wide = bytes_by blocks.count blocks.size blocks.missing entries wide

abbrev pub room_in : Nodes → NewBlocks → ℕ
room_in index blocks = room_by blocks (entries_in index) (widest index)

-- the room of a put of record n of the variable whose VDR stands there
abbrev pub put_room_at : List ℕ → ℕ → ℕ → ℕ
put_room_at b vdr n = put_room (variable_at b vdr) (index_at b (number b vdr vdr_vxr_head)) n

-- how large the index of the variable is at most, if that is known, leaves room for the entries of such a put
abbrev pub ExpectsPut : List ℕ → ℕ → ℕ → Starts → Type 0
ExpectsPut b vdr n starts = ExpectsEntries starts vdr (index_at b (number b vdr vdr_vxr_head)) (uncovered (variable_at b vdr) (index_at b (number b vdr vdr_vxr_head)) n)
