-- How many bytes the blocks take at most that have some records of a packed variable (own).
use Rattle.std.specs.Prelude.{ℕ, ◌+◌, ◌-◌, ◌*◌, List, map, nat_lt}
use Rattle.std.specs.List.{filter, sum}
use Rattle.cdf_edits.specs.Index.Blocks.{Range, shared}
use Rattle.cdf_format.specs.Records.{linked_size}

-- of each range that has one of the records from a first to a last: the least size of a record of the file, and the bytes of its records
abbrev pub shared_room : ℕ → ℕ → ℕ → List Range → ℕ
shared_room size first last ranges = sum (map (λ r. linked_size + (r.last + 1 - r.first) * size) (filter (λ r. nat_lt 0 (shared first last r)) ranges))
