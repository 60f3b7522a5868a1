-- How many bytes `del-recs` may take of a variable without a sparse rule, by the at most two blocks of which it takes some records but not all: the one that has the first record, and the one that has the last (own).
use Rattle.std.specs.Prelude.{ℕ, ◌≤◌, ◌+◌, ◌-◌, ◌*◌, ◌&&◌, ◌||◌, nat_lt, if◌then◌else◌, Some, None}
use Rattle.std.specs.declared.option.Option.{Option}
use Rattle.cdf_format.specs.Index.{Leaf}
use Rattle.cdf_format.specs.Records.{linked_size}
use Rattle.cdf_index.specs.declared.nodes.Leaf.{Leaf as FoundLeaf}
use Rattle.cdf_model.specs.Limits.{image_limit, record_number_limit}

-- of a block that is taken in part
abbrev pub part_room : ℕ → Leaf → ℕ
part_room size l = 3 * linked_size + 2 * ((l.last + 1 - l.first) * size)

-- of the block that has the first record
abbrev pub front_room : ℕ → ℕ → ℕ → Option Leaf → ℕ
front_room first last size None = 0
front_room first last size (Some l) = if nat_lt l.first first || nat_lt last l.last then part_room size l else 0

-- of the one that has the last record, where it is another one
abbrev pub back_room : ℕ → ℕ → ℕ → Option Leaf → ℕ
back_room first last size None = 0
back_room first last size (Some l) = if nat_lt first l.first && nat_lt last l.last then part_room size l else 0

-- its records lie in an image
abbrev pub IsSmall : ℕ → Option FoundLeaf → Type 0
IsSmall size None = Unit {0}
IsSmall size (Some l) = (l.first ≤ l.last) × (l.last ≤ record_number_limit) × ((l.last + 1 - l.first) * size ≤ image_limit)
