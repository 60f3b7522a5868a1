-- How many bytes `del-recs` may take of a variable under a rule for missing records, by the at most three blocks of which it takes some records but not all: the one that has the first record that goes, the one that has the last, and the one that has the first past the end (own).
use Rattle.std.specs.Prelude.{ℕ, Bool, ◌||◌, if◌then◌else◌, Some, None}
use Rattle.std.specs.declared.option.Option.{Option}
use Rattle.cdf_edits.specs.Commands.Room.{cuts_in_part}
use Rattle.cdf_edits.specs.Index.Blocks.{covers, range}
use Rattle.cdf_format.specs.Index.{Leaf}
use Rattle.cdf_model.specs.Limits.{record_number_limit}
use Rattle.cdf_cuts.specs.ClosingRoom.{part_room}

-- some of its records go, but not all, where those from a first to a last go, or those from an end on
abbrev pub opens_in_part : ℕ → ℕ → ℕ → Leaf → Bool
opens_in_part first last end l = cuts_in_part first last (range l.first l.last) || cuts_in_part end record_number_limit (range l.first l.last)

-- of a block that was found, where it is taken in part
abbrev pub found_room : (Leaf → Bool) → ℕ → Option Leaf → ℕ
found_room in_part size None = 0
found_room in_part size (Some l) = if in_part l then part_room size l else 0

-- unless it has this record
abbrev pub without_record : ℕ → Option Leaf → Option Leaf
without_record rec None = None
without_record rec (Some l) = if covers rec (range l.first l.last) then None else Some l
