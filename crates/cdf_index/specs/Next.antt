-- The least First past a record, of all entries of an index.
use Rattle.std.specs.Prelude.{ℕ, nat_le, Some, None, if◌then◌else◌}
use Rattle.std.specs.declared.option.Option.{Option}
use Rattle.cdf_model.specs.Limits.{record_number_limit}
use Rattle.cdf_edits.specs.Index.Blocks.{firsts_of, next_first}
use Rattle.cdf_format.specs.Index.{Nodes}

-- none where a number is past the greatest one of a record
abbrev pub number_within : ℕ → Option ℕ
number_within n = if nat_le n record_number_limit then Some n else None

abbrev pub least_first_past : ℕ → Nodes → Option ℕ
least_first_past rec nodes = number_within (next_first rec (firsts_of nodes))
