-- Where the entries of a node lead on, and the First that comes next.
use Rattle.std.specs.Prelude.{◌≤◌, ◌<◌, ◌+◌, ◌==◌, ℕ, zero, suc, List, [], ◌∷◌, length, nat_lt, Some, if◌then◌else◌}
use Rattle.std.specs.declared.option.Option.{Option}
use Rattle.cdf_format.specs.Fields.{type_at}
use Rattle.cdf_format.specs.Index.{used_count, first_at, offset_at}
use Rattle.cdf_format.specs.Records.{past, record_type}
use Rattle.cdf_format.specs.RecordTypes.{vxr_type}

-- the first i entries of a node begin at a record or before it, and the one behind them does not
pub record Begun (b : List ℕ) (at rec i : ℕ) : Type 0 where
  pub before : (j : ℕ) → j < i → first_at b at j ≤ rec
  pub most : i ≤ used_count b at
  pub stop : i < used_count b at → rec < first_at b at i

-- what the entries of a node name lies in the image
abbrev pub NamesIn : List ℕ → ℕ → Type 0
NamesIn b at = (j : ℕ) → j < used_count b at → offset_at b at j + past record_type ≤ length b

-- the lower chain that an entry names, 0 where it names a block
abbrev pub chain_at : List ℕ → ℕ → ℕ → ℕ
chain_at b at j = if type_at b (offset_at b at j) == vxr_type then offset_at b at j else 0

-- that of the entry before number i
abbrev pub chain_before : List ℕ → ℕ → ℕ → ℕ → ℕ
chain_before b at lower zero = lower
chain_before b at lower (suc j) = chain_at b at j

-- the first of these numbers that is past the record, else another one
abbrev pub first_past : ℕ → List ℕ → Option ℕ → Option ℕ
first_past rec [] other = other
first_past rec (n ∷ more) other = if nat_lt rec n then Some n else first_past rec more other
