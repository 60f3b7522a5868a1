-- Where a value stands within a record (CDF User's Guide, Variables: dimension variances, and CDFs: variable majority).
-- A dimension that does not vary has one value for all its indices, so a record has a value for each combination of the others.
use Rattle.std.specs.Prelude.{ℕ, ◌+◌, ◌*◌, List, [], ◌∷◌, Bool, true, false, ◌&&◌, nat_lt, if◌then◌else◌, Some, None}
use Rattle.std.specs.declared.option.Option.{Option}
use Rattle.cdf_model.specs.declared.data_type.DataType.{DataType}
use Rattle.cdf_model.specs.declared.head.Majority.{Majority}
use Rattle.cdf_model.specs.declared.head.Majority.TheVariants.{Row, Column}
use Rattle.cdf_model.specs.Types.{size_of}

-- own: the most bytes of a record of a variable, of a block and of an entry
abbrev pub record_limit : ℕ
record_limit = 67108864

-- the number of values of a record: the product of the sizes that vary
abbrev pub value_count : List ℕ → List Bool → ℕ
value_count (size ∷ dims) (true ∷ varys) = size * value_count dims varys
value_count (size ∷ dims) (false ∷ varys) = value_count dims varys
value_count dims varys = 1

-- the number of bytes of a record whose values have this number of elements each
abbrev pub record_size : DataType → ℕ → List ℕ → List Bool → ℕ
record_size t elems dims varys = size_of t * elems * value_count dims varys

-- one index per dimension, each below its size
abbrev pub has_place : List ℕ → List ℕ → Bool
has_place [] [] = true
has_place (size ∷ dims) (i ∷ index) = nat_lt i size && has_place dims index
has_place dims index = false

-- the last index moves fastest: each index times the product of the varying sizes after it
abbrev pub row_place : List ℕ → List Bool → List ℕ → ℕ
row_place (size ∷ dims) (true ∷ varys) (i ∷ index) = i * value_count dims varys + row_place dims varys index
row_place (size ∷ dims) (false ∷ varys) (i ∷ index) = row_place dims varys index
row_place dims varys index = 0

-- the first index moves fastest: each index times the product of the varying sizes before it
abbrev pub column_place : ℕ → List ℕ → List Bool → List ℕ → ℕ
column_place before (size ∷ dims) (true ∷ varys) (i ∷ index) = i * before + column_place (before * size) dims varys index
column_place before (size ∷ dims) (false ∷ varys) (i ∷ index) = column_place before dims varys index
column_place before dims varys index = 0

abbrev pub place_in : Majority → List ℕ → List Bool → List ℕ → ℕ
place_in Row dims varys index = row_place dims varys index
place_in Column dims varys index = column_place 1 dims varys index

-- the place of an index, and none where it has none
abbrev pub place : Majority → List ℕ → List Bool → List ℕ → Option ℕ
place majority dims varys index = if has_place dims index then Some (place_in majority dims varys index) else None
