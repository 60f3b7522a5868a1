-- What a VDR says of its variable (CDF Internal Format Description, "Variable Descriptor Records").
use Rattle.std.specs.Prelude.{ℕ, ℤ, pos, ◌-ℤ◌, ◌+◌, ◌*◌, List, map, Bool, not, ◌==◌, if◌then◌else◌, Some, None}
use Rattle.std.specs.declared.option.Option.{Option}
use Rattle.cdf_model.specs.declared.data_type.DataType.{DataType}
use Rattle.cdf_model.specs.declared.kinds.Sparse.{Sparse}
use Rattle.cdf_model.specs.declared.kinds.Sparse.TheVariants.{NoRule, Pad, Previous}
use Rattle.cdf_model.specs.Place.{record_size}
use Rattle.cdf_model.specs.Types.{size_of}
use Rattle.cdf_format.specs.Fields.{words, counted, with_sign, number, integer4, has_bit, type_at, gdr_offset, r_num_dims, r_sizes}
use Rattle.cdf_format.specs.Records.{Field, vdr_data_type, vdr_max_rec, vdr_flags, vdr_variance_bit, vdr_pad_bit, vdr_s_records, vdr_num_elems, vdr_r_dim_vary, vdr_r_pad_value, vdr_z_num_dims, vdr_z_dim_size, vdr_z_dim_vary, vdr_z_pad_value}
use Rattle.cdf_format.specs.RecordTypes.{z_vdr_type}
use Rattle.cdf_format.specs.Index.{Leaf}
use Rattle.cdf_format.specs.Stored.{data_type_in, network_bytes}

abbrev pub is_z : List ℕ → ℕ → Bool
is_z b vdr = type_at b vdr == z_vdr_type

-- 4 bytes that were read without a sign, with their sign, below 0 taken as 0
abbrev pub counted4 : ℕ → ℕ
counted4 n = counted (with_sign n)

-- r variables share the dimensions of the GDR
abbrev pub dimensions_at : List ℕ → ℕ → ℕ
dimensions_at b vdr = if is_z b vdr then counted (integer4 b vdr vdr_z_num_dims) else r_num_dims b (gdr_offset b)

-- Their sizes. Of a z variable one below 0 counts as 0; those of the GDR are positive, by rule 3.3.
abbrev pub dims_at : List ℕ → ℕ → List ℕ
dims_at b vdr = if is_z b vdr then map counted4 (words b (vdr + (vdr_z_dim_size 0).place) (dimensions_at b vdr)) else r_sizes b (gdr_offset b)

-- DimVarys, of so many dimensions: 0 does not vary, and each other number does (own; -1 in the format)
abbrev pub vary_field : List ℕ → ℕ → Field
vary_field b vdr = if is_z b vdr then vdr_z_dim_vary (dimensions_at b vdr) 0 else vdr_r_dim_vary 0

abbrev pub varys_at : List ℕ → ℕ → List Bool
varys_at b vdr = map (λ n. not (n == 0)) (words b (vdr + (vary_field b vdr).place) (dimensions_at b vdr))

abbrev pub type_of_variable : List ℕ → ℕ → DataType
type_of_variable b vdr = data_type_in b vdr vdr_data_type

-- NumElems; below 0 there are none
abbrev pub elems_at : List ℕ → ℕ → ℕ
elems_at b vdr = counted (integer4 b vdr vdr_num_elems)

-- the bytes of a value, and of a record
abbrev pub value_bytes : List ℕ → ℕ → ℕ
value_bytes b vdr = size_of (type_of_variable b vdr) * elems_at b vdr

abbrev pub record_bytes : List ℕ → ℕ → ℕ
record_bytes b vdr = record_size (type_of_variable b vdr) (elems_at b vdr) (dims_at b vdr) (varys_at b vdr)

-- what its Flags say: records vary; there is a pad value
abbrev pub records_vary : List ℕ → ℕ → Bool
records_vary b vdr = has_bit (number b vdr vdr_flags) vdr_variance_bit

abbrev pub has_pad : List ℕ → ℕ → Bool
has_pad b vdr = has_bit (number b vdr vdr_flags) vdr_pad_bit

abbrev pub pad_field : List ℕ → ℕ → Field
pad_field b vdr = if is_z b vdr then vdr_z_pad_value (dimensions_at b vdr) (value_bytes b vdr) else vdr_r_pad_value (dimensions_at b vdr) (value_bytes b vdr)

abbrev pub pad_at : List ℕ → ℕ → Option (List ℕ)
pad_at b vdr = if has_pad b vdr then Some (network_bytes b vdr (pad_field b vdr) (type_of_variable b vdr)) else None

-- SRecords: 0 no rule, 1 the pad value, 2 the previous record; rule 7.9 refuses each other number, which counts as 2 here
abbrev pub sparse_at : List ℕ → ℕ → Sparse
sparse_at b vdr = if number b vdr vdr_s_records == 0 then NoRule else (if number b vdr vdr_s_records == 1 then Pad else Previous)

abbrev pub max_rec_at : List ℕ → ℕ → ℤ
max_rec_at b vdr = integer4 b vdr vdr_max_rec

-- the number before First of an entry, with its sign
abbrev pub number_before : ℕ → ℤ
number_before first = with_sign first -ℤ pos 1

-- the number of records of a leaf, from First to Last with their sign, and their plain bytes
abbrev pub records_of_leaf : Leaf → ℕ
records_of_leaf leaf = counted (with_sign leaf.last -ℤ number_before leaf.first)

abbrev pub plain_size : List ℕ → ℕ → Leaf → ℕ
plain_size b vdr leaf = records_of_leaf leaf * record_bytes b vdr
