-- Values as they are stored, in the byte order of the file's encoding (CDF Internal Format Description, CDF Descriptor Record, Encoding).
use Rattle.std.specs.Prelude.{ℕ, ◌+◌, List, take, drop, Bool, false, Some, None}
use Rattle.std.specs.declared.option.Option.{Option}
use Rattle.std.specs.Option.{unwrap_or}
use Rattle.cdf_model.specs.declared.data_type.DataType.{DataType}
use Rattle.cdf_model.specs.declared.data_type.DataType.TheVariants.{Byte}
use Rattle.cdf_model.specs.ByteOrder.{turned}
use Rattle.cdf_model.specs.Encodings.{encoding_at}
use Rattle.cdf_model.specs.Types.{type_of}
use Rattle.cdf_format.specs.Fields.{counted, integer4, integer8, encoding}
use Rattle.cdf_format.specs.Records.{Field, cvvr_c_size, cvvr_packed}

-- the bytes of a field of the record at a place
abbrev pub field_bytes : List ℕ → ℕ → Field → List ℕ
field_bytes b place f = take f.width (drop (place + f.place) b)

-- the lowest byte of an element stands first
abbrev pub is_little : List ℕ → Bool
is_little b = elim (encoding_at (encoding b)) [ None ↦ false | Some e ↦ e.little ]

abbrev pub known_type : List ℕ → ℕ → Field → Option DataType
known_type b place f = type_of (integer4 b place f)

-- a code that is not known counts as BYTE: rules 6.8 and 7.3 refuse it
abbrev pub data_type_in : List ℕ → ℕ → Field → DataType
data_type_in b place f = unwrap_or (known_type b place f) Byte

-- values of a field, in network order
abbrev pub network_bytes : List ℕ → ℕ → Field → DataType → List ℕ
network_bytes b place f t = turned t (is_little b) (field_bytes b place f)

-- the packed bytes of a CVVR, cSize of them; below 0 there are none
abbrev pub packed_bytes : List ℕ → ℕ → List ℕ
packed_bytes b cvvr = field_bytes b cvvr (cvvr_packed (counted (integer8 b cvvr cvvr_c_size)))
