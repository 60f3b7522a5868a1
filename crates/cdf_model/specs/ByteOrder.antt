-- The byte order of values (CDF Internal Format Description, CDF Descriptor Record, Encoding). In network order the highest byte of an element stands first.
use Rattle.std.specs.Prelude.{ℕ, zero, suc, ◌/◌, List, [], ◌∷◌, length, take, drop, reverse, Bool, if◌then◌else◌}
use Rattle.std.specs.List.{flat_map}
use Rattle.cdf_model.specs.declared.data_type.DataType.{DataType}
use Rattle.cdf_model.specs.declared.data_type.DataType.TheVariants.{Epoch16}
use Rattle.cdf_model.specs.Types.{size_of}

-- so many parts of n bytes each, one after the other
abbrev pub parts : ℕ → ℕ → List ℕ → List (List ℕ)
parts n zero bytes = []
parts n (suc count) bytes = take n bytes ∷ parts n count (drop n bytes)

-- the bytes that a byte order turns round together: an element, but each half of an EPOCH16 by itself
abbrev pub unit_of : DataType → ℕ
unit_of Epoch16 = 8
unit_of t = size_of t

-- Elements turned between the byte order of an encoding and network order: where the least byte stands first, each unit is reversed.
abbrev pub turned : DataType → Bool → List ℕ → List ℕ
turned t little bytes = if little then flat_map reverse (parts (unit_of t) (length bytes / unit_of t) bytes) else bytes
