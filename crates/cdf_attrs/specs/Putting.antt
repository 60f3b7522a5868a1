-- An entry of an attribute as it is written (CDF Internal Format Description, "Attribute Entry Descriptor Record").
use Rattle.std.specs.Prelude.{◌≡◌, ◌≤◌, ◌<◌, ◌*◌, ◌^◌, ℕ, ℤ, List, [], ◌∷◌, ◌++◌, length}
use Rattle.std.specs.Int.{w32, cast_unsigned}
use Rattle.cdf_model.specs.declared.data_type.DataType.{DataType}
use Rattle.cdf_model.specs.declared.kinds.EntryKind.{EntryKind}
use Rattle.cdf_model.specs.Limits.{signed_limit}
use Rattle.cdf_model.specs.Place.{record_limit}
use Rattle.cdf_model.specs.Types.{code_of, size_of}
use Rattle.cdf_format.specs.Fields.{number, with_field}
use Rattle.cdf_format.specs.Records.{Field, record_type, aedr_aedr_next, aedr_attr_num, aedr_data_type, aedr_num, aedr_num_elems, aedr_num_strings, aedr_rfu_b, aedr_rfu_c, aedr_rfu_d, aedr_rfu_e}
use Rattle.cdf_attrs.specs.declared.entry_bytes.Reserved.{Reserved}
use Rattle.cdf_edits.specs.Commands.EntryChains.{chain_of, entry_type, max_field}
use Rattle.cdf_edits.specs.Edits.EntryMarks.{count_field, entries_chain}
use Rattle.cdf_edits.specs.Space.Chains.{Removed}
use Rattle.cdf_edits.specs.Space.Placement.{Gives}
use Rattle.cdf_edits.specs.Space.Placing.{laid_out}
use Rattle.cdf_format.specs.Shape.{AttributeShape, shape}
use Rattle.cdf_format.specs.Tiles.{In}

-- the numbers in the reserved fields of a new entry
abbrev pub new_reserved : Reserved
new_reserved = record { b = 0; c = 0; d = 0xffffffff; e = 0xffffffff }

-- those of an entry that stands at a place
abbrev pub reserved_at : List ℕ → ℕ → Reserved
reserved_at b place = record { b = number b place aedr_rfu_b; c = number b place aedr_rfu_c; d = number b place aedr_rfu_d; e = number b place aedr_rfu_e }

-- what the fields say that follow the link to the next one
abbrev pub aedr_fields : ℕ → DataType → ℕ → ℕ → Reserved → List (Field × ℕ)
aedr_fields attr t num elems r =
    (aedr_attr_num, attr)
    ∷ (aedr_data_type, code_of t)
    ∷ (aedr_num, num)
    ∷ (aedr_num_elems, elems)
    ∷ (aedr_num_strings, 0)
    ∷ (aedr_rfu_b, r.b)
    ∷ (aedr_rfu_c, r.c)
    ∷ (aedr_rfu_d, r.d)
    ∷ (aedr_rfu_e, r.e)
    ∷ []

-- what follows the size of an entry that no other one follows, with this value
unfoldable pub aedr_body : EntryKind → ℕ → DataType → ℕ → ℕ → Reserved → List ℕ → List ℕ
aedr_body kind attr t num elems r value = laid_out ((record_type, entry_type kind) ∷ (aedr_aedr_next, 0) ∷ aedr_fields attr t num elems r) ++ value

-- the numbers fit their fields
pub record Fit (attr num elems : ℕ) (r : Reserved) : Type 0 where
  pub attr_fits : attr < 2 ^ 32
  pub num_fits : num < 2 ^ 32
  pub elems_fit : elems < 2 ^ 32
  pub b_fits : r.b < 2 ^ 32
  pub c_fits : r.c < 2 ^ 32
  pub d_fits : r.d < 2 ^ 32
  pub e_fits : r.e < 2 ^ 32

-- these are the bytes of so many elements of a type, as an entry may have them
pub record IsStored (t : DataType) (elems : ℕ) (value : List ℕ) : Type 0 where
  pub long : size_of t * elems ≡ length value
  pub some : 1 ≤ elems
  pub few : elems ≤ signed_limit
  pub short : length value ≤ record_limit

-- an entry of the chain of a kind of an attribute, whose ADR stands at a place
pub record IsEntryOf (b : List ℕ) (kind : EntryKind) (adr entry : ℕ) : Type 0 where
  pub before : List AttributeShape
  pub own : AttributeShape
  pub after : List AttributeShape
  pub stands : (shape b).attributes ≡ before ++ own ∷ after
  pub adr_is : own.adr ≡ adr
  pub member : In entry (chain_of own kind)

-- an entry was taken out of its chain, the count and then the greatest number were written, and it was freed after that
pub record RemovedAs (b now : List ℕ) (kind : EntryKind) (adr entry : ℕ) (count greatest : ℤ) : Type 0 where
  pub mid : List ℕ
  pub removed : Removed b mid (entries_chain kind adr) entry
  pub counted : List ℕ
  pub count_written : counted ≡ with_field mid adr (count_field kind) (cast_unsigned w32 count)
  pub late : List ℕ
  pub written : late ≡ with_field counted adr (max_field kind) (cast_unsigned w32 greatest)
  pub gives : Gives late now (shape late) (shape now) entry
