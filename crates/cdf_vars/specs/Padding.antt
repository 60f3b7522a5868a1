-- How a variable gets a pad value: the record that is made where the VDR has no room, and how that takes its place (own).
use Rattle.std.specs.Prelude.{◌≡◌, ◌<◌, ℕ, ◌+◌, ◌-◌, ◌*◌, List, ◌++◌, length, take, drop, slice_set, slice_index, Bool, Some, Ok}
use Rattle.byteorder.specs.Endian.{big_bytes}
use Rattle.cdf_base.specs.Bytes.{put}
use Rattle.cdf_edits.specs.Answers.{Answers}
use Rattle.cdf_edits.specs.Commands.NewRecords.{with_bits}
use Rattle.cdf_edits.specs.Space.Adding.{Exchanged}
use Rattle.cdf_edits.specs.Space.Placement.{Gives}
use Rattle.cdf_edits.specs.Space.VariableChains.{variables_chain}
use Rattle.cdf_format.specs.Fields.{number, size_at}
use Rattle.cdf_format.specs.Records.{past, record_size, vdr_flags, vdr_pad_bit, vdr_name}
use Rattle.cdf_format.specs.Shape.{shape}
use Rattle.cdf_format.specs.Stored.{is_little}
use Rattle.cdf_format.specs.VariableFields.{pad_field, value_bytes}
use Rattle.cdf_model.specs.ByteOrder.{turned}
use Rattle.cdf_model.specs.declared.answer.Outcome.TheVariants as outcomes
use Rattle.cdf_model.specs.declared.command.Command.TheVariants.{SetPad}
use Rattle.cdf_model.specs.declared.data_type.DataType.{DataType}
use Rattle.cdf_model.specs.declared.kinds.Kind.{Kind}
use Rattle.cdf_model.specs.Types.{size_of}
use Rattle.cdf_model.specs.Values.{values_in}
use Rattle.cdf_records.specs.Pieces.{AreBytes}
use Rattle.cdf_vars.specs.declared.vars.VarId.{VarId}
use Rattle.cdf_vars.specs.declared.padding.PadRequest.{PadRequest}
use Rattle.cdf_vars.specs.declared.padding.PadRequest.TheVariants.{Put, Refused}
use Rattle.cdf_var_records.specs.Descriptors.{IsPlace}
use Rattle.cdf_var_records.specs.declared.pad_place.PadPlace.{PadPlace}
use Rattle.cdf_vars.specs.Finding.{found_among}
use Rattle.cdf_vars.specs.Known.{Known, known_of}

-- a word writes bytes of a value, in the byte order of a file
pub record IsValue (little : Bool) (t : DataType) (elems : ℕ) (words : List (List ℕ)) (bytes : List ℕ) : Type 0 where
  pub value : List ℕ
  pub read : values_in t elems 1 words ≡ Ok value
  pub turns : turned t little bytes ≡ value
  pub long : length bytes ≡ size_of t * elems

-- the variable of a name gets these bytes at a place
pub record MayPad (b : List ℕ) (known : Known) (name : List ℕ) (words : List (List ℕ)) (id : VarId) (p : PadPlace) (bytes : List ℕ) : Type 0 where
  pub found : found_among known name ≡ Some id
  pub place : IsPlace b p.vdr p
  pub vdr_is : p.vdr ≡ slice_index (known_of known id.kind).places id.num
  pub value : IsValue (is_little b) p.t p.elems words bytes

abbrev pub IsRequest : List ℕ → Known → List ℕ → List (List ℕ) → PadRequest → Type 0
IsRequest b known name words (Put id p bytes) = MayPad b known name words id p bytes.items
IsRequest b known name words (Refused reason) = (limit : ℕ) → Answers limit b (SetPad name words) (outcomes.Refused reason) b

-- bit 1 of Flags says that there is a pad value
abbrev pub padded_flags : ℕ → ℕ
padded_flags n = with_bits n vdr_pad_bit 1 1

-- what follows the size of a VDR with these bytes as its pad value, which has all before that of one at a place but bit 1 of Flags
abbrev pub padded_body : List ℕ → ℕ → List ℕ → List ℕ
padded_body b vdr bytes = put (take ((pad_field b vdr).place - past record_size) (drop (vdr + past record_size) b)) (vdr_flags.place - past record_size) (big_bytes vdr_flags.width (padded_flags (number b vdr vdr_flags))) ++ bytes

-- it has the bytes of a value, for which the VDR had no room
pub record IsPadded (b : List ℕ) (vdr : ℕ) (body : List ℕ) : Type 0 where
  pub bytes : List ℕ
  pub is : body ≡ padded_body b vdr bytes
  pub long : length bytes ≡ value_bytes b vdr
  pub short : size_at b vdr < (pad_field b vdr).place + length bytes
  pub read : AreBytes b vdr vdr_name.place

-- A record with these bytes behind its size took the place of the VDR, which was freed.
pub record MovedTo (b now : List ℕ) (kind : Kind) (vdr : ℕ) (body : List ℕ) (by : ℕ) : Type 0 where
  pub late : List ℕ
  pub exchanged : Exchanged b late (variables_chain kind) body vdr by
  pub read : AreBytes late by vdr_name.place
  pub gives : Gives late now (shape late) (shape now) vdr

-- the VDR at an index of these places moved
pub record Moves (b now : List ℕ) (kind : Kind) (p : PadPlace) (bytes : List ℕ) (places places' : List ℕ) (num : ℕ) : Type 0 where
  pub by : ℕ
  pub moved : MovedTo b now kind p.vdr (padded_body b p.vdr bytes) by
  pub places_are : places' ≡ slice_set places num by
