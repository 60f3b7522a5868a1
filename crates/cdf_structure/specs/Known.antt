-- What is known of indexes that were met, and of their packed blocks.
use Rattle.std.specs.Prelude.{◌≡◌, ◌≤◌, ◌⊎◌, ℕ, List, Some, true, IfSome}
use Rattle.std.specs.declared.option.Option.{Option}
use Rattle.std.specs.BTreeMap.{get}
use Rattle.std.specs.Ordering.{nat_cmp}
use Rattle.cdf_model.specs.Place.{record_limit}
use Rattle.cdf_format.specs.Fields.{number}
use Rattle.cdf_format.specs.IndexRules.{met_rows, unpacks_to}
use Rattle.cdf_format.specs.Records.{vdr_vxr_head}
use Rattle.cdf_format.specs.Rules.{Hold}
use Rattle.cdf_format.specs.Owners.{variable_records}
use Rattle.cdf_format.specs.Shape.{index_of, is_compressed, variable_shape}
use Rattle.cdf_format.specs.Stored.{packed_bytes}
use Rattle.cdf_format.specs.VariableFields.{record_bytes}
use Rattle.cdf_structure.specs.Indexes.{cpr_at, index_records}
use Rattle.cdf_structure.specs.Rooms.{Fits}
use Rattle.cdf_structure.specs.declared.indexes.Indexed.{Indexed}
use Rattle.cdf_structure.specs.declared.indexes.RightIndex.{RightIndex}
use Rattle.cdf_structure.specs.declared.known.KnownIndexes.{KnownIndexes}
use Rattle.cdf_structure.specs.declared.room.Room.{Room}

-- the index from this link keeps all rules, whichever variable has it, where its records fit
abbrev pub IsRight : List ℕ → List ℕ → ℕ → Room → Type 0
IsRight b records head room = (vdr : ℕ) → number b vdr vdr_vxr_head ≡ head → Fits room (is_compressed b vdr) (record_bytes b vdr) → Hold (met_rows b records vdr (index_of b records vdr))

-- how many bytes a record may take in the index from a link, if that is known
abbrev pub room_known : KnownIndexes → ℕ → Option Room
room_known known head = get nat_cmp known.rooms head

-- how many bytes the packed block at a place stands for, if that is known
abbrev pub size_known : KnownIndexes → ℕ → Option ℕ
size_known known place = get nat_cmp known.sizes place

-- the packed block at a place stands for so many bytes
abbrev pub IsUnpacked : List ℕ → ℕ → ℕ → Type 0
IsUnpacked b place size = unpacks_to (packed_bytes b place) size ≡ true

-- what is known is right
pub record KnowsIndexes (b records : List ℕ) (known : KnownIndexes) : Type 0 where
  pub rooms : (head : ℕ) → IfSome (room_known known head) (IsRight b records head)
  pub sizes : (place : ℕ) → IfSome (size_known known place) (IsUnpacked b place)

-- of one index this may be known, and of each other the same
pub record KeepsRoom (before : KnownIndexes) (head : ℕ) (room : Room) (after : KnownIndexes) : Type 0 where
  pub rooms : (link : ℕ) → (room_known after link ≡ room_known before link) ⊎ ((link ≡ head) × (room_known after link ≡ Some room))
  pub sizes : after.sizes ≡ before.sizes

-- of one packed block this may be known, and of each other the same
pub record KeepsSize (before : KnownIndexes) (place size : ℕ) (after : KnownIndexes) : Type 0 where
  pub sizes : (at : ℕ) → (size_known after at ≡ size_known before at) ⊎ ((at ≡ place) × (size_known after at ≡ Some size))
  pub rooms : after.rooms ≡ before.rooms

-- of an index that was walked: the records of the variable, and how many bytes a record may take
pub record IsRightOf (b records : List ℕ) (variable : Indexed) (right : RightIndex) : Type 0 where
  pub records_are : index_records variable right.index ≡ variable_records (variable_shape b records variable.vdr)
  pub room_is : IsRight b records variable.head right.room

-- a variable of this image
pub record IsIndexed (b : List ℕ) (variable : Indexed) : Type 0 where
  pub head_is : variable.head ≡ number b variable.vdr vdr_vxr_head
  pub cpr_is : variable.cpr ≡ cpr_at b variable.vdr
  pub bytes_are : variable.rec_bytes ≡ record_bytes b variable.vdr
  pub few : variable.rec_bytes ≤ record_limit
