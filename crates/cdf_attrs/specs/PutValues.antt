-- A value that is put as the entry of a number into a chain of an attribute, and what an image is then (own).
use Rattle.std.specs.Prelude.{◌≡◌, ◌+◌, ◌<◌, ◌≤◌, ℕ, List, Some, length, ◌∷◌, slice_index}
use Rattle.std.specs.List.{slice_get}
use Rattle.cdf_model.specs.declared.command.Command.TheVariants.{PutEntry}
use Rattle.cdf_model.specs.declared.data_type.DataType.{DataType}
use Rattle.cdf_model.specs.declared.answer.Reply.TheVariants.{Plain}
use Rattle.cdf_model.specs.Answers.{Go}
use Rattle.cdf_model.specs.AttributeSteps.{entries_of, put_entry_step, with_attribute, with_entries}
use Rattle.cdf_model.specs.ByteOrder.{turned}
use Rattle.cdf_model.specs.DataSet.{Entry}
use Rattle.cdf_model.specs.Names.{attribute_named, attribute_names}
use Rattle.cdf_edits.specs.Commands.Room.{room}
use Rattle.cdf_edits.specs.Follows.{Follows}
use Rattle.cdf_format.specs.Content.{content, attribute_of}
use Rattle.cdf_format.specs.Shape.{AttributeShape, adrs, shape}
use Rattle.cdf_format.specs.Stored.{is_little}
use Rattle.cdf_attrs.specs.declared.putting.Slot.{Slot}
use Rattle.cdf_attrs.specs.declared.putting.NewEntry.{NewEntry}
use Rattle.cdf_attrs.specs.declared.entry_bytes.OldEntry.{OldEntry}
use Rattle.cdf_attrs.specs.Known.{KnownEntries, KnowsEntries}
use Rattle.cdf_attrs.specs.Putting.{IsStored, reserved_at}
use Rattle.cdf_records.specs.Pieces.{AreBytes}
use Rattle.cdf_attrs.specs.Removing.{IsGreatest}
use Rattle.cdf_edits.specs.Edits.EntryMarks.{entries_chain}
use Rattle.cdf_format.specs.Fields.{number, size_at}
use Rattle.cdf_format.specs.Records.{aedr_num, past, aedr_value}
use Rattle.cdf_model.specs.Limits.{image_limit, record_number_limit}
use Rattle.cdf_model.specs.Numbered.{with_item}

-- an attribute has this number, and its ADR stands at this place
pub record IsAttributeAt (b : List ℕ) (number adr : ℕ) : Type 0 where
  pub own : AttributeShape
  pub stands : slice_get (shape b).attributes number ≡ Some own
  pub adr_is : own.adr ≡ adr

-- the entry that so many elements of a type are, whose bytes are in the order of the file
abbrev pub stored_entry : List ℕ → DataType → ℕ → List ℕ → Entry
stored_entry b t elems bytes = record { type = t; elems = elems; bytes = turned t (is_little b) bytes }

-- A command `put-entry` goes with this entry: it names the attribute of the slot, and takes the room of the entry.
pub record Asks (b attr : List ℕ) (slot : Slot) (words : List (List ℕ)) (entry : Entry) : Type 0 where
  pub own : AttributeShape
  pub stands : slice_get (shape b).attributes slot.attribute ≡ Some own
  pub named : attribute_named (content b) attr ≡ Some (slot.attribute, attribute_of b own)
  pub goes : put_entry_step (content b) attr slot.kind slot.num entry.type words ≡ Go (with_attribute (content b) slot.attribute (with_entries (attribute_of b own) slot.kind (with_item slot.num entry (entries_of (attribute_of b own) slot.kind)))) Plain
  pub takes : room b (PutEntry attr slot.kind slot.num entry.type words) ≡ past (aedr_value (length entry.bytes))

-- The image follows by each command that asks for the entry, and the attributes have the names and the places that they had.
pub record Puts (b now : List ℕ) (slot : Slot) (entry : Entry) : Type 0 where
  pub follows : (attr : List ℕ) (words : List (List ℕ)) → Asks b attr slot words entry → Follows b (PutEntry attr slot.kind slot.num entry.type words) now
  pub names_stay : attribute_names (content now) ≡ attribute_names (content b)
  pub places_stay : adrs (shape now) ≡ adrs (shape b)

-- the entry of a slot and a value
abbrev pub new_entry : List ℕ → NewEntry → Entry
new_entry b new = stored_entry b new.value.t new.value.elems new.value.bytes.items

-- An entry may be put into a chain of which all entries are known: there is the attribute, its value fits a record, there is room for it within a limit, and the greatest number is the one with it.
pub record IsReady (b : List ℕ) (limit : ℕ) (new : NewEntry) (entries : KnownEntries) : Type 0 where
  pub attribute : IsAttributeAt b new.slot.attribute new.slot.adr
  pub chain : entries.chain ≡ entries_chain new.slot.kind new.slot.adr
  pub known : KnowsEntries b entries
  pub stored : IsStored new.value.t new.value.elems new.value.bytes.items
  pub num : new.slot.num ≤ record_number_limit
  pub greatest : IsGreatest (new.slot.num ∷ entries.numbers) new.greatest
  pub room : length b + past (aedr_value (length new.value.bytes.items)) ≤ limit
  pub within : limit ≤ image_limit

-- an entry is put, and these are the entries of its chain then
pub record IsPut (b now : List ℕ) (new : NewEntry) (entries put : KnownEntries) : Type 0 where
  pub puts : Puts b now new.slot (new_entry b new)
  pub knows : KnowsEntries now put
  pub chain_is : put.chain ≡ entries.chain

-- the entry at an index of a chain has this number, and this is what was read of it
pub record HasOld (b : List ℕ) (entries : KnownEntries) (i num : ℕ) (old : OldEntry) : Type 0 where
  pub within : i < length entries.places
  pub place_is : old.place ≡ slice_index entries.places i
  pub number_is : number b old.place aedr_num ≡ num
  pub size_is : old.size ≡ size_at b old.place
  pub reserved_is : old.reserved ≡ reserved_at b old.place
  pub bytes : AreBytes b old.place (aedr_value 0).place
