-- Which outcomes and which events have a text: those whose values are whole (CDF Internal Format Description, Attribute Entry Descriptor Record and Variable Descriptor Records: NumElems, and Value or a variable's records).
use Rattle.std.specs.Prelude.{ℕ, List, length, Bool, true, false, ◌≡◌, ◌≤◌, ◌*◌, ◌%◌}
use Rattle.cdf_model.specs.declared.answer.Outcome.{Outcome}
use Rattle.cdf_model.specs.declared.answer.Outcome.TheVariants.{Done, Refused}
use Rattle.cdf_model.specs.declared.answer.Reply.{Reply}
use Rattle.cdf_model.specs.declared.answer.Reply.TheVariants as replies
use Rattle.cdf_model.specs.declared.data_type.DataType.{DataType}
use Rattle.cdf_model.specs.declared.event.Event.{Event}
use Rattle.cdf_model.specs.declared.event.Event.TheVariants as events
use Rattle.cdf_model.specs.Types.{size_of}

-- the bytes are those of values of so many elements each, with no byte left over
abbrev pub IsWhole : DataType → ℕ → List ℕ → Type 0
IsWhole t elems bytes = (1 ≤ elems) × (length bytes % (size_of t * elems) ≡ 0)

abbrev pub HasWholeValues : Reply → Type 0
HasWholeValues (replies.Entry t elems bytes) = IsWhole t elems bytes
HasWholeValues (replies.Values t elems bytes) = IsWhole t elems bytes
HasWholeValues other = Unit {0}

-- a reply has only whole values; every refusal can be written
abbrev pub CanBeWritten : Outcome → Type 0
CanBeWritten (Done reply) = HasWholeValues reply
CanBeWritten (Refused reason) = Unit {0}

-- a pad value, where there is one, is whole
abbrev pub IsWholePad : Bool → DataType → ℕ → List ℕ → Type 0
IsWholePad false t elems pad = Unit {0}
IsWholePad true t elems pad = IsWhole t elems pad

-- an event has only whole values
abbrev pub CanBeShown : Event → Type 0
CanBeShown (events.Entry kind num t elems bytes) = IsWhole t elems bytes
CanBeShown (events.Rec num t elems bytes) = IsWhole t elems bytes
CanBeShown (events.Var kind num name t elems vary dims varys sparse rle blocking max_rec has_pad pad) = IsWholePad has_pad t elems pad
CanBeShown other = Unit {0}
