-- The value of an entry, from the words of a command (own).
use Rattle.std.specs.Prelude.{◌≡◌, List, ℕ, Bool, true, false, Ok, Err}
use Rattle.std.specs.declared.result.Result.{Result}
use Rattle.cdf_model.specs.declared.answer.Reason.{Reason}
use Rattle.cdf_model.specs.declared.answer.Reason.TheVariants as reasons
use Rattle.cdf_model.specs.declared.data_type.DataType.{DataType}
use Rattle.cdf_model.specs.declared.data_type.DataType.TheVariants.{Char, UChar}
use Rattle.cdf_model.specs.AttributeSteps.{entry_by}
use Rattle.cdf_model.specs.ByteOrder.{turned}
use Rattle.cdf_model.specs.DataSet.{Entry}
use Rattle.cdf_model.specs.Values.{notation_of}
use Rattle.cdf_values.specs.declared.read.ValueError.{ValueError}
use Rattle.cdf_values.specs.declared.read.ValueError.TheVariants as errors
use Rattle.cdf_attrs.specs.Putting.{IsStored}

-- the elements of a type are the letters of a text
abbrev pub is_text : DataType → Bool
is_text Char = true
is_text UChar = true
is_text other = false

-- what the words come to as a value of a type
abbrev pub entry_of_words : DataType → List (List ℕ) → Result Entry Reason
entry_of_words t words = entry_by (notation_of t) t words

-- so many elements with these bytes, in the byte order of the file, are the value that the words write
pub record IsWritten (little : Bool) (t : DataType) (words : List (List ℕ)) (elems : ℕ) (bytes : List ℕ) : Type 0 where
  pub means : entry_of_words t words ≡ Ok (record { type = t; elems = elems; bytes = turned t little bytes })
  pub stored : IsStored t elems bytes

-- an error says why the words write no value, or that memory is wanted
abbrev pub SaysWhy : Result Entry Reason → ValueError → Type 0
SaysWhy meaning (errors.WrongCount found wanted) = meaning ≡ Err (reasons.WrongCount found wanted)
SaysWhy meaning (errors.BadValue at) = meaning ≡ Err (reasons.BadValue at)
SaysWhy meaning errors.NoMemory = Unit {0}
