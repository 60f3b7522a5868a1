-- What is read of the VDR of a variable before its records (own).
use Rattle.std.specs.Prelude.{◌≡◌, ℕ, List, ◌∷◌, ◌++◌, true, ◌||◌, ◌==◌}
use Rattle.cdf_edits.specs.Commands.Allowances.{shapes_of}
use Rattle.cdf_format.specs.Fields.{number, size_at}
use Rattle.cdf_format.specs.Records.{vdr_flags, vdr_name}
use Rattle.cdf_format.specs.Shape.{VariableShape, shape}
use Rattle.cdf_format.specs.VariableFields.{elems_at, pad_field, type_of_variable}
use Rattle.cdf_model.specs.declared.data_type.DataType.{DataType}
use Rattle.cdf_model.specs.declared.kinds.Kind.{Kind}
use Rattle.cdf_model.specs.Values.{notation_of}
use Rattle.cdf_model.specs.VariableSteps.{is_characters}
use Rattle.cdf_records.specs.Pieces.{AreBytes}
use Rattle.cdf_var_records.specs.declared.pad_place.PadPlace.{PadPlace}

-- the VDR of a variable of a kind stands at a place
pub record IsVdr (b : List ℕ) (kind : Kind) (vdr : ℕ) : Type 0 where
  pub before : List VariableShape
  pub own : VariableShape
  pub after : List VariableShape
  pub was : shapes_of (shape b) kind ≡ before ++ record own { vdr = vdr } ∷ after

-- what is read of the VDR at a place
pub record IsPlace (b : List ℕ) (vdr : ℕ) (p : PadPlace) : Type 0 where
  pub vdr_is : p.vdr ≡ vdr
  pub t_is : p.t ≡ type_of_variable b vdr
  pub elems_are : p.elems ≡ elems_at b vdr
  pub at_is : p.at ≡ (pad_field b vdr).place
  pub size_is : p.size ≡ size_at b vdr
  pub flags_are : p.flags ≡ number b vdr vdr_flags
  pub bytes : AreBytes b vdr vdr_name.place

-- a value has one element, unless they are the letters of a text
abbrev pub HasElements : DataType → ℕ → Type 0
HasElements t elems = ((elems == 1) || is_characters (notation_of t)) ≡ true
