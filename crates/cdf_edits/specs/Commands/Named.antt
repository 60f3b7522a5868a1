-- The attribute and the variable that a command names, and where their records stand before and after it (own).
use Rattle.std.specs.Prelude.{◌≡◌, ℕ, List, Bool, true, false, ◌==◌, Some, None}
use Rattle.std.specs.List.{slice_get}
use Rattle.cdf_model.specs.DataSet.{DataSet}
use Rattle.cdf_model.specs.Names.{Found, attribute_named, variable_named}
use Rattle.cdf_edits.specs.Commands.Allowances.{shapes_of}
use Rattle.cdf_format.specs.Content.{content}
use Rattle.cdf_format.specs.Shape.{AttributeShape, VariableShape, shape}

-- the attribute of a number has this name
abbrev pub is_attribute : DataSet → List ℕ → ℕ → Bool
is_attribute d name n = elim (attribute_named d name) [ None ↦ false | Some found ↦ found.0 == n ]

-- the attribute of a name, which stays, by its number, and its records before and after
pub record IsAttribute (b now name : List ℕ) (n : ℕ) (before after : AttributeShape) : Type 0 where
  pub named : is_attribute (content b) name n ≡ true
  pub before_is : slice_get (shape b).attributes n ≡ Some before
  pub after_is : slice_get (shape now).attributes n ≡ Some after

abbrev pub OfAttribute : List ℕ → List ℕ → List ℕ → (AttributeShape → AttributeShape → Type 0) → Type 0
OfAttribute b now name Follow = (n : ℕ) (a a' : AttributeShape) → IsAttribute b now name n a a' → Follow a a'

-- the variable of a name, which stays, and its records before and after
pub record IsVariable (b now : List ℕ) (name : List ℕ) (found : Found) (v v' : VariableShape) : Type 0 where
  pub named : variable_named (content b) name ≡ Some found
  pub before : slice_get (shapes_of (shape b) found.kind) found.number ≡ Some v
  pub after : slice_get (shapes_of (shape now) found.kind) found.number ≡ Some v'

abbrev pub OfVariable : List ℕ → List ℕ → List ℕ → (Found → VariableShape → VariableShape → Type 0) → Type 0
OfVariable b now name Follow = (found : Found) (v v' : VariableShape) → IsVariable b now name found v v' → Follow found v v'
