-- The names of attributes and variables (CDF User's Guide, Attributes and Variables; own: compared byte by byte, so blanks at the end count, and no byte 0).
use Rattle.std.specs.Prelude.{ℕ, List, ◌++◌, map, length, Bool, ◌||◌, ◌==◌, nat_lt, bytes_eq, position}
use Rattle.std.specs.declared.option.Option.{Option}
use Rattle.std.specs.List.{list_any, slice_get}
use Rattle.std.specs.Option.{option_and_then, option_map, option_or}
use Rattle.cdf_model.specs.declared.kinds.Kind.{Kind}
use Rattle.cdf_model.specs.declared.kinds.Kind.TheVariants as kinds
use Rattle.cdf_model.specs.DataSet.{Attribute, DataSet, Variable}

-- the most bytes of a name
abbrev pub name_limit : ℕ
name_limit = 256

-- empty, too long, or with a byte 0
abbrev pub is_bad_name : List ℕ → Bool
is_bad_name name = ((length name == 0) || nat_lt name_limit (length name)) || list_any (λ b. b == 0) name

abbrev pub attribute_names : DataSet → List (List ℕ)
attribute_names d = map (λ a. a.name) d.attributes

-- of either kind
abbrev pub variable_names : DataSet → List (List ℕ)
variable_names d = map (λ v. v.name) d.r_variables ++ map (λ v. v.name) d.z_variables

abbrev pub is_among : List ℕ → List (List ℕ) → Bool
is_among name names = list_any (λ other. bytes_eq name other) names

-- an item and its number
abbrev pub numbered : {A : Type 0} → List A → Option ℕ → Option (ℕ × A)
numbered items number = option_and_then (λ i. option_map (λ a. (i, a)) (slice_get items i)) number

abbrev pub attribute_named : DataSet → List ℕ → Option (ℕ × Attribute)
attribute_named d name = numbered d.attributes (position (λ a. bytes_eq name a.name) d.attributes)

abbrev pub variables_of : DataSet → Kind → List Variable
variables_of d kinds.R = d.r_variables
variables_of d kinds.Z = d.z_variables

abbrev pub with_variables : DataSet → Kind → List Variable → DataSet
with_variables d kinds.R vs = record d { r_variables = vs }
with_variables d kinds.Z vs = record d { z_variables = vs }

-- a variable with its kind and its number
pub record Found : Type 0 where
  pub kind : Kind
  pub number : ℕ
  pub variable : Variable

abbrev pub found_in : DataSet → List ℕ → Kind → Option Found
found_in d name kind = option_map (λ pair. record { kind = kind; number = pair.0; variable = pair.1 }) (numbered (variables_of d kind) (position (λ v. bytes_eq name v.name) (variables_of d kind)))

abbrev pub variable_named : DataSet → List ℕ → Option Found
variable_named d name = option_or (found_in d name kinds.R) (found_in d name kinds.Z)
