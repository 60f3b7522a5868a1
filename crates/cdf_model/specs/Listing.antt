-- What `list` shows: the attributes, the r variables and the z variables, each by its number (own).
use Rattle.std.specs.Prelude.{ℕ, List, ◌++◌, map}
use Rattle.std.specs.List.{enumerate_from}
use Rattle.cdf_model.specs.declared.item.Item.{Item}
use Rattle.cdf_model.specs.declared.item.Item.TheVariants.{Attr, Var}
use Rattle.cdf_model.specs.declared.kinds.Kind.{Kind}
use Rattle.cdf_model.specs.declared.kinds.Kind.TheVariants as kinds
use Rattle.cdf_model.specs.DataSet.{Attribute, DataSet, Variable}

abbrev pub attribute_item : ℕ × Attribute → Item
attribute_item (num, a) = Attr num a.name a.scope

-- numbered from n on
abbrev pub attribute_items : ℕ → List Attribute → List Item
attribute_items n attributes = map attribute_item (enumerate_from n attributes)

abbrev pub variable_item : Kind → ℕ × Variable → Item
variable_item kind (num, v) = Var kind num v.name

abbrev pub variable_items : Kind → ℕ → List Variable → List Item
variable_items kind n variables = map (variable_item kind) (enumerate_from n variables)

abbrev pub items_of : DataSet → List Item
items_of d = attribute_items 0 d.attributes ++ variable_items kinds.R 0 d.r_variables ++ variable_items kinds.Z 0 d.z_variables
