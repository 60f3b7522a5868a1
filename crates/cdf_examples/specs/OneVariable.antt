-- Files with one z variable, whose VDR stands at 404.
use Rattle.std.specs.Prelude.{ℕ, List, [], ◌∷◌}
use Rattle.cdf_model.specs.declared.kinds.Kind.TheVariants as kinds
use Rattle.cdf_model.specs.DataSet.{DataSet, Variable}
use Rattle.cdf_format.specs.Index.{Nodes, no_node, node, Entries}
use Rattle.cdf_format.specs.Owners.{Owner, File, OneVariable, Unused}
use Rattle.cdf_format.specs.Shape.{Shape}
use Rattle.cdf_examples.specs.Building.{◌⧺◌, magic, new_cdr, cdr, new_gdr, gdr}
use Rattle.cdf_examples.specs.NewFile.{new_data_set}

-- the first bytes, the CDR and the GDR of such a file, with this eof and UIRhead
abbrev pub heads : ℕ → ℕ → List ℕ
heads eof unused = magic ⧺ cdr new_cdr ⧺ gdr (record new_gdr { z_head = 404; eof = eof; nz_vars = 1; unused = unused })

-- its records, the index and the CPR of the variable, and the unused list
abbrev pub variable_shape : List ℕ → Nodes → List ℕ → List ℕ → Shape
variable_shape records index cpr unused = record {
  records = records;
  gdr = 320;
  attributes = [];
  r_variables = [];
  z_variables = record { vdr = 404; index = index; cpr = cpr } ∷ [];
  unused = unused;
}

abbrev pub one_node : ℕ → ℕ → Entries → Nodes
one_node place room entries = node place room entries no_node

-- the two first records, those of the variable, and unused ones
abbrev pub owned_by_file : List (ℕ × Owner)
owned_by_file = (8, File) ∷ (320, File) ∷ []

abbrev pub of_variable : ℕ → ℕ × Owner
of_variable place = (place, OneVariable kinds.Z 0)

abbrev pub of_none : ℕ → ℕ × Owner
of_none place = (place, Unused)

abbrev pub with_variable : Variable → DataSet
with_variable v = record new_data_set { z_variables = v ∷ [] }
