-- A file with an attribute of variables and three variables, of which the first is deleted: `attr UNITS variable`, `zvar A INT4 1 vary - -`, the same for B and C, an entry for each, `del-var A`.
use Rattle.std.specs.Prelude.{ℕ, pos, negsuc, List, [], ◌∷◌, length, drop, true, false, codes, None}
use Rattle.cdf_model.specs.declared.data_type.DataType.TheVariants.{Int4, Char}
use Rattle.cdf_model.specs.declared.kinds.Kind.TheVariants as kinds
use Rattle.cdf_model.specs.declared.kinds.Scope.TheVariants as scopes
use Rattle.cdf_model.specs.declared.kinds.Sparse.TheVariants.{NoRule}
use Rattle.cdf_model.specs.DataSet.{DataSet, Entry, Variable}
use Rattle.cdf_format.specs.Index.{no_node}
use Rattle.cdf_format.specs.Owners.{Owner, File, OneAttribute, OneVariable, Unused}
use Rattle.cdf_model.specs.declared.space.Space.{Space}
use Rattle.cdf_format.specs.Shape.{VariableShape, Shape}
use Rattle.cdf_examples.specs.Building.{◌⧺◌, magic, new_cdr, cdr, new_gdr, gdr, AdrFields, new_adr, adr, EntryFields, text_entry, z_entry, VdrFields, new_vdr, z_vdr, uir}
use Rattle.cdf_examples.specs.NewFile.{new_data_set}

-- ---- before

abbrev pub units : AdrFields
units = record (new_adr 2 (codes "UNITS")) { z_head = 1760; nz_entries = 3; max_z_entry = 2 }

-- the VDR and the entry of a variable
abbrev pub variable : List ℕ → ℕ → ℕ → VdrFields
variable name num next = record (new_vdr 4 name) { num = num; next = next }

abbrev pub unit : List ℕ → ℕ → ℕ → EntryFields
unit text num next = record (text_entry text) { num = num; next = next }

unfoldable pub three_variables : List ℕ
three_variables =
    magic ⧺ cdr new_cdr ⧺ gdr (record new_gdr { z_head = 728; adr_head = 404; eof = 1931; num_attr = 1; nz_vars = 3 })
    ⧺ adr units
    ⧺ z_vdr (variable (codes "A") 0 1072) ⧺ z_vdr (variable (codes "B") 1 1416) ⧺ z_vdr (variable (codes "C") 2 0)
    ⧺ z_entry (unit (codes "a") 0 1817) ⧺ z_entry (unit (codes "b") 1 1874) ⧺ z_entry (unit (codes "c") 2 0)

abbrev pub bare_variable : List ℕ → Variable
bare_variable name = record {
  name = name;
  type = Int4;
  elems = 1;
  dims = [];
  varys = [];
  vary = true;
  sparse = NoRule;
  rle = false;
  blocking = pos 0;
  max_rec = negsuc 0;
  pad = None;
  recs = [];
}

abbrev pub text_of : List ℕ → Entry
text_of text = record { type = Char; elems = length text; bytes = text }

abbrev pub units_and : List (ℕ × Entry) → List Variable → DataSet
units_and entries variables = record new_data_set {
  attributes = record { name = codes "UNITS"; scope = scopes.Variable; g = []; z = entries } ∷ [];
  z_variables = variables;
}

abbrev pub three_data : DataSet
three_data = units_and ((0, text_of (codes "a")) ∷ (1, text_of (codes "b")) ∷ (2, text_of (codes "c")) ∷ []) (bare_variable (codes "A") ∷ bare_variable (codes "B") ∷ bare_variable (codes "C") ∷ [])

abbrev pub three_script : List (List ℕ)
three_script =
    codes "attr UNITS variable" ∷ codes "zvar A INT4 1 vary - -" ∷ codes "zvar B INT4 1 vary - -" ∷ codes "zvar C INT4 1 vary - -"
    ∷ codes "put-entry UNITS z 0 CHAR \"a\"" ∷ codes "put-entry UNITS z 1 CHAR \"b\"" ∷ codes "put-entry UNITS z 2 CHAR \"c\"" ∷ []

abbrev pub bare_shape : ℕ → VariableShape
bare_shape vdr = record { vdr = vdr; index = no_node; cpr = [] }

abbrev pub shape_of_units : List ℕ → List VariableShape → List ℕ → Shape
shape_of_units entries variables unused = record {
  records = 8 ∷ 320 ∷ 404 ∷ 728 ∷ 1072 ∷ 1416 ∷ 1760 ∷ 1817 ∷ 1874 ∷ [];
  gdr = 320;
  attributes = record { adr = 404; gr_entries = []; z_entries = entries } ∷ [];
  r_variables = [];
  z_variables = variables;
  unused = unused;
}

-- ---- after: the entry of A is freed first, then its VDR. What stands behind the first 28 bytes of an unused record stays.

unfoldable pub two_variables : List ℕ
two_variables =
    magic ⧺ cdr new_cdr ⧺ gdr (record new_gdr { z_head = 1072; adr_head = 404; eof = 1931; num_attr = 1; nz_vars = 2; unused = 728 })
    ⧺ adr (record units { z_head = 1817; nz_entries = 2; max_z_entry = 1 })
    ⧺ uir 1760 0 (drop 28 (z_vdr (variable (codes "A") 0 0))) ⧺ z_vdr (variable (codes "B") 0 1416) ⧺ z_vdr (variable (codes "C") 1 0)
    ⧺ uir 0 728 (drop 28 (z_entry (unit (codes "a") 0 0))) ⧺ z_entry (unit (codes "b") 0 1874) ⧺ z_entry (unit (codes "c") 1 0)

abbrev pub two_data : DataSet
two_data = units_and ((0, text_of (codes "b")) ∷ (1, text_of (codes "c")) ∷ []) (bare_variable (codes "B") ∷ bare_variable (codes "C") ∷ [])

abbrev pub two_owned : List (ℕ × Owner)
two_owned =
    (8, File) ∷ (320, File) ∷ (404, OneAttribute 0) ∷ (1817, OneAttribute 0) ∷ (1874, OneAttribute 0)
    ∷ (1072, OneVariable kinds.Z 0) ∷ (1416, OneVariable kinds.Z 1) ∷ (728, Unused) ∷ (1760, Unused) ∷ []

abbrev pub two_space : Space
two_space = record { eof = 1931; used = 1522; listed = 2; listed_bytes = 401; unlisted = 0; unlisted_bytes = 0 }
