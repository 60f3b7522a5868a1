-- What the commands on variables do (CDF User's Guide, Variables; own: the reasons and their order, and that the sparse rule and the compression are set before records are written).
use Rattle.std.specs.Prelude.{ℕ, pos, negsuc, List, [], ◌∷◌, ◌++◌, length, map, slice_set, Bool, true, false, not, ◌&&◌, ◌||◌, ◌==◌, nat_lt, if◌then◌else◌, Some, None}
use Rattle.std.specs.List.{remove, list_any}
use Rattle.std.specs.Option.{is_none}
use Rattle.cdf_model.specs.declared.answer.Reason.TheVariants as reasons
use Rattle.cdf_model.specs.declared.answer.Reply.TheVariants as replies
use Rattle.cdf_model.specs.declared.data_type.DataType.{DataType}
use Rattle.cdf_model.specs.declared.head.Majority.{Majority}
use Rattle.cdf_model.specs.declared.kinds.Kind.{Kind}
use Rattle.cdf_model.specs.declared.kinds.Kind.TheVariants as kinds
use Rattle.cdf_model.specs.declared.kinds.Sparse.{Sparse}
use Rattle.cdf_model.specs.declared.kinds.Sparse.TheVariants.{NoRule}
use Rattle.cdf_model.specs.Answers.{Answer, Go, unless, given, valued}
use Rattle.cdf_model.specs.AttributeSteps.{is_global}
use Rattle.cdf_model.specs.DataSet.{Attribute, DataSet, Variable, extent}
use Rattle.cdf_model.specs.Encodings.{encoding_at}
use Rattle.cdf_model.specs.Limits.{dimension_limit, signed_limit}
use Rattle.cdf_model.specs.Names.{Found, is_bad_name, is_among, variable_names, variables_of, with_variables, variable_named}
use Rattle.cdf_model.specs.Numbered.{closed_up}
use Rattle.cdf_model.specs.Place.{record_limit, record_size}
use Rattle.cdf_model.specs.Values.{Notation, Characters, notation_of, values_in}

-- too many dimensions, or one of no size or of one past 31 bits
abbrev pub are_bad_sizes : List ℕ → Bool
are_bad_sizes dims = nat_lt dimension_limit (length dims) || list_any (λ size. (size == 0) || nat_lt signed_limit size) dims

abbrev pub is_empty_set : DataSet → Bool
is_empty_set d = ((length d.attributes == 0) && (length d.r_variables == 0)) && (length d.z_variables == 0)

abbrev pub setup_step : DataSet → ℕ → Majority → List ℕ → Answer
setup_step d encoding majority dims =
    unless ((is_none (encoding_at encoding), reasons.NumberOutOfRange) ∷ (are_bad_sizes dims, reasons.BadShape) ∷ (not (is_empty_set d), reasons.InUse) ∷ [])
    (Go (record d { encoding = encoding; majority = majority; rdims = dims }) replies.Plain)

abbrev pub is_characters : Notation → Bool
is_characters Characters = true
is_characters other = false

-- no element, several elements of a number, bad sizes, not one variance for each dimension, or records that are too large
abbrev pub is_bad_shape : DataType → ℕ → List ℕ → List Bool → Bool
is_bad_shape t elems dims varys =
    (((elems == 0) || (not (elems == 1) && not (is_characters (notation_of t)))) || (are_bad_sizes dims || not (length varys == length dims)))
    || nat_lt record_limit (record_size t elems dims varys)

abbrev pub new_variable : List ℕ → DataType → ℕ → List ℕ → List Bool → Bool → Variable
new_variable name t elems dims varys vary = record {
  name = name;
  type = t;
  elems = elems;
  dims = dims;
  varys = varys;
  vary = vary;
  sparse = NoRule;
  rle = false;
  blocking = pos 0;
  max_rec = negsuc 0;
  pad = None;
  recs = [];
}

abbrev pub var_step : DataSet → Kind → List ℕ → DataType → ℕ → Bool → List ℕ → List Bool → Answer
var_step d kind name t elems vary dims varys =
    unless ((is_bad_name name, reasons.BadName) ∷ (is_among name (variable_names d), reasons.NameTaken) ∷ (is_bad_shape t elems dims varys, reasons.BadShape) ∷ [])
    (Go (with_variables d kind (variables_of d kind ++ new_variable name t elems dims varys vary ∷ [])) replies.Plain)

-- a variable changed in its place
abbrev pub with_variable : DataSet → Found → Variable → DataSet
with_variable d found v = with_variables d found.kind (slice_set (variables_of d found.kind) found.number v)

abbrev pub rename_var_step : DataSet → List ℕ → List ℕ → Answer
rename_var_step d from to = given reasons.NoSuchVar (variable_named d from) (λ found.
    unless ((is_bad_name to, reasons.BadName) ∷ (is_among to (variable_names d), reasons.NameTaken) ∷ [])
    (Go (with_variable d found (record found.variable { name = to })) replies.Plain))

-- the entries of a variable go, and those of greater numbers follow their variables
abbrev pub entries_without : Kind → ℕ → Attribute → Attribute
entries_without kinds.R n a = record a { g = closed_up n n a.g }
entries_without kinds.Z n a = record a { z = closed_up n n a.z }

abbrev pub attribute_without : Kind → ℕ → Attribute → Attribute
attribute_without kind n a = if is_global a.scope then a else entries_without kind n a

abbrev pub without_variable : DataSet → Found → DataSet
without_variable d found = with_variables (record d { attributes = map (attribute_without found.kind found.number) d.attributes }) found.kind (remove (variables_of d found.kind) found.number)

abbrev pub del_var_step : DataSet → List ℕ → Answer
del_var_step d name = given reasons.NoSuchVar (variable_named d name) (λ found. Go (without_variable d found) replies.Plain)

abbrev pub set_pad_step : DataSet → List ℕ → List (List ℕ) → Answer
set_pad_step d name words = given reasons.NoSuchVar (variable_named d name) (λ found.
    valued (values_in found.variable.type found.variable.elems 1 words) (λ bytes. Go (with_variable d found (record found.variable { pad = Some bytes })) replies.Plain))

abbrev pub has_records : Variable → Bool
has_records v = not (extent v.max_rec == 0)

abbrev pub set_sparse_step : DataSet → List ℕ → Sparse → Answer
set_sparse_step d name rule = given reasons.NoSuchVar (variable_named d name) (λ found.
    unless ((has_records found.variable, reasons.InUse) ∷ []) (Go (with_variable d found (record found.variable { sparse = rule })) replies.Plain))

abbrev pub set_compress_step : DataSet → List ℕ → Bool → Answer
set_compress_step d name rle = given reasons.NoSuchVar (variable_named d name) (λ found.
    unless ((has_records found.variable, reasons.InUse) ∷ []) (Go (with_variable d found (record found.variable { rle = rle })) replies.Plain))

abbrev pub set_blocking_step : DataSet → List ℕ → ℕ → Answer
set_blocking_step d name n = given reasons.NoSuchVar (variable_named d name) (λ found.
    unless ((nat_lt signed_limit n, reasons.NumberOutOfRange) ∷ []) (Go (with_variable d found (record found.variable { blocking = pos n })) replies.Plain))

-- the index of the records is no part of a data set
abbrev pub reindex_step : DataSet → List ℕ → Answer
reindex_step d name = given reasons.NoSuchVar (variable_named d name) (λ found. Go d replies.Plain)
