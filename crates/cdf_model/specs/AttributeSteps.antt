-- What the commands on attributes and their entries do (CDF User's Guide, Attributes; own: the reasons and their order, and that a new name must differ from the attribute's own).
use Rattle.std.specs.Prelude.{ℕ, List, [], ◌∷◌, ◌++◌, length, slice_set, Bool, true, false, not, ◌==◌, nat_lt, nat_le, if◌then◌else◌, Ok, Err}
use Rattle.std.specs.declared.result.Result.{Result}
use Rattle.std.specs.List.{remove}
use Rattle.cdf_model.specs.declared.answer.Reason.{Reason}
use Rattle.cdf_model.specs.declared.answer.Reason.TheVariants as reasons
use Rattle.cdf_model.specs.declared.answer.Reply.TheVariants as replies
use Rattle.cdf_model.specs.declared.data_type.DataType.{DataType}
use Rattle.cdf_model.specs.declared.kinds.EntryKind.{EntryKind}
use Rattle.cdf_model.specs.declared.kinds.EntryKind.TheVariants as entries
use Rattle.cdf_model.specs.declared.kinds.Scope.{Scope}
use Rattle.cdf_model.specs.declared.kinds.Scope.TheVariants as scopes
use Rattle.cdf_model.specs.Answers.{Answer, Go, unless, given, valued}
use Rattle.cdf_model.specs.DataSet.{Attribute, DataSet, Entry}
use Rattle.cdf_model.specs.Limits.{record_number_limit}
use Rattle.cdf_model.specs.Names.{is_bad_name, is_among, attribute_names, attribute_named}
use Rattle.cdf_model.specs.Numbered.{item_at, with_item, without}
use Rattle.cdf_model.specs.Values.{Notation, Characters, notation_of, bytes_of_words}

abbrev pub new_attribute : List ℕ → Scope → Attribute
new_attribute name scope = record { name = name; scope = scope; g = []; z = [] }

abbrev pub attr_step : DataSet → List ℕ → Scope → Answer
attr_step d name scope =
    unless ((is_bad_name name, reasons.BadName) ∷ (is_among name (attribute_names d), reasons.NameTaken) ∷ [])
    (Go (record d { attributes = d.attributes ++ new_attribute name scope ∷ [] }) replies.Plain)

-- an attribute changed in its place
abbrev pub with_attribute : DataSet → ℕ → Attribute → DataSet
with_attribute d i a = record d { attributes = slice_set d.attributes i a }

-- the new name may not be taken, not even by the attribute itself
abbrev pub rename_attr_step : DataSet → List ℕ → List ℕ → Answer
rename_attr_step d from to = given reasons.NoSuchAttr (attribute_named d from) (λ found.
    unless ((is_bad_name to, reasons.BadName) ∷ (is_among to (attribute_names d), reasons.NameTaken) ∷ [])
    (Go (with_attribute d found.0 (record found.1 { name = to })) replies.Plain))

abbrev pub del_attr_step : DataSet → List ℕ → Answer
del_attr_step d name = given reasons.NoSuchAttr (attribute_named d name) (λ found. Go (record d { attributes = remove d.attributes found.0 }) replies.Plain)

-- the attribute describes the file; the assumed scopes count as their kinds
abbrev pub is_global : Scope → Bool
is_global scopes.Global = true
is_global scopes.GlobalAssumed = true
is_global scopes.Variable = false
is_global scopes.VariableAssumed = false

abbrev pub is_wrong_scope : EntryKind → Scope → Bool
is_wrong_scope entries.G scope = not (is_global scope)
is_wrong_scope entries.R scope = is_global scope
is_wrong_scope entries.Z scope = is_global scope

abbrev pub entries_of : Attribute → EntryKind → List (ℕ × Entry)
entries_of a entries.G = a.g
entries_of a entries.R = a.g
entries_of a entries.Z = a.z

abbrev pub with_entries : Attribute → EntryKind → List (ℕ × Entry) → Attribute
with_entries a entries.G es = record a { g = es }
with_entries a entries.R es = record a { g = es }
with_entries a entries.Z es = record a { z = es }

-- an entry of a variable has the number of one
abbrev pub is_out_of_range : DataSet → EntryKind → ℕ → Bool
is_out_of_range d entries.G num = nat_lt record_number_limit num
is_out_of_range d entries.R num = nat_le (length d.r_variables) num
is_out_of_range d entries.Z num = nat_le (length d.z_variables) num

-- a text is one word of a byte or more, each byte an element; of numbers there are as many as words
abbrev pub text_entry : DataType → List (List ℕ) → Result Entry Reason
text_entry t (word ∷ []) = if length word == 0 then Err (reasons.BadValue 0) else Ok (record { type = t; elems = length word; bytes = word })
text_entry t words = Err (reasons.WrongCount (length words) 1)

abbrev pub number_entry : DataType → List (List ℕ) → Result Entry Reason
number_entry t words = elim (bytes_of_words t 1 words) [
  | Ok bytes ↦ Ok (record { type = t; elems = length words; bytes = bytes })
  | Err reason ↦ Err reason
]

abbrev pub entry_by : Notation → DataType → List (List ℕ) → Result Entry Reason
entry_by Characters t words = text_entry t words
entry_by other t words = number_entry t words

abbrev pub put_entry_step : DataSet → List ℕ → EntryKind → ℕ → DataType → List (List ℕ) → Answer
put_entry_step d name kind num t words = given reasons.NoSuchAttr (attribute_named d name) (λ found.
    unless ((is_wrong_scope kind found.1.scope, reasons.WrongScope) ∷ (is_out_of_range d kind num, reasons.NumberOutOfRange) ∷ [])
    (valued (entry_by (notation_of t) t words) (λ entry. Go (with_attribute d found.0 (with_entries found.1 kind (with_item num entry (entries_of found.1 kind)))) replies.Plain)))

-- the entry of an attribute that is there
abbrev pub on_entry : DataSet → List ℕ → EntryKind → ℕ → (ℕ → Attribute → Entry → Answer) → Answer
on_entry d name kind num answer = given reasons.NoSuchAttr (attribute_named d name) (λ found.
    unless ((is_wrong_scope kind found.1.scope, reasons.WrongScope) ∷ [])
    (given reasons.NoSuchEntry (item_at num (entries_of found.1 kind)) (λ entry. answer found.0 found.1 entry)))

abbrev pub get_entry_step : DataSet → List ℕ → EntryKind → ℕ → Answer
get_entry_step d name kind num = on_entry d name kind num (λ i a entry. Go d (replies.Entry entry.type entry.elems entry.bytes))

abbrev pub del_entry_step : DataSet → List ℕ → EntryKind → ℕ → Answer
del_entry_step d name kind num = on_entry d name kind num (λ i a entry. Go (with_attribute d i (with_entries a kind (without num num (entries_of a kind)))) replies.Plain)
