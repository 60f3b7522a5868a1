-- What a session answers can be written.
use Rattle.cdf_tool.proofs.Common.{Answer, Answers, AnswersBuilt, Attribute, Bool, ByStep, Command, DataSet, Entry, Err, Found, Go, Good, List, MovesIf, None, Ok, Option, Outcome, Refuse, Result, Some, [], attribute_named, attribute_names, built, content, false, given, if◌then◌else◌, is_accepted, is_among, is_bad_name, is_full, is_none, nat_le, nat_lt, not, outcome, pos, refl, remove, signed_limit, step, subst, sym, true, unless, valued, variable_named, variable_names, variables_of, with_variables, ℕ, ◌++◌, ◌∙◌, ◌∷◌, ◌≡◌, ◌||◌}
use Rattle.cdf_attrs.proofs.WholeEntries.{shown_is_whole}
use Rattle.cdf_model.specs.declared.answer.Reason.{Reason}
use Rattle.cdf_model.specs.declared.answer.Reason.TheVariants as reasons
use Rattle.cdf_model.specs.declared.answer.Reply.TheVariants as replies
use Rattle.cdf_model.specs.declared.command.Command.TheVariants.{Attr, Checksum, DelAttr, DelEntry, DelRecs, DelVar, Dump, GetEntry, GetRec, GetVal, Info, List as Lists, PutEntry, PutRec, PutVal, RVar, Reindex, RenameAttr, RenameVar, Report, SetBlocking, SetPad, SetSparse, Setup, ZVar}
use Rattle.cdf_model.specs.declared.head.Majority.{Majority}
use Rattle.cdf_model.specs.declared.kinds.Kind.{Kind}
use Rattle.cdf_model.specs.declared.kinds.Kind.TheVariants.{R, Z}
use Rattle.cdf_model.specs.declared.kinds.Scope.{Scope}
use Rattle.cdf_model.specs.declared.kinds.Sparse.{Sparse}
use Rattle.cdf_model.specs.declared.data_type.DataType.{DataType}
use Rattle.cdf_model.specs.declared.kinds.EntryKind.{EntryKind}
use Rattle.cdf_model.specs.AttributeSteps.{attr_step, rename_attr_step, del_attr_step, put_entry_step, get_entry_step, del_entry_step, entries_of, entry_by, is_out_of_range, is_wrong_scope, new_attribute, with_attribute, with_entries}
use Rattle.cdf_model.specs.DataSet.{extent}
use Rattle.cdf_model.specs.Encodings.{encoding_at}
use Rattle.cdf_model.specs.Numbered.{item_at, with_item, without}
use Rattle.cdf_model.specs.Values.{notation_of, values_in}
use Rattle.cdf_model.specs.Place.{value_count}
use Rattle.cdf_model.specs.Reading.{read}
use Rattle.cdf_model.specs.RecordSteps.{cannot_be_put, del_recs_step, get_rec_step, get_val_step, place_in_record, put_rec_step, put_record, put_val_step, with_record, with_value, without_records}
use Rattle.cdf_model.specs.VariableSteps.{are_bad_sizes, del_var_step, has_records, is_bad_shape, is_empty_set, new_variable, reindex_step, rename_var_step, set_blocking_step, set_pad_step, set_sparse_step, setup_step, var_step, with_variable, without_variable}
use Rattle.cdf_model.specs.Whole.{CanBeWritten, HasWholeValues}
use Rattle.cdf_vars.proofs.WholeRecords.{shown_record, shown_value}

-- if it goes, its reply has only whole values
abbrev IsWholeAnswer : Answer → Type 0
IsWholeAnswer (Go d reply) = HasWholeValues reply
IsWholeAnswer (Refuse reason) = Unit {0}

outcome_whole : (answer : Answer) (full : Bool) → IsWholeAnswer answer → CanBeWritten (outcome answer full)
outcome_whole (Go d reply) true whole = tt
outcome_whole (Go d reply) false whole = whole
outcome_whole (Refuse reason) full whole = tt

unless_whole : (checks : List (Bool × Reason)) (answer : Answer) → IsWholeAnswer answer → IsWholeAnswer (unless checks answer)
unless_whole [] answer whole = whole
unless_whole ((holds, reason) ∷ more) answer whole =
    elim holds as (λ b. IsWholeAnswer (if b then Refuse reason else unless more answer)) [ true ↦ tt | false ↦ unless_whole more answer whole ]

given_whole : {A : Type 0} (reason : Reason) (found : Option A) (answer : A → Answer) → ((a : A) → IsWholeAnswer (answer a)) → IsWholeAnswer (given reason found answer)
given_whole reason None answer whole = tt
given_whole reason (Some a) answer whole = whole a

valued_whole : {A : Type 0} (value : Result A Reason) (answer : A → Answer) → ((a : A) → IsWholeAnswer (answer a)) → IsWholeAnswer (valued value answer)
valued_whole (Err reason) answer whole = tt
valued_whole (Ok a) answer whole = whole a

attr_whole : (d : DataSet) (name : List ℕ) (scope : Scope) → IsWholeAnswer (attr_step d name scope)
attr_whole d name scope =
    unless_whole ((is_bad_name name, reasons.BadName) ∷ (is_among name (attribute_names d), reasons.NameTaken) ∷ []) (Go (record d { attributes = d.attributes ++ new_attribute name scope ∷ [] }) replies.Plain) tt

rename_attr_whole : (d : DataSet) (from to : List ℕ) → IsWholeAnswer (rename_attr_step d from to)
rename_attr_whole d from to =
    let answer = λ (found : ℕ × Attribute). unless ((is_bad_name to, reasons.BadName) ∷ (is_among to (attribute_names d), reasons.NameTaken) ∷ []) (Go (with_attribute d found.0 (record found.1 { name = to })) replies.Plain) in
    given_whole {A = ℕ × Attribute} reasons.NoSuchAttr (attribute_named d from) answer
    (λ found. unless_whole ((is_bad_name to, reasons.BadName) ∷ (is_among to (attribute_names d), reasons.NameTaken) ∷ []) (Go (with_attribute d found.0 (record found.1 { name = to })) replies.Plain) tt)

del_attr_whole : (d : DataSet) (name : List ℕ) → IsWholeAnswer (del_attr_step d name)
del_attr_whole d name = given_whole {A = ℕ × Attribute} reasons.NoSuchAttr (attribute_named d name) (λ found. Go (record d { attributes = remove d.attributes found.0 }) replies.Plain) (λ found. tt)

put_entry_whole : (d : DataSet) (name : List ℕ) (kind : EntryKind) (num : ℕ) (t : DataType) (words : List (List ℕ)) → IsWholeAnswer (put_entry_step d name kind num t words)
put_entry_whole d name kind num t words =
    let put = λ (found : ℕ × Attribute) (entry : Entry). Go (with_attribute d found.0 (with_entries found.1 kind (with_item num entry (entries_of found.1 kind)))) replies.Plain in
    let answer = λ (found : ℕ × Attribute). unless ((is_wrong_scope kind found.1.scope, reasons.WrongScope) ∷ (is_out_of_range d kind num, reasons.NumberOutOfRange) ∷ []) (valued (entry_by (notation_of t) t words) (put found)) in
    given_whole {A = ℕ × Attribute} reasons.NoSuchAttr (attribute_named d name) answer
    (λ found. unless_whole ((is_wrong_scope kind found.1.scope, reasons.WrongScope) ∷ (is_out_of_range d kind num, reasons.NumberOutOfRange) ∷ []) (valued (entry_by (notation_of t) t words) (put found)) (valued_whole (entry_by (notation_of t) t words) (put found) (λ entry. tt)))

del_entry_whole : (d : DataSet) (name : List ℕ) (kind : EntryKind) (num : ℕ) → IsWholeAnswer (del_entry_step d name kind num)
del_entry_whole d name kind num =
    let delete = λ (found : ℕ × Attribute) (entry : Entry). Go (with_attribute d found.0 (with_entries found.1 kind (without num num (entries_of found.1 kind)))) replies.Plain in
    let answer = λ (found : ℕ × Attribute). unless ((is_wrong_scope kind found.1.scope, reasons.WrongScope) ∷ []) (given reasons.NoSuchEntry (item_at num (entries_of found.1 kind)) (delete found)) in
    given_whole {A = ℕ × Attribute} reasons.NoSuchAttr (attribute_named d name) answer
    (λ found. unless_whole ((is_wrong_scope kind found.1.scope, reasons.WrongScope) ∷ []) (given reasons.NoSuchEntry (item_at num (entries_of found.1 kind)) (delete found)) (given_whole {A = Entry} reasons.NoSuchEntry (item_at num (entries_of found.1 kind)) (delete found) (λ entry. tt)))

setup_whole : (d : DataSet) (encoding : ℕ) (majority : Majority) (dims : List ℕ) → IsWholeAnswer (setup_step d encoding majority dims)
setup_whole d encoding majority dims =
    unless_whole ((is_none (encoding_at encoding), reasons.NumberOutOfRange) ∷ (are_bad_sizes dims, reasons.BadShape) ∷ (not (is_empty_set d), reasons.InUse) ∷ [])
    (Go (record d { encoding = encoding; majority = majority; rdims = dims }) replies.Plain) tt

var_whole : (d : DataSet) (kind : Kind) (name : List ℕ) (t : DataType) (elems : ℕ) (vary : Bool) (dims : List ℕ) (varys : List Bool) → IsWholeAnswer (var_step d kind name t elems vary dims varys)
var_whole d kind name t elems vary dims varys =
    unless_whole ((is_bad_name name, reasons.BadName) ∷ (is_among name (variable_names d), reasons.NameTaken) ∷ (is_bad_shape t elems dims varys, reasons.BadShape) ∷ [])
    (Go (with_variables d kind (variables_of d kind ++ new_variable name t elems dims varys vary ∷ [])) replies.Plain) tt

-- of a command that changes the variable that it names
variable_whole : (d : DataSet) (name : List ℕ) (checks : List (Bool × Reason)) (changed : Found → DataSet) → IsWholeAnswer (given reasons.NoSuchVar (variable_named d name) (λ found. unless checks (Go (changed found) replies.Plain)))
variable_whole d name checks changed =
    given_whole {A = Found} reasons.NoSuchVar (variable_named d name) (λ found. unless checks (Go (changed found) replies.Plain)) (λ found. unless_whole checks (Go (changed found) replies.Plain) tt)

rename_var_whole : (d : DataSet) (from to : List ℕ) → IsWholeAnswer (rename_var_step d from to)
rename_var_whole d from to =
    variable_whole d from ((is_bad_name to, reasons.BadName) ∷ (is_among to (variable_names d), reasons.NameTaken) ∷ []) (λ found. with_variable d found (record found.variable { name = to }))

del_var_whole : (d : DataSet) (name : List ℕ) → IsWholeAnswer (del_var_step d name)
del_var_whole d name = given_whole {A = Found} reasons.NoSuchVar (variable_named d name) (λ found. Go (without_variable d found) replies.Plain) (λ found. tt)

set_pad_whole : (d : DataSet) (name : List ℕ) (words : List (List ℕ)) → IsWholeAnswer (set_pad_step d name words)
set_pad_whole d name words =
    let put = λ (found : Found) (bytes : List ℕ). Go (with_variable d found (record found.variable { pad = Some bytes })) replies.Plain in
    let answer = λ (found : Found). valued (values_in found.variable.type found.variable.elems 1 words) (put found) in
    given_whole {A = Found} reasons.NoSuchVar (variable_named d name) answer (λ found. valued_whole (values_in found.variable.type found.variable.elems 1 words) (put found) (λ bytes. tt))

set_blocking_whole : (d : DataSet) (name : List ℕ) (n : ℕ) → IsWholeAnswer (set_blocking_step d name n)
set_blocking_whole d name n = variable_whole d name ((nat_lt signed_limit n, reasons.NumberOutOfRange) ∷ []) (λ found. with_variable d found (record found.variable { blocking = pos n }))

set_sparse_whole : (d : DataSet) (name : List ℕ) (rule : Sparse) → IsWholeAnswer (set_sparse_step d name rule)
set_sparse_whole d name rule =
    let changed = λ (found : Found). Go (with_variable d found (record found.variable { sparse = rule })) replies.Plain in
    given_whole {A = Found} reasons.NoSuchVar (variable_named d name) (λ found. unless ((has_records found.variable, reasons.InUse) ∷ []) (changed found)) (λ found. unless_whole ((has_records found.variable, reasons.InUse) ∷ []) (changed found) tt)

reindex_whole : (d : DataSet) (name : List ℕ) → IsWholeAnswer (reindex_step d name)
reindex_whole d name = given_whole {A = Found} reasons.NoSuchVar (variable_named d name) (λ found. Go d replies.Plain) (λ found. tt)

del_recs_whole : (d : DataSet) (name : List ℕ) (first last : ℕ) → IsWholeAnswer (del_recs_step d name first last)
del_recs_whole d name first last =
    let cut = λ (found : Found). Go (with_variable d found (without_records found.variable.sparse found.variable first last)) replies.Plain in
    let answer = λ (found : Found). unless ((nat_lt last first || nat_le (extent found.variable.max_rec) last, reasons.RecordOutOfRange) ∷ []) (cut found) in
    given_whole {A = Found} reasons.NoSuchVar (variable_named d name) answer
    (λ found. unless_whole ((nat_lt last first || nat_le (extent found.variable.max_rec) last, reasons.RecordOutOfRange) ∷ []) (cut found) tt)

put_whole : (d : DataSet) (found : Found) (r : ℕ) (bytes : List ℕ) → IsWholeAnswer (put_record d found r bytes)
put_whole d found r bytes = unless_whole ((cannot_be_put found.variable r, reasons.RecordOutOfRange) ∷ []) (Go (with_variable d found (with_record found.variable r bytes)) replies.Plain) tt

put_rec_whole : (d : DataSet) (name : List ℕ) (r : ℕ) (words : List (List ℕ)) → IsWholeAnswer (put_rec_step d name r words)
put_rec_whole d name r words =
    let values = λ (found : Found). values_in found.variable.type found.variable.elems (value_count found.variable.dims found.variable.varys) words in
    given_whole {A = Found} reasons.NoSuchVar (variable_named d name) (λ found. valued (values found) (put_record d found r)) (λ found. valued_whole (values found) (put_record d found r) (put_whole d found r))

put_val_whole : (d : DataSet) (name : List ℕ) (r : ℕ) (index : List ℕ) (words : List (List ℕ)) → IsWholeAnswer (put_val_step d name r index words)
put_val_whole d name r index words =
    let value = λ (found : Found). values_in found.variable.type found.variable.elems 1 words in
    let put = λ (found : Found) (bytes : List ℕ) (n : ℕ). put_record d found r (with_value found.variable (read found.variable r) n bytes) in
    let at_place = λ (found : Found) (bytes : List ℕ). given reasons.IndexOutOfRange (place_in_record d found.variable index) (put found bytes) in
    given_whole {A = Found} reasons.NoSuchVar (variable_named d name) (λ found. valued (value found) (at_place found)) (λ found. valued_whole (value found) (at_place found) (λ bytes.
    given_whole {A = ℕ} reasons.IndexOutOfRange (place_in_record d found.variable index) (put found bytes) (λ n. put_whole d found r (with_value found.variable (read found.variable r) n bytes))))

by_step : (x y : Answer) → ByStep x ≡ ByStep y → x ≡ y
by_step x y same = cc

from_answers : (limit : ℕ) (b : List ℕ) (c : Command) (o : Outcome) (now : List ℕ) (answer : Answer) → step (content b) c ≡ ByStep answer → IsWholeAnswer answer → Answers limit b c o now → CanBeWritten o
from_answers limit b c o now answer is whole a =
    let same : answer ≡ a.answer = by_step answer a.answer (sym is ∙ a.step_is) in
    subst CanBeWritten (sym a.outcome_is) (outcome_whole a.answer (is_full limit b c a.answer) (subst IsWholeAnswer same whole))

-- what `get-entry` shows is the value of an entry of a good image
entry_written : (b : List ℕ) (attr : List ℕ) (kind : EntryKind) (num : ℕ) (now : List ℕ) (answer : Answer) (full : Bool) → get_entry_step (content b) attr kind num ≡ answer → MovesIf (is_accepted answer full) b (GetEntry attr kind num) now → CanBeWritten (outcome answer full)
entry_written b attr kind num now (Go d reply) true is moves = tt
entry_written b attr kind num now (Go d reply) false is moves = shown_is_whole b (subst Good (moves.reads refl) moves.good) attr kind num d reply is
entry_written b attr kind num now (Refuse reason) full is moves = tt

-- so is what `get-rec` and `get-val` show
record_written : (b : List ℕ) (name : List ℕ) (rec : ℕ) (now : List ℕ) (answer : Answer) (full : Bool) → get_rec_step (content b) name rec ≡ answer → MovesIf (is_accepted answer full) b (GetRec name rec) now → CanBeWritten (outcome answer full)
record_written b name rec now (Go d reply) true is moves = tt
record_written b name rec now (Go d reply) false is moves = shown_record b (subst Good (moves.reads refl) moves.good) name rec d reply is
record_written b name rec now (Refuse reason) full is moves = tt

value_written : (b : List ℕ) (name : List ℕ) (rec : ℕ) (index now : List ℕ) (answer : Answer) (full : Bool) → get_val_step (content b) name rec index ≡ answer → MovesIf (is_accepted answer full) b (GetVal name rec index) now → CanBeWritten (outcome answer full)
value_written b name rec index now (Go d reply) true is moves = tt
value_written b name rec index now (Go d reply) false is moves = shown_value b (subst Good (moves.reads refl) moves.good) name rec index d reply is
value_written b name rec index now (Refuse reason) full is moves = tt

pub can_be_written : (limit : ℕ) (b : List ℕ) (c : Command) (o : Outcome) (now : List ℕ) → AnswersBuilt (built c) limit b c o now → CanBeWritten o
can_be_written limit b Info o now a = from_answers limit b Info o now _ refl tt a
can_be_written limit b Lists o now a = from_answers limit b Lists o now _ refl tt a
can_be_written limit b (Attr name scope) o now a = from_answers limit b (Attr name scope) o now (attr_step (content b) name scope) refl (attr_whole (content b) name scope) a
can_be_written limit b (RenameAttr from to) o now a = from_answers limit b (RenameAttr from to) o now (rename_attr_step (content b) from to) refl (rename_attr_whole (content b) from to) a
can_be_written limit b (DelAttr name) o now a = from_answers limit b (DelAttr name) o now (del_attr_step (content b) name) refl (del_attr_whole (content b) name) a
can_be_written limit b (PutEntry attr kind num t words) o now a = from_answers limit b (PutEntry attr kind num t words) o now (put_entry_step (content b) attr kind num t words) refl (put_entry_whole (content b) attr kind num t words) a
can_be_written limit b (DelEntry attr kind num) o now a = from_answers limit b (DelEntry attr kind num) o now (del_entry_step (content b) attr kind num) refl (del_entry_whole (content b) attr kind num) a
can_be_written limit b (GetEntry attr kind num) o now a =
    subst CanBeWritten (sym a.outcome_is) (entry_written b attr kind num now a.answer (is_full limit b (GetEntry attr kind num) a.answer) (by_step (get_entry_step (content b) attr kind num) a.answer a.step_is) a.moves)
can_be_written limit b (Setup encoding majority dims) o now a = from_answers limit b (Setup encoding majority dims) o now (setup_step (content b) encoding majority dims) refl (setup_whole (content b) encoding majority dims) a
can_be_written limit b (RVar name t elems vary varys) o now a =
    from_answers limit b (RVar name t elems vary varys) o now (var_step (content b) R name t elems vary (content b).rdims varys) refl (var_whole (content b) R name t elems vary (content b).rdims varys) a
can_be_written limit b (ZVar name t elems vary dims varys) o now a =
    from_answers limit b (ZVar name t elems vary dims varys) o now (var_step (content b) Z name t elems vary dims varys) refl (var_whole (content b) Z name t elems vary dims varys) a
can_be_written limit b (RenameVar from to) o now a = from_answers limit b (RenameVar from to) o now (rename_var_step (content b) from to) refl (rename_var_whole (content b) from to) a
can_be_written limit b (DelVar name) o now a = from_answers limit b (DelVar name) o now (del_var_step (content b) name) refl (del_var_whole (content b) name) a
can_be_written limit b (SetPad var words) o now a = from_answers limit b (SetPad var words) o now (set_pad_step (content b) var words) refl (set_pad_whole (content b) var words) a
can_be_written limit b (SetSparse var rule) o now a = from_answers limit b (SetSparse var rule) o now (set_sparse_step (content b) var rule) refl (set_sparse_whole (content b) var rule) a
can_be_written limit b (SetBlocking var n) o now a = from_answers limit b (SetBlocking var n) o now (set_blocking_step (content b) var n) refl (set_blocking_whole (content b) var n) a
can_be_written limit b (Reindex var) o now a = from_answers limit b (Reindex var) o now (reindex_step (content b) var) refl (reindex_whole (content b) var) a
can_be_written limit b (DelRecs name first last) o now a = from_answers limit b (DelRecs name first last) o now (del_recs_step (content b) name first last) refl (del_recs_whole (content b) name first last) a
can_be_written limit b (PutRec name rec words) o now a = from_answers limit b (PutRec name rec words) o now (put_rec_step (content b) name rec words) refl (put_rec_whole (content b) name rec words) a
can_be_written limit b (PutVal name rec index words) o now a =
    from_answers limit b (PutVal name rec index words) o now (put_val_step (content b) name rec index words) refl (put_val_whole (content b) name rec index words) a
can_be_written limit b (GetRec name rec) o now a =
    subst CanBeWritten (sym a.outcome_is) (record_written b name rec now a.answer (is_full limit b (GetRec name rec) a.answer) (by_step (get_rec_step (content b) name rec) a.answer a.step_is) a.moves)
can_be_written limit b (GetVal name rec index) o now a =
    subst CanBeWritten (sym a.outcome_is) (value_written b name rec index now a.answer (is_full limit b (GetVal name rec index) a.answer) (by_step (get_val_step (content b) name rec index) a.answer a.step_is) a.moves)
can_be_written limit b (Checksum md5) o now a = from_answers limit b (Checksum md5) o now (Go (record (content b) { md5 = md5 }) replies.Plain) refl tt a
can_be_written limit b Dump o now a = absurd (cc a.step_is)
can_be_written limit b (Report tap) o now a = absurd (cc a.step_is)
can_be_written limit b c o now a = subst CanBeWritten (sym a.0) tt
