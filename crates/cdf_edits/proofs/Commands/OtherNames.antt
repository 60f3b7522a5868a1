-- What the step of a command leaves of the names of the attributes and of the variables where it is not on them.
use Rattle.cdf_edits.proofs.Common.{Answer, Attribute, Bool, ByStep, Command, DataSet, DataType, Entry, Err, Found, Go, Kind, List, Majority, None, Ok, Option, R, Reason, Refuse, Reply, Result, Route, Some, Variable, Z, [], ap₂, are_bad_sizes, attribute_named, attribute_names, attribute_without, cannot_be_put, encoding_at, entries_of, entries_without, entry_by, extent, false, given, has_records, if◌then◌else◌, is_among, is_bad_name, is_bad_shape, is_empty_set, is_global, is_none, is_on_attributes, is_on_variables, is_out_of_range, is_wrong_scope, item_at, map, nat_le, nat_lt, new_attribute, new_variable, notation_of, only_reads, place_in_record, pos, put_rec_step, put_record, put_val_step, read, refl, remove, set_pad_step, setup_step, signed_limit, step, true, unless, value_count, valued, values_in, var_step, variable_named, variable_names, variables_of, with_attribute, with_entries, with_item, with_record, with_value, with_variable, with_variables, without, without_records, without_variable, ℕ, ◌++◌, ◌∙◌, ◌∷◌, ◌≡◌}
use Rattle.std.proofs.Common.{not, ◌||◌}
use Rattle.cdf_model.specs.declared.answer.Reason.TheVariants as reasons
use Rattle.cdf_model.specs.declared.answer.Reply.TheVariants as replies
use Rattle.cdf_model.specs.declared.command.Command.TheVariants as commands

-- ---- of the data set that an answer makes

abbrev pub OfAnswer : (DataSet → Type 0) → Answer → Type 0
OfAnswer P (Go d reply) = P d
OfAnswer P (Refuse reason) = Unit {0}

abbrev pub OfRoute : (DataSet → Type 0) → Route → Type 0
OfRoute P (ByStep answer) = OfAnswer P answer
OfRoute P other = Unit {0}

module _ (P : DataSet → Type 0) where
  of_unless : (checks : List (Bool × Reason)) (answer : Answer) → OfAnswer P answer → OfAnswer P (unless checks answer)
  of_unless [] answer is = is
  of_unless ((holds, reason) ∷ more) answer is = elim holds as (λ p. OfAnswer P (if p then Refuse reason else unless more answer)) [ true ↦ tt | false ↦ of_unless more answer is ]

  of_given : {A : Type 0} (reason : Reason) (found : Option A) (answer : A → Answer) → ((a : A) → OfAnswer P (answer a)) → OfAnswer P (given reason found answer)
  of_given reason None answer is = tt
  of_given reason (Some a) answer is = is a

  of_valued : {A : Type 0} (value : Result A Reason) (answer : A → Answer) → ((a : A) → OfAnswer P (answer a)) → OfAnswer P (valued value answer)
  of_valued (Err reason) answer is = tt
  of_valued (Ok a) answer is = is a

  -- a data set that is made where no reason is against it
  of_made : (checks : List (Bool × Reason)) (made : DataSet) (reply : Reply) → P made → OfAnswer P (unless checks (Go made reply))
  of_made checks made reply is = of_unless checks (Go made reply) is

  -- and where something is there
  of_found : {A : Type 0} (reason : Reason) (found : Option A) (checks : A → List (Bool × Reason)) (made : A → DataSet) (reply : Reply) → ((a : A) → P (made a)) → OfAnswer P (given reason found (λ a. unless (checks a) (Go (made a) reply)))
  of_found reason found checks made reply is = of_given reason found (λ a. unless (checks a) (Go (made a) reply)) (λ a. of_made (checks a) (made a) reply (is a))

  of_value : {A : Type 0} (value : Result A Reason) (made : A → DataSet) (reply : Reply) → ((a : A) → P (made a)) → OfAnswer P (valued value (λ a. Go (made a) reply))
  of_value value made reply is = of_valued value (λ a. Go (made a) reply) is

-- ---- `setup`

of_setup : (d : DataSet) (encoding : ℕ) (majority : Majority) (dims : List ℕ) (P : DataSet → Type 0) → P (record d { encoding = encoding; majority = majority; rdims = dims }) → OfAnswer P (setup_step d encoding majority dims)
of_setup d encoding majority dims P is =
    of_made P ((is_none (encoding_at encoding), reasons.NumberOutOfRange) ∷ (are_bad_sizes dims, reasons.BadShape) ∷ (not (is_empty_set d), reasons.InUse) ∷ []) (record d { encoding = encoding; majority = majority; rdims = dims }) replies.Plain is

pub setup_attributes : (d : DataSet) (encoding : ℕ) (majority : Majority) (dims : List ℕ) → OfRoute (λ x. x.attributes ≡ d.attributes) (step d (commands.Setup encoding majority dims))
setup_attributes d encoding majority dims = of_setup d encoding majority dims (λ x. x.attributes ≡ d.attributes) refl

setup_by : (p q empty : Bool) (r s t : Reason) (d : DataSet) (reply : Reply) → OfAnswer (λ x. empty ≡ true) (unless ((p, r) ∷ (q, s) ∷ (not empty, t) ∷ []) (Go d reply))
setup_by true q empty r s t d reply = tt
setup_by false true empty r s t d reply = tt
setup_by false false true r s t d reply = refl
setup_by false false false r s t d reply = tt

pub setup_empty : (d : DataSet) (encoding : ℕ) (majority : Majority) (dims : List ℕ) → OfRoute (λ x. is_empty_set d ≡ true) (step d (commands.Setup encoding majority dims))
setup_empty d encoding majority dims = setup_by (is_none (encoding_at encoding)) (are_bad_sizes dims) (is_empty_set d) _ _ _ _ _

-- ---- the variables

abbrev pub SameVariables : DataSet → DataSet → Type 0
SameVariables d now = (now.r_variables ≡ d.r_variables) × (now.z_variables ≡ d.z_variables)

pub same_variables : (d : DataSet) (c : Command) → is_on_variables c ≡ false → only_reads c ≡ false → OfRoute (SameVariables d) (step d c)
same_variables d (commands.Attr name scope) e r =
    of_made (SameVariables d) ((is_bad_name name, reasons.BadName) ∷ (is_among name (attribute_names d), reasons.NameTaken) ∷ []) (record d { attributes = d.attributes ++ new_attribute name scope ∷ [] }) replies.Plain (refl, refl)
same_variables d (commands.RenameAttr from to) e r =
    of_found (SameVariables d) reasons.NoSuchAttr (attribute_named d from) (λ found. (is_bad_name to, reasons.BadName) ∷ (is_among to (attribute_names d), reasons.NameTaken) ∷ []) (λ found. with_attribute d found.0 (record found.1 { name = to })) replies.Plain
    (λ found. (refl, refl))
same_variables d (commands.DelAttr name) e r = of_found (SameVariables d) reasons.NoSuchAttr (attribute_named d name) (λ found. []) (λ found. record d { attributes = remove d.attributes found.0 }) replies.Plain (λ found. (refl, refl))
same_variables d (commands.PutEntry attr kind num t words) e r =
    let made = λ (found : ℕ × Attribute) (entry : Entry). with_attribute d found.0 (with_entries found.1 kind (with_item num entry (entries_of found.1 kind))) in
    let checks = λ (found : ℕ × Attribute). (is_wrong_scope kind found.1.scope, reasons.WrongScope) ∷ (is_out_of_range d kind num, reasons.NumberOutOfRange) ∷ [] in
    let answer = λ (found : ℕ × Attribute). valued (entry_by (notation_of t) t words) (λ entry. Go (made found entry) replies.Plain) in
    of_given (SameVariables d) reasons.NoSuchAttr (attribute_named d attr) (λ found. unless (checks found) (answer found))
    (λ found. of_unless (SameVariables d) (checks found) (answer found) (of_value (SameVariables d) (entry_by (notation_of t) t words) (made found) replies.Plain (λ entry. (refl, refl))))
same_variables d (commands.DelEntry attr kind num) e r =
    let made = λ (found : ℕ × Attribute) (entry : Entry). with_attribute d found.0 (with_entries found.1 kind (without num num (entries_of found.1 kind))) in
    let checks = λ (found : ℕ × Attribute). (is_wrong_scope kind found.1.scope, reasons.WrongScope) ∷ [] in
    let answer = λ (found : ℕ × Attribute). given reasons.NoSuchEntry (item_at num (entries_of found.1 kind)) (λ entry. Go (made found entry) replies.Plain) in
    of_given (SameVariables d) reasons.NoSuchAttr (attribute_named d attr) (λ found. unless (checks found) (answer found))
    (λ found. of_unless (SameVariables d) (checks found) (answer found) (of_found (SameVariables d) reasons.NoSuchEntry (item_at num (entries_of found.1 kind)) (λ entry. []) (made found) replies.Plain (λ entry. (refl, refl))))
same_variables d (commands.Setup encoding majority dims) e r = of_setup d encoding majority dims (SameVariables d) (refl, refl)
same_variables d (commands.Checksum md5) e r = (refl, refl)
same_variables d commands.Dump e r = tt
same_variables d (commands.Report tap) e r = tt
same_variables d c e r = absurd cc

-- ---- the attributes

abbrev pub SameNames : DataSet → DataSet → Type 0
SameNames d now = attribute_names now ≡ attribute_names d

-- a change of variables
other_variables : (d : DataSet) (kind : Kind) (vs : List Variable) → SameNames d (with_variables d kind vs)
other_variables d R vs = refl
other_variables d Z vs = refl

-- entries that go with a variable leave the name
named_without : (kind : Kind) (n : ℕ) (a : Attribute) → (attribute_without kind n a).name ≡ a.name
named_without kind n a = elim (is_global a.scope) as (λ p. (if p then a else entries_without kind n a).name ≡ a.name) [ true ↦ refl | false ↦ entries kind ]
  where
    entries : (kind : Kind) → (entries_without kind n a).name ≡ a.name
    entries R = refl
    entries Z = refl

all_named_without : (kind : Kind) (n : ℕ) (as_ : List Attribute) → map (λ (a : Attribute). a.name) (map (attribute_without kind n) as_) ≡ map (λ (a : Attribute). a.name) as_
all_named_without kind n [] = refl
all_named_without kind n (a ∷ more) = ap₂ (λ (x : List ℕ) (xs : List (List ℕ)). x ∷ xs) (named_without kind n a) (all_named_without kind n more)

names_without : (d : DataSet) (found : Found) → SameNames d (without_variable d found)
names_without d found =
    let gone : DataSet = record d { attributes = map (attribute_without found.kind found.number) d.attributes } in
    other_variables gone found.kind _ ∙ all_named_without found.kind found.number d.attributes

same_of_found : (d : DataSet) (found : Found) (v : Variable) → SameNames d (with_variable d found v)
same_of_found d found v = other_variables d found.kind _

-- a variable changed in its place
of_variable : (d : DataSet) (name : List ℕ) (checks : Found → List (Bool × Reason)) (made : Found → Variable) → OfAnswer (SameNames d) (given reasons.NoSuchVar (variable_named d name) (λ found. unless (checks found) (Go (with_variable d found (made found)) replies.Plain)))
of_variable d name checks made = of_found (SameNames d) reasons.NoSuchVar (variable_named d name) checks (λ found. with_variable d found (made found)) replies.Plain (λ found. same_of_found d found (made found))

made_variable : (d : DataSet) (kind : Kind) (name : List ℕ) (t : DataType) (elems : ℕ) (vary : Bool) (dims : List ℕ) (varys : List Bool) → OfAnswer (SameNames d) (var_step d kind name t elems vary dims varys)
made_variable d kind name t elems vary dims varys =
    of_made (SameNames d) ((is_bad_name name, reasons.BadName) ∷ (is_among name (variable_names d), reasons.NameTaken) ∷ (is_bad_shape t elems dims varys, reasons.BadShape) ∷ [])
    (with_variables d kind (variables_of d kind ++ new_variable name t elems dims varys vary ∷ [])) replies.Plain (other_variables d kind (variables_of d kind ++ new_variable name t elems dims varys vary ∷ []))

put_by : (d : DataSet) (found : Found) (r : ℕ) (bytes : List ℕ) → OfAnswer (SameNames d) (put_record d found r bytes)
put_by d found r bytes = of_made (SameNames d) ((cannot_be_put found.variable r, reasons.RecordOutOfRange) ∷ []) (with_variable d found (with_record found.variable r bytes)) replies.Plain (same_of_found d found (with_record found.variable r bytes))

put_rec_by : (d : DataSet) (name : List ℕ) (r : ℕ) (words : List (List ℕ)) → OfAnswer (SameNames d) (put_rec_step d name r words)
put_rec_by d name r words =
    let value = λ (found : Found). values_in found.variable.type found.variable.elems (value_count found.variable.dims found.variable.varys) words in
    of_given (SameNames d) reasons.NoSuchVar (variable_named d name) (λ found. valued (value found) (put_record d found r))
    (λ found. of_valued (SameNames d) (value found) (put_record d found r) (put_by d found r))

put_val_by : (d : DataSet) (name : List ℕ) (r : ℕ) (index : List ℕ) (words : List (List ℕ)) → OfAnswer (SameNames d) (put_val_step d name r index words)
put_val_by d name r index words =
    let value = λ (found : Found). values_in found.variable.type found.variable.elems 1 words in
    let put = λ (found : Found) (value : List ℕ) (n : ℕ). put_record d found r (with_value found.variable (read found.variable r) n value) in
    let at = λ (found : Found) (value : List ℕ). given reasons.IndexOutOfRange (place_in_record d found.variable index) (put found value) in
    of_given (SameNames d) reasons.NoSuchVar (variable_named d name) (λ found. valued (value found) (at found))
    (λ found. of_valued (SameNames d) (value found) (at found) (λ value. of_given (SameNames d) reasons.IndexOutOfRange (place_in_record d found.variable index) (put found value) (λ n. put_by d found r (with_value found.variable (read found.variable r) n value))))

set_pad_by : (d : DataSet) (name : List ℕ) (words : List (List ℕ)) → OfAnswer (SameNames d) (set_pad_step d name words)
set_pad_by d name words =
    let value = λ (found : Found). values_in found.variable.type found.variable.elems 1 words in
    let made = λ (found : Found) (bytes : List ℕ). with_variable d found (record found.variable { pad = Some bytes }) in
    of_given (SameNames d) reasons.NoSuchVar (variable_named d name) (λ found. valued (value found) (λ bytes. Go (made found bytes) replies.Plain))
    (λ found. of_value (SameNames d) (value found) (made found) replies.Plain (λ bytes. same_of_found d found (record found.variable { pad = Some bytes })))

pub same_names : (d : DataSet) (c : Command) → is_on_attributes c ≡ false → only_reads c ≡ false → OfRoute (SameNames d) (step d c)
same_names d (commands.Setup encoding majority dims) e r = of_setup d encoding majority dims (SameNames d) refl
same_names d (commands.RVar name t elems vary varys) e r = made_variable d R name t elems vary d.rdims varys
same_names d (commands.ZVar name t elems vary dims varys) e r = made_variable d Z name t elems vary dims varys
same_names d (commands.RenameVar from to) e r = of_variable d from (λ found. (is_bad_name to, reasons.BadName) ∷ (is_among to (variable_names d), reasons.NameTaken) ∷ []) (λ found. record found.variable { name = to })
same_names d (commands.DelVar name) e r = of_found (SameNames d) reasons.NoSuchVar (variable_named d name) (λ found. []) (without_variable d) replies.Plain (names_without d)
same_names d (commands.SetPad var words) e r = set_pad_by d var words
same_names d (commands.SetSparse var rule) e r = of_variable d var (λ found. (has_records found.variable, reasons.InUse) ∷ []) (λ found. record found.variable { sparse = rule })
same_names d (commands.SetCompress var rle) e r = of_variable d var (λ found. (has_records found.variable, reasons.InUse) ∷ []) (λ found. record found.variable { rle = rle })
same_names d (commands.SetBlocking var n) e r = of_variable d var (λ found. (nat_lt signed_limit n, reasons.NumberOutOfRange) ∷ []) (λ found. record found.variable { blocking = pos n })
same_names d (commands.PutRec var rec words) e r = put_rec_by d var rec words
same_names d (commands.DelRecs var first last) e r = of_variable d var (λ found. (nat_lt last first || nat_le (extent found.variable.max_rec) last, reasons.RecordOutOfRange) ∷ []) (λ found. without_records found.variable.sparse found.variable first last)
same_names d (commands.PutVal var rec index words) e r = put_val_by d var rec index words
same_names d (commands.Reindex var) e r = of_found (SameNames d) reasons.NoSuchVar (variable_named d var) (λ found. []) (λ found. d) replies.Plain (λ found. refl)
same_names d (commands.Checksum md5) e r = refl
same_names d commands.Dump e r = tt
same_names d (commands.Report tap) e r = tt
same_names d c e r = absurd cc
