-- No command that there is by now packs a variable: where all of an image is read so far, all of the image that follows is.
use Rattle.cdf_session.proofs.Common.{Bool, Err, Follows, Good, List, None, Ok, Result, Some, WellFormed, [], content, false, good_by_its_shape, good_is_sound, if◌then◌else◌, inl, inr, map, nat_lt, new_image, pos, refl, shape, subst, sym, take, true, ℕ, ◌++◌, ◌∙◌, ◌∷◌, ◌≡◌}
use Rattle.cdf_edits.proofs.Commands.OtherNames.{OfAnswer, OfRoute, SameVariables, same_variables}
use Rattle.cdf_edits.proofs.Edits.PlainVariables.{all_loose, read_if}
use Rattle.cdf_edits.proofs.Edits.VariableKinds.{of_kind}
use Rattle.cdf_edits.specs.Commands.Allowances.{shapes_of}
use Rattle.cdf_edits.specs.Follows.{only_reads}
use Rattle.cdf_format.proofs.FormatKept.{is_well_formed}
use Rattle.cdf_format.proofs.ImageOf.{image_of-sealed}
use Rattle.cdf_format.proofs.Members.{either}
use Rattle.cdf_format.proofs.NewFileRules.{new_content, new_is_good}
use Rattle.cdf_format.proofs.SealedRules.{good_long}
use Rattle.cdf_format.proofs.ShapeLemmas.{Each-append}
use Rattle.cdf_format.specs.Content.{variable_of}
use Rattle.cdf_format.specs.NotRead.{IsRead}
use Rattle.cdf_format.specs.Sealed.{sealed}
use Rattle.cdf_format.specs.Shape.{Each, VariableShape, is_compressed, variables}
use Rattle.cdf_model.specs.Answers.{Answer, Go, Refuse, given, unless, valued}
use Rattle.cdf_model.specs.DataSet.{DataSet, Variable, extent, new_data_set}
use Rattle.cdf_model.specs.Limits.{signed_limit}
use Rattle.cdf_model.specs.Names.{Found, is_among, is_bad_name, variable_named, variable_names, variables_of, with_variables}
use Rattle.cdf_model.specs.Place.{value_count}
use Rattle.cdf_model.specs.Reading.{read}
use Rattle.cdf_model.specs.RecordSteps.{cannot_be_put, place_in_record, put_rec_step, put_record, put_val_step, with_record, with_value, without_records}
use Rattle.cdf_model.specs.Step.{ByContent, ByStep, ByTaps, Route, step}
use Rattle.cdf_model.specs.Values.{values_in}
use Rattle.cdf_model.specs.VariableSteps.{attribute_without, del_var_step, has_records, is_bad_shape, new_variable, set_pad_step, var_step, with_variable, without_variable}
use Rattle.cdf_model.specs.declared.answer.Reason.{Reason}
use Rattle.cdf_model.specs.declared.answer.Reason.TheVariants as reasons
use Rattle.cdf_model.specs.declared.answer.Reply.TheVariants as replies
use Rattle.cdf_model.specs.declared.command.Command.{Command}
use Rattle.cdf_model.specs.declared.command.Command.TheVariants as commands
use Rattle.cdf_model.specs.declared.data_type.DataType.{DataType}
use Rattle.cdf_model.specs.declared.kinds.Kind.{Kind}
use Rattle.cdf_model.specs.declared.kinds.Kind.TheVariants.{R, Z}
use Rattle.cdf_model.specs.declared.kinds.Sparse.{Sparse}
use Rattle.cdf_model.specs.declared.kinds.Sparse.TheVariants.{NoRule, Pad, Previous}
use Rattle.cdf_session.specs.Built.{built}
use Rattle.cdf_vars.proofs.VariableFound.{item_found}
use Rattle.cdf_vars.proofs.VariableNames.{variables_are}
use Rattle.std.specs.List.{remove}
use Rattle.std.specs.Prelude.{Option, drop, nat_le, slice_get, slice_set, suc, zero, ◌||◌}

-- ---- variables that are not packed

abbrev IsLoose : Variable → Type 0
IsLoose v = v.rle ≡ false

get_loose : (vs : List Variable) (n : ℕ) (v : Variable) → Each IsLoose vs → slice_get vs n ≡ Some v → IsLoose v
get_loose [] n v all e = absurd cc
get_loose (w ∷ vs) zero v all e = let same : w ≡ v = cc e in subst IsLoose same all.0
get_loose (w ∷ vs) (suc n) v all e = get_loose vs n v all.1 e

set_loose : (vs : List Variable) (n : ℕ) (v : Variable) → Each IsLoose vs → IsLoose v → Each IsLoose (slice_set vs n v)
set_loose [] n v all loose = tt
set_loose (w ∷ vs) zero v all loose = (loose, all.1)
set_loose (w ∷ vs) (suc n) v all loose = (all.0, set_loose vs n v all.1 loose)

take_loose : (n : ℕ) (vs : List Variable) → Each IsLoose vs → Each IsLoose (take n vs)
take_loose zero vs all = tt
take_loose (suc n) [] all = tt
take_loose (suc n) (v ∷ vs) all = (all.0, take_loose n vs all.1)

drop_loose : (n : ℕ) (vs : List Variable) → Each IsLoose vs → Each IsLoose (drop n vs)
drop_loose zero vs all = all
drop_loose (suc n) [] all = tt
drop_loose (suc n) (v ∷ vs) all = drop_loose n vs all.1

remove_loose : (vs : List Variable) (n : ℕ) → Each IsLoose vs → Each IsLoose (remove vs n)
remove_loose vs n all = Each-append IsLoose (take n vs) (drop (suc n) vs) (take_loose n vs all) (drop_loose (suc n) vs all)

-- no variable of a data set is packed
record NonePacked (d : DataSet) : Type 0 where
  pub each : (kind : Kind) → Each IsLoose (variables_of d kind)

-- another data set with the same variables
beside : (d d' : DataSet) → SameVariables d d' → NonePacked d → NonePacked d'
beside d d' same none = record { each = of_each }
  where
    of_each : (kind : Kind) → Each IsLoose (variables_of d' kind)
    of_each R = subst (Each IsLoose) (sym same.0) (none.each R)
    of_each Z = subst (Each IsLoose) (sym same.1) (none.each Z)

-- with others of a kind
with_loose : (d : DataSet) (kind : Kind) (vs : List Variable) → NonePacked d → Each IsLoose vs → NonePacked (with_variables d kind vs)
with_loose d kind vs none all = record { each = of_each kind }
  where
    of_each : (own k : Kind) → Each IsLoose (variables_of (with_variables d own vs) k)
    of_each R R = all
    of_each R Z = none.each Z
    of_each Z R = none.each R
    of_each Z Z = all

-- one of them is another one, which is packed where it was
changed : (d : DataSet) (name : List ℕ) (found : Found) (v : Variable) → variable_named d name ≡ Some found → v.rle ≡ found.variable.rle → NonePacked d → NonePacked (with_variable d found v)
changed d name found v named same none =
    let was = get_loose (variables_of d found.kind) found.number found.variable (none.each found.kind) (item_found d name found named) in
    with_loose d found.kind (slice_set (variables_of d found.kind) found.number v) none (set_loose (variables_of d found.kind) found.number v (none.each found.kind) (same ∙ was))

-- one of them is gone
gone : (d : DataSet) (found : Found) → NonePacked d → NonePacked (without_variable d found)
gone d found none =
    let left : DataSet = record d { attributes = map (attribute_without found.kind found.number) d.attributes } in
    with_loose left found.kind (remove (variables_of d found.kind) found.number) (beside d left (refl, refl) none) (remove_loose (variables_of d found.kind) found.number (none.each found.kind))

-- ---- answers

abbrev GoesLoose : Answer → Type 0
GoesLoose a = OfAnswer NonePacked a

after_tests : (tests : List (Bool × Reason)) (a : Answer) → GoesLoose a → GoesLoose (unless tests a)
after_tests [] a goes = goes
after_tests ((holds, reason) ∷ more) a goes = elim holds as (λ p. GoesLoose (if p then Refuse reason else unless more a)) [ true ↦ tt | false ↦ after_tests more a goes ]

where_there : {A : Type 0} (reason : Reason) (o : Option A) (f : A → Answer) → ((x : A) → o ≡ Some x → GoesLoose (f x)) → GoesLoose (given reason o f)
where_there reason None f goes = tt
where_there reason (Some x) f goes = goes x refl

where_valued : {A : Type 0} (r : Result A Reason) (f : A → Answer) → ((x : A) → GoesLoose (f x)) → GoesLoose (valued r f)
where_valued (Err reason) f goes = tt
where_valued (Ok x) f goes = goes x

-- ---- the steps

left_rle : (rule : Sparse) (v : Variable) (first last : ℕ) → (without_records rule v first last).rle ≡ v.rle
left_rle NoRule v first last = refl
left_rle Pad v first last = refl
left_rle Previous v first last = refl

module _ (d : DataSet) (none : NonePacked d) where
  -- a variable that is found by its name becomes another one
  replaced : (name : List ℕ) (tests : Found → List (Bool × Reason)) (made : Found → Variable) → ((found : Found) → (made found).rle ≡ found.variable.rle)
      → GoesLoose (given reasons.NoSuchVar (variable_named d name) (λ found. unless (tests found) (Go (with_variable d found (made found)) replies.Plain)))
  replaced name tests made same =
      where_there {A = Found} reasons.NoSuchVar (variable_named d name) (λ found. unless (tests found) (Go (with_variable d found (made found)) replies.Plain))
      (λ found named. after_tests (tests found) (Go (with_variable d found (made found)) replies.Plain) (changed d name found (made found) named (same found) none))

  created : (kind : Kind) (name : List ℕ) (t : DataType) (elems : ℕ) (vary : Bool) (dims : List ℕ) (varys : List Bool) → GoesLoose (var_step d kind name t elems vary dims varys)
  created kind name t elems vary dims varys =
      let vs = variables_of d kind ++ new_variable name t elems dims varys vary ∷ [] in
      after_tests ((is_bad_name name, reasons.BadName) ∷ (is_among name (variable_names d), reasons.NameTaken) ∷ (is_bad_shape t elems dims varys, reasons.BadShape) ∷ []) (Go (with_variables d kind vs) replies.Plain)
      (with_loose d kind vs none (Each-append IsLoose (variables_of d kind) (new_variable name t elems dims varys vary ∷ []) (none.each kind) (refl, tt)))

  deleted : (name : List ℕ) → GoesLoose (del_var_step d name)
  deleted name = where_there {A = Found} reasons.NoSuchVar (variable_named d name) (λ found. Go (without_variable d found) replies.Plain) (λ found named. gone d found none)

  padded : (name : List ℕ) (words : List (List ℕ)) → GoesLoose (set_pad_step d name words)
  padded name words =
      let value = λ (found : Found). values_in found.variable.type found.variable.elems 1 words in
      let made = λ (found : Found) (bytes : List ℕ). Go (with_variable d found (record found.variable { pad = Some bytes })) replies.Plain in
      where_there {A = Found} reasons.NoSuchVar (variable_named d name) (λ found. valued (value found) (made found))
      (λ found named. where_valued (value found) (made found) (λ bytes. changed d name found (record found.variable { pad = Some bytes }) named refl none))

  put : (name : List ℕ) (found : Found) (r : ℕ) (bytes : List ℕ) → variable_named d name ≡ Some found → GoesLoose (put_record d found r bytes)
  put name found r bytes named =
      after_tests ((cannot_be_put found.variable r, reasons.RecordOutOfRange) ∷ []) (Go (with_variable d found (with_record found.variable r bytes)) replies.Plain)
      (changed d name found (with_record found.variable r bytes) named refl none)

  record_put : (name : List ℕ) (r : ℕ) (words : List (List ℕ)) → GoesLoose (put_rec_step d name r words)
  record_put name r words =
      let value = λ (found : Found). values_in found.variable.type found.variable.elems (value_count found.variable.dims found.variable.varys) words in
      where_there {A = Found} reasons.NoSuchVar (variable_named d name) (λ found. valued (value found) (put_record d found r))
      (λ found named. where_valued (value found) (put_record d found r) (λ bytes. put name found r bytes named))

  value_put : (name : List ℕ) (r : ℕ) (index : List ℕ) (words : List (List ℕ)) → GoesLoose (put_val_step d name r index words)
  value_put name r index words =
      let value = λ (found : Found). values_in found.variable.type found.variable.elems 1 words in
      let there = λ (found : Found) (bytes : List ℕ) (n : ℕ). put_record d found r (with_value found.variable (read found.variable r) n bytes) in
      let at_place = λ (found : Found) (bytes : List ℕ). given reasons.IndexOutOfRange (place_in_record d found.variable index) (there found bytes) in
      where_there {A = Found} reasons.NoSuchVar (variable_named d name) (λ found. valued (value found) (at_place found))
      (λ found named. where_valued (value found) (at_place found) (λ bytes.
      where_there {A = ℕ} reasons.IndexOutOfRange (place_in_record d found.variable index) (there found bytes)
      (λ n is. put name found r (with_value found.variable (read found.variable r) n bytes) named)))

  beside_them : (route : Route) → OfRoute (SameVariables d) route → OfRoute NonePacked route
  beside_them (ByStep (Go made reply)) same = beside d made same none
  beside_them (ByStep (Refuse reason)) same = tt
  beside_them ByContent same = tt
  beside_them (ByTaps name) same = tt

  step_loose : (c : Command) → built c ≡ true → only_reads c ≡ false → OfRoute NonePacked (step d c)
  step_loose (commands.RVar name t elems vary varys) there edits = created R name t elems vary d.rdims varys
  step_loose (commands.ZVar name t elems vary dims varys) there edits = created Z name t elems vary dims varys
  step_loose (commands.RenameVar from to) there edits =
      replaced from (λ found. (is_bad_name to, reasons.BadName) ∷ (is_among to (variable_names d), reasons.NameTaken) ∷ []) (λ found. record found.variable { name = to }) (λ found. refl)
  step_loose (commands.DelVar name) there edits = deleted name
  step_loose (commands.SetPad var words) there edits = padded var words
  step_loose (commands.SetSparse var rule) there edits = replaced var (λ found. (has_records found.variable, reasons.InUse) ∷ []) (λ found. record found.variable { sparse = rule }) (λ found. refl)
  step_loose (commands.SetCompress var rle) there edits = absurd cc
  step_loose (commands.SetBlocking var n) there edits = replaced var (λ found. (nat_lt signed_limit n, reasons.NumberOutOfRange) ∷ []) (λ found. record found.variable { blocking = pos n }) (λ found. refl)
  step_loose (commands.PutRec var rec words) there edits = record_put var rec words
  step_loose (commands.DelRecs var first last) there edits =
      replaced var (λ found. (nat_lt last first || nat_le (extent found.variable.max_rec) last, reasons.RecordOutOfRange) ∷ []) (λ found. without_records found.variable.sparse found.variable first last)
      (λ found. left_rle found.variable.sparse found.variable first last)
  step_loose (commands.PutVal var rec index words) there edits = value_put var rec index words
  step_loose (commands.Reindex var) there edits = where_there {A = Found} reasons.NoSuchVar (variable_named d var) (λ found. Go d replies.Plain) (λ found named. none)
  step_loose c there edits = beside_them (step d c) (same_variables d c refl edits)

-- ---- images

of_shapes : (b : List ℕ) (vs : List VariableShape) → Each (λ (v : VariableShape). is_compressed b v.vdr ≡ false) vs → Each IsLoose (map (variable_of b) vs)
of_shapes b [] all = tt
of_shapes b (v ∷ vs) all = (all.0, of_shapes b vs all.1)

of_variables : (b : List ℕ) (vs : List VariableShape) → Each IsLoose (map (variable_of b) vs) → Each (λ (v : VariableShape). is_compressed b v.vdr ≡ false) vs
of_variables b [] all = tt
of_variables b (v ∷ vs) all = (all.0, of_variables b vs all.1)

module _ (b : List ℕ) (good : Good b) where
  none_packed : IsRead b → NonePacked (content b)
  none_packed read = record {
    each = λ kind. subst (Each IsLoose) (sym (variables_are b (shape b) (good_is_sound b good).has_shape kind))
        (of_shapes b (shapes_of (shape b) kind) (of_kind (λ (v : VariableShape). is_compressed b v.vdr ≡ false) kind (shape b) (all_loose b (variables (shape b)) read)));
  }

  of_the_kind : NonePacked (content b) → (kind : Kind) → Each (λ (v : VariableShape). is_compressed b v.vdr ≡ false) (shapes_of (shape b) kind)
  of_the_kind none kind = of_variables b (shapes_of (shape b) kind) (subst (Each IsLoose) (variables_are b (shape b) (good_is_sound b good).has_shape kind) (none.each kind))

  read_where : NonePacked (content b) → IsRead b
  read_where none =
      read_if b (variables (shape b)) (Each-append (λ (v : VariableShape). is_compressed b v.vdr ≡ false) (shape b).r_variables (shape b).z_variables (of_the_kind none R) (of_the_kind none Z))

-- of a command that goes
pub follows_read : {b now : List ℕ} {c : Command} → Good b → IsRead b → built c ≡ true → Follows b c now → IsRead now
follows_read {b = b} {now = now} {c = c} good read there f = elim (either (only_reads c)) [
  | inl reads ↦ subst IsRead (sym (f.reads reads)) read
  | inr edits ↦ read_where now f.good (subst (OfRoute NonePacked) f.goes (step_loose (content b) (none_packed b good read) c there edits))
]

-- of the new file
pub new_is_read : IsRead new_image
new_is_read = read_where new_image new_is_good (subst NonePacked (sym new_content) (record { each = none_new }))
  where
    none_new : (kind : Kind) → Each IsLoose (variables_of new_data_set kind)
    none_new R = tt
    none_new Z = tt

-- ---- files

-- what stands in the file once it is saved is well formed
pub sealed_well : (b : List ℕ) → Good b → IsRead b → WellFormed (sealed b)
sealed_well b good read = is_well_formed (sealed b) good (subst IsRead (sym (image_of-sealed b (good_long b (shape b) (good_by_its_shape b good)))) read)
