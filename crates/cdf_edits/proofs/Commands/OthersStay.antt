-- A command leaves the names and the places of the attributes and of the variables where it is not on them.
use Rattle.cdf_edits.proofs.Common.{Allowances, AttributeShape, AttributesStay, Bool, Command, DataSet, Follows, Found, Good, HasShape, Kind, List, Majority, None, Only, Option, R, Shape, Some, Variable, VariableShape, VariablesStay, Z, [], adr_type, adrs, allowances, and_parts, ap, attribute_of, cases_Bool, content, content_is, del_var_changes, entries_allowance, entry_allowance, eq-eqb, eqb-true, false, fields_beside, gdr_adr_head, good_is_sound, if◌then◌else◌, inl, inr, is_empty_set, is_global_attribute, is_on_attributes, is_on_variables, kind_of_entries, length, length-map, map, next_field, nil_from_length, only_reads, put_changes, r_max_rec_field, refl, rename_var_changes, set_blocking_changes, set_pad_changes, shape, shapes_of, space_fields, stays_all, subst, sym, true, type_at, variable_named, variable_of, variables_gdr_fields, variables_of, vdrs, ℕ, ◌++◌, ◌==◌, ◌∙◌, ◌≡◌}
use Rattle.std.proofs.Common.{◌&&◌}
use Rattle.cdf_model.specs.declared.command.Command.TheVariants as commands
use Rattle.cdf_edits.specs.Commands.Cuts.{del_recs_changes, set_compress_changes, set_sparse_changes}
use Rattle.cdf_edits.specs.Commands.Reindex.{reindex_changes}
use Rattle.cdf_edits.proofs.Commands.ChainsStay.{spares, SparesAttributes, SparesVariables, adrs_stay, vdrs_stay}
use Rattle.cdf_edits.proofs.Commands.SameIndexes.{LeavesVariables, shapes_same}
use Rattle.cdf_edits.specs.Commands.Others.{IndexesStay}
use Rattle.cdf_edits.proofs.Commands.OtherNames.{OfRoute, SameNames, SameVariables, same_names, same_variables, setup_attributes, setup_empty}

-- ---- what each command may change

-- of a command whose allowances name no variable
abbrev is_setup : Command → Bool
is_setup (commands.Setup encoding majority dims) = true
is_setup c = false

spares_variables : (b : List ℕ) (d : DataSet) (s : Shape) (c : Command) → is_on_variables c ≡ false → is_setup c ≡ false → SparesVariables b (allowances b d s c)
spares_variables b d s (commands.Setup encoding majority dims) e other = absurd cc
spares_variables b d s (commands.RVar name t elems vary varys) e other = absurd cc
spares_variables b d s (commands.ZVar name t elems vary dims varys) e other = absurd cc
spares_variables b d s (commands.RenameVar from to) e other = absurd cc
spares_variables b d s (commands.DelVar name) e other = absurd cc
spares_variables b d s (commands.SetPad var words) e other = absurd cc
spares_variables b d s (commands.SetSparse var rule) e other = absurd cc
spares_variables b d s (commands.SetCompress var rle) e other = absurd cc
spares_variables b d s (commands.SetBlocking var n) e other = absurd cc
spares_variables b d s (commands.PutRec var rec words) e other = absurd cc
spares_variables b d s (commands.DelRecs var first last) e other = absurd cc
spares_variables b d s (commands.PutVal var rec index words) e other = absurd cc
spares_variables b d s (commands.Reindex var) e other = absurd cc
spares_variables b d s c e other = record { offset = refl; r_head = refl; z_head = refl; links = λ kind n place typed. refl }

-- an ADR keeps its link where an entry goes
links_entry : (b : List ℕ) (kind : Kind) (num place : ℕ) → type_at b place ≡ adr_type → spares next_field (entry_allowance b (kind_of_entries kind) num (fields_beside b num place) place) ≡ true
links_entry b R num place typed = rw (eq-eqb (type_at b place) adr_type typed) refl
links_entry b Z num place typed = rw (eq-eqb (type_at b place) adr_type typed) refl

links_without : (b : List ℕ) (d : DataSet) (found : Found) (n place : ℕ) → type_at b place ≡ adr_type → spares next_field (entries_allowance b d found n place) ≡ true
links_without b d found n place typed =
    elim (is_global_attribute d n) as (λ p. spares next_field (if p then Only [] else entry_allowance b (kind_of_entries found.kind) found.number (fields_beside b found.number place) place) ≡ true) [
      | true ↦ refl
      | false ↦ links_entry b found.kind found.number place typed
    ]

-- the GDR keeps the head of the attributes
head_made : (kind : Kind) → spares gdr_adr_head (Only (variables_gdr_fields kind)) ≡ true
head_made R = refl
head_made Z = refl

head_gone : (kind : Kind) → spares gdr_adr_head (Only (r_max_rec_field kind ++ variables_gdr_fields kind)) ≡ true
head_gone R = refl
head_gone Z = refl

head_put : (kind : Kind) → spares gdr_adr_head (Only (r_max_rec_field kind ++ space_fields)) ≡ true
head_put R = refl
head_put Z = refl

module _ (b : List ℕ) (d : DataSet) (s : Shape) where
  -- of a command that names a variable
  of_found : (found : Option Found) (may : Found → Allowances) → ((f : Found) → SparesAttributes b (may f)) → SparesAttributes b (elim found [ None ↦ stays_all | Some f ↦ may f ])
  of_found None may each = record { offset = refl; head = refl; links = λ n place typed. refl }
  of_found (Some f) may each = each f

  spares_attributes : (c : Command) → is_on_attributes c ≡ false → is_setup c ≡ false → SparesAttributes b (allowances b d s c)
  spares_attributes (commands.Setup encoding majority dims) e other = absurd cc
  spares_attributes (commands.Attr name scope) e other = absurd cc
  spares_attributes (commands.RenameAttr from to) e other = absurd cc
  spares_attributes (commands.DelAttr name) e other = absurd cc
  spares_attributes (commands.PutEntry attr kind num t words) e other = absurd cc
  spares_attributes (commands.DelEntry attr kind num) e other = absurd cc
  spares_attributes (commands.RenameVar from to) e other = of_found (variable_named d from) (rename_var_changes b s) (λ f. record { offset = refl; head = refl; links = λ n place typed. refl })
  spares_attributes (commands.DelVar name) e other = of_found (variable_named d name) (del_var_changes b d s) (λ f. record { offset = refl; head = head_gone f.kind; links = links_without b d f })
  spares_attributes (commands.SetPad var words) e other = of_found (variable_named d var) (set_pad_changes b s) (λ f. record { offset = refl; head = head_made f.kind; links = λ n place typed. refl })
  spares_attributes (commands.SetBlocking var n) e other = of_found (variable_named d var) (set_blocking_changes b s) (λ f. record { offset = refl; head = refl; links = λ n place typed. refl })
  spares_attributes (commands.PutRec var rec words) e other = of_found (variable_named d var) (λ f. put_changes b s f rec) (λ f. record { offset = refl; head = head_put f.kind; links = λ n place typed. refl })
  spares_attributes (commands.PutVal var rec index words) e other = of_found (variable_named d var) (λ f. put_changes b s f rec) (λ f. record { offset = refl; head = head_put f.kind; links = λ n place typed. refl })
  spares_attributes (commands.DelRecs var first last) e other = of_found (variable_named d var) (λ f. del_recs_changes b s f first last) (λ f. record { offset = refl; head = head_put f.kind; links = λ n place typed. refl })
  spares_attributes (commands.SetSparse var rule) e other = of_found (variable_named d var) (set_sparse_changes b s) (λ f. record { offset = refl; head = refl; links = λ n place typed. refl })
  spares_attributes (commands.SetCompress var rle) e other = of_found (variable_named d var) (λ f. set_compress_changes b s f rle) (λ f. record { offset = refl; head = refl; links = λ n place typed. refl })
  spares_attributes (commands.Reindex var) e other = of_found (variable_named d var) (reindex_changes b s) (λ f. record { offset = refl; head = refl; links = λ n place typed. refl })
  spares_attributes c e other = record { offset = refl; head = refl; links = λ n place typed. refl }

-- ---- a data set with nothing in it

none_by_length : {A : Type 0} (xs : List A) → (length xs == 0) ≡ true → xs ≡ []
none_by_length xs e = nil_from_length xs (eqb-true (length xs) 0 e)

-- what is nowhere has no records
no_places : {A B : Type 0} (place : A → ℕ) (meaning : A → B) (xs : List A) (ys : List B) → ys ≡ map meaning xs → ys ≡ [] → map place xs ≡ []
no_places place meaning xs ys is none =
    let count : length xs ≡ 0 = sym (length-map xs meaning) ∙ ap (λ (l : List _). length l) (sym is ∙ none) in
    ap (map place) (nil_from_length xs count)

record IsEmpty (d : DataSet) : Type 0 where
  no_attributes : d.attributes ≡ []
  no_r_variables : d.r_variables ≡ []
  no_z_variables : d.z_variables ≡ []

empty_set : (d : DataSet) → is_empty_set d ≡ true → IsEmpty d
empty_set d e =
    let p = and_parts ((length d.attributes == 0) && (length d.r_variables == 0)) (length d.z_variables == 0) e in
    let q = and_parts (length d.attributes == 0) (length d.r_variables == 0) p.0 in
    record { no_attributes = none_by_length d.attributes q.0; no_r_variables = none_by_length d.r_variables q.1; no_z_variables = none_by_length d.z_variables p.1 }

module _ (b : List ℕ) (good : Good b) where
  h : HasShape b (shape b)
  h = (good_is_sound b good).has_shape

  no_adrs : (content b).attributes ≡ [] → adrs (shape b) ≡ []
  no_adrs none = no_places (λ (a : AttributeShape). a.adr) (attribute_of b) (shape b).attributes (content b).attributes (ap (λ (d : DataSet). d.attributes) (content_is b (shape b) h)) none

  no_vdrs : (kind : Kind) → variables_of (content b) kind ≡ [] → vdrs (shapes_of (shape b) kind) ≡ []
  no_vdrs R none = no_places (λ (v : VariableShape). v.vdr) (variable_of b) (shape b).r_variables (content b).r_variables (ap (λ (d : DataSet). d.r_variables) (content_is b (shape b) h)) none
  no_vdrs Z none = no_places (λ (v : VariableShape). v.vdr) (variable_of b) (shape b).z_variables (content b).z_variables (ap (λ (d : DataSet). d.z_variables) (content_is b (shape b) h)) none

  no_variables : (kind : Kind) → variables_of (content b) kind ≡ [] → shapes_of (shape b) kind ≡ []
  no_variables kind none = by_length (shapes_of (shape b) kind) (vdrs_length (shapes_of (shape b) kind) (no_vdrs kind none))
    where
      vdrs_length : (vs : List VariableShape) → vdrs vs ≡ [] → length vs ≡ 0
      vdrs_length vs e = sym (length-map vs (λ (v : VariableShape). v.vdr)) ∙ ap (λ (l : List ℕ). length l) e

      by_length : (vs : List VariableShape) → length vs ≡ 0 → vs ≡ []
      by_length vs e = nil_from_length vs e

-- ---- what a command leaves

module _ (b now : List ℕ) (c : Command) (good : Good b) (f : Follows b c now) where
  same_image : only_reads c ≡ true → b ≡ now
  same_image reads = sym (f.reads reads)

  made_variables : is_on_variables c ≡ false → SameVariables (content b) (content now)
  made_variables e = elim (cases_Bool (only_reads c)) [
    | inl reads ↦ subst (λ (x : List ℕ). SameVariables (content b) (content x)) (same_image reads) (refl, refl)
    | inr changes ↦ subst (OfRoute (SameVariables (content b))) f.goes (same_variables (content b) c e changes)
  ]

  variables_are : is_on_variables c ≡ false → (kind : Kind) → variables_of (content now) kind ≡ variables_of (content b) kind
  variables_are e R = (made_variables e).0
  variables_are e Z = (made_variables e).1

  variables_by : is_on_variables c ≡ false → ((kind : Kind) → vdrs (shapes_of (shape now) kind) ≡ vdrs (shapes_of (shape b) kind)) → VariablesStay b now
  variables_by e places = record { names_stay = λ kind. ap (map (λ (v : Variable). v.name)) (variables_are e kind); places_stay = places }

  variables_spared : is_on_variables c ≡ false → SparesVariables b (allowances b (content b) (shape b) c) → VariablesStay b now
  variables_spared e spared =
      variables_by e (vdrs_stay b now (allowances b (content b) (shape b) c) f.acts (shape b) (shape now) (good_is_sound b good).has_shape (good_is_sound now f.good).has_shape f.keeps spared)

  attributes_are : is_on_attributes c ≡ false → SameNames (content b) (content now)
  attributes_are e = elim (cases_Bool (only_reads c)) [
    | inl reads ↦ subst (λ (x : List ℕ). SameNames (content b) (content x)) (same_image reads) refl
    | inr changes ↦ subst (OfRoute (SameNames (content b))) f.goes (same_names (content b) c e changes)
  ]

  attributes_by : is_on_attributes c ≡ false → adrs (shape now) ≡ adrs (shape b) → AttributesStay b now
  attributes_by e places = record { names_stay = attributes_are e; places_stay = places }

  attributes_spared : is_on_attributes c ≡ false → SparesAttributes b (allowances b (content b) (shape b) c) → AttributesStay b now
  attributes_spared e spared =
      attributes_by e (adrs_stay b now (allowances b (content b) (shape b) c) f.acts (shape b) (shape now) (good_is_sound b good).has_shape (good_is_sound now f.good).has_shape f.keeps spared)

-- `setup` goes where there is nothing, before and after it
module _ (b now : List ℕ) (encoding : ℕ) (majority : Majority) (dims : List ℕ) (good : Good b) (f : Follows b (commands.Setup encoding majority dims) now) where
  was_empty : IsEmpty (content b)
  was_empty = empty_set (content b) (subst (OfRoute (λ x. is_empty_set (content b) ≡ true)) f.goes (setup_empty (content b) encoding majority dims))

  none_before : (kind : Kind) → variables_of (content b) kind ≡ []
  none_before R = was_empty.no_r_variables
  none_before Z = was_empty.no_z_variables

  -- and so there is no index
  none_there : (kind : Kind) → shapes_of (shape now) kind ≡ shapes_of (shape b) kind
  none_there kind = no_variables now f.good kind (variables_are b now (commands.Setup encoding majority dims) good f refl kind ∙ none_before kind) ∙ sym (no_variables b good kind (none_before kind))

  setup_variables : VariablesStay b now
  setup_variables =
      let same = variables_are b now (commands.Setup encoding majority dims) good f refl in
      variables_by b now (commands.Setup encoding majority dims) good f refl (λ kind. no_vdrs now f.good kind (same kind ∙ none_before kind) ∙ sym (no_vdrs b good kind (none_before kind)))

  same_attributes : (content now).attributes ≡ []
  same_attributes = (subst (OfRoute (λ d. d.attributes ≡ (content b).attributes)) f.goes (setup_attributes (content b) encoding majority dims)) ∙ was_empty.no_attributes

  setup_attributes_stay : AttributesStay b now
  setup_attributes_stay = attributes_by b now (commands.Setup encoding majority dims) good f refl (no_adrs now f.good same_attributes ∙ sym (no_adrs b good was_empty.no_attributes))

pub variables_stay : (b now : List ℕ) (c : Command) → is_on_variables c ≡ false → Good b → Follows b c now → VariablesStay b now
variables_stay b now (commands.Setup encoding majority dims) e good f = setup_variables b now encoding majority dims good f
variables_stay b now c e good f = variables_spared b now c good f e (spares_variables b (content b) (shape b) c e refl)

pub attributes_stay : (b now : List ℕ) (c : Command) → is_on_attributes c ≡ false → Good b → Follows b c now → AttributesStay b now
attributes_stay b now (commands.Setup encoding majority dims) e good f = setup_attributes_stay b now encoding majority dims good f
attributes_stay b now c e good f = attributes_spared b now c good f e (spares_attributes b (content b) (shape b) c e refl)

-- ---- the indexes of variables

-- what a command that is not on variables may change, no record of a variable is among it
leaves_variables : (b : List ℕ) (d : DataSet) (s : Shape) (c : Command) → is_on_variables c ≡ false → LeavesVariables (allowances b d s c)
leaves_variables b d s (commands.RVar name t elems vary varys) e = absurd cc
leaves_variables b d s (commands.ZVar name t elems vary dims varys) e = absurd cc
leaves_variables b d s (commands.RenameVar from to) e = absurd cc
leaves_variables b d s (commands.DelVar name) e = absurd cc
leaves_variables b d s (commands.SetPad var words) e = absurd cc
leaves_variables b d s (commands.SetSparse var rule) e = absurd cc
leaves_variables b d s (commands.SetCompress var rle) e = absurd cc
leaves_variables b d s (commands.SetBlocking var n) e = absurd cc
leaves_variables b d s (commands.PutRec var rec words) e = absurd cc
leaves_variables b d s (commands.DelRecs var first last) e = absurd cc
leaves_variables b d s (commands.PutVal var rec index words) e = absurd cc
leaves_variables b d s (commands.Reindex var) e = absurd cc
leaves_variables b d s c e = record { whole = λ kind n place. refl }

pub indexes_stay : (b now : List ℕ) (c : Command) → is_on_variables c ≡ false → Good b → Follows b c now → IndexesStay b now
indexes_stay b now (commands.Setup encoding majority dims) e good f = record { shapes_stay = none_there b now encoding majority dims good f }
indexes_stay b now c e good f = record {
  shapes_stay = shapes_same b now (allowances b (content b) (shape b) c) f.acts (good_is_sound b good) (good_is_sound now f.good).has_shape f.keeps (leaves_variables b (content b) (shape b) c e) (variables_spared b now c good f e (spares_variables b (content b) (shape b) c e refl)).places_stay;
}
