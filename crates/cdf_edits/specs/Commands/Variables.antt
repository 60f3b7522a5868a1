-- What `rvar`, `zvar`, `rename-var`, `del-var`, `set-pad` and `set-blocking` do (CDF Internal Format Description, "Variable Descriptor Records"; own: the order in which the records of a variable are freed).
use Rattle.std.specs.Prelude.{◌≡◌, ◌≤◌, ◌<◌, ℕ, ◌+◌, List, [], ◌∷◌, ◌++◌, length, map, Bool, false, not, ◌&&◌, ◌==◌, nat_le, nat_lt, if◌then◌else◌, Some, None}
use Rattle.std.specs.List.{filter, flat_map, list_any, slice_get}
use Rattle.cdf_model.specs.declared.kinds.EntryKind.{EntryKind}
use Rattle.cdf_model.specs.declared.kinds.Kind.{Kind}
use Rattle.cdf_model.specs.declared.kinds.Kind.TheVariants as kinds
use Rattle.cdf_model.specs.AttributeSteps.{entries_of, is_global}
use Rattle.cdf_model.specs.DataSet.{Attribute, DataSet}
use Rattle.cdf_model.specs.Names.{Found, variable_named}
use Rattle.cdf_edits.specs.Commands.Allowances.{FreedStay, no_fields, Allowance, Allowances, Anything, Only, OutsideFields, only_of, stays_all, stays_own, space_fields, vdr_type, same_kind, shapes_of, r_max_rec_field, of_variable}
use Rattle.cdf_edits.specs.Commands.EntryChains.{kind_of_entries, chain_of, entry_allowance, share_chain, GreatestIs}
use Rattle.cdf_edits.specs.Commands.GreatestRecord.{r_max_rec, greatest_r_max_rec}
use Rattle.cdf_edits.specs.Commands.NewRecords.{Says, IsFilled, with_bits, MovesForRoom, moved_for_room}
use Rattle.cdf_edits.specs.Space.Acts.{Act, Took, gave}
use Rattle.cdf_format.specs.Bytes.{byte}
use Rattle.cdf_format.specs.Chains.{next_field, next_of}
use Rattle.cdf_format.specs.Content.{content, attribute_of, scope_of}
use Rattle.cdf_format.specs.Fields.{number, words}
use Rattle.cdf_format.specs.Index.{leaves_of, nodes_of}
use Rattle.cdf_format.specs.Records.{Field, past, record_type, gdr_r_vdr_head, gdr_z_vdr_head, gdr_nr_vars, gdr_nz_vars, adr_scope, aedr_num, vdr_vxr_head, vdr_vxr_tail, vdr_flags, vdr_pad_bit, vdr_num, vdr_rfu_b, vdr_rfu_c, vdr_rfu_f, vdr_cpr_or_spr_offset, vdr_blocking_factor, vdr_name}
use Rattle.cdf_format.specs.Shape.{AttributeShape, Shape, VariableShape, Each, shape}
use Rattle.cdf_format.specs.VariableFields.{vary_field, pad_field}
use Rattle.cdf_format.specs.VariableRules.{vdr_end}

-- the head and the count of the variables of a kind
abbrev pub variables_gdr_fields : Kind → List Field
variables_gdr_fields kinds.R = gdr_r_vdr_head ∷ gdr_nr_vars ∷ space_fields
variables_gdr_fields kinds.Z = gdr_z_vdr_head ∷ gdr_nz_vars ∷ space_fields

-- ---- `rvar` and `zvar`: a last VDR of its kind

abbrev pub variable_changes : List ℕ → Kind → Allowances
variable_changes b kind = record stays_all { gdr = Only (variables_gdr_fields kind); variables = λ other n place. if same_kind kind other then only_of b place (vdr_type kind) (next_field ∷ []) else Only [] }

abbrev pub new_vdr : Bool → List (Field × ℕ)
new_vdr vary =
    (vdr_vxr_tail, 0) ∷ (vdr_flags, if vary then 1 else 0) ∷ (vdr_rfu_b, 0) ∷ (vdr_rfu_c, 0xffffffff) ∷ (vdr_rfu_f, 0xffffffff)
    ∷ (vdr_cpr_or_spr_offset, 0xffffffffffffffff) ∷ []

-- DimVarys: -1 where a dimension varies
abbrev pub VarysWritten : List ℕ → ℕ → List Bool → Type 0
VarysWritten now vdr varys = words now (vdr + (vary_field now vdr).place) (length varys) ≡ map (λ vary. if vary then 0xffffffff else 0) varys

pub record MakesVariable (b now : List ℕ) (kind : Kind) (name : List ℕ) (vary : Bool) (varys : List Bool) (acts : List Act) : Type 0 where
  pub made : VariableShape
  pub made_last : slice_get (shapes_of (shape now) kind) (length (shapes_of (shape b) kind)) ≡ Some made
  pub acts_are : acts ≡ Took made.vdr (vdr_end now made.vdr) ∷ []
  pub says : Says now made.vdr (new_vdr vary)
  pub named : IsFilled now made.vdr vdr_name name
  pub varys_are : VarysWritten now made.vdr varys

-- ---- `rename-var`

abbrev pub rename_var_changes : List ℕ → Shape → Found → Allowances
rename_var_changes b s found = record stays_all { variables = of_variable b s found (record stays_own { vdr = Only (vdr_name ∷ []) }) [] }

pub record RenamesVariable (now : List ℕ) (to : List ℕ) (after : VariableShape) (acts : List Act) : Type 0 where
  pub acts_are : acts ≡ []
  pub named : IsFilled now after.vdr vdr_name to

-- ---- `set-pad`: the VDR may move

abbrev pub set_pad_changes : List ℕ → Shape → Found → Allowances
set_pad_changes b s found = record stays_all { gdr = Only (variables_gdr_fields found.kind); variables = of_variable b s found (record stays_own { vdr = Anything }) (next_field ∷ []) }

-- A VDR that gets a pad value: it is copied up to there, but for Flags, of which bit 1 says that there is one.
pub record SetsPad (b now : List ℕ) (vdr vdr' : ℕ) (acts : List Act) : Type 0 where
  pub acts_are : acts ≡ moved_for_room b vdr vdr' (vdr_end now vdr')
  pub copied : (i : ℕ) → past record_type ≤ i → i < (pad_field b vdr).place → OutsideFields (vdr_flags ∷ []) i → byte now (vdr' + i) ≡ byte b (vdr + i)
  pub flags_are : number now vdr' vdr_flags ≡ with_bits (number b vdr vdr_flags) vdr_pad_bit 1 1
  pub room : MovesForRoom b now vdr vdr' (vdr_end now vdr')
  pub freed : FreedStay b now no_fields acts

-- ---- `set-blocking`

abbrev pub set_blocking_changes : List ℕ → Shape → Found → Allowances
set_blocking_changes b s found = record stays_all { variables = of_variable b s found (record stays_own { vdr = Only (vdr_blocking_factor ∷ []) }) [] }

-- ---- `del-var`: a variable goes with its records and its entries, and later variables of its kind are renumbered

-- of an entry that stays where the one of a number goes: its next field if it stands before that one, and its number if that is greater
abbrev pub fields_beside : List ℕ → ℕ → ℕ → List Field
fields_beside b num place =
    (if not (next_of b place == 0) && (number b (next_of b place) aedr_num == num) then next_field ∷ [] else [])
    ++ (if nat_lt num (number b place aedr_num) then aedr_num ∷ [] else [])

abbrev pub is_global_attribute : DataSet → ℕ → Bool
is_global_attribute d n = elim (slice_get d.attributes n) [ None ↦ false | Some a ↦ is_global a.scope ]

-- of the records of an attribute of variables, which may have an entry for it
abbrev pub entries_allowance : List ℕ → DataSet → Found → ℕ → ℕ → Allowance
entries_allowance b d found n place = if is_global_attribute d n then Only [] else entry_allowance b (kind_of_entries found.kind) found.number (fields_beside b found.number place) place

abbrev pub del_var_changes : List ℕ → DataSet → Shape → Found → Allowances
del_var_changes b d s found = record stays_all {
  gdr = Only (r_max_rec_field found.kind ++ variables_gdr_fields found.kind);
  attributes = entries_allowance b d found;
  variables = of_variable b s found (record { vdr = Anything; nodes = Anything; blocks = λ r. Anything; cpr = Anything }) (next_field ∷ vdr_num ∷ []);
}

-- the entries that attributes of variables have for a variable, by the number of the attribute
abbrev pub entries_for : List ℕ → List AttributeShape → Found → List ℕ
entries_for b attributes found =
    flat_map (λ a. if is_global (scope_of (number b a.adr adr_scope)) then [] else filter (λ aedr. number b aedr aedr_num == found.number) (chain_of a (kind_of_entries found.kind))) attributes

abbrev pub freed_with_variable : VariableShape → List ℕ
freed_with_variable v = map (λ leaf. leaf.place) (leaves_of v.index) ++ nodes_of v.index ++ v.cpr ++ v.vdr ∷ []

-- the VDR leads to no node any more
abbrev pub no_index : List (Field × ℕ)
no_index = (vdr_vxr_head, 0) ∷ (vdr_vxr_tail, 0) ∷ []

-- and no other field of what is freed is written
abbrev pub emptied_fields : Kind → ℕ → List Field
emptied_fields kind type = if type == vdr_type kind then map (λ pair. pair.0) no_index else []

-- an attribute of variables has an entry of this kind whose number goes or falls
abbrev pub is_renumbered : Attribute → EntryKind → ℕ → Bool
is_renumbered a kind num = not (is_global a.scope) && list_any (λ pair. nat_le num pair.0) (entries_of a kind)

-- later entries for variables of its kind have numbers less by one
abbrev pub NumbersFall : List ℕ → List ℕ → Found → AttributeShape → Type 0
NumbersFall b now found a = is_global (scope_of (number b a.adr adr_scope)) ≡ false → Each (λ aedr. found.number < number b aedr aedr_num → number now aedr aedr_num + 1 ≡ number b aedr aedr_num) (chain_of a (kind_of_entries found.kind))

-- an attribute once a variable is gone: the greatest number is written of a chain in which an entry goes or is renumbered
abbrev pub AttributeFollows : List ℕ → List ℕ → Found → AttributeShape → AttributeShape → Type 0
AttributeFollows b now found a a' =
    NumbersFall b now found a
    × ((kind : EntryKind) → GreatestIs b now a a' kind (share_chain (kind_of_entries found.kind) kind && is_renumbered (attribute_of b a) (kind_of_entries found.kind) found.number))

-- of an r variable rMaxRec is written
abbrev pub RMaxRecOf : List ℕ → List ℕ → Kind → Type 0
RMaxRecOf b now kinds.R = r_max_rec now ≡ greatest_r_max_rec (content now)
RMaxRecOf b now kinds.Z = r_max_rec now ≡ r_max_rec b

pub record DeletesVariable (b now : List ℕ) (found : Found) (v : VariableShape) (acts : List Act) : Type 0 where
  pub acts_are : acts ≡ gave b (entries_for b (shape b).attributes found ++ freed_with_variable v)
  pub attributes : (n : ℕ) (a a' : AttributeShape) → slice_get (shape b).attributes n ≡ Some a → slice_get (shape now).attributes n ≡ Some a' → AttributeFollows b now found a a'
  pub r_max_rec_is : RMaxRecOf b now found.kind
  pub freed : FreedStay b now (emptied_fields found.kind) acts
  pub emptied : Says now v.vdr no_index

abbrev pub DeletesNamed : List ℕ → List ℕ → List ℕ → List Act → Type 0
DeletesNamed b now name acts = (found : Found) (v : VariableShape) → variable_named (content b) name ≡ Some found → slice_get (shapes_of (shape b) found.kind) found.number ≡ Some v → DeletesVariable b now found v acts
