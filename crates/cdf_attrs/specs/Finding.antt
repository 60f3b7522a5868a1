-- The entries that a command means: the chain of an attribute, or why there is none (own).
use Rattle.std.specs.Prelude.{◌≡◌, ℕ, List, true, false, Some, None}
use Rattle.std.specs.List.{slice_get}
use Rattle.cdf_edits.specs.declared.chain.Chain.{Chain}
use Rattle.cdf_edits.specs.Edits.EntryMarks.{entries_chain}
use Rattle.cdf_format.specs.Content.{content, attribute_of}
use Rattle.cdf_format.specs.Shape.{AttributeShape, shape}
use Rattle.cdf_model.specs.declared.answer.Reason.{Reason}
use Rattle.cdf_model.specs.declared.answer.Reason.TheVariants.{NoSuchAttr, WrongScope}
use Rattle.cdf_model.specs.declared.kinds.EntryKind.{EntryKind}
use Rattle.cdf_model.specs.AttributeSteps.{is_wrong_scope}
use Rattle.cdf_model.specs.DataSet.{Attribute}
use Rattle.cdf_model.specs.Names.{attribute_named}
use Rattle.cdf_attrs.specs.declared.finding.Target.{Target}
use Rattle.cdf_attrs.specs.declared.finding.Target.TheVariants.{Found, Refused}

-- a chain of the entries of an attribute
pub record IsOfAttribute (b : List ℕ) (chain : Chain) : Type 0 where
  pub number : ℕ
  pub own : AttributeShape
  pub stands : slice_get (shape b).attributes number ≡ Some own
  pub kind : EntryKind
  pub chain_is : chain ≡ entries_chain kind own.adr

-- the attribute of a name has this number, entries of the kind go with its scope, and they stand in this chain
pub record FindsChain (b attr : List ℕ) (kind : EntryKind) (number : ℕ) (chain : Chain) : Type 0 where
  pub own : AttributeShape
  pub stands : slice_get (shape b).attributes number ≡ Some own
  pub named : attribute_named (content b) attr ≡ Some (number, attribute_of b own)
  pub in_scope : is_wrong_scope kind (attribute_of b own).scope ≡ false
  pub chain_is : chain ≡ entries_chain kind own.adr

-- entries of the kind do not go with the scope of the attribute
pub record HasWrongScope (b attr : List ℕ) (kind : EntryKind) : Type 0 where
  pub number : ℕ
  pub own : Attribute
  pub named : attribute_named (content b) attr ≡ Some (number, own)
  pub wrong : is_wrong_scope kind own.scope ≡ true

abbrev pub IsRefusedFor : List ℕ → List ℕ → EntryKind → Reason → Type 0
IsRefusedFor b attr kind NoSuchAttr = attribute_named (content b) attr ≡ None
IsRefusedFor b attr kind WrongScope = HasWrongScope b attr kind
IsRefusedFor b attr kind other = ⊥

abbrev pub Finds : List ℕ → List ℕ → EntryKind → Target → Type 0
Finds b attr kind (Found number chain) = FindsChain b attr kind number chain
Finds b attr kind (Refused reason) = IsRefusedFor b attr kind reason
