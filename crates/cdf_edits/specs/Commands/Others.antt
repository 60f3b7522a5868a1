-- What a command leaves of the attributes and of the variables where it is not on them: their names, the places of their descriptors, the indexes of variables, and the entries of attributes (own).
use Rattle.std.specs.Prelude.{◌≡◌, ℕ, List, map, Bool, true, false, ◌&&◌}
use Rattle.cdf_model.specs.declared.command.Command.{Command}
use Rattle.cdf_model.specs.declared.command.Command.TheVariants as commands
use Rattle.cdf_model.specs.declared.kinds.EntryKind.{EntryKind}
use Rattle.cdf_model.specs.declared.kinds.Kind.{Kind}
use Rattle.cdf_model.specs.DataSet.{DataSet}
use Rattle.cdf_model.specs.Names.{attribute_names, variables_of}
use Rattle.cdf_edits.specs.Commands.Allowances.{shapes_of}
use Rattle.cdf_edits.specs.Commands.EntryChains.{share_chain}
use Rattle.cdf_edits.specs.Commands.Named.{is_attribute}
use Rattle.cdf_edits.specs.Space.Chains.{members_of}
use Rattle.cdf_edits.specs.declared.chain.Chain.{Chain}
use Rattle.cdf_format.specs.Content.{content}
use Rattle.cdf_format.specs.Fields.{number}
use Rattle.cdf_format.specs.Records.{aedr_num}
use Rattle.cdf_format.specs.Shape.{adrs, vdrs, shape}

-- it changes attributes or their entries
abbrev pub is_on_attributes : Command → Bool
is_on_attributes (commands.Attr name scope) = true
is_on_attributes (commands.RenameAttr from to) = true
is_on_attributes (commands.DelAttr name) = true
is_on_attributes (commands.PutEntry attr kind num t words) = true
is_on_attributes (commands.DelEntry attr kind num) = true
is_on_attributes c = false

-- it changes variables or their records
abbrev pub is_on_variables : Command → Bool
is_on_variables (commands.RVar name t elems vary varys) = true
is_on_variables (commands.ZVar name t elems vary dims varys) = true
is_on_variables (commands.RenameVar from to) = true
is_on_variables (commands.DelVar name) = true
is_on_variables (commands.SetPad var words) = true
is_on_variables (commands.SetSparse var rule) = true
is_on_variables (commands.SetCompress var rle) = true
is_on_variables (commands.SetBlocking var n) = true
is_on_variables (commands.PutRec var rec words) = true
is_on_variables (commands.DelRecs var first last) = true
is_on_variables (commands.PutVal var rec index words) = true
is_on_variables (commands.Reindex var) = true
is_on_variables c = false

-- it may change the entries of a kind of the attribute that has a number
abbrev pub is_on_entries : DataSet → Command → ℕ → EntryKind → Bool
is_on_entries d (commands.DelAttr name) n kind = is_attribute d name n
is_on_entries d (commands.PutEntry attr other num t words) n kind = is_attribute d attr n && share_chain other kind
is_on_entries d (commands.DelEntry attr other num) n kind = is_attribute d attr n && share_chain other kind
is_on_entries d (commands.DelVar name) n kind = true
is_on_entries d c n kind = false

pub record AttributesStay (b now : List ℕ) : Type 0 where
  pub names_stay : attribute_names (content now) ≡ attribute_names (content b)
  pub places_stay : adrs (shape now) ≡ adrs (shape b)

-- of each kind
pub record VariablesStay (b now : List ℕ) : Type 0 where
  pub names_stay : (kind : Kind) → map (λ v. v.name) (variables_of (content now) kind) ≡ map (λ v. v.name) (variables_of (content b) kind)
  pub places_stay : (kind : Kind) → vdrs (shapes_of (shape now) kind) ≡ vdrs (shapes_of (shape b) kind)

-- each variable of each kind has its VDR, its index and its CPR where they were, and its index has the nodes and the entries that it had
pub record IndexesStay (b now : List ℕ) : Type 0 where
  pub shapes_stay : (kind : Kind) → shapes_of (shape now) kind ≡ shapes_of (shape b) kind

-- the entries of a chain stand where they stood and in the order in which they stood, each with its number
pub record EntriesStay (b now : List ℕ) (chain : Chain) : Type 0 where
  pub places_stay : members_of now chain ≡ members_of b chain
  pub numbers_stay : map (λ aedr. number now aedr aedr_num) (members_of b chain) ≡ map (λ aedr. number b aedr aedr_num) (members_of b chain)
