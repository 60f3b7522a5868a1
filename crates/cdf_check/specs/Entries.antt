-- The entries of an attribute, in an image with these records.
use Rattle.std.specs.Prelude.{◌≡◌, ◌≤◌, ℕ, ◌+◌, List, length}
use Rattle.cdf_format.specs.AttributeRules.{entries_rows}
use Rattle.cdf_format.specs.ChainRules.{chain_rows}
use Rattle.cdf_format.specs.Chains.{chain}
use Rattle.cdf_format.specs.Fields.{name_in, type_at}
use Rattle.cdf_format.specs.RecordTypes.{adr_type, fixed_size}
use Rattle.cdf_format.specs.Tiles.{In}
use Rattle.cdf_format.specs.Records.{adr_name, field, link_size}
use Rattle.cdf_format.specs.Rules.{Row}
use Rattle.cdf_format.specs.Shape.{gr_entry_chain, z_entry_chain}
use Rattle.cdf_format.specs.Walks.{Walk, whole}
use Rattle.cdf_check.specs.declared.attributes.Attribute.{Attribute}
use Rattle.cdf_check.specs.declared.entries.EntryChain.{EntryChain}

-- a chain of entries of this kind
abbrev pub entry_walk : List ℕ → List ℕ → EntryChain → ℕ → Walk
entry_walk b records kind adr = chain b records kind.record_type adr (field kind.head link_size)

-- the rules on its links, its count, and its entries
abbrev pub entry_chain_rows : List ℕ → List ℕ → EntryChain → ℕ → List Row
entry_chain_rows b records kind adr = chain_rows 4 (entry_walk b records kind adr) (entries_rows b adr (field kind.count 4))

-- an attribute has this Name and these entries
pub record Describes (b records : List ℕ) (adr : ℕ) (attribute : Attribute) : Type 0 where
  pub name : attribute.name ≡ name_in b adr adr_name
  pub gr : gr_entry_chain b records adr ≡ whole attribute.gr.items
  pub z : z_entry_chain b records adr ≡ whole attribute.z.items

-- a record of an attribute, with all its fields
pub record IsAttribute (b : List ℕ) (adr : ℕ) : Type 0 where
  pub type_is : type_at b adr ≡ adr_type
  pub fits : adr + fixed_size adr_type ≤ length b

abbrev pub AreAttributes : List ℕ → List ℕ → Type 0
AreAttributes b adrs = (adr : ℕ) → In adr adrs → IsAttribute b adr
