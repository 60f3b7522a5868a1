-- The chains that begin in the Global Descriptor Record.
use Rattle.std.specs.Prelude.{◌≡◌, ◌≤◌, ℕ, ◌+◌, List, [], ◌++◌}
use Rattle.cdf_format.specs.Fields.{size_at, type_at}
use Rattle.cdf_format.specs.Records.{field}
use Rattle.cdf_format.specs.RecordTypes.{fixed_size}
use Rattle.cdf_format.specs.Rules.{Row}
use Rattle.cdf_format.specs.Tiles.{In}
use Rattle.cdf_format.specs.Walks.{Walk, whole}
use Rattle.cdf_format.specs.Chains.{chain}
use Rattle.cdf_format.specs.ChainRules.{chain_rows, count_rows, number_rows, adrs_rows, r_vdrs_rows, z_vdrs_rows}
use Rattle.cdf_format.specs.Shape.{adr_chain, r_vdr_chain, z_vdr_chain, uir_chain}
use Rattle.cdf_structure.specs.declared.chains.Numbered.{Numbered}
use Rattle.cdf_structure.specs.declared.file_chains.Chains.{Chains}

-- each record has its fixed part
abbrev pub AreLong : List ℕ → List ℕ → Type 0
AreLong b records = (place : ℕ) → In place records → fixed_size (type_at b place) ≤ size_at b place

-- a chain of this kind, from the record at a place
abbrev pub walk_of : List ℕ → List ℕ → Numbered → ℕ → Walk
walk_of b records kind holder = chain b records kind.record_type holder (field kind.head 8)

-- the rules on its links, its count, and the numbers of its members
abbrev pub numbered_rows : List ℕ → List ℕ → Numbered → ℕ → List Row
numbered_rows b records kind holder =
    chain_rows kind.rule (walk_of b records kind holder) (λ members. count_rows (kind.rule + 1) b holder (field kind.count 4) members ++ number_rows (kind.rule + 2) b (field kind.number 4) 0 members)

-- the rules on the chains of attributes and variables
abbrev pub member_rows : List ℕ → List ℕ → List Row
member_rows b records =
    chain_rows 2 (adr_chain b records) (adrs_rows b)
    ++ chain_rows 5 (r_vdr_chain b records) (r_vdrs_rows b)
    ++ chain_rows 8 (z_vdr_chain b records) (z_vdrs_rows b)

-- the rule on the chain of unused records
abbrev pub unused_rows : List ℕ → List ℕ → List Row
unused_rows b records = chain_rows 11 (uir_chain b records) (λ members. [])

pub record AreChains (b records : List ℕ) (c : Chains) : Type 0 where
  pub attributes : adr_chain b records ≡ whole c.attributes.items
  pub r_variables : r_vdr_chain b records ≡ whole c.r_variables.items
  pub z_variables : z_vdr_chain b records ≡ whole c.z_variables.items
