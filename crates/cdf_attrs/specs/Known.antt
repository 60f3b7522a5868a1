-- What is kept of the attributes of a file: their names, and where their descriptors stand, both in order; the entries of some chains, those that were used last; and those of one chain in the order of their numbers, the one that was shown last (own).
use Rattle.std.specs.Prelude.{◌≡◌, ℕ, List, map, Bool, false, ◌==◌, All}
use Rattle.std.specs.declared.option.Option.{Option}
use Rattle.std.specs.List.Sorted.{IsNonDecreasingBy, IsPermutation}
use Rattle.std.specs.Option.{ForSome}
use Rattle.cdf_edits.specs.Edits.EntryMarks.{entries_chain}
use Rattle.cdf_edits.specs.Space.Chains.{members_of}
use Rattle.cdf_edits.specs.declared.chain.Chain.{Chain}
use Rattle.cdf_edits.specs.declared.chain.Chain.TheVariants.{GrEntries, ZEntries}
use Rattle.cdf_format.specs.Content.{content}
use Rattle.cdf_format.specs.Fields.{number}
use Rattle.cdf_format.specs.Records.{aedr_num}
use Rattle.cdf_format.specs.Shape.{adrs, shape}
use Rattle.cdf_format.specs.Tiles.{In}
use Rattle.cdf_model.specs.declared.kinds.EntryKind.{EntryKind}
use Rattle.cdf_model.specs.Names.{attribute_names}

-- two chains are of the same entries of one attribute
abbrev pub is_same_chain : Chain → Chain → Bool
is_same_chain (GrEntries adr) (GrEntries other) = adr == other
is_same_chain (ZEntries adr) (ZEntries other) = adr == other
is_same_chain one other = false

-- the entries of a chain, which names the attribute by its ADR: their numbers, and where they stand, both in the order of the chain
pub record KnownEntries : Type 0 where
  pub chain : Chain
  pub numbers : List ℕ
  pub places : List ℕ

-- the entries of a chain in the order of their numbers: the number of each, and where it stands
pub record KnownOrder : Type 0 where
  pub chain : Chain
  pub entries : List (ℕ × ℕ)

pub record Known : Type 0 where
  pub names : List (List ℕ)
  pub places : List ℕ
  pub entries : List KnownEntries
  pub order : Option KnownOrder

-- these are the entries of the chain in an image
pub record KnowsEntries (b : List ℕ) (entries : KnownEntries) : Type 0 where
  pub places_are : entries.places ≡ members_of b entries.chain
  pub numbers_are : entries.numbers ≡ map (λ aedr. number b aedr aedr_num) entries.places

-- entries that stand at these places, each with its number
abbrev pub with_numbers : List ℕ → List ℕ → List (ℕ × ℕ)
with_numbers b places = map (λ aedr. (number b aedr aedr_num, aedr)) places

-- these are the entries of the chain in an image, in the order of their numbers
pub record KnowsOrder (b : List ℕ) (order : KnownOrder) : Type 0 where
  pub all : IsPermutation (with_numbers b (members_of b order.chain)) order.entries
  pub rise : IsNonDecreasingBy (λ entry. entry.0) order.entries

-- the chain is of the entries of an attribute whose ADR stands at one of these places
pub record IsOfOne (places : List ℕ) (chain : Chain) : Type 0 where
  pub kind : EntryKind
  pub adr : ℕ
  pub among : In adr places
  pub chain_is : chain ≡ entries_chain kind adr

pub record KeepsEntries (b places : List ℕ) (entries : KnownEntries) : Type 0 where
  pub of_one : IsOfOne places entries.chain
  pub knows : KnowsEntries b entries

pub record KeepsOrder (b places : List ℕ) (order : KnownOrder) : Type 0 where
  pub of_one : IsOfOne places order.chain
  pub knows : KnowsOrder b order

-- this is what there is of the attributes of an image
pub record Knows (b : List ℕ) (known : Known) : Type 0 where
  pub names_are : known.names ≡ attribute_names (content b)
  pub places_are : known.places ≡ adrs (shape b)
  pub entries_are : All (KeepsEntries b known.places) known.entries
  pub order_is : ForSome known.order (KeepsOrder b known.places)
