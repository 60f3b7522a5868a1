-- The chains of an image by what leads to them, and what a call leaves of one.
use Rattle.std.specs.Prelude.{◌≡◌, ℕ, List, [], ◌∷◌, ◌++◌, length, true, false, ◌==◌, if◌then◌else◌}
use Rattle.cdf_edits.specs.Frame.Changed.{Touch, touched_field, Changed}
use Rattle.cdf_format.specs.Chains.{IsChain, chain, is_a, is_in, is_linkable, next_field}
use Rattle.cdf_format.specs.Fields.{gdr_offset, number}
use Rattle.cdf_format.specs.Records.{Field, gdr_adr_head, gdr_r_vdr_head, gdr_z_vdr_head, gdr_num_attr, gdr_nr_vars, gdr_nz_vars, adr_agr_edr_head, adr_az_edr_head, adr_ngr_entries, adr_nz_entries}
use Rattle.cdf_format.specs.RecordTypes.{gdr_type, adr_type, agr_edr_type, az_edr_type, r_vdr_type, z_vdr_type}
use Rattle.cdf_format.specs.Tiles.{tiles}
use Rattle.cdf_format.specs.Walks.{records_of}
use Rattle.cdf_edits.specs.declared.chain.Chain.{Chain}
use Rattle.cdf_edits.specs.declared.chain.Chain.TheVariants.{Attrs, RVars, ZVars, GrEntries, ZEntries}

-- the record that has the head of a chain, and the field in which it is
abbrev pub holder_of : List ℕ → Chain → ℕ
holder_of b Attrs = gdr_offset b
holder_of b RVars = gdr_offset b
holder_of b ZVars = gdr_offset b
holder_of b (GrEntries adr) = adr
holder_of b (ZEntries adr) = adr

abbrev pub head_of : Chain → Field
head_of Attrs = gdr_adr_head
head_of RVars = gdr_r_vdr_head
head_of ZVars = gdr_z_vdr_head
head_of (GrEntries adr) = adr_agr_edr_head
head_of (ZEntries adr) = adr_az_edr_head

-- the field beside it that counts the records
abbrev pub count_of : Chain → Field
count_of Attrs = gdr_num_attr
count_of RVars = gdr_nr_vars
count_of ZVars = gdr_nz_vars
count_of (GrEntries adr) = adr_ngr_entries
count_of (ZEntries adr) = adr_nz_entries

-- how many it says
abbrev pub counted_in : List ℕ → Chain → ℕ
counted_in b c = number b (holder_of b c) (count_of c)

-- the type of the record that has the head
abbrev pub holder_type : Chain → ℕ
holder_type Attrs = gdr_type
holder_type RVars = gdr_type
holder_type ZVars = gdr_type
holder_type (GrEntries adr) = adr_type
holder_type (ZEntries adr) = adr_type

-- the type of its records
abbrev pub type_in : Chain → ℕ
type_in Attrs = adr_type
type_in RVars = r_vdr_type
type_in ZVars = z_vdr_type
type_in (GrEntries adr) = agr_edr_type
type_in (ZEntries adr) = az_edr_type

-- the ADR whose entries are meant stands in the image
abbrev pub HolderStands : List ℕ → Chain → Type 0
HolderStands b (GrEntries adr) = is_a b (tiles b) adr_type adr ≡ true
HolderStands b (ZEntries adr) = is_a b (tiles b) adr_type adr ≡ true
HolderStands b other = Unit {0}

-- the members of the chain, which is one
abbrev pub members_of : List ℕ → Chain → List ℕ
members_of b c = records_of (chain b (tiles b) (type_in c) (holder_of b c) (head_of c))

abbrev pub HasChain : List ℕ → Chain → Type 0
HasChain b c = IsChain b (tiles b) (type_in c) (number b (holder_of b c) (head_of c)) (members_of b c)

-- a record that may join the chain: of its type, and not in it
pub record MayJoin (b : List ℕ) (c : Chain) (place : ℕ) : Type 0 where
  pub linkable : is_linkable b (tiles b) (type_in c) place ≡ true
  pub outside : is_in place (members_of b c) ≡ false

-- the link behind the records of a chain: the next field of the last one, or the head
abbrev pub link_behind : ℕ → Field → List ℕ → Touch
link_behind holder link [] = touched_field holder link
link_behind holder link (member ∷ more) = link_behind member next_field more

-- A record became the last one of the chain, and no other byte changed than the link that now leads to it and its own next field.
pub record Appended (b now : List ℕ) (c : Chain) (place : ℕ) : Type 0 where
  pub members_are : members_of now c ≡ members_of b c ++ place ∷ []
  pub has_chain : HasChain now c
  pub length_stays : length now ≡ length b
  pub changed : Changed b now (link_behind (holder_of b c) (head_of c) (members_of b c) ∷ touched_field place next_field ∷ [])

-- ---- a member goes, or another record takes its place

-- the members before one
abbrev pub before : ℕ → List ℕ → List ℕ
before place [] = []
before place (member ∷ more) = if member == place then [] else member ∷ before place more

-- the others
abbrev pub without : ℕ → List ℕ → List ℕ
without place [] = []
without place (member ∷ more) = if member == place then more else member ∷ without place more

-- with another in its place
abbrev pub with_in_place : ℕ → ℕ → List ℕ → List ℕ
with_in_place place by [] = []
with_in_place place by (member ∷ more) = if member == place then by ∷ more else member ∷ with_in_place place by more

-- the link that leads to a member
abbrev pub link_to : List ℕ → Chain → ℕ → Touch
link_to b c place = link_behind (holder_of b c) (head_of c) (before place (members_of b c))

-- A record is no member of the chain any more, and no other byte changed than the link that led to it.
pub record Removed (b now : List ℕ) (c : Chain) (place : ℕ) : Type 0 where
  pub members_are : members_of now c ≡ without place (members_of b c)
  pub has_chain : HasChain now c
  pub length_stays : length now ≡ length b
  pub changed : Changed b now (link_to b c place ∷ [])

-- Another record took the place of a member, and no other byte changed than the link that led to that and its own next field.
pub record Replaced (b now : List ℕ) (c : Chain) (place by : ℕ) : Type 0 where
  pub members_are : members_of now c ≡ with_in_place place by (members_of b c)
  pub has_chain : HasChain now c
  pub length_stays : length now ≡ length b
  pub changed : Changed b now (link_to b c place ∷ touched_field by next_field ∷ [])
