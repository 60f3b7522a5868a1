-- Records that are linked by their next fields (CDF Internal Format Description: ADRnext, VDRnext, AEDRnext, VXRnext, NextUIR). A link of 0 ends a chain.
use Rattle.std.specs.Prelude.{◌≡◌, ℕ, zero, suc, List, [], ◌∷◌, ◌++◌, length, Bool, true, false, not, ◌&&◌, ◌||◌, ◌==◌, nat_le, if◌then◌else◌}
use Rattle.cdf_format.specs.Fields.{number, size_at, type_at}
use Rattle.cdf_format.specs.Records.{Field, uir_next_uir, linked_size}
use Rattle.cdf_format.specs.RecordTypes.{adr_type, agr_edr_type, az_edr_type, r_vdr_type, z_vdr_type, uir_type}
use Rattle.cdf_format.specs.Tiles.{In, Distinct}
use Rattle.cdf_format.specs.Walks.{Walk, whole, stuck}

-- the next field, which stands at one place in all records that have one
abbrev pub next_field : Field
next_field = uir_next_uir

abbrev pub next_of : List ℕ → ℕ → ℕ
next_of b place = number b place next_field

abbrev pub is_in : ℕ → List ℕ → Bool
is_in n [] = false
is_in n (m ∷ more) = (n == m) || is_in n more

-- a tile of this type
abbrev pub is_a : List ℕ → List ℕ → ℕ → ℕ → Bool
is_a b tiles type place = is_in place tiles && (type_at b place == type)

-- a chain of records of this type may lead to it; no record with a next field has fewer bytes
abbrev pub is_linkable : List ℕ → List ℕ → ℕ → ℕ → Bool
is_linkable b tiles type place = is_a b tiles type place && nat_le linked_size (size_at b place)

-- from a link the next fields lead through these records to another link
abbrev pub Leads : List ℕ → ℕ → List ℕ → ℕ → Type 0
Leads b link [] end = link ≡ end
Leads b link (member ∷ more) end = (link ≡ member) × Leads b (next_of b member) more end

-- the chain from a link: tiles of one type, none twice, up to a link of 0
pub record IsChain (b tiles : List ℕ) (type link : ℕ) (members : List ℕ) : Type 0 where
  pub leads : Leads b link members 0
  pub linkable : (member : ℕ) → In member members → is_linkable b tiles type member ≡ true
  pub once : Distinct members

-- from a link in the record `holder`, with these met before: each link is 0 or leads to a record of the type that was not met before
unfoldable pub chain_on : ℕ → List ℕ → List ℕ → ℕ → List ℕ → ℕ → ℕ → Walk
chain_on zero b tiles type met holder link = if link == 0 then whole met else stuck met holder
chain_on (suc most) b tiles type met holder link =
    if link == 0 then whole met
    else (if is_linkable b tiles type link && not (is_in link met) then chain_on most b tiles type (met ++ link ∷ []) link (next_of b link) else stuck met holder)

-- the chain from the link in a field of a record. It has no more members than there are tiles. A circle is none.
abbrev pub chain : List ℕ → List ℕ → ℕ → ℕ → Field → Walk
chain b tiles type holder head = chain_on (length tiles) b tiles type [] holder (number b holder head)

-- the types of records that chains of the file lead through; the nodes of an index are reached from their variable alone
abbrev pub linked_types : List ℕ
linked_types = adr_type ∷ agr_edr_type ∷ az_edr_type ∷ r_vdr_type ∷ z_vdr_type ∷ uir_type ∷ []
