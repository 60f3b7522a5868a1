-- Chains by the fields that lead to them, and how a written link changes one of them: what the law on links speaks of (own).
use Rattle.std.specs.Prelude.{◌≡◌, ◌⊎◌, ◌≤◌, ℕ, ◌+◌, List, [], ◌∷◌, true, false}
use Rattle.cdf_edits.specs.Frame.Changed.{Touch}
use Rattle.cdf_format.specs.Chains.{is_in, linked_types, next_field, IsChain}
use Rattle.cdf_format.specs.Fields.{word, size_at, type_at}
use Rattle.cdf_format.specs.Records.{past, record_type}
use Rattle.cdf_format.specs.Tiles.{In}

-- where a record leads to a chain, the type of the records of the chain, and these
pub record ChainHead : Type 0 where
  pub holder : ℕ
  pub place : ℕ
  pub type : ℕ
  pub members : List ℕ

abbrev pub chain_head : ℕ → ℕ → ℕ → List ℕ → ChainHead
chain_head holder place type members = record { holder = holder; place = place; type = type; members = members }

abbrev pub with_members : ChainHead → List ℕ → ChainHead
with_members c members = record c { members = members }

abbrev pub head_place : ChainHead → ℕ
head_place c = c.holder + c.place

-- the field lies in its record, behind the next field if that has one, and leads to the chain
pub record IsHead (b records : List ℕ) (c : ChainHead) : Type 0 where
  pub holder_in : In c.holder records
  pub fits : c.place + next_field.width ≤ size_at b c.holder
  pub later : (past next_field ≤ c.place) ⊎ ((past record_type ≤ c.place) × (is_in (type_at b c.holder) linked_types ≡ false))
  pub linked : is_in c.type linked_types ≡ true
  pub chain_is : IsChain b records c.type (word b (head_place c) next_field.width) c.members

-- a touch meets no link of a chain, and no size or type of its records
pub record Spares (t : Touch) (c : ChainHead) : Type 0 where
  pub holder : c.holder ≡ t.tile → past record_type ≤ t.place
  pub head : c.holder ≡ t.tile → (c.place + next_field.width ≤ t.place) ⊎ (t.place + t.width ≤ c.place)
  pub member : In t.tile c.members → past next_field ≤ t.place

abbrev pub AllSpare : List Touch → ChainHead → Type 0
AllSpare [] c = Unit {0}
AllSpare (t ∷ more) c = Spares t c × AllSpare more c

-- the link behind a front part of a chain: that of its head, or the next field of the last record
abbrev pub end_place : ℕ → List ℕ → ℕ
end_place place [] = place
end_place place (member ∷ more) = end_place (member + next_field.place) more

abbrev pub IsLinkAfter : ChainHead → List ℕ → ℕ → ℕ → Type 0
IsLinkAfter c front holder place = (end_place (head_place c) front ≡ holder + place) × (((holder ≡ c.holder) × (place ≡ c.place)) ⊎ (In holder front × (place ≡ next_field.place)))

-- two chains whose heads share no byte, the second without a record of this front part
pub record IsOther (c : ChainHead) (front : List ℕ) (other : ChainHead) : Type 0 where
  pub apart : c.holder ≡ other.holder → (c.place + next_field.width ≤ other.place) ⊎ (other.place + next_field.width ≤ c.place)
  pub no_member : (member : ℕ) → In member front → In member other.members → ⊥
