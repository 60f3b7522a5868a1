-- The steps by which an attribute goes (own: the link, the count, the numbers of those behind, and then its records).
use Rattle.std.specs.Prelude.{◌≡◌, ℕ, ◌+◌, ◌^◌, ◌<◌, List, [], ◌∷◌, ◌++◌, length}
use Rattle.cdf_edits.specs.Edits.Writes.{write, with_writes, numbers_from}
use Rattle.cdf_edits.specs.Space.Chains.{Removed}
use Rattle.cdf_edits.specs.Space.Freeing.{AllGiven}
use Rattle.cdf_edits.specs.declared.chain.Chain.TheVariants.{Attrs}
use Rattle.cdf_format.specs.Records.{gdr_num_attr}
use Rattle.cdf_format.specs.Shape.{AttributeShape, Shape, shape}

-- from an image with a shape to one in which no chain leads to one of its attributes
pub record Unlinks (b mid : List ℕ) (s : Shape) (before : List AttributeShape) (own : AttributeShape) (after : List AttributeShape) : Type 0 where
  pub was : s.attributes ≡ before ++ own ∷ after
  pub first : List ℕ
  pub removed : Removed b first Attrs own.adr
  pub written : mid ≡ with_writes first (write s.gdr gdr_num_attr (length before + length after) ∷ numbers_from (length before) after)
  pub few : length before + length after < 256 ^ 4

-- The attribute of a number was taken out of the chain, and then its entries and its ADR were freed.
pub record Deletes (b now : List ℕ) (number : ℕ) : Type 0 where
  pub before : List AttributeShape
  pub own : AttributeShape
  pub after : List AttributeShape
  pub count : length before ≡ number
  pub mid : List ℕ
  pub unlinks : Unlinks b mid (shape b) before own after
  pub given : AllGiven mid now (own.gr_entries ++ own.z_entries ++ own.adr ∷ [])
