-- Records that are freed one after the other (own).
use Rattle.std.specs.Prelude.{◌≡◌, ℕ, List, [], ◌∷◌}
use Rattle.cdf_format.specs.Owners.{times, owned_records}
use Rattle.cdf_format.specs.Tiles.{In, Distinct}
use Rattle.cdf_edits.specs.Space.Giving.{IsGiven}
use Rattle.cdf_format.specs.Shape.{shape}

-- from one image to another in which these records were freed, in this order
abbrev pub AllGiven : List ℕ → List ℕ → List ℕ → Type 0
AllGiven b now [] = now ≡ b
AllGiven b now (place ∷ more) = (mid : List ℕ) × (IsGiven b mid (shape b) (shape mid) place × AllGiven mid now more)

-- records of an image that no owner has, none twice
pub record AreFree (b places : List ℕ) : Type 0 where
  pub stand : (m : ℕ) → In m places → In m (shape b).records
  pub unowned : (m : ℕ) → In m places → times m (owned_records b (shape b)) ≡ 0
  pub once : Distinct places
