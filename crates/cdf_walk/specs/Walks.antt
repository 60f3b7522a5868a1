-- Where a walk stands, and what it comes to from there (own).
use Rattle.std.specs.Prelude.{ℕ, ◌≡◌, ◌<◌, [], ◌∷◌}
use Rattle.cdf_model.specs.declared.kinds.Kind.{Kind}
use Rattle.cdf_model.specs.declared.kinds.Kind.TheVariants.{R, Z}
use Rattle.cdf_model.specs.declared.spot.Spot.{Spot}
use Rattle.cdf_model.specs.declared.spot.Spot.TheVariants as spots
use Rattle.cdf_model.specs.DataSet.{DataSet}
use Rattle.cdf_model.specs.Spots.{rest}
use Rattle.cdf_model.specs.Walks.{Counts}
use Rattle.cdf_walk.specs.Parts.{number_limit}
use Rattle.cdf_walk.specs.declared.walk.Step.{Step}
use Rattle.cdf_walk.specs.declared.walk.Step.TheVariants as steps
use Rattle.cdf_walk.specs.declared.walk.Walk.{Walk}

-- the number behind that of the part can be told
abbrev pub Within : Spot → Type 0
Within (spots.OwnEntry n i) = n < number_limit
Within (spots.ZEntry n i) = n < number_limit
Within (spots.Rec kind n from) = n < number_limit
Within other = Unit {0}

-- a walk over this data set can stand so: with the records that are left it counted all
pub record Stands (d : DataSet) (walk : Walk) : Type 0 where
  pub within : Within walk.spot
  pub counts : Counts d walk.spot walk.counted

-- where the variables of a kind are over
abbrev pub behind : Kind → Spot
behind R = spots.Var Z 0
behind Z = spots.End

-- how many spots there are at most that can be passed over before an event comes
abbrev pub rank : Spot → ℕ
rank spots.Head = 0
rank (spots.OwnEntry n i) = 5
rank (spots.ZEntry n i) = 4
rank (spots.Attr n) = 3
rank (spots.Rec R n from) = 3
rank (spots.Var R n) = 2
rank (spots.Rec Z n from) = 2
rank (spots.Var Z n) = 1
rank spots.End = 0
rank spots.Behind = 0

-- what is at a spot: an event comes, or nothing more of that part, or nothing at all
abbrev pub IsStep : DataSet → Spot → Step → Type 0
IsStep d spot (steps.Gives event after) = (rest d spot ≡ event ∷ rest d after) × Within after
IsStep d spot (steps.Passes next) = (rest d spot ≡ rest d next) × Within next × (rank next < rank spot)
IsStep d spot steps.Ends = rest d spot ≡ []
