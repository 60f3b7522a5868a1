-- The nodes on the way to a new leaf, widened one by one (own).
use Rattle.std.specs.Prelude.{◌≡◌, ◌<◌, ℕ, List, [], ◌∷◌, length}
use Rattle.cdf_format.specs.Index.{room_at, used_count}
use Rattle.cdf_format.specs.Records.{cdr_place}
use Rattle.cdf_format.specs.Shape.{Each}
use Rattle.cdf_format.specs.Sound.{NodeFits}
use Rattle.cdf_format.specs.Tiles.{AreTiles, In}
use Rattle.cdf_index.specs.Writing.{Widened}
use Rattle.cdf_index.specs.declared.descending.Step.{Step}

-- a step says what the bytes say of its node, which is one of these records
pub record StepStands (b records : List ℕ) (step : Step) : Type 0 where
  pub there : In step.place records
  pub fits : NodeFits b step.place
  pub room_is : step.room ≡ room_at b step.place
  pub within : step.entry < used_count b step.place

pub record WayStands (b : List ℕ) (steps : List Step) : Type 0 where
  pub records : List ℕ
  pub tiled : AreTiles b cdr_place (length b) records
  pub stand : Each (StepStands b records) steps

-- the entries of these numbers in these nodes were widened, the last one first
abbrev pub WidenedAlong : List ℕ → List ℕ → ℕ → List (ℕ × ℕ) → Type 0
WidenedAlong b now last [] = now ≡ b
WidenedAlong b now last (step ∷ more) = (mid : List ℕ) × (WidenedAlong b mid last more × Widened mid now step.0 step.1 last)
