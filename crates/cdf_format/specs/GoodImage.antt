-- What the rules of phases 4 to 9 come to for an image with a shape (own). Of phase 4 the shape says all.
use Rattle.std.specs.Prelude.{ℕ, List}
use Rattle.cdf_format.specs.Rules.{AllHold}
use Rattle.cdf_format.specs.Shape.{Shape, HasShape}
use Rattle.cdf_format.specs.Phases.{phases_of}

pub record IsGoodImage (b : List ℕ) (s : Shape) : Type 0 where
  pub has_shape : HasShape b s
  pub phases : AllHold (phases_of b s)
