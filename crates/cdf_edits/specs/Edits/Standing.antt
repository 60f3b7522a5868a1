-- Where a variable stands among those of its kind, and which leaves an index has (CDF Internal Format Description, "Variable Descriptor Record", "Variable Index Record").
use Rattle.std.specs.Prelude.{◌≡◌, ◌<◌, ◌≤◌, ℕ, suc, ◌+◌, ◌-◌, ◌*◌, List, [], ◌∷◌, ◌++◌}
use Rattle.cdf_edits.specs.Commands.Allowances.{shapes_of}
use Rattle.cdf_edits.specs.Index.Written.{AnyOf}
use Rattle.cdf_format.specs.Index.{Leaf}
use Rattle.cdf_format.specs.Records.{vvr_place}
use Rattle.cdf_format.specs.Shape.{VariableShape, shape}
use Rattle.cdf_model.specs.declared.kinds.Kind.{Kind}
use Rattle.cdf_model.specs.declared.kinds.Kind.TheVariants.{R, Z}

-- a variable of a kind, with those in front of it and those behind it
pub record StandsAmong (b : List ℕ) (kind : Kind) (before : List VariableShape) (own : VariableShape) (after : List VariableShape) : Type 0 where
  pub was : shapes_of (shape b) kind ≡ before ++ own ∷ after

-- the variables that are not of a kind are of the other one
abbrev pub other_kind : Kind → Kind
other_kind R = Z
other_kind Z = R

-- ---- leaves

-- one of some leaves
abbrev pub IsOneOf : List Leaf → Leaf → Type 0
IsOneOf leaves l = AnyOf (λ (other : Leaf). other ≡ l) leaves

-- each has records from a number on and before another, and the leaves ascend
abbrev pub Ascending : ℕ → ℕ → List Leaf → Type 0
Ascending low upto [] = Unit {0}
Ascending low upto (l ∷ more) = (low ≤ l.first) × (l.first ≤ l.last) × (l.last < upto) × Ascending (suc l.last) upto more

-- where a record stands in the image
abbrev pub record_place : Leaf → ℕ → ℕ → ℕ
record_place l size k = l.place + vvr_place ((k - l.first) * size)
