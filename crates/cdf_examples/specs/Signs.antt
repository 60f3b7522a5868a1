-- A file with a number below 0 in its index (CDF Internal Format Description, "Variable Index Record": First, Last).
use Rattle.std.specs.Prelude.{ℕ, List, [], ◌∷◌}
use Rattle.cdf_format.specs.IndexRules.{phase8}
use Rattle.cdf_format.specs.Records.{vxr_last}
use Rattle.cdf_format.specs.Rules.{Row, IsBroken}
use Rattle.cdf_format.specs.Shape.{vdrs, variables, shape}
use Rattle.cdf_examples.specs.Building.{minus4}
use Rattle.cdf_examples.specs.Damage.{Change, Number, Verdict, verdict}

-- Last of the first entry of the node at 1140 is -1
abbrev pub last_below_zero : Change
last_below_zero = Number 1140 (vxr_last 7 0) minus4

abbrev pub last_broken : List (Change × Verdict)
last_broken = (last_below_zero, verdict 8 4 1140) ∷ []

-- the rules of an image on its indexes
abbrev pub index_rules : List ℕ → List Row
index_rules b = phase8 b (shape b).records (vdrs (variables (shape b)))

-- a rule of this number is broken nowhere
abbrev pub HoldsEverywhere : List Row → ℕ → Type 0
HoldsEverywhere rows rule = (place : ℕ) → IsBroken rows rule place → ⊥
