-- A file with one number or name changed, and the rule that it breaks first.
use Rattle.std.specs.Prelude.{ℕ, List}
use Rattle.cdf_format.specs.Fields.{with_field, with_name}
use Rattle.cdf_format.specs.Records.{Field}
use Rattle.cdf_format.specs.Shape.{Each}
use Rattle.cdf_format.specs.WellFormed.{Breaks}

-- a number in a field of the record at a place, or a name there
pub data Change : Type 0 where
  Number : ℕ → Field → ℕ → Change
  Name : ℕ → Field → List ℕ → Change

abbrev pub changed : List ℕ → Change → List ℕ
changed f (Number place field n) = with_field f place field n
changed f (Name place field name) = with_name f place field name

-- the phase, the rule and the place of a verdict
pub record Verdict : Type 0 where
  pub phase : ℕ
  pub rule : ℕ
  pub place : ℕ

abbrev pub verdict : ℕ → ℕ → ℕ → Verdict
verdict phase rule place = record { phase = phase; rule = rule; place = place }

-- a file breaks a rule once it is changed
abbrev pub BreaksChanged : List ℕ → Change × Verdict → Type 0
BreaksChanged f (change, v) = Breaks (changed f change) v.phase v.rule v.place

-- each change alone
abbrev pub EachBreaks : List ℕ → List (Change × Verdict) → Type 0
EachBreaks f table = Each (BreaksChanged f) table
