-- What the check of one phase finds.
use Rattle.std.specs.Prelude.{List, Some, None, Ok, Err}
use Rattle.std.specs.declared.option.Option.{Option}
use Rattle.std.specs.declared.result.Result.{Result}
use Rattle.cdf_format.specs.Rules.{Row, Hold, IsBroken}
use Rattle.cdf_structure.specs.declared.finding.Finding.{Finding}

-- no rule is broken, or this one is, at its place
abbrev pub Finds : List Row → Option Finding → Type 0
Finds rows None = Hold rows
Finds rows (Some broken) = IsBroken rows broken.rule broken.place

-- this holds of what is handed out, and no rule is broken; or this rule is, at its place
abbrev pub Yields : {T : Type 0} → List Row → (T → Type 0) → Result T Finding → Type 0
Yields rows P (Ok value) = Hold rows × P value
Yields rows P (Err broken) = IsBroken rows broken.rule broken.place
