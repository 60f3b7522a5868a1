-- A variable whose index becomes another one.
use Rattle.cdf_format.specs.Index.{Nodes}
use Rattle.cdf_format.specs.Shape.{VariableShape}

-- the same variable with another index
abbrev pub with_index : VariableShape → Nodes → VariableShape
with_index v index = record v { index = index }
