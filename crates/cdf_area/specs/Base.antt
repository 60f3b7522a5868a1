-- The image to which a mark leads back.
use Rattle.std.specs.Prelude.{ℕ, List, ◌≤◌, take, Some, None}
use Rattle.std.specs.declared.option.Option.{Option}
use Rattle.std.specs.Option.{ForSome}
use Rattle.cdf_area.specs.declared.mem_area.Mark.{Mark}
use Rattle.cdf_area.specs.OldBytes.{AllLieBelow, back}

-- the marked length of these bytes, with what was written over put back
abbrev pub base_at : Mark → List ℕ → List ℕ
base_at mark bytes = back mark.log (take mark.size bytes)

-- the same, where there is a mark
abbrev pub base_of : Option Mark → List ℕ → Option (List ℕ)
base_of None bytes = None
base_of (Some mark) bytes = Some (base_at mark bytes)

-- the marked bytes are the first of n, and all that is kept stood in them
abbrev pub FitsIn : ℕ → Option Mark → Type 0
FitsIn n marked = ForSome marked (λ mark. (mark.size ≤ n) × AllLieBelow mark.size mark.log)
