-- A well-formed file: the rules of each phase that is asked hold (own).
use Rattle.std.specs.Prelude.{ℕ, List}
use Rattle.cdf_format.specs.Phases.{all_phases, format_phases, phases_around}
use Rattle.cdf_format.specs.Rules.{AllHold, FirstBroken}
use Rattle.cdf_format.specs.Sealed.{image_of, sealed}

abbrev pub WellFormed : List ℕ → Type 0
WellFormed f = AllHold (all_phases f)

-- the file breaks this rule of this phase at this place, and no earlier phase
abbrev pub Breaks : List ℕ → ℕ → ℕ → ℕ → Type 0
Breaks f phase rule place = FirstBroken (all_phases f) phase rule place

-- the file keeps the rules of the format, whether or not all of it is read so far
abbrev pub KeepsFormat : List ℕ → Type 0
KeepsFormat f = AllHold (phases_around (format_phases (image_of f)) f)

-- an image that keeps them once it is sealed
abbrev pub Good : List ℕ → Type 0
Good b = KeepsFormat (sealed b)
