-- What the check of a file answers.
use Rattle.std.specs.Prelude.{◌≡◌, ℕ, ◌+◌, List, Some, None}
use Rattle.std.specs.declared.option.Option.{Option}
use Rattle.cdf_format.specs.Phases.{first_phases, image_phases}
use Rattle.cdf_format.specs.Rules.{AllHold, FirstBroken}
use Rattle.cdf_format.specs.WellFormed.{WellFormed, Breaks}
use Rattle.cdf_check.specs.declared.verdict.Broken.{Broken}

-- the file is well formed, or it breaks this rule of the first phase that it breaks
abbrev pub Judges : List ℕ → Option Broken → Type 0
Judges f None = WellFormed f
Judges f (Some broken) = Breaks f broken.phase broken.rule broken.at

-- the rules on the file as far as its two first records hold, or this one is the first broken
abbrev pub JudgesStart : List ℕ → Option Broken → Type 0
JudgesStart f None = AllHold (first_phases f)
JudgesStart f (Some broken) = FirstBroken (first_phases f) broken.phase broken.rule broken.at

-- the rules on the image hold, of which the first is phase 4, or this one is the first broken
abbrev pub JudgesImage : List ℕ → Option Broken → Type 0
JudgesImage b None = AllHold (image_phases b)
JudgesImage b (Some broken) = (n : ℕ) × (broken.phase ≡ n + 4) × FirstBroken (image_phases b) n broken.rule broken.at
