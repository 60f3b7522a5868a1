-- What follows from the definition of run lengths.
use Rattle.std.specs.Prelude.{ℕ, ◌<◌, ◌≡◌, ◌↔◌, List, Some, All}
use Rattle.cdf_model.specs.RunLengths.{IsLongest, Packs, unpacked}

-- packed bytes are paired with at most one list of plain bytes
abbrev pub RunsReadBack : Type 0
RunsReadBack = (packed first second : List ℕ) → Packs packed first → Packs packed second → first ≡ second

-- packed bytes are paired with what they are unpacked to, and with nothing else
abbrev pub PackedIsUnpacked : Type 0
PackedIsUnpacked = (packed plain : List ℕ) → Packs packed plain ↔ (unpacked packed ≡ Some plain)

-- bytes are packed in one way where the runs are as long as they can be
abbrev pub LongestIsOne : Type 0
LongestIsOne = (first second plain : List ℕ) → All (λ b. b < 256) first → All (λ b. b < 256) second
    → Packs first plain → IsLongest first → Packs second plain → IsLongest second → first ≡ second
