-- What a cut at the end of an index keeps (own).
use Rattle.std.specs.Prelude.{◌<◌, ℕ}
use Rattle.cdf_format.specs.Index.{Nodes, leaves_of}
use Rattle.cdf_format.specs.Shape.{Each}

-- a cut of all records from a first one on keeps each block of an index
abbrev pub KeepsBlocks : ℕ → Nodes → Type 0
KeepsBlocks first index = Each (λ l. l.first < first) (leaves_of index)
