-- An index that is built anew in the place of another one, as code does it.
use Rattle.std.specs.Prelude.{◌≡◌, ℕ, List, [], ◌∷◌, map}
use Rattle.cdf_format.specs.Fields.{number}
use Rattle.cdf_format.specs.Index.{Leaf, Nodes}
use Rattle.cdf_format.specs.Records.{vdr_vxr_head}
use Rattle.cdf_reindex.specs.Rebuilding.{PyramidMade}
use Rattle.cdf_index.specs.Finding.{index_at}
use Rattle.cdf_index.specs.Whole.{leaf_words}
use Rattle.cdf_index.specs.declared.entries.Entry.{Entry}

-- the index of the variable whose VDR stands at a place
abbrev pub index_of : List ℕ → ℕ → Nodes
index_of b vdr = index_at b (number b vdr vdr_vxr_head)

-- the nodes over entries were made, whichever leaves these say, and this is the place of the top one, 0 where there are no entries
abbrev pub IndexMade : List ℕ → List ℕ → List Entry → ℕ → Type 0
IndexMade b now [] top = (top ≡ 0) × (now ≡ b)
IndexMade b now (entry ∷ more) top = (leaves : List Leaf) → entry ∷ more ≡ map leaf_words leaves → PyramidMade b now leaves top
