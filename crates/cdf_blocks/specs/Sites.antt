-- The leaf that has a record, and the entry that names its block, as a search finds them (own).
use Rattle.std.specs.Prelude.{◌≡◌, ◌-◌, ℕ, List, None, Some}
use Rattle.std.specs.declared.option.Option.{Option}
use Rattle.cdf_format.specs.Index.{Nodes, leaf, leaves_of, nodes_of}
use Rattle.cdf_format.specs.Tiles.{In}
use Rattle.cdf_index.specs.Descent.{SeesNode}
use Rattle.cdf_index.specs.Finding.{index_at}
use Rattle.cdf_index.specs.Order.{leaf_of}
use Rattle.cdf_index.specs.Sight.{seen}
use Rattle.cdf_index.specs.Way.{spot}
use Rattle.cdf_index.specs.declared.descending.Spot.{Spot}
use Rattle.cdf_blocks.specs.Blocks.{IsSite}
use Rattle.cdf_blocks.specs.declared.sites.SitedLeaf.{SitedLeaf}

-- the leaf of an index that has a record, and the entry that names its block; or none has it
abbrev pub IsFound : List ℕ → Nodes → ℕ → Option SitedLeaf → Type 0
IsFound b index rec None = leaf_of rec (leaves_of index) ≡ None
IsFound b index rec (Some found) = (Some (seen found.leaf) ≡ leaf_of rec (leaves_of index)) × IsSite b index found.site (seen found.leaf)

-- the node where the way down to a record ends, in the index that a link leads to
pub record IsEnd (b : List ℕ) (start rec : ℕ) (end : Spot) : Type 0 where
  pub place_is : end.place ≡ spot rec (index_at b start)
  pub sees : SeesNode b end.place rec end
  pub among : In end.place (nodes_of (index_at b start))
