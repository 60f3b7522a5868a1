-- What a look at a node tells of a record.
use Rattle.std.specs.Prelude.{◌≡◌, ℕ, List}
use Rattle.std.specs.Option.{option_map}
use Rattle.cdf_format.specs.Chains.{next_of}
use Rattle.cdf_format.specs.Index.{Nodes, room_at, used_count}
use Rattle.cdf_format.specs.Index.{Leaf as TreeLeaf}
use Rattle.cdf_index.specs.Order.{find_in}
use Rattle.cdf_index.specs.Finding.{At}
use Rattle.cdf_index.specs.declared.nodes.Head.{Head}
use Rattle.cdf_index.specs.declared.nodes.Leaf.{Leaf}
use Rattle.cdf_index.specs.declared.finding.Sight.{Sight}
use Rattle.cdf_index.specs.declared.finding.Sight.TheVariants.{On, End}

-- a leaf of code as one of the tree
abbrev pub seen : Leaf → TreeLeaf
seen l = record { first = l.first; last = l.last; place = l.at; packed = l.packed }

-- what was read of a node
pub record IsHead (b : List ℕ) (at : ℕ) (head : Head) : Type 0 where
  pub room_is : head.room ≡ room_at b at
  pub used_is : head.used ≡ used_count b at
  pub next_is : head.next ≡ next_of b at

-- after so many turns of a search in these nodes
abbrev pub SightIs : List ℕ → ℕ → ℕ → Nodes → Sight → Type 0
SightIs b rec turn nodes (On link) = At b rec turn nodes link
SightIs b rec turn nodes (End found) = find_in rec nodes ≡ option_map seen found
