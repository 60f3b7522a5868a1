-- Where a search for a record may start along the top chain of an index (own).
use Rattle.std.specs.Prelude.{◌≡◌, ◌≢◌, ℕ, List, if◌then◌else◌}
use Rattle.cdf_edits.specs.Index.Grown.{chain_reaches}
use Rattle.cdf_format.specs.Index.{Nodes, no_node, node, link_to}
use Rattle.cdf_index.specs.Finding.{HasIndex, index_at}

-- the chain from its last node on that has an entry which begins at a record or before it, or the whole chain where none has
abbrev pub from_reached : ℕ → Nodes → Nodes
from_reached rec no_node = no_node
from_reached rec (node place room entries more) = if chain_reaches rec more then from_reached rec more else node place room entries more

-- a search for a record may start at this node of the index that a link leads to, 0 where it has none
abbrev pub IsStart : List ℕ → ℕ → ℕ → ℕ → Type 0
IsStart b head rec start = start ≡ link_to (from_reached rec (index_at b head))

-- a walk from this node on ends where a search for the record may start
pub record LeadsToStart (b : List ℕ) (head rec at : ℕ) : Type 0 where
  pub index : HasIndex b at
  pub some : at ≢ 0
  pub same : from_reached rec (index_at b at) ≡ from_reached rec (index_at b head)
