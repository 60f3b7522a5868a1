-- The way down to the place of a new entry, from node to node (own).
use Rattle.std.specs.Prelude.{◌≡◌, ◌<◌, ◌++◌, ℕ, List, [], nat_lt, Some, if◌then◌else◌}
use Rattle.std.specs.declared.option.Option.{Option}
use Rattle.cdf_edits.specs.Index.Blocks.{entry_firsts, firsts_of}
use Rattle.cdf_edits.specs.Index.Grown.{past}
use Rattle.cdf_format.specs.Chains.{next_of}
use Rattle.cdf_format.specs.Index.{Nodes, no_node, node, nodes_of, link_to, first_at, room_at, used_count}
use Rattle.cdf_format.specs.Tiles.{In}
use Rattle.cdf_index.specs.Ahead.{Begun, chain_before, first_past}
use Rattle.cdf_index.specs.Finding.{SomeNode}
use Rattle.cdf_index.specs.Sight.{IsHead}
use Rattle.cdf_index.specs.Starting.{from_reached}
use Rattle.cdf_index.specs.declared.descending.Chain.{Chain}
use Rattle.cdf_index.specs.declared.descending.Spot.{Spot}
use Rattle.cdf_index.specs.declared.descending.Step.{Step}
use Rattle.cdf_index.specs.declared.descending.Stop.{Stop}

-- what was seen of a node
pub record SeesNode (b : List ℕ) (at first : ℕ) (seen : Spot) : Type 0 where
  pub place_is : seen.place ≡ at
  pub room_is : seen.room ≡ room_at b at
  pub used_is : seen.used ≡ used_count b at
  pub next_is : seen.next ≡ next_of b at
  pub begun : Begun b at first seen.begun
  pub lower_is : seen.lower ≡ chain_before b at 0 seen.begun

abbrev pub step_pair : Step → ℕ × ℕ
step_pair step = (step.place, step.entry)

-- a step says what the bytes say of its node, and its entry is a used one
pub record StepSays (b : List ℕ) (step : Step) : Type 0 where
  pub room_is : step.room ≡ room_at b step.place
  pub within : step.entry < used_count b step.place

-- and its node is one of these
abbrev pub IsAmong : Nodes → Step → Type 0
IsAmong nodes step = In step.place (nodes_of nodes)

-- ---- along a chain

-- a node as it was met: its head, and how many of its entries begin at a record or before it
pub record Meets (b : List ℕ) (first : ℕ) (stop : Stop) : Type 0 where
  pub head : IsHead b stop.place stop.head
  pub begun : Begun b stop.place first stop.begun

-- the Firsts of the entries of the first node past a record, and those behind it
abbrev pub behind_of : ℕ → Nodes → List ℕ
behind_of first no_node = []
behind_of first (node place room entries more) = entry_firsts (past first entries) ++ firsts_of more

-- First of the entry behind those counted, else another one
abbrev pub first_after : List ℕ → Stop → Option ℕ → Option ℕ
first_after b stop other = if nat_lt stop.begun stop.head.used then Some (first_at b stop.place stop.begun) else other

-- A chain was walked to the last node that has an entry which begins at a record or before it, or else its first node, and on to one that tells which First comes next, or to the end.
pub record ChainWalked (b : List ℕ) (first : ℕ) (nodes : Nodes) (chain : Chain) : Type 0 where
  pub place_is : chain.best.place ≡ link_to (from_reached first nodes)
  pub node : SomeNode b chain.best.place
  pub meets : Meets b first chain.best
  pub here_node : SomeNode b chain.here.place
  pub here_meets : Meets b first chain.here
  pub ahead : (other : Option ℕ) → first_past first (behind_of first (from_reached first nodes)) other ≡ first_after b chain.here other
