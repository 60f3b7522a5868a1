-- The last node of a chain, found along VXRnext (CDF Internal Format Description, "Variable Index Record").
use Rattle.std.specs.Prelude.{◌≡◌, ◌<◌, ◌≤◌, ◌^◌, ℕ, List, length}
use Rattle.cdf_edits.specs.Index.Written.{last_node}
use Rattle.cdf_format.specs.Fields.{with_field}
use Rattle.cdf_format.specs.Index.{Nodes, link_to, nodes_of}
use Rattle.cdf_format.specs.IndexOf.{HasNodes, IsNode}
use Rattle.cdf_format.specs.Records.{cdr_place, vdr_vxr_tail}
use Rattle.cdf_format.specs.Tiles.{AreTiles}

-- a chain begins at a link, with so many nodes at most in it and below it, and this is its last node
pub record EndsIn (b : List ℕ) (most at last : ℕ) : Type 0 where
  pub tiles : List ℕ
  pub levels : ℕ
  pub nodes : Nodes
  pub tiled : AreTiles b cdr_place (length b) tiles
  pub has : HasNodes b tiles levels nodes
  pub is_node : IsNode nodes
  pub link_is : at ≡ link_to nodes
  pub last_is : last_node nodes ≡ last
  pub few : length (nodes_of nodes) ≤ most

abbrev pub HasEnd : List ℕ → ℕ → Type 0
HasEnd b at = (last : ℕ) × EndsIn b (length b) at last

-- it is the last node of the chain, if there is one
pub record IsEnd (b : List ℕ) (at end : ℕ) : Type 0 where
  pub is : (last : ℕ) → EndsIn b (length b) at last → end ≡ last

-- VXRtail of a descriptor is the last node of the chain by now
pub record TailSet (b now : List ℕ) (vdr at : ℕ) : Type 0 where
  pub end : ℕ
  pub ends : IsEnd b at end
  pub small : end < 256 ^ vdr_vxr_tail.width
  pub written : now ≡ with_field b vdr vdr_vxr_tail end
