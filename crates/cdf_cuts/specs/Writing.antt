-- What writing the nodes that stay leaves of an image, one by one (own).
use Rattle.std.specs.Prelude.{◌≡◌, ◌≤◌, ◌<◌, ◌^◌, ℕ, List, [], ◌∷◌, length, map}
use Rattle.cdf_edits.specs.Frame.Kept.{SameHeads, Kept}
use Rattle.cdf_edits.specs.Frame.Changed.{Changed, Touch, touched_field}
use Rattle.cdf_format.specs.Chains.{next_of}
use Rattle.cdf_format.specs.Fields.{number, size_at, type_at}
use Rattle.cdf_format.specs.Index.{room_at, used_count}
use Rattle.cdf_format.specs.Records.{cdr_place, vxr_n_used_entries, vxr_vxr_next}
use Rattle.cdf_format.specs.RecordTypes.{vxr_type}
use Rattle.cdf_format.specs.Shape.{Each}
use Rattle.cdf_format.specs.Sound.{NodeFits}
use Rattle.cdf_format.specs.Tiles.{AreTiles, In}
use Rattle.cdf_index.specs.Writing.{SaysFirst, StillSays, node_from}
use Rattle.cdf_cuts.specs.Done.{NodeSays}
use Rattle.cdf_cuts.specs.Planning.{Rewrite}
use Rattle.cdf_cuts.specs.declared.planning.NodeLink.{NodeLink}

-- a node got its entries
pub record NodeRewritten (b now : List ℕ) (r : Rewrite) : Type 0 where
  pub as_long : length now ≡ length b
  pub changed : Changed b now (node_from r.place vxr_n_used_entries r.room ∷ [])
  pub room_is : room_at now r.place ≡ r.room
  pub used_is : used_count now r.place ≡ length r.entries
  pub count_is : number now r.place vxr_n_used_entries ≡ length r.entries
  pub next_stays : next_of now r.place ≡ next_of b r.place
  pub says : SaysFirst now r.place r.entries r.used
  pub unused : (j : ℕ) → r.used ≤ j → j < r.room → StillSays b now r.place j j

-- a node may get its entries
pub record MayRewrite (b records : List ℕ) (r : Rewrite) : Type 0 where
  pub there : In r.place records
  pub typed : type_at b r.place ≡ vxr_type
  pub fits : NodeFits b r.place
  pub room_is : r.room ≡ room_at b r.place
  pub used_is : r.used ≡ used_count b r.place
  pub few : length r.entries ≤ r.used

abbrev pub rewrite_places : List Rewrite → List ℕ
rewrite_places rs = map (λ r. r.place) rs

abbrev pub rewrite_touches : List Rewrite → List Touch
rewrite_touches rs = map (λ r. node_from r.place vxr_n_used_entries r.room) rs

-- a node of these records says what it was to say
abbrev pub Stood : List ℕ → List ℕ → Rewrite → Type 0
Stood now records r = NodeSays now r × NodeFits now r.place × In r.place records

-- entries of a node that were not used stay
abbrev pub UnusedStay : List ℕ → List ℕ → Rewrite → Type 0
UnusedStay b now r = (j : ℕ) → r.used ≤ j → j < r.room → StillSays b now r.place j j

-- nodes got their entries, and all other records stay
pub record Rewritten (b now records : List ℕ) (done : List Rewrite) : Type 0 where
  pub heads : SameHeads b now records records
  pub tiled : AreTiles now cdr_place (length now) records
  pub as_long : length now ≡ length b
  pub changed : Changed b now (rewrite_touches done)
  pub say : Each (Stood now records) done
  pub unused : Each (UnusedStay b now) done
  pub others : (m : ℕ) → In m records → (In m (rewrite_places done) → ⊥) → Kept b now m

-- ---- links

abbrev pub link_places : List NodeLink → List ℕ
link_places ls = map (λ l. l.place) ls

abbrev pub link_touches : List NodeLink → List Touch
link_touches ls = map (λ l. touched_field l.place vxr_vxr_next) ls

-- a node of these records may get another one behind it
abbrev pub MayRelink : List ℕ → List ℕ → NodeLink → Type 0
MayRelink b records l = In l.place records × (28 ≤ size_at b l.place) × (l.next < 256 ^ vxr_vxr_next.width)

-- it has it
abbrev pub Linked : List ℕ → List ℕ → NodeLink → Type 0
Linked now records l = (next_of now l.place ≡ l.next) × In l.place records × (28 ≤ size_at now l.place)

-- nodes got others behind them, whose entries stay, and all other records stay
pub record Relinked (b now records : List ℕ) (done : List NodeLink) : Type 0 where
  pub heads : SameHeads b now records records
  pub tiled : AreTiles now cdr_place (length now) records
  pub as_long : length now ≡ length b
  pub changed : Changed b now (link_touches done)
  pub say : Each (Linked now records) done
  pub nodes : (r : Rewrite) → Stood b records r → Stood now records r
  pub still : (r : Rewrite) → Stood b records r → (j : ℕ) → j < r.room → StillSays b now r.place j j
  pub others : (m : ℕ) → In m records → (In m (link_places done) → ⊥) → Kept b now m
