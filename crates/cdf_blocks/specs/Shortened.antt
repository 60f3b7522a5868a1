-- The block of a leaf keeps the bytes of some of its records alone, and its entry names these: in its record, or in one that was taken, after which the old one was freed (own).
use Rattle.std.specs.Prelude.{◌≡◌, ◌≢◌, ◌≤◌, ◌<◌, ℕ, List, [], ◌∷◌, length, max, Bool, true, ◌==◌, if◌then◌else◌, ◌⊎◌, false}
use Rattle.cdf_edits.specs.Commands.Allowances.{Stays}
use Rattle.cdf_edits.specs.Commands.GreatestRecord.{r_max_rec}
use Rattle.cdf_edits.specs.Commands.PutSteps.{BlockWritten, Goes}
use Rattle.cdf_edits.specs.Edits.Standing.{IsOneOf}
use Rattle.cdf_edits.specs.Index.Blocks.{Range, range}
use Rattle.cdf_edits.specs.Index.Grown.{with_block}
use Rattle.cdf_edits.specs.Index.Written.{block_end, block_need, stays_put}
use Rattle.cdf_edits.specs.Space.Acts.{Act, Took, Gave}
use Rattle.cdf_format.specs.Chains.{next_of}
use Rattle.cdf_format.specs.Fields.{number, size_at}
use Rattle.cdf_format.specs.IndexOf.{SaysEntry}
use Rattle.cdf_format.specs.Index.{Entries, Leaf, Nodes, block, leaves_of, lower, no_entry, no_node, node, nodes_of, offset_at, room_at, used_count}
use Rattle.cdf_format.specs.Records.{linked_size, vdr_max_rec, vdr_vxr_head, vdr_vxr_tail, vvr_bytes, vxr_n_used_entries}
use Rattle.cdf_format.specs.Shape.{Each, VariableShape}
use Rattle.cdf_index.specs.Writing.{StillSays}
use Rattle.cdf_model.specs.Limits.{image_limit}
use Rattle.cdf_model.specs.declared.kinds.Kind.{Kind}
use Rattle.cdf_puts.specs.Going.{GoesOn, found_in}
use Rattle.cdf_blocks.specs.Blocks.{LiesIn}
use Rattle.cdf_blocks.specs.Replaced.{stage}

-- ---- the index

unfoldable mutual
  -- the block whose First is this number becomes that of a leaf; the ranges of lower entries stay
  pub with_range : ℕ → Leaf → Nodes → Nodes
  with_range f new no_node = no_node
  with_range f new (node place room entries more) = node place room (with_range_in f new entries) (with_range f new more)

  pub with_range_in : ℕ → Leaf → Entries → Entries
  with_range_in f new no_entry = no_entry
  with_range_in f new (block first last place packed entries) = if first == f then with_block new entries else block first last place packed (with_range_in f new entries)
  with_range_in f new (lower first last nodes entries) = lower first last (with_range f new nodes) (with_range_in f new entries)

-- a node stays but for an entry that names the block at a place
pub record NodeStays (b now : List ℕ) (place m : ℕ) : Type 0 where
  pub size_is : size_at now m ≡ size_at b m
  pub room_is : room_at now m ≡ room_at b m
  pub used_is : used_count now m ≡ used_count b m
  pub count_is : number now m vxr_n_used_entries ≡ number b m vxr_n_used_entries
  pub next_is : next_of now m ≡ next_of b m
  pub entries : (i : ℕ) → i < room_at b m → offset_at b m i ≢ place → StillSays b now m i i

-- a used entry of a node names the block of a leaf
pub record NamesLeaf (b : List ℕ) (m : ℕ) (l : Leaf) : Type 0 where
  pub number : ℕ
  pub used : number < used_count b m
  pub says : SaysEntry b m number l.first l.last l.place

-- ---- the image

-- what is taken and freed: nothing where the block stays in its record
abbrev pub shortening_acts : List ℕ → List ℕ → ℕ → Leaf → Leaf → List Act
shortening_acts b now vdr old new = if stays_put b now true vdr old new then [] else Took new.place (block_need now vdr new) ∷ Gave old.place (size_at b old.place) ∷ []

-- From one good image to another. The record of the block needs no more than one of the plain bytes would. All other blocks stay, the nodes but for the entry of this leaf, each node that names another one, and MaxRec and rMaxRec.
pub record BlockShortened (b now : List ℕ) (kind : Kind) (before : List VariableShape) (own : VariableShape) (after : List VariableShape) (old new : Leaf) (plain : List ℕ) : Type 0 where
  pub own' : VariableShape
  pub acts : List Act
  pub index_is : own'.index ≡ with_range old.first new own.index
  pub acts_are : acts ≡ shortening_acts b now own.vdr old new
  pub place_is : stays_put b now true own.vdr old new ≡ true → new.place ≡ old.place
  pub apart : stays_put b now true own.vdr old new ≡ false → new.place ≢ old.place
  pub one : IsOneOf (leaves_of own'.index) new
  pub lies : LiesIn old new.first new.last
  pub written : BlockWritten b now true own.vdr acts new plain
  pub needs : block_need now own.vdr new ≤ max linked_size (vvr_bytes (length plain))
  pub small : length now ≤ image_limit
  pub most : block_end now own.vdr new ≤ vvr_bytes (length plain)
  pub goes_on : GoesOn b now kind before own own' after acts
  pub goes : (changes : Range → Bool) → changes (range old.first old.last) ≡ true → (done : List Act) (next to : ℕ) → Goes (found_in b kind before own) (stage b own done next) (stage now own' acts to) changes
  pub blocks : Each (λ l. l.place ≢ old.place → Stays b now l.place []) (leaves_of own.index)
  pub nodes_are : nodes_of own'.index ≡ nodes_of own.index
  pub nodes : Each (NodeStays b now old.place) (nodes_of own.index)
  pub elsewhere : Each (λ m. Stays b now m [] ⊎ NamesLeaf b m old) (nodes_of own.index)
  pub head_is : number now own.vdr vdr_vxr_head ≡ number b own.vdr vdr_vxr_head
  pub tail_is : number now own.vdr vdr_vxr_tail ≡ number b own.vdr vdr_vxr_tail
  pub max_rec_is : number now own.vdr vdr_max_rec ≡ number b own.vdr vdr_max_rec
  pub r_max_rec_is : r_max_rec now ≡ r_max_rec b
