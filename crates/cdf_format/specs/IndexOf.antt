-- The index that an image has, as a relation: each link of it leads to a VXR, none is met twice (CDF Internal Format Description, "Variable Index Record": VXRnext, Offset; own: how many levels at most).
use Rattle.std.specs.Prelude.{◌≡◌, ℕ, zero, suc, List, true, false, ◌==◌}
use Rattle.cdf_model.specs.Limits.{level_limit}
use Rattle.cdf_format.specs.Fields.{type_at}
use Rattle.cdf_format.specs.RecordTypes.{vxr_type, cvvr_type}
use Rattle.cdf_format.specs.Tiles.{Distinct}
use Rattle.cdf_format.specs.Chains.{is_linkable, next_of}
use Rattle.cdf_format.specs.Index.{Nodes, no_node, node, Entries, no_entry, block, lower, nodes_of, entry_count, link_to, room_at, used_count, first_at, last_at, offset_at}

-- the words of an entry
pub record SaysEntry (b : List ℕ) (place i first last offset : ℕ) : Type 0 where
  pub first_is : first_at b place i ≡ first
  pub last_is : last_at b place i ≡ last
  pub offset_is : offset_at b place i ≡ offset

-- the words of the entries of a node from number i on
abbrev pub SayEntries : List ℕ → ℕ → ℕ → Entries → Type 0
SayEntries b place i no_entry = Unit {0}
SayEntries b place i (block first last offset packed entries) = SaysEntry b place i first last offset × SayEntries b place (suc i) entries
SayEntries b place i (lower first last nodes entries) = SaysEntry b place i first last (link_to nodes) × SayEntries b place (suc i) entries

-- the words of a node
pub record SaysNode (b tiles : List ℕ) (place room : ℕ) (entries : Entries) (more : Nodes) : Type 0 where
  pub linkable : is_linkable b tiles vxr_type place ≡ true
  pub next_is : next_of b place ≡ link_to more
  pub room_is : room_at b place ≡ room
  pub used_is : used_count b place ≡ entry_count entries
  pub say_entries : SayEntries b place 0 entries

abbrev pub IsNode : Nodes → Type 0
IsNode no_node = ⊥
IsNode (node place room entries more) = Unit {0}

unfoldable mutual
  -- the image has these nodes, of at most so many levels
  pub HasNodes : List ℕ → List ℕ → ℕ → Nodes → Type 0
  HasNodes b tiles levels no_node = Unit {0}
  HasNodes b tiles zero (node place room entries more) = ⊥
  HasNodes b tiles (suc levels) (node place room entries more) = SaysNode b tiles place room entries more × Names b tiles levels entries × HasNodes b tiles (suc levels) more

  -- it has what these entries name; an entry that names no VXR names a block
  pub Names : List ℕ → List ℕ → ℕ → Entries → Type 0
  Names b tiles levels no_entry = Unit {0}
  Names b tiles levels (block first last place packed entries) = (is_linkable b tiles vxr_type place ≡ false) × ((type_at b place == cvvr_type) ≡ packed) × Names b tiles levels entries
  Names b tiles levels (lower first last nodes entries) = IsNode nodes × HasNodes b tiles levels nodes × Names b tiles levels entries

-- the index that a link leads to
pub record IsIndex (b tiles : List ℕ) (link : ℕ) (nodes : Nodes) : Type 0 where
  pub link_is : link ≡ link_to nodes
  pub has_nodes : HasNodes b tiles level_limit nodes
  pub once : Distinct (nodes_of nodes)
