-- The nodes of an index built anew, as code makes them: what their entries say, level by level.
use Rattle.std.specs.Prelude.{◌≡◌, ◌≤◌, ℕ, ◌+◌, ◌-◌, List, [], ◌∷◌, length, get_or}
use Rattle.cdf_edits.specs.Commands.Room.{node_entries, node_size}
use Rattle.cdf_edits.specs.Space.Placing.{Fills}
use Rattle.cdf_format.specs.Fields.{number}
use Rattle.cdf_format.specs.Index.{Entries, no_entry, block, lower, Leaf, link_to, used_count}
use Rattle.cdf_format.specs.Records.{vxr_n_used_entries}
use Rattle.cdf_format.specs.RecordTypes.{vxr_type}
use Rattle.cdf_format.specs.Shape.{shape}
use Rattle.cdf_index.specs.Writing.{SaysFirst}
use Rattle.cdf_index.specs.declared.entries.Entry.{Entry}
use Rattle.cdf_reindex.specs.Reindexed.{IsBare}
use Rattle.cdf_reindex.specs.Pyramid.{AreLevels, Filled, NewNode, entries_of, from_below, uppers}

-- what entries say
abbrev pub words : ℕ → ℕ → ℕ → Entry
words first last place = record { first = first; last = last; place = place }

abbrev pub words_of : Entries → List Entry
words_of no_entry = []
words_of (block first last place packed entries) = words first last place ∷ words_of entries
words_of (lower first last nodes entries) = words first last (link_to nodes) ∷ words_of entries

-- the entry that names a node with these entries
abbrev pub naming : ℕ → List Entry → Entry
naming place entries = words (get_or entries 0 (words 0 0 0)).first (get_or entries (length entries - 1) (words 0 0 0)).last place

-- A record was taken, and it is a node of 64 entries with these used, -1 in the others, and none behind it.
pub record NodeMade (b now : List ℕ) (entries : List Entry) (place : ℕ) : Type 0 where
  pub taken : List ℕ
  pub fills : Fills b taken now (shape b) (shape now).records (shape now).unused node_size place vxr_type
  pub bare : IsBare now place
  pub counts_is : number now place vxr_n_used_entries ≡ length entries
  pub used_is : used_count now place ≡ length entries
  pub says : SaysFirst now place entries node_entries
  pub longest : length now ≤ length b + node_size

-- from one image to another in which these nodes were made, in this order
abbrev pub AllMade : List ℕ → List ℕ → List NewNode → Type 0
AllMade b now [] = now ≡ b
AllMade b now (new ∷ more) = (mid : List ℕ) × (NodeMade b mid (words_of new.entries) new.place × AllMade mid now more)

-- a level of nodes with these entries was made, and others name them, which say this
pub record LevelMade (b now : List ℕ) (entries : Entries) (said : List Entry) : Type 0 where
  pub nodes : List NewNode
  pub entries_are : entries_of nodes ≡ entries
  pub filled : Filled nodes
  pub said_is : words_of (uppers nodes) ≡ said
  pub made : AllMade b now nodes

-- levels of nodes over these leaves were made, and the entries that name the top one say this
pub record LevelsMade (b now : List ℕ) (leaves : List Leaf) (said : List Entry) : Type 0 where
  pub level : List NewNode
  pub more : List (List NewNode)
  pub are : AreLevels leaves (level ∷ more)
  pub said_is : words_of (uppers level) ≡ said
  pub made : AllMade b now (from_below (level ∷ more))

-- so that one node is left, at this place
pub record PyramidMade (b now : List ℕ) (leaves : List Leaf) (top : ℕ) : Type 0 where
  pub root : NewNode
  pub more : List (List NewNode)
  pub are : AreLevels leaves ((root ∷ []) ∷ more)
  pub place_is : top ≡ root.place
  pub made : AllMade b now (from_below ((root ∷ []) ∷ more))
