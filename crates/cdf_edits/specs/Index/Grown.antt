-- An index to which a leaf is added, and what is left of one that is cut (CDF Internal Format Description, "Variable Index Record"; own: where a new entry goes, when a node is added, and which nodes go).
use Rattle.std.specs.Prelude.{ℕ, max, List, [], ◌∷◌, take, drop, Bool, true, false, ◌||◌, ◌==◌, nat_lt, nat_le, if◌then◌else◌, None}
use Rattle.std.specs.List.{flat_map, fold, last_or, slice_get}
use Rattle.std.specs.Option.{option_map, unwrap_or}
use Rattle.cdf_edits.specs.Index.Blocks.{Range, range, left_of, cut_closed, ranges_of}
use Rattle.cdf_format.specs.Chains.{is_in}
use Rattle.cdf_format.specs.Index.{Nodes, no_node, node, Entries, no_entry, block, lower, Leaf, leaf, leaves_of, entry_count}

-- ---- an entry is added

-- an entry has a First that is at most f
abbrev pub reaches : ℕ → Entries → Bool
reaches f no_entry = false
reaches f (block first last place packed entries) = nat_le first f || reaches f entries
reaches f (lower first last nodes entries) = nat_le first f || reaches f entries

abbrev pub chain_reaches : ℕ → Nodes → Bool
chain_reaches f no_node = false
chain_reaches f (node place room entries more) = reaches f entries || chain_reaches f more

-- the last of these entries whose First is at most f names a lower chain; where there is none, what was said of the entry before them
abbrev pub leads_down : ℕ → Bool → Entries → Bool
leads_down f is_lower no_entry = is_lower
leads_down f is_lower (block first last place packed entries) = if nat_le first f then leads_down f false entries else is_lower
leads_down f is_lower (lower first last nodes entries) = if nat_le first f then leads_down f true entries else is_lower

abbrev pub with_block : Leaf → Entries → Entries
with_block new entries = block new.first new.last new.place new.packed entries

-- the entries whose First is at most that of a leaf, and then the leaf; and the entries past it
abbrev pub upto : Leaf → Entries → Entries
upto new no_entry = with_block new no_entry
upto new (block first last place packed entries) = if nat_le first new.first then block first last place packed (upto new entries) else with_block new no_entry
upto new (lower first last nodes entries) = if nat_le first new.first then lower first last nodes (upto new entries) else with_block new no_entry

abbrev pub past : ℕ → Entries → Entries
past f no_entry = no_entry
past f (block first last place packed entries) = if nat_le first f then past f entries else block first last place packed entries
past f (lower first last nodes entries) = if nat_le first f then past f entries else lower first last nodes entries

abbrev pub with_both : Entries → Entries → Entries
with_both no_entry others = others
with_both (block first last place packed entries) others = block first last place packed (with_both entries others)
with_both (lower first last nodes entries) others = lower first last nodes (with_both entries others)

-- how many entries a new node has room for at least
abbrev pub new_entries : ℕ
new_entries = 7

-- how many entries a new node has: none is needed where there is room, else it has room for as many as stand past the new one, and for the least number
abbrev pub room_of_new : ℕ → ℕ → Entries → ℕ
room_of_new f room entries = if nat_lt (entry_count entries) room then 0 else max new_entries (entry_count (past f entries))

-- In a node with room the entry stands at its place. Of a full node the entries past it go to a new node at `at`; where there are none, the entry itself does.
abbrev pub with_entry : Leaf → ℕ → ℕ → ℕ → Entries → Nodes → Nodes
with_entry new at place room entries more =
    if nat_lt (entry_count entries) room then node place room (with_both (upto new entries) (past new.first entries)) more
    else (if entry_count (past new.first entries) == 0 then node place room entries (node at (room_of_new new.first room entries) (with_block new no_entry) more)
    else node place room (upto new entries) (node at (room_of_new new.first room entries) (past new.first entries) more))

unfoldable mutual
  -- an index once a leaf is added; a node that this needs stands at `at`
  pub with_leaf : Leaf → ℕ → Nodes → Nodes
  with_leaf new at no_node = node at new_entries (with_block new no_entry) no_node
  with_leaf new at (node place room entries more) =
      if chain_reaches new.first more then node place room entries (with_leaf new at more)
      else (if leads_down new.first false entries then node place room (with_lower new at entries) more else with_entry new at place room entries more)

  -- the last entry whose First is at most that of the leaf is widened, and has it below
  pub with_lower : Leaf → ℕ → Entries → Entries
  with_lower new at no_entry = no_entry
  with_lower new at (block first last place packed entries) = block first last place packed (with_lower new at entries)
  with_lower new at (lower first last nodes entries) =
      if reaches new.first entries then lower first last nodes (with_lower new at entries) else lower first (max last new.last) (with_leaf new at nodes) entries

unfoldable mutual
  -- how many entries the new node has that this needs, or 0
  pub new_room : ℕ → Nodes → ℕ
  new_room f no_node = new_entries
  new_room f (node place room entries more) =
      if chain_reaches f more then new_room f more
      else (if leads_down f false entries then new_room_below f entries else room_of_new f room entries)

  pub new_room_below : ℕ → Entries → ℕ
  new_room_below f no_entry = 0
  new_room_below f (block first last place packed entries) = new_room_below f entries
  new_room_below f (lower first last nodes entries) = if reaches f entries then new_room_below f entries else new_room f nodes

-- ---- a block is placed anew

unfoldable mutual
  -- the leaf whose First this is has another place, and may be packed
  pub with_place : Leaf → Nodes → Nodes
  with_place new no_node = no_node
  with_place new (node place room entries more) = node place room (with_place_in new entries) (with_place new more)

  pub with_place_in : Leaf → Entries → Entries
  with_place_in new no_entry = no_entry
  with_place_in new (block first last place packed entries) = if first == new.first then with_block new entries else block first last place packed (with_place_in new entries)
  with_place_in new (lower first last nodes entries) = lower first last (with_place new nodes) (with_place_in new entries)

-- ---- records are cut

-- a node without entries goes, and so does an entry without nodes
abbrev pub node_if : ℕ → ℕ → Entries → Nodes → Nodes
node_if place room no_entry more = more
node_if place room entries more = node place room entries more

abbrev pub lower_if : ℕ → ℕ → Nodes → Entries → Entries
lower_if first last no_node more = more
lower_if first last nodes more = lower first last nodes more

-- what a leaf keeps in its block: one range, or none
abbrev pub block_if : List Range → ℕ → Bool → Entries → Entries
block_if [] place packed more = more
block_if (r ∷ rest) place packed more = block r.first r.last place packed more

abbrev pub least_first : Nodes → ℕ
least_first nodes = unwrap_or (option_map (λ leaf. leaf.first) (slice_get (leaves_of nodes) 0)) 0

abbrev pub greatest_last : Nodes → ℕ
greatest_last nodes = unwrap_or (option_map (λ leaf. leaf.last) (last_or None (leaves_of nodes))) 0

unfoldable mutual
  -- An index of which each leaf keeps so much. Where records are renumbered, an entry that names a lower chain has the records from the first to the last below it.
  pub cut_nodes : Bool → (Range → List Range) → Nodes → Nodes
  cut_nodes close keep no_node = no_node
  cut_nodes close keep (node place room entries more) = node_if place room (cut_entries close keep entries) (cut_nodes close keep more)

  pub cut_entries : Bool → (Range → List Range) → Entries → Entries
  cut_entries close keep no_entry = no_entry
  cut_entries close keep (block first last place packed entries) = block_if (keep (range first last)) place packed (cut_entries close keep entries)
  cut_entries close keep (lower first last nodes entries) =
      lower_if (if close then least_first (cut_nodes close keep nodes) else first) (if close then greatest_last (cut_nodes close keep nodes) else last) (cut_nodes close keep nodes) (cut_entries close keep entries)

-- Without closing, the records before those that go stay in their block, or else those behind them do; where there are both, those behind get a new one.
abbrev pub kept_open : ℕ → ℕ → Range → List Range
kept_open first last r = take 1 (left_of first last r)

abbrev pub split_off : ℕ → ℕ → Range → List Range
split_off first last r = drop 1 (left_of first last r)

abbrev pub kept_closed : ℕ → ℕ → Range → List Range
kept_closed first last r = cut_closed first last (r ∷ [])

-- what gets a new block is added; new blocks and nodes stand at 0
abbrev pub with_ranges : Nodes → List Range → Nodes
with_ranges nodes ranges = fold (λ nodes r. with_leaf (leaf r.first r.last 0 false) 0 nodes) nodes ranges

-- an index, and what it becomes as each of these ranges gets a leaf
unfoldable pub indexes_with : Nodes → List Range → List Nodes
indexes_with nodes [] = nodes ∷ []
indexes_with nodes (r ∷ more) = nodes ∷ indexes_with (with_leaf (leaf r.first r.last 0 false) 0 nodes) more

abbrev pub index_cut_open : ℕ → ℕ → Nodes → Nodes
index_cut_open first last nodes = with_ranges (cut_nodes false (kept_open first last) nodes) (flat_map (split_off first last) (ranges_of nodes))

abbrev pub index_cut_closed : ℕ → ℕ → Nodes → Nodes
index_cut_closed first last nodes = cut_nodes true (kept_closed first last) nodes

-- ---- an index but for where its blocks and its new nodes stand

unfoldable mutual
  pub outline : List ℕ → Nodes → Nodes
  outline news no_node = no_node
  outline news (node place room entries more) = node (if is_in place news then 0 else place) room (entries_outline news entries) (outline news more)

  pub entries_outline : List ℕ → Entries → Entries
  entries_outline news no_entry = no_entry
  entries_outline news (block first last place packed entries) = block first last 0 false (entries_outline news entries)
  entries_outline news (lower first last nodes entries) = lower first last (outline news nodes) (entries_outline news entries)
