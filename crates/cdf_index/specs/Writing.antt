-- What writes of entries leave of a node.
use Rattle.std.specs.Prelude.{◌≡◌, ◌≢◌, ◌⊎◌, ◌<◌, ◌≤◌, ℕ, suc, ◌+◌, ◌-◌, max, List, [], ◌∷◌, length, slice_get}
use Rattle.std.specs.Option.{unwrap_or}
use Rattle.cdf_edits.specs.Frame.Changed.{Touch, Changed, touch, touched_field}
use Rattle.cdf_edits.specs.Index.Grown.{new_entries}
use Rattle.cdf_format.specs.Chains.{next_of}
use Rattle.cdf_format.specs.Fields.{number, size_at, type_at}
use Rattle.cdf_format.specs.Index.{room_at, used_count}
use Rattle.cdf_format.specs.IndexOf.{SaysEntry}
use Rattle.cdf_format.specs.Records.{vxr_n_used_entries, Field, record_type, vxr_vxr_next, vxr_entries, vxr_bytes}
use Rattle.cdf_format.specs.RecordTypes.{vxr_type}
use Rattle.cdf_index.specs.Finding.{NodeInside}
use Rattle.cdf_index.specs.declared.entries.Entry.{Entry}

-- an entry says what another one said before
abbrev pub StillSays : List ℕ → List ℕ → ℕ → ℕ → ℕ → Type 0
StillSays b now at i j = (first last offset : ℕ) → SaysEntry b at i first last offset → SaysEntry now at j first last offset

-- an entry that is not used is -1 throughout
abbrev pub unused_entry : Entry
unused_entry = record { first = 0xffffffff; last = 0xffffffff; place = 0xffffffffffffffff }

abbrev pub entry_in : List Entry → ℕ → Entry
entry_in entries i = unwrap_or (slice_get entries i) unused_entry

abbrev pub SaysUnused : List ℕ → ℕ → ℕ → Type 0
SaysUnused b at i = SaysEntry b at i 0xffffffff 0xffffffff 0xffffffffffffffff

-- a node with room for so many entries, from a field to the end of these
abbrev pub node_from : ℕ → Field → ℕ → Touch
node_from at f room = touch at f.place (((vxr_entries room).place - f.place) + (vxr_entries room).width)

-- one entry of a node was written
pub record EntrySet (b now : List ℕ) (at i first last offset : ℕ) : Type 0 where
  pub as_long : length now ≡ length b
  pub changed : Changed b now (touched_field at (vxr_entries (room_at b at)) ∷ [])
  pub here : SaysEntry now at i first last offset
  pub others : (j : ℕ) → j < room_at b at → j ≢ i → StillSays b now at j j

-- a node has one entry more, with number p; those behind the used ones stay, but for the first
pub record Inserted (b now : List ℕ) (at used p first last offset : ℕ) : Type 0 where
  pub as_long : length now ≡ length b
  pub changed : Changed b now (node_from at vxr_n_used_entries (room_at b at) ∷ [])
  pub earlier : (j : ℕ) → j < p → StillSays b now at j j
  pub here : SaysEntry now at p first last offset
  pub later : (j : ℕ) → p ≤ j → j < used → StillSays b now at j (suc j)
  pub unused : (j : ℕ) → used < j → j < room_at b at → StillSays b now at j j
  pub room_stays : room_at now at ≡ room_at b at
  pub used_is : used_count now at ≡ suc used
  pub count_is : number now at vxr_n_used_entries ≡ suc used

-- the entry with a number of a node has another Last, at least as great as before
pub record Widened (b now : List ℕ) (at i last : ℕ) : Type 0 where
  pub as_long : length now ≡ length b
  pub changed : Changed b now (touched_field at (vxr_entries (room_at b at)) ∷ [])
  pub here : (f l o : ℕ) → SaysEntry b at i f l o → SaysEntry now at i f (max l last) o
  pub others : (j : ℕ) → j < room_at b at → j ≢ i → StillSays b now at j j

-- the entries of a node from one number to another were read
pub record EntriesRead (b : List ℕ) (at from upto : ℕ) (entries : List Entry) : Type 0 where
  pub many : length entries + from ≡ upto
  pub say : (i : ℕ) → i < length entries → SaysEntry b at (from + i) (entry_in entries i).first (entry_in entries i).last (entry_in entries i).place

-- the entries of a node from one number to another are not used
pub record Cleared (b now : List ℕ) (at from upto : ℕ) : Type 0 where
  pub as_long : length now ≡ length b
  pub changed : Changed b now (touched_field at (vxr_entries (room_at b at)) ∷ [])
  pub gone : (j : ℕ) → from ≤ j → j < upto → SaysUnused now at j
  pub others : (j : ℕ) → j < room_at b at → (j < from) ⊎ (upto ≤ j) → StillSays b now at j j

-- the entries of a node from one number to another were written: these, and unused ones behind them
pub record EntriesWritten (b now : List ℕ) (at from upto : ℕ) (entries : List Entry) : Type 0 where
  pub as_long : length now ≡ length b
  pub changed : Changed b now (touched_field at (vxr_entries (room_at b at)) ∷ [])
  pub says : (j : ℕ) → from ≤ j → j < upto → SaysEntry now at j (entry_in entries j).first (entry_in entries j).last (entry_in entries j).place
  pub others : (j : ℕ) → j < room_at b at → (j < from) ⊎ (upto ≤ j) → StillSays b now at j j

-- Of the used entries of a node the first p stayed, one was put behind them, and the others are not used; it has another link.
pub record Shortened (b now : List ℕ) (at used p first last offset next : ℕ) : Type 0 where
  pub as_long : length now ≡ length b
  pub changed : Changed b now (node_from at vxr_vxr_next (room_at b at) ∷ [])
  pub earlier : (j : ℕ) → j < p → StillSays b now at j j
  pub here : SaysEntry now at p first last offset
  pub gone : (j : ℕ) → p < j → j < used → SaysUnused now at j
  pub unused : (j : ℕ) → used ≤ j → j < room_at b at → StillSays b now at j j
  pub room_stays : room_at now at ≡ room_at b at
  pub used_is : used_count now at ≡ suc p
  pub count_is : number now at vxr_n_used_entries ≡ suc p
  pub next_is : next_of now at ≡ next

-- A full node was split: the entry with number p is new and its last one, those from p on stand in a node behind it, which goes on with the chain.
pub record Split (b now : List ℕ) (at new used p first last offset : ℕ) : Type 0 where
  pub earlier : (j : ℕ) → j < p → StillSays b now at j j
  pub here : SaysEntry now at p first last offset
  pub room_stays : room_at now at ≡ room_at b at
  pub used_is : used_count now at ≡ suc p
  pub next_is : next_of now at ≡ new
  pub moved : (j f l o : ℕ) → p ≤ j → j < used → SaysEntry b at j f l o → SaysEntry now new (j - p) f l o
  pub new_room : room_at now new ≡ max new_entries (used - p)
  pub new_used : used_count now new ≡ used - p
  pub new_next : next_of now new ≡ next_of b at

-- Behind a full node stands one with this entry alone, which goes on with the chain.
pub record Chained (b now : List ℕ) (at new used first last offset : ℕ) : Type 0 where
  pub stay : (j : ℕ) → j < used → StillSays b now at j j
  pub room_stays : room_at now at ≡ room_at b at
  pub used_is : used_count now at ≡ used
  pub next_is : next_of now at ≡ new
  pub here : SaysEntry now new 0 first last offset
  pub new_room : room_at now new ≡ new_entries
  pub new_used : used_count now new ≡ 1
  pub new_next : next_of now new ≡ next_of b at

-- a record has room for a node with just so many entries
pub record HasRoomFor (b : List ℕ) (at room : ℕ) : Type 0 where
  pub low : 8 ≤ at
  pub inside : at + size_at b at ≤ length b
  pub size_is : size_at b at ≡ vxr_bytes room

-- the fields of a node before its entries were written
pub record HeadWritten (b now : List ℕ) (at room used next : ℕ) : Type 0 where
  pub as_long : length now ≡ length b
  pub changed : Changed b now (node_from at record_type 0 ∷ [])
  pub type_is : type_at now at ≡ vxr_type
  pub next_is : next_of now at ≡ next
  pub room_is : room_at now at ≡ room
  pub inside : NodeInside now at
  pub used_is : used_count now at ≡ used
  pub count_is : number now at vxr_n_used_entries ≡ used

-- the first so many entries of a node are these, and then unused ones
abbrev pub SaysFirst : List ℕ → ℕ → List Entry → ℕ → Type 0
SaysFirst now at entries n = (i : ℕ) → i < n → SaysEntry now at i (entry_in entries i).first (entry_in entries i).last (entry_in entries i).place

-- a record became a node with these entries
pub record NodeWritten (b now : List ℕ) (at room next : ℕ) (entries : List Entry) : Type 0 where
  pub as_long : length now ≡ length b
  pub changed : Changed b now (node_from at record_type room ∷ [])
  pub type_is : type_at now at ≡ vxr_type
  pub next_is : next_of now at ≡ next
  pub room_is : room_at now at ≡ room
  pub used_is : used_count now at ≡ length entries
  pub count_is : number now at vxr_n_used_entries ≡ length entries
  pub inside : NodeInside now at
  pub says : SaysFirst now at entries room
