-- The index of a variable, read node by node, in an image with these records.
use Rattle.std.specs.Prelude.{◌≡◌, ◌≢◌, ◌≤◌, ℕ, ℤ, pos, negsuc, ◌+◌, ◌*◌, ◌-ℤ◌, List, [], ◌∷◌, ◌++◌, length, map, Bool, ◌&&◌, nat_le, if◌then◌else◌, Some, None, Ok, Err}
use Rattle.std.specs.declared.option.Option.{Option}
use Rattle.std.specs.declared.result.Result.{Result}
use Rattle.cdf_model.specs.Limits.{record_number_limit}
use Rattle.cdf_model.specs.Place.{record_limit}
use Rattle.cdf_format.specs.Chains.{is_a, next_of}
use Rattle.cdf_format.specs.Fields.{holds, size_at, counted, with_sign}
use Rattle.cdf_format.specs.Index.{Nodes, Entries, Leaf, leaves_of, entry_leaves, room_at, used_count, first_at, last_at, offset_at}
use Rattle.cdf_format.specs.IndexRules.{has_room, nodes_rows, used_rows, end_of, holds_packed, unpacks_to}
use Rattle.cdf_format.specs.IndexWalk.{met, lost, entries_on, levels_on}
use Rattle.cdf_format.specs.Records.{linked_size, vvr_records}
use Rattle.cdf_format.specs.RecordTypes.{vvr_type, cvvr_type}
use Rattle.cdf_format.specs.Rules.{Row, row, asked}
use Rattle.cdf_format.specs.Shape.{index_of, is_compressed}
use Rattle.cdf_format.specs.Stored.{packed_bytes}
use Rattle.cdf_format.specs.VariableFields.{number_before}
use Rattle.cdf_format.specs.VariableRules.{cpr_link}
use Rattle.cdf_structure.specs.declared.index_walk.Between.{Between}
use Rattle.cdf_structure.specs.declared.index_walk.Block.{Block}
use Rattle.cdf_structure.specs.declared.index_walk.Chain.{Chain}
use Rattle.cdf_structure.specs.declared.index_walk.Index.{Index}
use Rattle.cdf_structure.specs.declared.indexes.Indexed.{Indexed}
use Rattle.cdf_structure.specs.declared.nodes.Entry.{Entry}
use Rattle.cdf_structure.specs.declared.nodes.Node.{Node}
use Rattle.cdf_structure.specs.declared.finding.Finding.{Finding}
use Rattle.cdf_structure.specs.Met.{Agrees}
use Rattle.cdf_structure.specs.Findings.{Finds}

-- ---- nodes and entries

-- a node as it was read, of a place
pub record IsNodeAt (b : List ℕ) (place : ℕ) (node : Node) : Type 0 where
  pub place_is : node.place ≡ place
  pub room_is : node.room ≡ room_at b place
  pub used_is : node.used ≡ used_count b place
  pub has_room_is : node.has_room ≡ has_room b place
  pub next_is : node.next ≡ next_of b place
  pub long : linked_size ≤ size_at b place
  pub fits : place + size_at b place ≤ length b

-- its entry with a number
pub record IsEntryAt (b : List ℕ) (place i : ℕ) (entry : Entry) : Type 0 where
  pub first_is : entry.first ≡ first_at b place i
  pub last_is : entry.last ≡ last_at b place i
  pub offset_is : entry.offset ≡ offset_at b place i

-- ---- blocks

abbrev pub block_in : Entry → Block
block_in entry = record { first = entry.first; last = entry.last; place = entry.offset }

abbrev pub block_of : Leaf → Block
block_of leaf = record { first = leaf.first; last = leaf.last; place = leaf.place }

abbrev pub records_of_block : Block → ℕ
records_of_block block = counted (with_sign block.last -ℤ number_before block.first)

-- the rule on the room of a block of records of so many bytes that is not packed
abbrev pub plain_rows : List ℕ → ℕ → Block → List Row
plain_rows b bytes block = row 5 block.place (holds b block.place (vvr_records (records_of_block block * bytes))) ∷ []

-- the rules on the packed block at a place that stands for so many bytes, of a variable that is compressed or not
abbrev pub packed_rows : List ℕ → Bool → ℕ → ℕ → List Row
packed_rows b compressed size place =
    row 6 place (compressed && holds_packed b place)
    ∷ row 7 place (nat_le size record_limit)
    ∷ row 8 place (unpacks_to (packed_bytes b place) size)
    ∷ []

-- the rules on a block of records of so many bytes, of a variable that is compressed or not
abbrev pub block_rows : List ℕ → List ℕ → Bool → ℕ → Block → List Row
block_rows b records compressed bytes block =
    asked (is_a b records vvr_type block.place) (plain_rows b bytes block) ++ asked (is_a b records cvvr_type block.place) (packed_rows b compressed (records_of_block block * bytes) block.place)

-- ---- what a walk meets

-- of two findings one after the other the first is kept
abbrev pub FindsMore : Option Finding → Option Finding → List Row → Type 0
FindsMore None found rows = Finds rows found
FindsMore (Some before) found rows = found ≡ Some before

-- a node is met
pub record Enters (b : List ℕ) (old new : Index) (place : ℕ) (node : Node) : Type 0 where
  pub node_is : IsNodeAt b place node
  pub nodes_are : new.nodes.list.items ≡ old.nodes.list.items ++ place ∷ []
  pub blocks_are : new.blocks ≡ old.blocks
  pub found : FindsMore old.broken new.broken (row 2 place (has_room b place) ∷ [])
  pub agrees : Agrees new.nodes

-- a walk met these nodes, with their blocks and their rules
pub record MeetsNodes (b records : List ℕ) (levels : ℕ) (chain : Chain) (between : Between) (old new : Index) (nodes : Nodes) : Type 0 where
  pub walk_is : levels_on levels b records old.nodes.list.items chain.holder chain.link ≡ met new.nodes.list.items nodes
  pub blocks_are : new.blocks.items ≡ old.blocks.items ++ map block_of (leaves_of nodes)
  pub found : FindsMore old.broken new.broken (nodes_rows b records between.low between.high nodes)
  pub agrees : Agrees new.nodes

-- the nodes from a link, or the place where the walk is lost
abbrev pub WalksNodes : List ℕ → List ℕ → ℕ → Chain → Between → Index → Index → Result (Unit {0}) ℕ → Type 0
WalksNodes b records levels chain between old new (Ok u) = (nodes : Nodes) × MeetsNodes b records levels chain between old new nodes
WalksNodes b records levels chain between old new (Err place) = levels_on levels b records old.nodes.list.items chain.holder chain.link ≡ lost place

-- it met these entries of a node, so many from a number on, of which the last one ends with a number
pub record MeetsEntries (b records : List ℕ) (levels node i count : ℕ) (between : Between) (old new : Index) (last : ℤ) (entries : Entries) : Type 0 where
  pub walk_is : entries_on (levels_on levels b records) b records node i count old.nodes.list.items ≡ met new.nodes.list.items entries
  pub blocks_are : new.blocks.items ≡ old.blocks.items ++ map block_of (entry_leaves entries)
  pub found : FindsMore old.broken new.broken (used_rows b records node between.low between.high entries)
  pub last_is : last ≡ end_of between.low entries
  pub agrees : Agrees new.nodes

abbrev pub WalksEntries : List ℕ → List ℕ → ℕ → ℕ → ℕ → ℕ → Between → Index → Index → Result ℤ ℕ → Type 0
WalksEntries b records levels node i count between old new (Ok last) = (entries : Entries) × MeetsEntries b records levels node i count between old new last entries
WalksEntries b records levels node i count between old new (Err place) = entries_on (levels_on levels b records) b records node i count old.nodes.list.items ≡ lost place

-- a chain ends where its link is 0
abbrev pub EndsAt : Chain → Result (Unit {0}) ℕ → Type 0
EndsAt chain (Ok u) = chain.link ≡ 0
EndsAt chain (Err place) = (chain.link ≢ 0) × (place ≡ chain.holder)

-- ---- the index of a variable

-- the whole index was met
pub record MeetsIndex (b records : List ℕ) (vdr : ℕ) (index : Index) (nodes : Nodes) : Type 0 where
  pub walk_is : index_of b records vdr ≡ met index.nodes.list.items nodes
  pub blocks_are : index.blocks.items ≡ map block_of (leaves_of nodes)
  pub found : Finds (nodes_rows b records (negsuc 0) (pos record_number_limit) nodes) index.broken

abbrev pub WalksIndex : List ℕ → List ℕ → ℕ → Result Index ℕ → Type 0
WalksIndex b records vdr (Ok index) = (nodes : Nodes) × MeetsIndex b records vdr index nodes
WalksIndex b records vdr (Err place) = index_of b records vdr ≡ lost place

-- where the CPR of a variable stands, if it is compressed
abbrev pub cpr_at : List ℕ → ℕ → Option ℕ
cpr_at b vdr = if is_compressed b vdr then Some (cpr_link b vdr) else None

abbrev pub cpr_records : Option ℕ → List ℕ
cpr_records None = []
cpr_records (Some cpr) = cpr ∷ []

-- the records of a variable with this index
abbrev pub index_records : Indexed → Index → List ℕ
index_records variable index = variable.vdr ∷ index.nodes.list.items ++ map (λ block. block.place) index.blocks.items ++ cpr_records variable.cpr
