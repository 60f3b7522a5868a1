-- What holds of blocks and nodes that a command writes (CDF Internal Format Description, "Variable Index Record", "Variable Values Record", "Compressed Variable Values Record"; own: when a block is packed, its size, and the bytes that no rule reads).
use Rattle.std.specs.Prelude.{◌≡◌, ◌⊎◌, ◌≤◌, ◌<◌, ℕ, ◌+◌, ◌-◌, ◌*◌, max, List, [], ◌∷◌, length, map, take, drop, Bool, true, false, not, ◌&&◌, ◌||◌, ◌==◌, nat_lt, nat_le, find, bytes_eq, if◌then◌else◌, None}
use Rattle.std.specs.declared.option.Option.{Option}
use Rattle.std.specs.List.{All, last_or, list_any}
use Rattle.std.specs.Option.{option_map, unwrap_or}
use Rattle.cdf_model.specs.Place.{record_limit}
use Rattle.cdf_model.specs.RunLengths.{Packs, IsLongest}
use Rattle.cdf_edits.specs.Space.Acts.{Act, Took, Gave, taken}
use Rattle.cdf_edits.specs.Index.Blocks.{range, covers}
use Rattle.cdf_format.specs.Bytes.{byte, Same}
use Rattle.cdf_format.specs.Chains.{is_in}
use Rattle.cdf_format.specs.Content.{plain_bytes}
use Rattle.cdf_format.specs.Fields.{number, size_at}
use Rattle.cdf_format.specs.Index.{Nodes, no_node, node, Entries, no_entry, block, lower, Leaf, entry_count, room_at, used_count, first_at, last_at, offset_at}
use Rattle.cdf_format.specs.IndexOf.{SaysEntry}
use Rattle.cdf_format.specs.Records.{cvvr_rfu_a, cvvr_c_size, vdr_vxr_tail, vvr_bytes, cvvr_bytes, vxr_bytes, linked_size}
use Rattle.cdf_format.specs.Shape.{VariableShape, Each}
use Rattle.cdf_format.specs.Stored.{packed_bytes}
use Rattle.cdf_format.specs.VariableFields.{plain_size}

-- it holds of one of them
abbrev pub AnyOf : {A : Type 0} → (A → Type 0) → List A → Type 0
AnyOf P [] = ⊥
AnyOf P (a ∷ more) = P a ⊎ AnyOf P more

abbrev pub is_taken_at : List Act → ℕ → Bool
is_taken_at acts place = is_in place (map (λ take. take.0) (taken acts))

-- the record at a place was freed
abbrev pub is_given_at : List Act → ℕ → Bool
is_given_at [] place = false
is_given_at (Took at need ∷ more) place = is_given_at more place
is_given_at (Gave at size ∷ more) place = (at == place) || is_given_at more place

-- ---- blocks

-- where the bytes of a block end, and how many bytes are taken for a new one
abbrev pub block_end : List ℕ → ℕ → Leaf → ℕ
block_end b vdr leaf = if leaf.packed then cvvr_bytes (number b leaf.place cvvr_c_size) else vvr_bytes (plain_size b vdr leaf)

abbrev pub block_need : List ℕ → ℕ → Leaf → ℕ
block_need now vdr leaf = max linked_size (block_end now vdr leaf)

abbrev pub same_packing : Bool → Bool → Bool
same_packing true p = p
same_packing false p = not p

-- a block whose bytes end there stays in a record of this size; in a compressed variable only where its kind stays and the record is large enough, which one of less than 28 bytes may be
abbrev pub keeps_record : Bool → Bool → Bool → ℕ → ℕ → Bool
keeps_record rle was_packed packed end size = if rle then same_packing was_packed packed && nat_le end size else true

-- the block of a leaf stays in its record
abbrev pub stays_put : List ℕ → List ℕ → Bool → ℕ → Leaf → Leaf → Bool
stays_put b now rle vdr old new = keeps_record rle old.packed new.packed (block_end now vdr new) (size_at b old.place)

-- a block of at most 67,108,864 plain bytes is packed where that makes its record shorter; a longer one never (rule 8.7)
abbrev pub is_worth_packing : List ℕ → List ℕ → Bool
is_worth_packing plain packed = nat_le (length plain) record_limit && nat_lt (cvvr_bytes (length packed)) (vvr_bytes (length plain))

-- packed exactly where its bytes in the longest runs are worth it, and if it is packed, then in these
pub record WellPacked (now : List ℕ) (vdr : ℕ) (leaf : Leaf) : Type 0 where
  pub chosen : (packed : List ℕ) → All (λ byte. byte < 256) packed → Packs packed (plain_bytes now vdr leaf) → IsLongest packed → leaf.packed ≡ is_worth_packing (plain_bytes now vdr leaf) packed
  pub longest : leaf.packed ≡ true → IsLongest (packed_bytes now leaf.place)

-- Behind the bytes of a block there are bytes 0 where its record was taken; else they stay.
abbrev pub SpareIs : List ℕ → List ℕ → ℕ → Leaf → Bool → Type 0
SpareIs b now vdr leaf true = (i : ℕ) → block_end now vdr leaf ≤ i → i < size_at now leaf.place → byte now (leaf.place + i) ≡ 0
SpareIs b now vdr leaf false = Same b now (leaf.place + block_end now vdr leaf) (leaf.place + size_at b leaf.place)

-- rfuA of a packed block is 0 in a new one; one that was packed before keeps it where its record stays, and may where it is placed anew. `from` is the leaf that it was, if there was one.
abbrev pub HadReserved : List ℕ → ℕ → Leaf → Type 0
HadReserved b n old = (old.packed ≡ true) × (number b old.place cvvr_rfu_a ≡ n)

abbrev pub ReservedIs : List ℕ → List ℕ → List Leaf → Leaf → Bool → Type 0
ReservedIs b now from leaf true = leaf.packed ≡ true → (number now leaf.place cvvr_rfu_a ≡ 0) ⊎ AnyOf (HadReserved b (number now leaf.place cvvr_rfu_a)) from
ReservedIs b now from leaf false = leaf.packed ≡ true → number now leaf.place cvvr_rfu_a ≡ number b leaf.place cvvr_rfu_a

-- a block that is written
pub record BlockFollows (b now : List ℕ) (rle : Bool) (vdr : ℕ) (from : List Leaf) (acts : List Act) (leaf : Leaf) : Type 0 where
  pub packed : rle ≡ true → WellPacked now vdr leaf
  pub spare : SpareIs b now vdr leaf (is_taken_at acts leaf.place)
  pub reserved : ReservedIs b now from leaf (is_taken_at acts leaf.place)

-- the bytes of a record of n bytes, as they are stored; a block may cover records past MaxRec
abbrev pub stored_bytes : List ℕ → ℕ → ℕ → List Leaf → ℕ → Option (List ℕ)
stored_bytes b vdr n leaves k = option_map (λ leaf. take n (drop ((k - leaf.first) * n) (plain_bytes b vdr leaf))) (find (λ leaf. covers k (range leaf.first leaf.last)) leaves)

-- ---- nodes

abbrev pub was_unused : List ℕ → List ℕ → List Act → ℕ → ℕ → Bool
was_unused b before acts vxr i = is_in vxr before && (not (is_taken_at acts vxr) && nat_le (used_count b vxr) i)

abbrev pub EntryIs : List ℕ → List ℕ → ℕ → ℕ → Bool → Type 0
EntryIs b now vxr i true = SaysEntry now vxr i (first_at b vxr i) (last_at b vxr i) (offset_at b vxr i)
EntryIs b now vxr i false = SaysEntry now vxr i 0xffffffff 0xffffffff 0xffffffffffffffff

unfoldable mutual
  -- in an index, entry i of the node at a place is used
  pub uses_entry : ℕ → ℕ → Nodes → Bool
  uses_entry vxr i no_node = false
  uses_entry vxr i (node place room entries more) = ((place == vxr) && nat_lt i (entry_count entries)) || (uses_entry_below vxr i entries || uses_entry vxr i more)

  pub uses_entry_below : ℕ → ℕ → Entries → Bool
  uses_entry_below vxr i no_entry = false
  uses_entry_below vxr i (block first last place packed entries) = uses_entry_below vxr i entries
  uses_entry_below vxr i (lower first last nodes entries) = uses_entry vxr i nodes || uses_entry_below vxr i entries

-- An entry that is not used is -1 throughout; one that was not used before stays, or it is -1 where one of the indexes that a command goes through uses it.
abbrev pub UnusedEntries : List ℕ → List ℕ → List Nodes → List ℕ → List Act → ℕ → Type 0
UnusedEntries b now through before acts vxr = (i : ℕ) → used_count now vxr ≤ i → i < room_at now vxr
    → EntryIs b now vxr i (was_unused b before acts vxr i) ⊎ ((list_any (uses_entry vxr i) through ≡ true) × EntryIs b now vxr i false)

-- behind its entries a node that stays keeps its bytes
abbrev pub NodeSpareStays : List ℕ → List ℕ → List Act → ℕ → Type 0
NodeSpareStays b now acts vxr = is_taken_at acts vxr ≡ false → Same b now (vxr + vxr_bytes (room_at now vxr)) (vxr + size_at b vxr)

-- the nodes of the new index, of which these were there before; a command goes through these indexes on its way
pub record NodesFollow (b now : List ℕ) (through : List Nodes) (before after : List ℕ) (acts : List Act) : Type 0 where
  pub unused : Each (UnusedEntries b now through before acts) after
  pub spare : Each (NodeSpareStays b now acts) after

-- the nodes of the top chain of an index
abbrev pub top_chain : Nodes → List ℕ
top_chain no_node = []
top_chain (node place room entries more) = place ∷ top_chain more

abbrev pub last_node : Nodes → ℕ
last_node nodes = unwrap_or (last_or None (top_chain nodes)) 0

-- no node of the top chain comes or goes, from one index to another and to the last one
abbrev pub top_stays : List Act → Nodes → Nodes → Nodes → Bool
top_stays acts before middle after =
    bytes_eq (top_chain before) (top_chain middle) && (bytes_eq (top_chain middle) (top_chain after) && not (list_any (is_taken_at acts) (top_chain after)))

-- VXRtail: where the nodes of the top chain change it is the last of them, or 0; else it stays.
abbrev pub TailFollows : List ℕ → List ℕ → List Act → Nodes → VariableShape → VariableShape → Type 0
TailFollows b now acts middle v v' = number now v'.vdr vdr_vxr_tail ≡ (if top_stays acts v.index middle v'.index then number b v.vdr vdr_vxr_tail else last_node v'.index)
