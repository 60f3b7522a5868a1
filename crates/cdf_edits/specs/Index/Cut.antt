-- What a cut takes and frees, and where the blocks stand that it leaves (CDF Internal Format Description, "Variable Index Record"; own: a block stays in its record where it can). The order in which a cut takes and frees is free.
use Rattle.std.specs.Prelude.{◌≡◌, ◌⊎◌, ◌≤◌, ℕ, ◌-◌, ◌*◌, max, List, [], ◌∷◌, ◌++◌, map, take, drop, Bool, true, false, not, ◌&&◌, ◌||◌, ◌==◌}
use Rattle.std.specs.List.{filter}
use Rattle.cdf_model.specs.DataSet.{Variable}
use Rattle.cdf_edits.specs.Commands.Allowances.{FreedStays, GivenStay, no_fields}
use Rattle.cdf_edits.specs.Commands.Room.{range_bytes}
use Rattle.cdf_edits.specs.Index.Blocks.{Range, range, record_length}
use Rattle.cdf_edits.specs.Index.Grown.{outline}
use Rattle.cdf_edits.specs.Index.Written.{AnyOf, block_need, is_given_at, stays_put}
use Rattle.cdf_edits.specs.Space.Acts.{Act, Took, Gave, taken, none_twice, Among}
use Rattle.cdf_format.specs.Chains.{is_in}
use Rattle.cdf_format.specs.Content.{plain_bytes}
use Rattle.cdf_format.specs.Fields.{type_at}
use Rattle.cdf_format.specs.Index.{Nodes, no_node, node, Entries, no_entry, block, lower, Leaf, leaves_of, nodes_of, room_at}
use Rattle.cdf_format.specs.Owners.{unused_records}
use Rattle.cdf_format.specs.Records.{vxr_bytes, vvr_bytes, vxr_entries, linked_size}
use Rattle.cdf_format.specs.RecordTypes.{vxr_type}
use Rattle.cdf_format.specs.Shape.{Each, shape}
use Rattle.cdf_format.specs.VariableFields.{records_of_leaf}

-- what of a range stays, or what of it gets a new block: one range, or none
abbrev pub Part : Type 0
Part = Range → List Range

abbrev pub IsPart : Part → Leaf → Leaf → Type 0
IsPart part old new = part (range old.first old.last) ≡ range new.first new.last ∷ []

abbrev pub is_whole : Leaf → Leaf → Bool
is_whole old new = records_of_leaf new == records_of_leaf old

-- the plain bytes of a part of the records that a leaf has
abbrev pub part_bytes : List ℕ → Variable → ℕ → Leaf → Leaf → List ℕ
part_bytes b v vdr old part = take (range_bytes v (range part.first part.last)) (drop ((part.first - old.first) * record_length v) (plain_bytes b vdr old))

-- ---- records of an index

unfoldable mutual
  -- its nodes, each with the size of one that is taken
  pub sized_nodes : Nodes → List (ℕ × ℕ)
  sized_nodes no_node = []
  sized_nodes (node place room entries more) = (place, vxr_bytes room) ∷ sized_nodes_below entries ++ sized_nodes more

  pub sized_nodes_below : Entries → List (ℕ × ℕ)
  sized_nodes_below no_entry = []
  sized_nodes_below (block first last place packed entries) = sized_nodes_below entries
  sized_nodes_below (lower first last nodes entries) = sized_nodes nodes ++ sized_nodes_below entries

-- and its blocks, each with the size that it has unless it is packed
abbrev pub sized_blocks : Variable → Nodes → List (ℕ × ℕ)
sized_blocks v nodes = map (λ leaf. (leaf.place, max linked_size (vvr_bytes (range_bytes v (range leaf.first leaf.last))))) (leaves_of nodes)

-- where its nodes and blocks stand, and that no two stand at one place
abbrev pub index_records : Nodes → List ℕ
index_records nodes = nodes_of nodes ++ map (λ leaf. leaf.place) (leaves_of nodes)

abbrev pub stand_apart : List ℕ → Bool
stand_apart [] = true
stand_apart (place ∷ more) = not (is_in place more) && stand_apart more

-- a record is taken for a node of it, or for a block
abbrev pub IsNeeded : Variable → Nodes → ℕ × ℕ → Type 0
IsNeeded v nodes take = Among take (sized_nodes nodes) ⊎ AnyOf (λ block. (take.0 ≡ block.0) × ((take.1 ≤ block.1) × (v.rle ≡ false → take.1 ≡ block.1))) (sized_blocks v nodes)

-- ---- a cut

-- a block of which no record goes stays where it was, and so does one that is not packed; it is not freed
abbrev pub StaysWhole : Variable → Part → List Act → Leaf → Leaf → Type 0
StaysWhole v kept acts old new = IsPart kept old new → (is_whole old new || not v.rle) ≡ true → (new.place ≡ old.place) × (new.packed ≡ old.packed) × (is_given_at acts old.place ≡ false)

-- From one index to another, which is this one but for the places of what is new; new nodes stand at 0 in it, and its others are not freed. A record that is in the index no more is freed. Each leaf keeps a part of its records.
pub record CutsIndex (v : Variable) (kept : Part) (before wanted after : Nodes) (acts : List Act) : Type 0 where
  pub index_is : outline (map (λ take. take.0) (taken acts)) after ≡ outline (map (λ take. take.0) (taken acts)) wanted
  pub apart : stand_apart (index_records after) ≡ true
  pub once : none_twice [] acts ≡ true
  pub frees : Each (λ place. (is_in place (index_records after) || is_given_at acts place) ≡ true) (index_records before)
  pub takes : Each (IsNeeded v after) (taken acts)
  pub stand : Each (λ vxr. is_given_at acts vxr ≡ false) (nodes_of wanted)
  pub stay : Each (λ old. Each (StaysWhole v kept acts old) (leaves_of after)) (leaves_of before)

-- A block that is made shorter stays in its record where it can; else it is placed anew.
abbrev pub BlockPlaced : List ℕ → ℕ → List Act → Leaf → Leaf → Bool → Type 0
BlockPlaced now vdr acts old new true = (new.place ≡ old.place) × (is_given_at acts old.place ≡ false)
BlockPlaced now vdr acts old new false = Among (new.place, block_need now vdr new) (taken acts)

abbrev pub IsPlaced : List ℕ → List ℕ → Variable → ℕ → Part → List Act → Leaf → Leaf → Type 0
IsPlaced b now v vdr kept acts old new = IsPart kept old new → BlockPlaced now vdr acts old new (is_whole old new || stays_put b now v.rle vdr old new)

-- ---- what is freed

-- a node may be emptied before it is freed
abbrev pub frees_node : List ℕ → Act → Bool
frees_node b (Took place need) = false
frees_node b (Gave place size) = type_at b place == vxr_type

-- any other record that some of these acts free keeps its bytes
abbrev pub BlocksFreedStay : List ℕ → List ℕ → List Act → List Act → Type 0
BlocksFreedStay b now acts gives = GivenStay b now no_fields acts (filter (λ act. not (frees_node b act)) gives)

-- a node keeps its bytes behind its entries
abbrev pub NodesFreedStay : List ℕ → List ℕ → List Act → List Act → Type 0
NodesFreedStay b now acts [] = Unit {0}
NodesFreedStay b now acts (Took place need ∷ more) = NodesFreedStay b now acts more
NodesFreedStay b now acts (Gave place size ∷ more) =
    (type_at b place ≡ vxr_type → Each (FreedStays b now acts place size (vxr_entries (room_at b place) ∷ [])) (unused_records now (shape now))) × NodesFreedStay b now acts more
