-- What `put-rec` and `put-val` do (CDF Internal Format Description, "Variable Index Record", "Variable Values Record"; own: records are written in ascending order, those of one block together, and the block of a new leaf is taken before its node).
use Rattle.std.specs.Prelude.{◌≡◌, ◌⊎◌, ◌<◌, ℕ, ◌+◌, ◌-◌, ◌*◌, max, List, [], ◌∷◌, ◌++◌, map, drop, Bool, true, false, not, ◌&&◌, ◌||◌, ◌==◌, nat_lt, find, Some, None}
use Rattle.std.specs.List.{filter, list_any, repeat}
use Rattle.cdf_model.specs.declared.kinds.Kind.{Kind}
use Rattle.cdf_model.specs.ByteOrder.{turned}
use Rattle.cdf_model.specs.DataSet.{Variable, extent}
use Rattle.cdf_model.specs.Limits.{record_number_limit}
use Rattle.cdf_model.specs.Names.{Found}
use Rattle.cdf_model.specs.Reading.{pad_record}
use Rattle.cdf_edits.specs.Commands.Allowances.{Allowances, Anything, Only, stays_all, stays_own, space_fields, anything_if, r_max_rec_field, of_variable}
use Rattle.cdf_edits.specs.Commands.GreatestRecord.{RMaxRecFollows}
use Rattle.cdf_edits.specs.Commands.Room.{uncovered, is_rewritten}
use Rattle.cdf_edits.specs.Frame.Changed.{Touch, touch, touched_field, Changed}
use Rattle.cdf_edits.specs.Index.Blocks.{Range, range, covers, shared, ranges_of, first_written, cuts_before_put, record_length, ranges_before_put, ranges_after_put}
use Rattle.cdf_edits.specs.Index.Cut.{Part, IsPlaced, CutsIndex, BlocksFreedStay, NodesFreedStay}
use Rattle.cdf_edits.specs.Index.Grown.{with_leaf, new_room, with_place, cut_nodes, kept_open, indexes_with}
use Rattle.cdf_edits.specs.Index.Written.{AnyOf, block_need, stays_put, BlockFollows, stored_bytes, NodesFollow, TailFollows}
use Rattle.cdf_edits.specs.Space.Acts.{Act, Took, Gave}
use Rattle.cdf_format.specs.Content.{plain_bytes}
use Rattle.cdf_format.specs.Fields.{size_at}
use Rattle.cdf_format.specs.Index.{Nodes, Leaf, leaves_of, nodes_of}
use Rattle.cdf_format.specs.Records.{vdr_max_rec, vdr_vxr_head, vdr_vxr_tail, vxr_bytes, vvr_place}
use Rattle.cdf_format.specs.Shape.{Shape, VariableShape, Each, shape}
use Rattle.cdf_format.specs.Stored.{is_little}
use Rattle.cdf_format.specs.VariableFields.{records_of_leaf}

-- a block of which no record is written or cut stays
abbrev pub put_changes : List ℕ → Shape → Found → ℕ → Allowances
put_changes b s found n = record stays_all {
  gdr = Only (r_max_rec_field found.kind ++ space_fields);
  variables = of_variable b s found (record stays_own { vdr = Only (vdr_max_rec ∷ vdr_vxr_head ∷ vdr_vxr_tail ∷ []); nodes = Anything; blocks = λ r. anything_if (is_rewritten found.variable n r) }) [];
}

-- ---- what is taken and freed, and the index after it

-- the first of these acts takes so many bytes, and the others are read on
abbrev pub TakesFirst : ℕ → (ℕ → List Act → Type 0) → List Act → Type 0
TakesFirst need Then [] = ⊥
TakesFirst need Then (Took place size ∷ more) = (size ≡ need) × Then place more
TakesFirst need Then (Gave place size ∷ more) = ⊥

-- the first of these acts frees this record
abbrev pub FreesFirst : ℕ → ℕ → (List Act → Type 0) → List Act → Type 0
FreesFirst place size Then [] = ⊥
FreesFirst place size Then (Took at need ∷ more) = ⊥
FreesFirst place size Then (Gave at bytes ∷ more) = (at ≡ place) × (bytes ≡ size) × Then more

-- a node is taken where one is needed, and the index is read on with its place
abbrev pub TakesNode : ℕ → (ℕ → List Act → Type 0) → List Act → Type 0
TakesNode room Then acts = elim (room == 0) [ true ↦ Then 0 acts | false ↦ TakesFirst (vxr_bytes room) Then acts ]

-- These leaves of the new index are written one after the other, which makes of one index the other: a new leaf takes its block and then a node; that of one that was there stays, or it is placed anew.
abbrev pub PutsLeaves : List ℕ → List ℕ → Bool → ℕ → List Leaf → Nodes → List Act → Nodes → Type 0
PutsLeaves b now rle vdr [] index acts after = (acts ≡ []) × (index ≡ after)
PutsLeaves b now rle vdr (new ∷ more) index acts after = elim (find (λ old. old.first == new.first) (leaves_of index)) [
  | None ↦ TakesFirst (block_need now vdr new) (λ place rest. (place ≡ new.place) × TakesNode (new_room new.first index) (λ at left. PutsLeaves b now rle vdr more (with_leaf new at index) left after) rest) acts
  | Some old ↦ elim (stays_put b now rle vdr old new) [
    | true ↦ (new.place ≡ old.place) × PutsLeaves b now rle vdr more index acts after
    | false ↦ TakesFirst (block_need now vdr new) (λ place rest. (place ≡ new.place) × FreesFirst old.place (size_at b old.place) (λ left. PutsLeaves b now rle vdr more (with_place new index) left after) rest) acts
  ]
]

abbrev pub is_written : Variable → ℕ → Leaf → Bool
is_written v n leaf = nat_lt 0 (shared (first_written v n) n (range leaf.first leaf.last))

-- what is past MaxRec is cut first, where it is; else nothing is
abbrev pub past_max_rec : Variable → Part
past_max_rec v = kept_open (extent v.max_rec) record_number_limit

abbrev pub CutsFirst : List ℕ → List ℕ → Variable → VariableShape → VariableShape → Nodes → List Act → Bool → Type 0
CutsFirst b now v before after middle acts true =
    CutsIndex v (past_max_rec v) before.index (cut_nodes false (past_max_rec v) before.index) middle acts
    × Each (λ old. Each (IsPlaced b now v after.vdr (past_max_rec v) acts old) (leaves_of middle)) (leaves_of before.index)
CutsFirst b now v before after middle acts false = (middle ≡ before.index) × (acts ≡ [])

-- the records of the new leaves
abbrev pub new_ranges : List Range → List Range → List Range
new_ranges before after = filter (λ r. not (list_any (covers r.first) before)) after

pub record PutsIndex (b now : List ℕ) (v : Variable) (n : ℕ) (before after : VariableShape) (acts : List Act) : Type 0 where
  pub ranges : ranges_of after.index ≡ ranges_after_put v before.index n
  pub middle : Nodes
  pub cut : List Act
  pub put : List Act
  pub acts_are : acts ≡ cut ++ put
  pub cuts : CutsFirst b now v before after middle cut (cuts_before_put v n)
  pub puts : PutsLeaves b now v.rle after.vdr (filter (is_written v n) (leaves_of after.index)) middle put after.index
  pub tail : TailFollows b now acts middle before after
  pub nodes : NodesFollow b now (indexes_with middle (new_ranges (ranges_of middle) (ranges_of after.index))) (nodes_of before.index) (nodes_of after.index) acts
  pub freed : BlocksFreedStay b now acts acts
  pub nodes_freed : NodesFreedStay b now acts acts

-- ---- bytes

-- the bytes of these records in their blocks
abbrev pub written_in : Variable → ℕ → ℕ → List Leaf → List Touch
written_in v first last leaves = map (λ leaf. touch leaf.place (vvr_place ((max first leaf.first - leaf.first) * record_length v)) (shared first last (range leaf.first leaf.last) * record_length v)) leaves

-- all records that are written have blocks, which are not packed, and nothing is cut
abbrev pub stays_in_place : Variable → VariableShape → ℕ → Bool
stays_in_place v shape n = (uncovered v shape.index n == 0) && (not v.rle && not (cuts_before_put v n))

-- of an r variable MaxRec counts for rMaxRec too
abbrev pub max_rec_touches : List ℕ → Kind → ℕ → List Touch
max_rec_touches b kind vdr = map (touched_field (shape b).gdr) (r_max_rec_field kind) ++ touched_field vdr vdr_max_rec ∷ []

-- the leaf of a block into which nothing is written, and from which nothing is cut, stays
abbrev pub StaysUnwritten : Variable → ℕ → List Leaf → Leaf → Type 0
StaysUnwritten v n after leaf = is_rewritten v n (range leaf.first leaf.last) ≡ false → AnyOf (λ other. other ≡ leaf) after

-- what a block held of records that are not written stays, past MaxRec too
abbrev pub UnwrittenStay : List ℕ → List ℕ → Variable → ℕ → VariableShape → VariableShape → Type 0
UnwrittenStay b now v n before after = (k : ℕ) → list_any (covers k) (ranges_before_put v before.index n) ≡ true → (k < first_written v n) ⊎ (n < k)
    → stored_bytes now after.vdr (record_length v) (leaves_of after.index) k ≡ stored_bytes b before.vdr (record_length v) (leaves_of before.index) k

-- how many records of a block are stored once record n is put
abbrev pub stored_in : Variable → ℕ → Leaf → ℕ
stored_in v n leaf = max (extent v.max_rec) (n + 1) - leaf.first

-- in a new block the others hold the pad
abbrev pub HoldsPads : List ℕ → Variable → ℕ → ℕ → List Range → Leaf → Type 0
HoldsPads now v vdr n before leaf = list_any (covers leaf.first) before ≡ false
    → drop (stored_in v n leaf * record_length v) (plain_bytes now vdr leaf) ≡ repeat (records_of_leaf leaf - stored_in v n leaf) (turned v.type (is_little now) (pad_record v))

-- a block that is written, or that a cut made shorter
abbrev pub is_changed : Variable → ℕ → List Range → Leaf → Bool
is_changed v n before leaf = is_written v n leaf || not (list_any (λ r. (r.first == leaf.first) && (r.last == leaf.last)) before)

abbrev pub was_leaf : List Leaf → Leaf → List Leaf
was_leaf before leaf = filter (λ old. old.first == leaf.first) before

pub record PutsBytes (b now : List ℕ) (kind : Kind) (v : Variable) (n : ℕ) (before after : VariableShape) (acts : List Act) : Type 0 where
  pub in_place : stays_in_place v before n ≡ true → Changed b now (max_rec_touches b kind before.vdr ++ written_in v (first_written v n) n (leaves_of before.index))
  pub others_stay : Each (StaysUnwritten v n (leaves_of after.index)) (leaves_of before.index)
  pub unwritten_stay : UnwrittenStay b now v n before after
  pub padded : Each (HoldsPads now v after.vdr n (ranges_before_put v before.index n)) (leaves_of after.index)
  pub blocks : Each (λ leaf. is_changed v n (ranges_of before.index) leaf ≡ true → BlockFollows b now v.rle after.vdr (was_leaf (leaves_of before.index) leaf) acts leaf) (leaves_of after.index)

-- record n is put
pub record PutsRecord (b now : List ℕ) (kind : Kind) (v : Variable) (n : ℕ) (before after : VariableShape) (acts : List Act) : Type 0 where
  pub index : PutsIndex b now v n before after acts
  pub bytes : PutsBytes b now kind v n before after acts
  pub r_max_rec : RMaxRecFollows b now
