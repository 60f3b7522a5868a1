-- Records from a first to a last go from the index and the blocks of a variable, of which no block is packed, and later ones keep their numbers: what the image has by then (own).
use Rattle.std.specs.Prelude.{◌≡◌, ◌⊎◌, ◌<◌, ℕ, ◌+◌, ◌-◌, ◌*◌, max, List, [], ◌++◌, take, drop, true, false, ◌&&◌, nat_lt, if◌then◌else◌, Some, None}
use Rattle.std.specs.declared.option.Option.{Option}
use Rattle.cdf_edits.specs.Edits.Standing.{IsOneOf}
use Rattle.cdf_edits.specs.Commands.Allowances.{Stays}
use Rattle.cdf_edits.specs.Commands.GreatestRecord.{r_max_rec}
use Rattle.cdf_edits.specs.Commands.PutSteps.{BlockWritten, Goes}
use Rattle.cdf_edits.specs.Commands.Room.{widest}
use Rattle.cdf_edits.specs.Index.Blocks.{record_length, shared}
use Rattle.cdf_edits.specs.Index.Cut.{CutsIndex, IsPart}
use Rattle.cdf_edits.specs.Index.Cut.{part_bytes}
use Rattle.cdf_edits.specs.Index.Grown.{cut_nodes, index_cut_open, kept_open, new_room, split_off, with_leaf}
use Rattle.cdf_edits.specs.Index.Written.{block_need, is_taken_at}
use Rattle.cdf_edits.specs.Space.Acts.{Act, gave}
use Rattle.cdf_format.specs.Content.{variable_of}
use Rattle.cdf_format.specs.Fields.{number, size_at}
use Rattle.cdf_format.specs.Index.{Leaf, Nodes, leaf, leaves_of}
use Rattle.cdf_format.specs.Records.{linked_size, vdr_max_rec, vvr_bytes, vvr_place, vxr_bytes}
use Rattle.cdf_format.specs.Shape.{VariableShape, is_compressed}
use Rattle.cdf_format.specs.VariableFields.{record_bytes}
use Rattle.cdf_index.specs.Adding.{leaf_acts}
use Rattle.cdf_index.specs.Order.{leaf_of}
use Rattle.cdf_model.specs.DataSet.{Variable}
use Rattle.cdf_model.specs.declared.kinds.Kind.{Kind}
use Rattle.cdf_puts.specs.Going.{GoesOn, found_in}
use Rattle.cdf_cuts.specs.Past.{stage}
use Rattle.cdf_cuts.specs.Planning.{freed_of, opening, plan_of}

-- the records that are freed: the blocks by record number, and then the nodes, lower ones first
abbrev pub freed_opening : VariableShape → ℕ → ℕ → List ℕ
freed_opening own first last = freed_of (plan_of (opening first last) 0 own.index)

-- then others are taken
abbrev pub opening_acts : List ℕ → VariableShape → ℕ → ℕ → List Act → List Act
opening_acts b own first last takes = gave b (freed_opening own first last) ++ takes

-- the index of which each block keeps what stays in it
abbrev pub index_opened : VariableShape → ℕ → ℕ → Nodes
index_opened own first last = cut_nodes false (kept_open first last) own.index

-- ---- a leaf that is divided

-- it has records before those that go, and behind them
pub record IsDivided (first last : ℕ) (l : Leaf) : Type 0 where
  pub begins : l.first < first
  pub ends : last < l.last

-- its later records, as they stand in its block
abbrev pub later_records : List ℕ → ℕ → ℕ → Leaf → List ℕ
later_records b size last l = take ((l.last - last) * size) (drop (l.place + vvr_place ((last + 1 - l.first) * size)) b)

-- how many bytes are taken for them: their block, and a node as wide as the widest
abbrev pub divided_room : ℕ → ℕ → ℕ → ℕ → Option Leaf → ℕ
divided_room first last size wide None = 0
divided_room first last size wide (Some l) = if nat_lt l.first first && nat_lt last l.last then max linked_size (vvr_bytes ((l.last - last) * size)) + vxr_bytes wide else 0

abbrev pub opening_room : ℕ → ℕ → ℕ → Nodes → ℕ
opening_room first last size index = divided_room first last size (widest index) (leaf_of last (leaves_of index))

-- no leaf is divided, and nothing is taken
pub record NoneDivided (own : VariableShape) (first last : ℕ) (index : Nodes) (takes : List Act) : Type 0 where
  pub none : (l : Leaf) → IsOneOf (leaves_of own.index) l → IsDivided first last l → ⊥
  pub index_is : index ≡ index_opened own first last
  pub takes_are : takes ≡ []

-- or this one is: its later records get a leaf, for which a block is taken, and then a node where one is needed
pub record OneDivided (b : List ℕ) (own : VariableShape) (first last : ℕ) (index : Nodes) (takes : List Act) : Type 0 where
  pub old : Leaf
  pub is_one : IsOneOf (leaves_of own.index) old
  pub is_divided : IsDivided first last old
  pub place : ℕ
  pub at : ℕ
  pub index_is : index ≡ with_leaf (leaf (last + 1) old.last place false) at (index_opened own first last)
  pub takes_are : takes ≡ leaf_acts place (max linked_size (vvr_bytes ((old.last - last) * record_bytes b own.vdr))) (new_room (last + 1) (index_opened own first last)) at

-- ---- what is left of a leaf

-- What stays in its block has its bytes, at the front of the block; what is behind them stays.
pub record PartStays (b now : List ℕ) (v : Variable) (vdr : ℕ) (acts : List Act) (old new : Leaf) : Type 0 where
  pub stays : is_taken_at acts new.place ≡ false
  pub size_is : size_at now new.place ≡ size_at b old.place
  pub written : BlockWritten b now v.rle vdr acts new (part_bytes b v vdr old new)

-- What gets a new block has its bytes there; what is behind them is 0.
pub record PartTaken (b now : List ℕ) (v : Variable) (vdr : ℕ) (acts : List Act) (old new : Leaf) : Type 0 where
  pub is_new : is_taken_at acts new.place ≡ true
  pub size_is : size_at now new.place ≡ block_need now vdr new
  pub written : BlockWritten b now v.rle vdr acts new (part_bytes b v vdr old new)

-- ---- the whole

-- An image goes on to one in which the variable has another index, of which these records are gone, by acts that free and then these that take; a block that loses no record keeps every byte, and MaxRec and rMaxRec are as they were.
pub record RecordsOpened (b now : List ℕ) (kind : Kind) (before : List VariableShape) (own own' : VariableShape) (after : List VariableShape) (first last : ℕ) (takes : List Act) : Type 0 where
  pub loose : is_compressed b own.vdr ≡ false
  pub goes : GoesOn b now kind before own own' after (opening_acts b own first last takes)
  pub divided : NoneDivided own first last own'.index takes ⊎ OneDivided b own first last own'.index takes
  pub cuts : (v : Variable) → record_length v ≡ record_bytes b own.vdr → CutsIndex v (kept_open first last) own.index (index_cut_open first last own.index) own'.index (opening_acts b own first last takes)
  pub kept : (old new : Leaf) → IsOneOf (leaves_of own.index) old → IsOneOf (leaves_of own'.index) new → IsPart (kept_open first last) old new → PartStays b now (variable_of b own) own'.vdr (opening_acts b own first last takes) old new
  pub split : (old new : Leaf) → IsOneOf (leaves_of own.index) old → IsOneOf (leaves_of own'.index) new → IsPart (split_off first last) old new → PartTaken b now (variable_of b own) own'.vdr (opening_acts b own first last takes) old new
  pub apart : (l : Leaf) → IsOneOf (leaves_of own.index) l → (l.last < first) ⊎ (last < l.first) → Stays b now l.place []
  pub max_rec_is : number now own.vdr vdr_max_rec ≡ number b own.vdr vdr_max_rec
  pub r_max_rec_is : r_max_rec now ≡ r_max_rec b
  pub step : (next : ℕ) → Goes (found_in b kind before own) (stage b own [] next) (stage now own' (opening_acts b own first last takes) next) (λ r. nat_lt 0 (shared first last r))

-- wherever what is new stands
pub record CutOpen (b now : List ℕ) (kind : Kind) (before : List VariableShape) (own : VariableShape) (after : List VariableShape) (first last : ℕ) : Type 0 where
  pub own' : VariableShape
  pub takes : List Act
  pub opened : RecordsOpened b now kind before own own' after first last takes
