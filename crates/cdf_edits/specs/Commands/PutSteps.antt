-- `put-rec` and `put-val`, step by step (CDF Internal Format Description, "Variable Index Record", "Variable Values Record", "Compressed Variable Values Record"; own: records are written in ascending order, those of one leaf together; a record without a leaf gets a new block, and then a node where one is needed).
use Rattle.cdf_base.specs.Bytes.{put}
use Rattle.std.specs.Prelude.{◌≡◌, ◌≤◌, ◌<◌, ℕ, zero, suc, ◌+◌, ◌-◌, ◌*◌, min, max, List, [], ◌∷◌, ◌++◌, length, take, drop, Bool, true, false, ◌==◌, nat_le, find, if◌then◌else◌, Some, None}
use Rattle.std.specs.declared.option.Option.{Option}
use Rattle.std.specs.List.{flat_map, slice_get}
use Rattle.cdf_model.specs.ByteOrder.{turned}
use Rattle.cdf_model.specs.DataSet.{Variable, extent}
use Rattle.cdf_model.specs.Names.{Found}
use Rattle.cdf_model.specs.Reading.{pad_record}
use Rattle.cdf_edits.specs.Commands.Allowances.{Allowances, AllKeep, Anything, Only, FreedStay, no_fields, stays_all, stays_own, space_fields, anything_if, of_variable, shapes_of}
use Rattle.cdf_edits.specs.Commands.GreatestRecord.{RMaxRecFollows}
use Rattle.cdf_edits.specs.Commands.Puts.{CutsFirst, PutsRecord, past_max_rec, max_rec_touches}
use Rattle.cdf_edits.specs.Frame.Changed.{Changed}
use Rattle.cdf_edits.specs.Index.Blocks.{Range, range, covers, record_length, firsts_of, new_range, first_written, cuts_before_put}
use Rattle.cdf_edits.specs.Index.Cut.{IsPart, is_whole}
use Rattle.cdf_edits.specs.Index.Grown.{reaches, chain_reaches, leads_down, with_block, with_entry, room_of_new, new_entries, with_place}
use Rattle.cdf_edits.specs.Index.Written.{is_taken_at, block_need, stays_put, WellPacked, SpareIs, EntryIs, was_unused, NodeSpareStays, TailFollows}
use Rattle.cdf_edits.specs.Space.Acts.{Act, Took, Gave, taken, ActsFollow}
use Rattle.cdf_format.specs.Content.{plain_bytes}
use Rattle.cdf_format.specs.Fields.{number, size_at}
use Rattle.cdf_format.specs.Index.{Nodes, no_node, node, Entries, no_entry, block, lower, Leaf, leaves_of, nodes_of, room_at, used_count}
use Rattle.cdf_format.specs.Owners.{owned}
use Rattle.cdf_format.specs.Records.{cvvr_rfu_a, vdr_vxr_head, vdr_vxr_tail, vxr_bytes}
use Rattle.cdf_format.specs.Shape.{VariableShape, Each, shape}
use Rattle.cdf_format.specs.Stored.{is_little}
use Rattle.cdf_format.specs.VariableFields.{max_rec_at}
use Rattle.cdf_format.specs.WellFormed.{Good}

-- A record of a variable is put: its number, and its bytes as they are stored. The variable is as it was before the put.
pub record Put : Type 0 where
  pub found : Found
  pub rec : ℕ
  pub raw : List ℕ

-- An image that a put goes through, where the records of the variable stand in it, what was taken and freed since the image before it, and the next record to be put.
pub record Stage : Type 0 where
  pub image : List ℕ
  pub own : VariableShape
  pub acts : List Act
  pub next : ℕ

unfoldable mutual
  -- An index with a leaf more, and how many entries the node has that this needs, 0 where none is needed; the node stands at `at`.
  pub grown : Leaf → ℕ → Nodes → Nodes × ℕ
  grown new at no_node = (node at new_entries (with_block new no_entry) no_node, new_entries)
  grown new at (node place room entries more) =
      if chain_reaches new.first more then (node place room entries (grown new at more).0, (grown new at more).1)
      else (if leads_down new.first false entries then (node place room (grown_below new at entries).0 more, (grown_below new at entries).1)
      else (with_entry new at place room entries more, room_of_new new.first room entries))

  -- The last entry whose First is at most that of the leaf is widened, and has the leaf below it.
  pub grown_below : Leaf → ℕ → Entries → Entries × ℕ
  grown_below new at no_entry = (no_entry, 0)
  grown_below new at (block first last place packed entries) = (block first last place packed (grown_below new at entries).0, (grown_below new at entries).1)
  grown_below new at (lower first last nodes entries) =
      if reaches new.first entries then (lower first last nodes (grown_below new at entries).0, (grown_below new at entries).1)
      else (lower first (max last new.last) (grown new at nodes).0 entries, (grown new at nodes).1)

-- The leaf that covers record k; and its range, or that of the block which is added where there is none.
abbrev pub leaf_at : ℕ → Nodes → Option Leaf
leaf_at k index = find (λ leaf. covers k (range leaf.first leaf.last)) (leaves_of index)

abbrev pub range_at : Variable → ℕ → Nodes → Range
range_at v k index = elim (leaf_at k index) [ None ↦ new_range v (firsts_of index) k | Some old ↦ range old.first old.last ]

-- The index after the step of one leaf, and what the step takes and frees. A new leaf takes its block, and then a node where one is needed, at `at`. A leaf that was there stays in its record, or it is placed anew and the old record freed.
abbrev pub leaf_step : List ℕ → List ℕ → Bool → ℕ → Nodes → Option Leaf → Leaf → ℕ → Nodes × List Act
leaf_step b now rle vdr index None new at = ((grown new at index).0, Took new.place (block_need now vdr new) ∷ (if (grown new at index).1 == 0 then [] else Took at (vxr_bytes (grown new at index).1) ∷ []))
leaf_step b now rle vdr index (Some old) new at = if stays_put b now rle vdr old new then (index, []) else (with_place new index, Took new.place (block_need now vdr new) ∷ Gave old.place (size_at b old.place) ∷ [])

-- The bytes of so many records from record k on: those that are put, or else the pad.
abbrev pub records_from : Put → List ℕ → ℕ → ℕ → List ℕ
records_from p b k zero = []
records_from p b k (suc count) = (if k == p.rec then p.raw else turned p.found.variable.type (is_little b) (pad_record p.found.variable)) ++ records_from p b (k + 1) count

-- The plain bytes of a block after its step: all its records where it is new; else what it held, with records written over, from record k to its last one or to the one that is put.
abbrev pub bytes_after : Put → List ℕ → ℕ → ℕ → ℕ → Option Leaf → List ℕ
bytes_after p b vdr k last None = records_from p b k (last + 1 - k)
bytes_after p b vdr k last (Some old) = put (plain_bytes b vdr old) ((k - old.first) * record_length p.found.variable) (records_from p b k (min p.rec last + 1 - k))

-- A block has these plain bytes, packed as they should be. Behind them there are bytes 0 in a new record, else what was; rfuA is 0 in a new record, else what it was.
pub record BlockWritten (b now : List ℕ) (rle : Bool) (vdr : ℕ) (acts : List Act) (new : Leaf) (plain : List ℕ) : Type 0 where
  pub plain_is : plain_bytes now vdr new ≡ plain
  pub packed : rle ≡ true → WellPacked now vdr new
  pub spare : SpareIs b now vdr new (is_taken_at acts new.place)
  pub reserved : new.packed ≡ true → number now new.place cvvr_rfu_a ≡ (if is_taken_at acts new.place then 0 else number b new.place cvvr_rfu_a)

-- A step may change the index, and the blocks of some ranges.
abbrev pub step_changes : List ℕ → Found → (Range → Bool) → Allowances
step_changes b found changes = record stays_all { gdr = Only space_fields; variables = of_variable b (shape b) found (record stays_own { vdr = Only (vdr_vxr_head ∷ vdr_vxr_tail ∷ []); nodes = Anything; blocks = λ r. anything_if (changes r) }) [] }

-- From one image to the next one all else stays. An entry that is not used is -1 in a new node or where it was used, else it stays.
pub record Goes (found : Found) (from to : Stage) (changes : Range → Bool) : Type 0 where
  pub good : Good to.image
  pub stands : slice_get (shapes_of (shape to.image) found.kind) found.number ≡ Some to.own
  pub acts_follow : ActsFollow from.image to.image to.acts
  pub keeps : AllKeep from.image to.image (step_changes from.image found changes) to.acts (owned from.image (shape from.image))
  pub unused : Each (λ vxr. (i : ℕ) → used_count to.image vxr ≤ i → i < room_at to.image vxr → EntryIs from.image to.image vxr i (was_unused from.image (nodes_of from.own.index) to.acts vxr i)) (nodes_of to.own.index)
  pub spare : Each (NodeSpareStays from.image to.image to.acts) (nodes_of to.own.index)
  pub tail : TailFollows from.image to.image to.acts from.own.index from.own to.own
  pub freed : FreedStay from.image to.image no_fields to.acts

-- The records of one leaf are put: of the one that covers the next record, or of one that is added for it.
pub record PutsLeaf (p : Put) (from to : Stage) : Type 0 where
  pub new : Leaf
  pub at : ℕ
  pub more : from.next ≤ p.rec
  pub has : leaf_at from.next to.own.index ≡ Some new
  pub range_is : range new.first new.last ≡ range_at p.found.variable from.next from.own.index
  pub step : (to.own.index, to.acts) ≡ leaf_step from.image to.image p.found.variable.rle to.own.vdr from.own.index (leaf_at from.next from.own.index) new at
  pub written : BlockWritten from.image to.image p.found.variable.rle to.own.vdr to.acts new (bytes_after p from.image to.own.vdr from.next new.last (leaf_at from.next from.own.index))
  pub goes : Goes p.found from to (covers from.next)
  pub next_is : to.next ≡ new.last + 1

-- What is past MaxRec is cut; a block that this makes shorter keeps its first records, and what is taken for it is taken before anything is freed.
pub record CutsPast (found : Found) (from to : Stage) : Type 0 where
  pub cuts : CutsFirst from.image to.image found.variable from.own to.own to.own.index to.acts true
  pub takes_first : taken (drop (length (taken to.acts)) to.acts) ≡ []
  pub written : Each (λ old. Each (λ new. IsPart (past_max_rec found.variable) old new → is_whole old new ≡ false → BlockWritten from.image to.image found.variable.rle to.own.vdr to.acts new (take ((new.last + 1 - new.first) * record_length found.variable) (plain_bytes from.image to.own.vdr old))) (leaves_of to.own.index)) (leaves_of from.own.index)
  pub goes : Goes found from to (λ r. nat_le (extent found.variable.max_rec) r.last)
  pub next_is : to.next ≡ from.next

-- From one image to another the records of some leaves are put, one leaf after the other.
abbrev pub PutsLeaves : Put → Stage → List Stage → Stage → Type 0
PutsLeaves p from [] to = from ≡ to
PutsLeaves p from (next ∷ more) to = PutsLeaf p from next × PutsLeaves p next more to

-- Under a rule, a record past MaxRec + 1 first cuts what is past MaxRec.
abbrev pub Begins : Found → Stage → Stage → Bool → Type 0
Begins found from to cuts = elim cuts [ true ↦ CutsPast found from to | false ↦ from ≡ to ]

-- By these acts a put went as far as this image: the records before its next one are put.
pub record PutsUpTo (b : List ℕ) (p : Put) (before : VariableShape) (to : Stage) (acts : List Act) : Type 0 where
  pub start : Stage
  pub stages : List Stage
  pub begins : Begins p.found (record { image = b; own = before; acts = []; next = first_written p.found.variable p.rec }) start (cuts_before_put p.found.variable p.rec)
  pub puts : PutsLeaves p start stages to
  pub acts_are : acts ≡ start.acts ++ flat_map (λ stage. stage.acts) stages

-- Record n is put: the put went past it. Then MaxRec becomes n where that is greater, and rMaxRec follows.
pub record PutsBySteps (b now : List ℕ) (found : Found) (n : ℕ) (before : VariableShape) (acts : List Act) : Type 0 where
  pub raw : List ℕ
  pub raw_long : length raw ≡ record_length found.variable
  pub last : Stage
  pub puts : PutsUpTo b (record { found = found; rec = n; raw = raw }) before last acts
  pub past : n < last.next
  pub changed : Changed last.image now (max_rec_touches last.image found.kind last.own.vdr)
  pub as_long : length now ≡ length last.image
  pub max_rec_is : extent (max_rec_at now last.own.vdr) ≡ max (extent found.variable.max_rec) (n + 1)
  pub r_max_rec : RMaxRecFollows b now

-- A record is put: step by step where blocks are packed.
abbrev pub Puts : List ℕ → List ℕ → Found → ℕ → VariableShape → VariableShape → List Act → Bool → Type 0
Puts b now found n before after acts true = PutsBySteps b now found n before acts
Puts b now found n before after acts false = PutsRecord b now found.kind found.variable n before after acts
