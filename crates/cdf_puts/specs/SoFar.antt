-- How far record r of a variable is put, where nothing is packed and nothing has to be cut first: the records before k have blocks and are written, and those from k on are not (own: records are written in ascending order; without a rule from MaxRec + 1 on where r is past that, and those before r hold the pad; under a rule r alone).
use Rattle.std.specs.Prelude.{◌≡◌, ◌⊎◌, ◌≤◌, ◌<◌, ℕ, ◌+◌, ◌-◌, ◌*◌, min, max, List, [], ◌++◌, length, map, take, drop, Bool, true, false, ◌==◌, nat_lt, if◌then◌else◌}
use Rattle.std.specs.List.{filter, sum}
use Rattle.cdf_model.specs.declared.kinds.Kind.{Kind}
use Rattle.cdf_model.specs.DataSet.{extent}
use Rattle.cdf_model.specs.Limits.{image_limit, record_number_limit}
use Rattle.cdf_edits.specs.Commands.GreatestRecord.{r_max_rec}
use Rattle.cdf_edits.specs.Commands.Puts.{PutsLeaves, new_ranges}
use Rattle.cdf_edits.specs.Frame.Changed.{Touch, Outside}
use Rattle.cdf_edits.specs.Index.Blocks.{Range, ranges_of, firsts_of, next_first, first_written, firsts_before_put, ranges_before_put}
use Rattle.cdf_edits.specs.Index.Grown.{with_ranges, indexes_with, outline}
use Rattle.cdf_edits.specs.Index.Written.{is_taken_at, NodesFollow, top_chain}
use Rattle.cdf_edits.specs.Space.Acts.{Act, taken, OnlyTakes}
use Rattle.cdf_edits.specs.Edits.Standing.{IsOneOf, record_place, StandsAmong}
use Rattle.cdf_format.specs.Bytes.{byte}
use Rattle.cdf_format.specs.Content.{variable_of}
use Rattle.cdf_format.specs.Fields.{number, size_at}
use Rattle.cdf_format.specs.Index.{Nodes, Leaf, leaves_of, nodes_of}
use Rattle.cdf_format.specs.Records.{vdr_max_rec, vvr_bytes}
use Rattle.cdf_format.specs.Shape.{VariableShape, is_compressed}
use Rattle.cdf_format.specs.Tiles.{In}
use Rattle.cdf_format.specs.VariableFields.{record_bytes, max_rec_at}
use Rattle.cdf_format.specs.WellFormed.{Good}
use Rattle.cdf_index.specs.Adding.{TailGoesOn}
use Rattle.cdf_puts.specs.Covering.{Covering}
use Rattle.cdf_puts.specs.Going.{GoesOn}
use Rattle.cdf_puts.specs.Steps.{MaxRecRaised}

-- ---- what is put, and where

-- the bytes that record j gets where record r is put
abbrev pub record_of : List ℕ → List ℕ → ℕ → ℕ → List ℕ
record_of raw pad r j = if j == r then raw else pad

-- A variable of a good image in which record r may be put so, as these bytes, and each that is written before it as those of a pad. What the put would cut first is cut by now: it begins with the ranges of the index, and each new block ends before the same First.
pub record PutStart (b : List ℕ) (kind : Kind) (before : List VariableShape) (own : VariableShape) (after : List VariableShape) (raw pad : List ℕ) (r : ℕ) : Type 0 where
  pub good : Good b
  pub among : StandsAmong b kind before own after
  pub loose : is_compressed b own.vdr ≡ false
  pub same_ranges : ranges_before_put (variable_of b own) own.index r ≡ ranges_of own.index
  pub same_nexts : (m : ℕ) → first_written (variable_of b own) r ≤ m → next_first m (firsts_before_put (variable_of b own) own.index r) ≡ next_first m (firsts_of own.index)
  pub small : r ≤ record_number_limit
  pub short : length b ≤ image_limit
  pub raw_long : length raw ≡ record_bytes b own.vdr

-- how many records of a leaf are among those from a first up to k, and whether one is
abbrev pub put_count : ℕ → ℕ → Leaf → ℕ
put_count first k leaf = min k (leaf.last + 1) - max first leaf.first

abbrev pub was_put : ℕ → ℕ → Leaf → Bool
was_put first k leaf = nat_lt 0 (put_count first k leaf)

-- record j in the block of a leaf
abbrev pub RecordIs : List ℕ → ℕ → Leaf → ℕ → List ℕ → Type 0
RecordIs now size l j bytes = take size (drop (record_place l size j) now) ≡ bytes

-- the records of a block from a first to a last
pub record BlockRecords (raw pad : List ℕ) (r first last size : ℕ) (records : List ℕ) : Type 0 where
  pub as_long : length records ≡ (last + 1 - first) * size
  pub written : (j : ℕ) → first ≤ j → j ≤ last → take size (drop ((j - first) * size) records) ≡ record_of raw pad r j

-- ---- what was taken

abbrev pub taken_places : List Act → List ℕ
taken_places acts = map (λ take. take.0) (taken acts)

abbrev pub taken_bytes : List Act → ℕ
taken_bytes acts = sum (map (λ take. take.1) (taken acts))

-- ---- the index

-- However a put goes on, the leaves that were put were so before it; of the last image the size of a record alone counts.
abbrev pub PutsBefore : List ℕ → VariableShape → VariableShape → List Leaf → List Act → Type 0
PutsBefore b own own' leaves acts = (last : List ℕ) → record_bytes last own.vdr ≡ record_bytes b own.vdr → (more : List Leaf) (acts' : List Act) (end : Nodes)
    → PutsLeaves b last false own.vdr more own'.index acts' end → PutsLeaves b last false own.vdr (leaves ++ more) own.index (acts ++ acts') end

-- the top chain stays, or it grows
abbrev pub TopGrows : Nodes → Nodes → Type 0
TopGrows before after = (top_chain after ≡ top_chain before) ⊎ (length (top_chain before) < length (top_chain after))

-- each node of the top chain is one of it afterwards
abbrev pub TopStays : Nodes → Nodes → Type 0
TopStays before after = (m : ℕ) → In m (top_chain before) → In m (top_chain after)

-- The nodes, where the records of these ranges got a block: those that were there stay and keep their size, each other was taken.
pub record NodesSoFar (b now : List ℕ) (own own' : VariableShape) (ranges : List Range) (acts : List Act) : Type 0 where
  pub stay : (m : ℕ) → In m (nodes_of own.index) → In m (nodes_of own'.index)
  pub apart : (m : ℕ) → In m (nodes_of own.index) → is_taken_at acts m ≡ false
  pub come : (m : ℕ) → In m (nodes_of own'.index) → In m (nodes_of own.index) ⊎ (is_taken_at acts m ≡ true)
  pub sizes : (m : ℕ) → In m (nodes_of own.index) → size_at now m ≡ size_at b m
  pub outlined : outline (taken_places acts) own'.index ≡ outline [] (with_ranges own.index ranges)
  pub follow : NodesFollow b now (indexes_with own.index ranges) (nodes_of own.index) (nodes_of own'.index) acts

pub record IndexSoFar (b now : List ℕ) (own own' : VariableShape) (first k : ℕ) (acts : List Act) : Type 0 where
  pub puts : PutsBefore b own own' (filter (was_put first k) (leaves_of own'.index)) acts
  pub tail : TailGoesOn b now own.vdr own.index own'.index
  pub top : TopGrows own.index own'.index
  pub tops : TopStays own.index own'.index
  pub nodes : NodesSoFar b now own own' (new_ranges (ranges_of own.index) (ranges_of own'.index)) acts

-- ---- the blocks

-- a place is beside each record from a first on up to k in the block of a leaf
abbrev pub Beside : ℕ → ℕ → ℕ → Leaf → ℕ → Type 0
Beside first k size l place = (j : ℕ) → first ≤ j → j < k → l.first ≤ j → j ≤ l.last → (place < record_place l size j) ⊎ (record_place l size j + size ≤ place)

-- A block that was there: records that were put hold what they are to, and each byte beside them stays.
pub record OldBlock (b now : List ℕ) (raw pad : List ℕ) (r first k size : ℕ) (l : Leaf) : Type 0 where
  pub written : (j : ℕ) → first ≤ j → j < k → l.first ≤ j → j ≤ l.last → RecordIs now size l j (record_of raw pad r j)
  pub kept : (place : ℕ) → l.place ≤ place → place < l.place + size_at b l.place → Beside first k size l place → byte now place ≡ byte b place

-- A new block: all its records hold what they are to, and behind them there are bytes 0. None of them is past k, unless r is before k; and where r is before `most`, one past MaxRec, none is past r.
pub record NewBlock (now : List ℕ) (raw pad : List ℕ) (r first most k size : ℕ) (acts : List Act) (l : Leaf) : Type 0 where
  pub from : first ≤ l.first
  pub ends : min (l.last + 1) (r + 1) ≤ k
  pub alone : min l.last most ≤ r
  pub was_taken : is_taken_at acts l.place ≡ true
  pub written : (j : ℕ) → l.first ≤ j → j ≤ l.last → RecordIs now size l j (record_of raw pad r j)
  pub spare : (i : ℕ) → vvr_bytes ((l.last + 1 - l.first) * size) ≤ i → i < size_at now l.place → byte now (l.place + i) ≡ 0

-- From one image to another, by acts, the records from a first on up to k are put, which makes of these leaves those. Where nothing is taken, no byte beside them changes, but for those of some fields.
pub record LeavesGoOn (b now : List ℕ) (leaves leaves' : List Leaf) (raw pad : List ℕ) (r first most k size : ℕ) (acts : List Act) (fields : List Touch) : Type 0 where
  pub longer : length b ≤ length now
  pub stay : (l : Leaf) → IsOneOf leaves l → IsOneOf leaves' l
  pub apart : (l : Leaf) → IsOneOf leaves l → is_taken_at acts l.place ≡ false
  pub old : (l : Leaf) → IsOneOf leaves l → OldBlock b now raw pad r first k size l
  pub new : (l : Leaf) → IsOneOf leaves' l → IsOneOf leaves l ⊎ NewBlock now raw pad r first most k size acts l
  pub has : (j : ℕ) → first ≤ j → j < k → (l : Leaf) × (IsOneOf leaves' l × ((l.first ≤ j) × (j ≤ l.last)))
  pub quiet : ((m : ℕ) → is_taken_at acts m ≡ false) → (place : ℕ) → place < length b → Outside fields place → ((l : Leaf) → IsOneOf leaves' l → Beside first k size l place) → byte now place ≡ byte b place

abbrev pub BlocksSoFar : List ℕ → List ℕ → VariableShape → VariableShape → List ℕ → List ℕ → ℕ → ℕ → ℕ → List Act → List Touch → Type 0
BlocksSoFar b now own own' raw pad r first k acts fields = LeavesGoOn b now (leaves_of own.index) (leaves_of own'.index) raw pad r first (extent (max_rec_at b own.vdr)) k (record_bytes b own.vdr) acts fields

-- ---- together

pub record SoFar (b now : List ℕ) (kind : Kind) (before : List VariableShape) (own own' : VariableShape) (after : List VariableShape) (raw pad : List ℕ) (r k : ℕ) (acts : List Act) : Type 0 where
  pub start : PutStart b kind before own after raw pad r
  pub upto : k ≤ r + 1
  pub goes : GoesOn b now kind before own own' after acts
  pub covers : Covering (variable_of b own) own.index own'.index r k (taken_bytes acts)
  pub takes : OnlyTakes acts
  pub short : length now ≤ image_limit
  pub max_rec_is : number now own.vdr vdr_max_rec ≡ number b own.vdr vdr_max_rec
  pub r_max_rec_is : r_max_rec now ≡ r_max_rec b
  pub index : IndexSoFar b now own own' (first_written (variable_of b own) r) k acts
  pub blocks : BlocksSoFar b now own own' raw pad r (first_written (variable_of b own) r) k acts []

-- ---- at the end

-- MaxRec is raised where r is past it, else nothing is done
abbrev pub MaxRecDone : List ℕ → List ℕ → List ℕ → Kind → VariableShape → VariableShape → ℕ → Type 0
MaxRecDone b now last kind own own' r = ((extent (max_rec_at b own.vdr) ≤ r) × MaxRecRaised now last kind own' r) ⊎ ((r < extent (max_rec_at b own.vdr)) × (last ≡ now))
