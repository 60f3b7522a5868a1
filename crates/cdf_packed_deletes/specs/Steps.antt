-- Records go from a packed variable, step by step (CDF Internal Format Description, "Variable Index Record", "Compressed Variable Values Record"; own: a block that keeps some of its records gets these alone first, in the order of record numbers; then the blocks of which all records go are cut out of the index, and last what is split off gets a new block).
use Rattle.std.specs.Prelude.{◌≡◌, ℕ, ◌+◌, ◌-◌, ◌*◌, List, [], ◌∷◌, ◌++◌, length, map, take, drop, Bool, true, false, ◌&&◌, ◌==◌, nat_lt, find, if◌then◌else◌, Some, None}
use Rattle.std.specs.List.{filter, flat_map, sum}
use Rattle.std.specs.declared.option.Option.{Option}
use Rattle.cdf_blocks.specs.Shortened.{shortening_acts, with_range}
use Rattle.cdf_edits.specs.Commands.Deleting.{untouched}
use Rattle.cdf_edits.specs.Commands.GreatestRecord.{RMaxRecFollows}
use Rattle.cdf_edits.specs.Commands.PutSteps.{BlockWritten, Goes, Stage, leaf_step}
use Rattle.cdf_edits.specs.Commands.Puts.{max_rec_touches}
use Rattle.cdf_edits.specs.Commands.Room.{range_bytes}
use Rattle.cdf_edits.specs.Edits.Standing.{IsOneOf}
use Rattle.cdf_edits.specs.Frame.Changed.{Changed}
use Rattle.cdf_edits.specs.Index.Blocks.{Range, extent_after, left_of, range, record_length, shared}
use Rattle.cdf_edits.specs.Index.Cut.{CutsIndex}
use Rattle.cdf_edits.specs.Index.Grown.{index_cut_closed, index_cut_open, kept_closed, kept_open, split_off}
use Rattle.cdf_edits.specs.Index.Written.{stays_put}
use Rattle.cdf_edits.specs.Space.Acts.{Act, taken}
use Rattle.cdf_format.specs.Content.{plain_bytes}
use Rattle.cdf_format.specs.Index.{Leaf, Nodes, leaves_of}
use Rattle.cdf_format.specs.Shape.{VariableShape}
use Rattle.cdf_format.specs.VariableFields.{max_rec_at, records_of_leaf}
use Rattle.cdf_model.specs.DataSet.{Variable, extent}
use Rattle.cdf_model.specs.Limits.{record_number_limit}
use Rattle.cdf_model.specs.Names.{Found}

-- ---- what a block keeps

-- Of the records of a leaf those before the ones that go stay in its block, and those behind them too where later ones close up, or where none is before.
abbrev pub parts_kept : Bool → ℕ → ℕ → Leaf → List Range
parts_kept closes first last l = if closes then left_of first last (range l.first l.last) else kept_open first last (range l.first l.last)

-- how many records these ranges have
abbrev pub count_of : List Range → ℕ
count_of ranges = sum (map (λ r. r.last + 1 - r.first) ranges)

-- it keeps some of its records, and others go
abbrev pub keeps_some : Bool → ℕ → ℕ → Leaf → Bool
keeps_some closes first last l = nat_lt 0 (count_of (parts_kept closes first last l)) && nat_lt (count_of (parts_kept closes first last l)) (records_of_leaf l)

-- the plain bytes that it has of these ranges, one behind the other
abbrev pub bytes_of_parts : List ℕ → Variable → ℕ → Leaf → List Range → List ℕ
bytes_of_parts b v vdr l ranges = flat_map (λ r. take (range_bytes v r) (drop ((r.first - l.first) * record_length v) (plain_bytes b vdr l))) ranges

-- One leaf keeps some of its records in its block, which has the numbers from the first of them on: in its record where it can, or it is placed anew and the old record freed. All else stays.
pub record KeepsSome (found : Found) (closes : Bool) (first last : ℕ) (old : Leaf) (from to : Stage) : Type 0 where
  pub new : Leaf
  pub one : IsOneOf (leaves_of from.own.index) old
  pub first_is : map (λ r. r.first) (take 1 (parts_kept closes first last old)) ≡ new.first ∷ []
  pub last_is : new.last + 1 ≡ new.first + count_of (parts_kept closes first last old)
  pub index_is : to.own.index ≡ with_range old.first new from.own.index
  pub acts_are : to.acts ≡ shortening_acts from.image to.image from.own.vdr old new
  pub place_is : stays_put from.image to.image true from.own.vdr old new ≡ true → new.place ≡ old.place
  pub written : BlockWritten from.image to.image true from.own.vdr to.acts new (bytes_of_parts from.image found.variable from.own.vdr old (parts_kept closes first last old))
  pub goes : Goes found from to (λ r. r.first == old.first)
  pub next_is : to.next ≡ from.next

-- each of these leaves, one after the other
abbrev pub KeepSome : Found → Bool → ℕ → ℕ → List Leaf → Stage → List Stage → Stage → Type 0
KeepSome found closes first last [] from [] to = from ≡ to
KeepSome found closes first last [] from (next ∷ more) to = ⊥
KeepSome found closes first last (old ∷ leaves) from [] to = ⊥
KeepSome found closes first last (old ∷ leaves) from (next ∷ more) to = KeepsSome found closes first last old from next × KeepSome found closes first last leaves next more to

-- ---- what goes whole

-- the leaf that has records on both sides of those that go
abbrev pub with_both : ℕ → ℕ → List Leaf → Option Leaf
with_both first last leaves = find (λ l. nat_lt l.first first && nat_lt last l.last) leaves

-- A leaf that keeps records on both sides of those that go ends before as many numbers as go, which no leaf has any more; else they are those that go.
abbrev pub freed_from : Bool → ℕ → ℕ → List Leaf → ℕ
freed_from closes first last leaves = if closes then (elim (with_both first last leaves) [ None ↦ first | Some l ↦ l.last - (last - first) ]) else first

abbrev pub index_without : Bool → ℕ → ℕ → Nodes → Nodes
index_without closes first last before = if closes then index_cut_closed first last before else index_cut_open first last before

-- The leaves of which all records have these numbers go from the index, and later ones close up or keep their numbers. No other leaf has one of them.
pub record CutsWhole (found : Found) (closes : Bool) (first last : ℕ) (from to : Stage) : Type 0 where
  pub index : CutsIndex found.variable (if closes then kept_closed first last else kept_open first last) from.own.index (index_without closes first last from.own.index) to.own.index to.acts
  pub takes_none : taken to.acts ≡ []
  pub goes : Goes found from to (λ r. nat_lt 0 (shared first last r))
  pub next_is : to.next ≡ from.next

-- ---- what is split off

-- the records of a leaf behind those that go get a new block where others before them stay in theirs
pub record SplitsOff (found : Found) (old : Leaf) (part : Range) (plain : List ℕ) (from to : Stage) : Type 0 where
  pub new : Leaf
  pub at : ℕ
  pub range_is : range new.first new.last ≡ part
  pub step : (to.own.index, to.acts) ≡ leaf_step from.image to.image true from.own.vdr from.own.index None new at
  pub written : BlockWritten from.image to.image true from.own.vdr to.acts new plain
  pub goes : Goes found from to (λ r. false)
  pub next_is : to.next ≡ from.next

-- ---- the command without a rule

-- The records go, and later ones close up. Then MaxRec is written, and rMaxRec follows.
pub record ClosesBySteps (b now : List ℕ) (found : Found) (first last : ℕ) (before after : VariableShape) (acts : List Act) : Type 0 where
  pub stages : List Stage
  pub kept : Stage
  pub left : Stage
  pub keep : KeepSome found true first last (filter (keeps_some true first last) (leaves_of before.index)) (untouched b before) stages kept
  pub cuts : CutsWhole found true (freed_from true first last (leaves_of before.index)) (freed_from true first last (leaves_of before.index) + (last - first)) kept left
  pub acts_are : acts ≡ flat_map (λ stage. stage.acts) stages ++ left.acts
  pub stands : after ≡ left.own
  pub changed : Changed left.image now (max_rec_touches left.image found.kind left.own.vdr)
  pub as_long : length now ≡ length left.image
  pub max_rec_is : extent (max_rec_at now after.vdr) ≡ extent_after found.variable first last
  pub r_max_rec : RMaxRecFollows b now

-- ---- a cut after which later records keep their numbers

-- what is split off gets its block last
abbrev pub SplitLast : Found → ℕ → ℕ → List ℕ → VariableShape → Option Leaf → Stage → Stage → Type 0
SplitLast found first last b own None from to = from ≡ to
SplitLast found first last b own (Some old) from to = SplitsOff found old (range (last + 1) old.last) (bytes_of_parts b found.variable own.vdr old (split_off first last (range old.first old.last))) from to

-- The records go, and later ones keep their numbers.
pub record OpensBySteps (found : Found) (first last : ℕ) (from to : Stage) : Type 0 where
  pub stages : List Stage
  pub kept : Stage
  pub left : Stage
  pub end : Stage
  pub keep : KeepSome found false first last (filter (keeps_some false first last) (leaves_of from.own.index)) (untouched from.image from.own) stages kept
  pub cuts : CutsWhole found false first last kept left
  pub splits : SplitLast found first last from.image from.own (with_both first last (leaves_of from.own.index)) left end
  pub image_is : to.image ≡ end.image
  pub own_is : to.own ≡ end.own
  pub acts_are : to.acts ≡ flat_map (λ stage. stage.acts) stages ++ left.acts ++ (elim (with_both first last (leaves_of from.own.index)) [ None ↦ [] | Some l ↦ end.acts ])

-- ---- the command under a rule

-- The records go, and then what is past the new MaxRec. Then MaxRec is written, and rMaxRec follows.
pub record OpensTwice (b now : List ℕ) (found : Found) (first last : ℕ) (before after : VariableShape) (acts : List Act) : Type 0 where
  pub cut : Stage
  pub left : Stage
  pub cuts : OpensBySteps found first last (untouched b before) cut
  pub cuts_past : OpensBySteps found (extent_after found.variable first last) record_number_limit cut left
  pub acts_are : acts ≡ cut.acts ++ left.acts
  pub stands : after ≡ left.own
  pub changed : Changed left.image now (max_rec_touches left.image found.kind left.own.vdr)
  pub as_long : length now ≡ length left.image
  pub max_rec_is : extent (max_rec_at now after.vdr) ≡ extent_after found.variable first last
  pub r_max_rec : RMaxRecFollows b now
