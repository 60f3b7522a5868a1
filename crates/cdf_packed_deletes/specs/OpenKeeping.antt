-- A leaf of a packed variable of which some records go and others stay, and its block once it has those that stay in it, where later records keep their numbers; and the leaves of which all records go (own).
use Rattle.std.specs.Prelude.{◌≡◌, ◌≤◌, ◌<◌, ◌⊎◌, ℕ, ◌+◌, ◌-◌, ◌*◌, max, List, [], length, take, drop, nat_lt, true, false, if◌then◌else◌, None, Some}
use Rattle.std.specs.declared.option.Option.{Option}
use Rattle.std.specs.List.{flat_map}
use Rattle.cdf_blocks.specs.Blocks.{IsSite}
use Rattle.cdf_blocks.specs.Shortened.{BlockShortened, with_range}
use Rattle.cdf_blocks.specs.declared.placing.Site.{Site}
use Rattle.cdf_cuts.specs.Past.{EndsOrGoes, stage}
use Rattle.cdf_cuts.specs.Planning.{freed_of, opening, plan_of}
use Rattle.cdf_edits.specs.Commands.Deleting.{untouched}
use Rattle.cdf_edits.specs.Commands.GreatestRecord.{r_max_rec}
use Rattle.cdf_edits.specs.Commands.PutSteps.{Goes, Stage}
use Rattle.cdf_edits.specs.Commands.Room.{widest}
use Rattle.cdf_edits.specs.Edits.Standing.{IsOneOf, StandsAmong}
use Rattle.cdf_edits.specs.Index.Blocks.{range, shared}
use Rattle.cdf_edits.specs.Index.Cut.{CutsIndex}
use Rattle.cdf_edits.specs.Index.Grown.{cut_nodes, index_cut_open, kept_open, split_off}
use Rattle.cdf_edits.specs.Space.Acts.{Act, gave}
use Rattle.cdf_format.specs.Content.{variable_of}
use Rattle.cdf_format.specs.Fields.{number}
use Rattle.cdf_format.specs.Index.{Leaf, leaves_of}
use Rattle.cdf_format.specs.Records.{linked_size, vdr_max_rec, vvr_bytes, vxr_bytes}
use Rattle.cdf_format.specs.Shape.{Each, VariableShape, is_compressed}
use Rattle.cdf_format.specs.VariableFields.{record_bytes}
use Rattle.cdf_format.specs.WellFormed.{Good}
use Rattle.cdf_index.specs.Replacing.{with_index}
use Rattle.cdf_model.specs.DataSet.{Variable}
use Rattle.cdf_model.specs.Limits.{image_limit}
use Rattle.cdf_model.specs.declared.kinds.Kind.{Kind}
use Rattle.cdf_packed_cuts.specs.Past.{IsSplit}
use Rattle.cdf_packed_deletes.specs.Keeping.{IsAllOrNone, IsCutIn, first_kept}
use Rattle.cdf_packed_deletes.specs.Opening.{kept_room, keeping_open, keeping_open_room}
use Rattle.cdf_packed_deletes.specs.Steps.{KeepSome, bytes_of_parts, parts_kept, with_both}
use Rattle.cdf_packed_deletes.specs.declared.opening.Later.{Later}
use Rattle.cdf_put_steps.specs.Along.{GoAlong}
use Rattle.cdf_puts.specs.Going.{GoesOn, found_in}
use Rattle.cdf_puts.specs.SoFar.{taken_bytes}
use Rattle.cdf_puts.specs.Steps.{IsVacant}

-- ---- one leaf

-- the last record that stays in its block, and the bytes of some records of the leaf, of those of all
abbrev pub last_open : ℕ → ℕ → Leaf → ℕ
last_open first last l = if nat_lt l.first first then first - 1 else l.last

abbrev pub part_bytes : ℕ → Leaf → ℕ → ℕ → List ℕ → List ℕ
part_bytes size l f e plain = take ((e + 1 - f) * size) (drop ((f - l.first) * size) plain)

-- it has records on both sides of those that go
abbrev pub HasBoth : ℕ → ℕ → Leaf → Type 0
HasBoth first last l = (l.first < first) × (last < l.last)

-- what is to be split off of it: the records behind those that go, where others before them stay
abbrev pub IsLaterPart : ℕ → ℕ → ℕ → Leaf → List ℕ → Option Later → Type 0
IsLaterPart size first last l plain None = HasBoth first last l → ⊥
IsLaterPart size first last l plain (Some later) = HasBoth first last l × (later.last ≡ l.last) × (later.plain.items ≡ part_bytes size l (last + 1) l.last plain)

-- It is a leaf of a packed variable of a good image, whose records have so many bytes, and this entry names its block; there is room for a new block with the plain bytes that it keeps, under a limit.
pub record IsOpenOf (b : List ℕ) (kind : Kind) (before : List VariableShape) (own : VariableShape) (after : List VariableShape) (site : Site) (l : Leaf) (first last size limit : ℕ) : Type 0 where
  pub good : Good b
  pub among : StandsAmong b kind before own after
  pub rle : is_compressed b own.vdr ≡ true
  pub one : IsOneOf (leaves_of own.index) l
  pub cut_in : IsCutIn first last l
  pub order : first ≤ last
  pub site_is : IsSite b own.index site l
  pub size_is : size ≡ record_bytes b own.vdr
  pub room : length b + kept_room size first last l ≤ limit

-- of some variable
pub record HasOpen (b : List ℕ) (site : Site) (l : Leaf) (first last size limit : ℕ) : Type 0 where
  pub kind : Kind
  pub before : List VariableShape
  pub own : VariableShape
  pub after : List VariableShape
  pub is : IsOpenOf b kind before own after site l first last size limit

-- its block has the plain bytes of the records that stay in it alone
pub record PartOpened (b now : List ℕ) (kind : Kind) (before : List VariableShape) (own : VariableShape) (after : List VariableShape) (old : Leaf) (first last : ℕ) : Type 0 where
  pub new : Leaf
  pub plain : List ℕ
  pub first_is : new.first ≡ first_kept first last old
  pub last_is : new.last ≡ last_open first last old
  pub plain_is : plain ≡ bytes_of_parts b (variable_of b own) own.vdr old (parts_kept false first last old)
  pub long : length plain ≡ (new.last + 1 - new.first) * record_bytes b own.vdr
  pub short : BlockShortened b now kind before own after old new plain

-- what is to be split off of a leaf of an image
abbrev pub IsSplitOff : List ℕ → VariableShape → Leaf → ℕ → ℕ → Option Later → Type 0
IsSplitOff b own l first last None = HasBoth first last l → ⊥
IsSplitOff b own l first last (Some later) = HasBoth first last l × (later.last ≡ l.last) × (later.plain.items ≡ bytes_of_parts b (variable_of b own) own.vdr l (split_off first last (range l.first l.last)))

-- both
pub record Opened (b now : List ℕ) (kind : Kind) (before : List VariableShape) (own : VariableShape) (after : List VariableShape) (l : Leaf) (first last : ℕ) (later : Option Later) : Type 0 where
  pub part : PartOpened b now kind before own after l first last
  pub split : IsSplitOff b own l first last later

-- ---- the leaf that has a record and the one before it

-- each leaf of an index that keeps some of its records has room for a new block with their plain bytes
abbrev pub HasOpenRoom : List ℕ → List Leaf → ℕ → ℕ → ℕ → ℕ → Type 0
HasOpenRoom b leaves size first last limit = (l : Leaf) → IsOneOf leaves l → IsCutIn first last l → length b + kept_room size first last l ≤ limit

-- its block has the records that stay in it alone
pub record EdgeOpened (b now : List ℕ) (kind : Kind) (before : List VariableShape) (own : VariableShape) (after : List VariableShape) (edge first last : ℕ) (later : Option Later) : Type 0 where
  pub leaf : Leaf
  pub one : IsOneOf (leaves_of own.index) leaf
  pub cut_in : IsCutIn first last leaf
  pub split : IsSplit edge leaf
  pub opened : Opened b now kind before own after leaf first last later

-- no leaf has both, and the image is the same
pub record NoEdge (b now : List ℕ) (own : VariableShape) (edge : ℕ) (later : Option Later) : Type 0 where
  pub same : now ≡ b
  pub none : (l : Leaf) → IsOneOf (leaves_of own.index) l → EndsOrGoes edge l
  pub none_later : later ≡ None

abbrev pub OpenedAt : List ℕ → List ℕ → Kind → List VariableShape → VariableShape → List VariableShape → ℕ → ℕ → ℕ → Option Later → Type 0
OpenedAt b now kind before own after edge first last later = NoEdge b now own edge later ⊎ EdgeOpened b now kind before own after edge first last later

-- ---- all leaves that keep some of their records

-- what is to be split off of a leaf with records on both sides, which by now has those before alone
pub record SplitsLater (b : List ℕ) (own own' : VariableShape) (first last : ℕ) (later : Later) : Type 0 where
  pub old : Leaf
  pub both_is : with_both first last (leaves_of own.index) ≡ Some old
  pub last_is : later.last ≡ old.last
  pub plain_is : later.plain.items ≡ bytes_of_parts b (variable_of b own) own.vdr old (split_off first last (range old.first old.last))
  pub new : Leaf
  pub first_is : new.first ≡ old.first
  pub index_is : own'.index ≡ with_range old.first new own.index
  pub aside : (m : Leaf) → IsOneOf (leaves_of own'.index) m → (m.last < first) ⊎ (old.last < m.first)

abbrev pub LaterIs : List ℕ → VariableShape → VariableShape → ℕ → ℕ → Option Later → Type 0
LaterIs b own own' first last None = with_both first last (leaves_of own.index) ≡ None
LaterIs b own own' first last (Some later) = SplitsLater b own own' first last later

-- From one good image to another: each of these leaves is given the records that it keeps. Then each has all of the records that go alone, or none of them.
pub record SomeOpened (b now : List ℕ) (kind : Kind) (before : List VariableShape) (own : VariableShape) (after : List VariableShape) (first last : ℕ) (later : Option Later) : Type 0 where
  pub stages : List Stage
  pub kept : Stage
  pub keep : KeepSome (found_in b kind before own) false first last (keeping_open first last (leaves_of own.index)) (untouched b own) stages kept
  pub takes : taken_bytes (flat_map (λ stage. stage.acts) stages) ≤ keeping_open_room (record_bytes b own.vdr) first last (keeping_open first last (leaves_of own.index))
  pub longer : length now ≤ length b + keeping_open_room (record_bytes b own.vdr) first last (keeping_open first last (leaves_of own.index))
  pub go : GoAlong kind before after (untouched b own) stages
  pub image_is : kept.image ≡ now
  pub good : Good now
  pub among : StandsAmong now kind before kept.own after
  pub vdr_is : kept.own.vdr ≡ own.vdr
  pub small : length now ≤ image_limit
  pub size_is : record_bytes now kept.own.vdr ≡ record_bytes b own.vdr
  pub whole : Each (IsAllOrNone first last) (leaves_of kept.own.index)
  pub later_is : LaterIs b own kept.own first last later
  pub max_rec_is : number now own.vdr vdr_max_rec ≡ number b own.vdr vdr_max_rec
  pub r_max_rec_is : r_max_rec now ≡ r_max_rec b

-- ---- whole leaves

-- the variable with the index that is left
abbrev pub opened_up : VariableShape → ℕ → ℕ → VariableShape
opened_up own first last = with_index own (cut_nodes false (kept_open first last) own.index)

-- the records that are freed: the blocks by record number, and then the nodes, lower ones first
abbrev pub freed_opening : VariableShape → ℕ → ℕ → List ℕ
freed_opening own first last = freed_of (plan_of (opening first last) 0 own.index)

abbrev pub opening_acts : List ℕ → VariableShape → ℕ → ℕ → List Act
opening_acts b own first last = gave b (freed_opening own first last)

-- An image goes on to one in which the leaves of which all records have these numbers are gone from the index, and later records keep theirs; no leaf had only some of these. MaxRec and rMaxRec stay.
pub record WholeOpened (b now : List ℕ) (kind : Kind) (before : List VariableShape) (own : VariableShape) (after : List VariableShape) (first last : ℕ) : Type 0 where
  pub goes_on : GoesOn b now kind before own (opened_up own first last) after (opening_acts b own first last)
  pub long : length now ≡ length b
  pub cuts : (v : Variable) → CutsIndex v (kept_open first last) own.index (index_cut_open first last own.index) (opened_up own first last).index (opening_acts b own first last)
  pub goes : (next : ℕ) → Goes (found_in b kind before own) (stage b own [] next) (stage now (opened_up own first last) (opening_acts b own first last) next) (λ r. nat_lt 0 (shared first last r))
  pub max_rec_is : number now own.vdr vdr_max_rec ≡ number b own.vdr vdr_max_rec
  pub r_max_rec_is : r_max_rec now ≡ r_max_rec b

-- ---- what is split off

-- Records of a packed variable of a good image, behind those that went, of which the first one has no leaf and none of the others begins one, and their plain bytes; under a limit there is room for their block and a node.
pub record IsLater (b : List ℕ) (kind : Kind) (before : List VariableShape) (own : VariableShape) (after : List VariableShape) (vdr last : ℕ) (later : Later) (limit : ℕ) : Type 0 where
  pub good : Good b
  pub among : StandsAmong b kind before own after
  pub rle : is_compressed b own.vdr ≡ true
  pub vdr_is : own.vdr ≡ vdr
  pub vacant : IsVacant own (last + 1) later.last
  pub as_long : length later.plain.items ≡ (later.last + 1 - (last + 1)) * record_bytes b own.vdr
  pub room : length b + max linked_size (vvr_bytes (length later.plain.items)) + vxr_bytes (widest own.index) ≤ limit

-- of some variable
pub record HasLater (b : List ℕ) (vdr last : ℕ) (later : Later) (limit : ℕ) : Type 0 where
  pub kind : Kind
  pub before : List VariableShape
  pub own : VariableShape
  pub after : List VariableShape
  pub is_later : IsLater b kind before own after vdr last later limit
