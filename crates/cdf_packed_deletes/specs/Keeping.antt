-- A leaf of a packed variable of which some records go and others stay, and its block once it has those that stay alone (own).
use Rattle.std.specs.Prelude.{◌≡◌, ◌≤◌, ◌<◌, ◌⊎◌, ℕ, ◌+◌, ◌-◌, ◌*◌, max, List, [], ◌++◌, length, take, drop, nat_lt, true, if◌then◌else◌, None, Some}
use Rattle.std.specs.declared.option.Option.{Option}
use Rattle.std.specs.List.{flat_map}
use Rattle.cdf_blocks.specs.Blocks.{IsSite}
use Rattle.cdf_blocks.specs.Reading.{block_size}
use Rattle.cdf_blocks.specs.Shortened.{BlockShortened}
use Rattle.cdf_blocks.specs.declared.placing.Site.{Site}
use Rattle.cdf_blocks.specs.declared.sites.SitedLeaf.{SitedLeaf}
use Rattle.cdf_cuts.specs.Closing.{closed, closing_acts}
use Rattle.cdf_cuts.specs.Past.{EndsOrGoes, stage}
use Rattle.cdf_edits.specs.Commands.Deleting.{untouched}
use Rattle.cdf_edits.specs.Commands.GreatestRecord.{r_max_rec}
use Rattle.cdf_edits.specs.Commands.PutSteps.{Goes, Stage}
use Rattle.cdf_edits.specs.Edits.Standing.{IsOneOf, StandsAmong}
use Rattle.cdf_edits.specs.Index.Blocks.{shared}
use Rattle.cdf_edits.specs.Index.Cut.{CutsIndex}
use Rattle.cdf_edits.specs.Index.Grown.{index_cut_closed, kept_closed}
use Rattle.cdf_format.specs.Content.{variable_of}
use Rattle.cdf_format.specs.Fields.{number}
use Rattle.cdf_format.specs.Index.{Leaf, leaves_of}
use Rattle.cdf_format.specs.Records.{linked_size, vdr_max_rec, vvr_bytes}
use Rattle.cdf_format.specs.Shape.{Each, VariableShape, is_compressed}
use Rattle.cdf_format.specs.VariableFields.{record_bytes}
use Rattle.cdf_format.specs.WellFormed.{Good}
use Rattle.cdf_index.specs.Sight.{seen}
use Rattle.cdf_model.specs.DataSet.{Variable}
use Rattle.cdf_model.specs.Limits.{image_limit}
use Rattle.cdf_model.specs.declared.kinds.Kind.{Kind}
use Rattle.cdf_packed_deletes.specs.Closing.{keeping, keeping_room}
use Rattle.cdf_packed_deletes.specs.Steps.{KeepSome, bytes_of_parts, freed_from, parts_kept}
use Rattle.cdf_packed_cuts.specs.Past.{IsSplit}
use Rattle.cdf_put_steps.specs.Along.{GoAlong}
use Rattle.cdf_puts.specs.Going.{GoesOn, found_in}
use Rattle.cdf_puts.specs.SoFar.{taken_bytes}

-- ---- one leaf

-- a leaf has some of the records that go, and others
pub record IsCutIn (first last : ℕ) (l : Leaf) : Type 0 where
  pub reaches : first ≤ l.last
  pub begins : l.first ≤ last
  pub some : (l.first < first) ⊎ (last < l.last)

-- how many of its records stand before those that go and behind them, and the first one that stays
abbrev pub front_count : ℕ → Leaf → ℕ
front_count first l = first - l.first

abbrev pub back_count : ℕ → Leaf → ℕ
back_count last l = l.last - last

abbrev pub first_kept : ℕ → ℕ → Leaf → ℕ
first_kept first last l = if nat_lt l.first first then l.first else last + 1

-- the bytes of these records, of those of all
abbrev pub outer_bytes : ℕ → ℕ → ℕ → Leaf → List ℕ → List ℕ
outer_bytes size first last l plain = take (front_count first l * size) plain ++ drop (length plain - back_count last l * size) plain

-- It is a leaf of a packed variable of a good image, whose records have so many bytes, and this entry names its block; there is room for a new block with all its plain bytes, under a limit.
pub record IsKeptOf (b : List ℕ) (kind : Kind) (before : List VariableShape) (own : VariableShape) (after : List VariableShape) (site : Site) (l : Leaf) (first last size limit : ℕ) : Type 0 where
  pub good : Good b
  pub among : StandsAmong b kind before own after
  pub rle : is_compressed b own.vdr ≡ true
  pub one : IsOneOf (leaves_of own.index) l
  pub cut_in : IsCutIn first last l
  pub order : first ≤ last
  pub site_is : IsSite b own.index site l
  pub size_is : size ≡ record_bytes b own.vdr
  pub room : length b + max linked_size (vvr_bytes (block_size l size)) ≤ limit

-- of some variable
pub record HasKept (b : List ℕ) (site : Site) (l : Leaf) (first last size limit : ℕ) : Type 0 where
  pub kind : Kind
  pub before : List VariableShape
  pub own : VariableShape
  pub after : List VariableShape
  pub is : IsKeptOf b kind before own after site l first last size limit

-- its block has the plain bytes of the records that stay alone, those before the ones that go and then those behind them
pub record PartsLeft (b now : List ℕ) (kind : Kind) (before : List VariableShape) (own : VariableShape) (after : List VariableShape) (old : Leaf) (first last : ℕ) : Type 0 where
  pub new : Leaf
  pub plain : List ℕ
  pub first_is : new.first ≡ first_kept first last old
  pub last_is : new.last + 1 ≡ new.first + (front_count first old + back_count last old)
  pub plain_is : plain ≡ bytes_of_parts b (variable_of b own) own.vdr old (parts_kept true first last old)
  pub long : length plain ≡ (new.last + 1 - new.first) * record_bytes b own.vdr
  pub short : BlockShortened b now kind before own after old new plain

-- ---- the leaf that has a record and the one before it

-- each leaf of an index that keeps some of its records has room for a new block with all its plain bytes
abbrev pub HasKeepingRoom : List ℕ → List Leaf → ℕ → ℕ → ℕ → ℕ → Type 0
HasKeepingRoom b leaves size first last limit = (l : Leaf) → IsOneOf leaves l → IsCutIn first last l → length b + max linked_size (vvr_bytes (block_size l size)) ≤ limit

-- the record is the first one that goes, or the one behind the last
abbrev pub IsEdge : ℕ → ℕ → ℕ → Type 0
IsEdge edge first last = (edge ≡ first) ⊎ (edge ≡ last + 1)

-- its block has the records that stay alone, or no leaf has both, and the image is the same
abbrev pub KeptAt : List ℕ → List ℕ → Kind → List VariableShape → VariableShape → List VariableShape → ℕ → ℕ → ℕ → Option SitedLeaf → Type 0
KeptAt b now kind before own after edge first last None = (now ≡ b) × ((l : Leaf) → IsOneOf (leaves_of own.index) l → EndsOrGoes edge l)
KeptAt b now kind before own after edge first last (Some found) = IsOneOf (leaves_of own.index) (seen found.leaf) × IsCutIn first last (seen found.leaf) × IsSplit edge (seen found.leaf) × PartsLeft b now kind before own after (seen found.leaf) first last

-- the last record of a leaf that has later ones than the last one that goes
abbrev pub later_end : ℕ → Option SitedLeaf → Option ℕ
later_end last None = None
later_end last (Some found) = if nat_lt last found.leaf.last then Some found.leaf.last else None

-- ---- all leaves that keep some of their records

-- a leaf has all of these records alone, or none of them
abbrev pub IsAllOrNone : ℕ → ℕ → Leaf → Type 0
IsAllOrNone first last l = (l.last < first) ⊎ ((last < l.first) ⊎ ((first ≤ l.first) × (l.last ≤ last)))

-- From one good image to another: each of these leaves is given the records that it keeps. From this number on as many as go have no leaf by then, or whole ones.
pub record SomeKept (b now : List ℕ) (kind : Kind) (before : List VariableShape) (own : VariableShape) (after : List VariableShape) (first last from : ℕ) : Type 0 where
  pub stages : List Stage
  pub kept : Stage
  pub keep : KeepSome (found_in b kind before own) true first last (keeping first last (leaves_of own.index)) (untouched b own) stages kept
  pub takes : taken_bytes (flat_map (λ stage. stage.acts) stages) ≤ keeping_room (record_bytes b own.vdr) (keeping first last (leaves_of own.index))
  pub go : GoAlong kind before after (untouched b own) stages
  pub image_is : kept.image ≡ now
  pub good : Good now
  pub among : StandsAmong now kind before kept.own after
  pub vdr_is : kept.own.vdr ≡ own.vdr
  pub small : length now ≤ image_limit
  pub from_is : from ≡ freed_from true first last (leaves_of own.index)
  pub whole : Each (IsAllOrNone from (from + (last - first))) (leaves_of kept.own.index)
  pub max_rec_is : number now own.vdr vdr_max_rec ≡ number b own.vdr vdr_max_rec
  pub r_max_rec_is : r_max_rec now ≡ r_max_rec b

-- ---- whole leaves

-- An image goes on to one in which the leaves of which all records have these numbers are gone from the index, and later records close up; no leaf had only some of these. MaxRec and rMaxRec stay.
pub record WholeClosed (b now : List ℕ) (kind : Kind) (before : List VariableShape) (own : VariableShape) (after : List VariableShape) (first last : ℕ) : Type 0 where
  pub goes_on : GoesOn b now kind before own (closed own first last) after (closing_acts b own first last)
  pub cuts : (v : Variable) → CutsIndex v (kept_closed first last) own.index (index_cut_closed first last own.index) (closed own first last).index (closing_acts b own first last)
  pub goes : (next : ℕ) → Goes (found_in b kind before own) (stage b own [] next) (stage now (closed own first last) (closing_acts b own first last) next) (λ r. nat_lt 0 (shared first last r))
  pub max_rec_is : number now own.vdr vdr_max_rec ≡ number b own.vdr vdr_max_rec
  pub r_max_rec_is : r_max_rec now ≡ r_max_rec b
