-- The leaf of a packed variable that has the record before a first one and this one too, and its block once it has the records before this one alone (own).
use Rattle.std.specs.Prelude.{◌≡◌, ◌≤◌, ◌⊎◌, ℕ, ◌+◌, ◌-◌, ◌*◌, max, List, length, take, true, None, Some}
use Rattle.std.specs.declared.option.Option.{Option}
use Rattle.cdf_edits.specs.Edits.Standing.{IsOneOf, StandsAmong}
use Rattle.cdf_format.specs.Content.{plain_bytes}
use Rattle.cdf_format.specs.Index.{Leaf, Nodes, leaves_of}
use Rattle.cdf_format.specs.Records.{linked_size, vvr_bytes}
use Rattle.cdf_format.specs.Shape.{VariableShape, is_compressed}
use Rattle.cdf_format.specs.VariableFields.{record_bytes}
use Rattle.cdf_format.specs.WellFormed.{Good}
use Rattle.cdf_index.specs.Sight.{seen}
use Rattle.cdf_model.specs.declared.kinds.Kind.{Kind}
use Rattle.cdf_blocks.specs.Blocks.{IsSite}
use Rattle.cdf_blocks.specs.Shortened.{BlockShortened}
use Rattle.cdf_blocks.specs.declared.placing.Site.{Site}
use Rattle.cdf_blocks.specs.declared.sites.SitedLeaf.{SitedLeaf}
use Rattle.cdf_cuts.specs.Past.{EndsOrGoes}
use Rattle.cdf_packed_cuts.specs.Past.{IsSplit}

-- the leaf of an index that has both records, and the entry that names its block; or none has both
abbrev pub SplitIs : List ℕ → Nodes → ℕ → Option SitedLeaf → Type 0
SplitIs b index first None = (l : Leaf) → IsOneOf (leaves_of index) l → EndsOrGoes first l
SplitIs b index first (Some found) = IsOneOf (leaves_of index) (seen found.leaf) × IsSplit first (seen found.leaf) × IsSite b index found.site (seen found.leaf)

-- It is a leaf of a packed variable of a good image, whose records have so many bytes; there is room for a new block with all its plain bytes, under a limit.
pub record IsSplitOf (b : List ℕ) (kind : Kind) (before : List VariableShape) (own : VariableShape) (after : List VariableShape) (site : Site) (l : Leaf) (first size limit : ℕ) : Type 0 where
  pub good : Good b
  pub among : StandsAmong b kind before own after
  pub rle : is_compressed b own.vdr ≡ true
  pub one : IsOneOf (leaves_of own.index) l
  pub split : IsSplit first l
  pub site_is : IsSite b own.index site l
  pub size_is : size ≡ record_bytes b own.vdr
  pub room : length b + max linked_size (vvr_bytes ((l.last + 1 - l.first) * size)) ≤ limit

-- of some variable
pub record HasSplit (b : List ℕ) (site : Site) (l : Leaf) (first size limit : ℕ) : Type 0 where
  pub kind : Kind
  pub before : List VariableShape
  pub own : VariableShape
  pub after : List VariableShape
  pub is : IsSplitOf b kind before own after site l first size limit

-- its block has the plain bytes of the records before the first one alone
pub record FrontLeft (b mid : List ℕ) (kind : Kind) (before : List VariableShape) (own : VariableShape) (after : List VariableShape) (old : Leaf) (first : ℕ) : Type 0 where
  pub new : Leaf
  pub plain : List ℕ
  pub first_is : new.first ≡ old.first
  pub last_is : new.last + 1 ≡ first
  pub plain_is : plain ≡ take ((new.last + 1 - new.first) * record_bytes b own.vdr) (plain_bytes b own.vdr old)
  pub long : length plain ≡ (new.last + 1 - new.first) * record_bytes b own.vdr
  pub short : BlockShortened b mid kind before own after old new plain

-- Of a leaf that has both records the block has those before the first one alone by now; or no leaf has both, and the image is the same.
pub record LeafSplit (b mid : List ℕ) (kind : Kind) (before : List VariableShape) (own : VariableShape) (after : List VariableShape) (first : ℕ) : Type 0 where
  pub old : Leaf
  pub one : IsOneOf (leaves_of own.index) old
  pub split : IsSplit first old
  pub front : FrontLeft b mid kind before own after old first

abbrev pub FrontKept : List ℕ → List ℕ → Kind → List VariableShape → VariableShape → List VariableShape → ℕ → Type 0
FrontKept b mid kind before own after first = ((mid ≡ b) × ((l : Leaf) → IsOneOf (leaves_of own.index) l → EndsOrGoes first l)) ⊎ LeafSplit b mid kind before own after first
