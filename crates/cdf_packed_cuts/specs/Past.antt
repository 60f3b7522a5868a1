-- All records from a first one on go from a packed variable: what the image has by then (own).
use Rattle.std.specs.Prelude.{◌≡◌, ◌<◌, ◌≤◌, ℕ, ◌+◌, ◌-◌, ◌*◌, max, List, [], length, nat_lt, None}
use Rattle.std.specs.List.{filter}
use Rattle.cdf_edits.specs.Commands.Allowances.{Stays}
use Rattle.cdf_edits.specs.Commands.GreatestRecord.{r_max_rec}
use Rattle.cdf_edits.specs.Commands.PutSteps.{CutsPast}
use Rattle.cdf_edits.specs.Edits.Standing.{IsOneOf}
use Rattle.cdf_edits.specs.Index.Written.{stored_bytes}
use Rattle.cdf_edits.specs.Space.Acts.{Act}
use Rattle.cdf_format.specs.Content.{content, variable_of}
use Rattle.cdf_format.specs.Fields.{number}
use Rattle.cdf_format.specs.Index.{Leaf, leaves_of}
use Rattle.cdf_format.specs.Records.{linked_size, vdr_max_rec, vvr_bytes}
use Rattle.cdf_format.specs.Shape.{Each, VariableShape}
use Rattle.cdf_format.specs.VariableFields.{max_rec_at, record_bytes}
use Rattle.cdf_model.specs.DataSet.{Variable, extent}
use Rattle.cdf_model.specs.VariableSteps.{with_variable}
use Rattle.cdf_model.specs.declared.kinds.Kind.{Kind}
use Rattle.cdf_puts.specs.Going.{GoesOn, found_in}
use Rattle.cdf_puts.specs.SoFar.{taken_bytes}
use Rattle.cdf_cuts.specs.Past.{stage}

-- a leaf has records before the first one that goes, and this one too
pub record IsSplit (first : ℕ) (l : Leaf) : Type 0 where
  pub before : l.first < first
  pub behind : first ≤ l.last

-- of such a leaf there is room for a new block with all its plain bytes, under a limit
abbrev pub HasRoom : List ℕ → List Leaf → ℕ → ℕ → ℕ → Type 0
HasRoom b leaves size first limit = (l : Leaf) → IsOneOf leaves l → IsSplit first l → length b + max linked_size (vvr_bytes ((l.last + 1 - l.first) * size)) ≤ limit

-- of each such leaf the record of a block with all its plain bytes is within this room
abbrev pub SplitsWithin : List Leaf → ℕ → ℕ → ℕ → Type 0
SplitsWithin leaves size first room = (l : Leaf) → IsOneOf leaves l → IsSplit first l → max linked_size (vvr_bytes ((l.last + 1 - l.first) * size)) ≤ room

-- ---- the records that are left

-- records by their numbers, without those from a first one on
abbrev pub records_before : ℕ → List (ℕ × List ℕ) → List (ℕ × List ℕ)
records_before first recs = filter (λ pair. nat_lt pair.0 first) recs

-- a variable with these of its records alone; its greatest record number is what it was
abbrev pub cut_records : Variable → ℕ → Variable
cut_records v first = record v { recs = records_before first v.recs }

-- what is stored of a record before the first one that goes stays, of a later one nothing is
pub record StoredBefore (b now : List ℕ) (own own' : VariableShape) (first : ℕ) : Type 0 where
  pub front : (k : ℕ) → k < first → stored_bytes now own'.vdr (record_bytes b own.vdr) (leaves_of own'.index) k ≡ stored_bytes b own.vdr (record_bytes b own.vdr) (leaves_of own.index) k
  pub gone : (k : ℕ) → first ≤ k → stored_bytes now own'.vdr (record_bytes b own.vdr) (leaves_of own'.index) k ≡ None

-- ---- the image

-- From one good image to another. What is past MaxRec is cut as a put under a rule does first, where the first record that goes is the one behind it. The blocks that end before it stay, and MaxRec and rMaxRec. The content is what it was, but for the records of the variable that went. What is taken is within the room of a block that is cut in part.
pub record PackedPast (b now : List ℕ) (kind : Kind) (before : List VariableShape) (own : VariableShape) (after : List VariableShape) (first : ℕ) : Type 0 where
  pub own' : VariableShape
  pub acts : List Act
  pub goes_on : GoesOn b now kind before own own' after acts
  pub steps : first ≡ extent (max_rec_at b own.vdr) → (next : ℕ) → CutsPast (found_in b kind before own) (stage b own [] next) (stage now own' acts next)
  pub blocks : Each (λ l. l.last < first → Stays b now l.place []) (leaves_of own.index)
  pub stored : StoredBefore b now own own' first
  pub variable_is : variable_of now own' ≡ cut_records (variable_of b own) first
  pub content_is : content now ≡ with_variable (content b) (found_in b kind before own) (cut_records (variable_of b own) first)
  pub max_rec_is : number now own.vdr vdr_max_rec ≡ number b own.vdr vdr_max_rec
  pub r_max_rec_is : r_max_rec now ≡ r_max_rec b
  pub fits : (room : ℕ) → SplitsWithin (leaves_of own.index) (record_bytes b own.vdr) first room → taken_bytes acts ≤ room
  pub longer : length now ≤ length b + taken_bytes acts
