-- All records from a first one on go from the index of a variable, of which no block is packed, or of which no packed block is cut in part: what the image has by then (own).
use Rattle.std.specs.Prelude.{◌≡◌, ◌<◌, ◌≤◌, ◌⊎◌, ℕ, max, List, [], length, false, nat_le}
use Rattle.cdf_edits.specs.Commands.Allowances.{Stays}
use Rattle.cdf_edits.specs.Commands.GreatestRecord.{r_max_rec}
use Rattle.cdf_edits.specs.Commands.PutSteps.{Goes, Stage}
use Rattle.cdf_edits.specs.Index.Cut.{CutsIndex, Part}
use Rattle.cdf_edits.specs.Index.Grown.{cut_nodes, kept_open}
use Rattle.cdf_edits.specs.Space.Acts.{Act, gave}
use Rattle.cdf_format.specs.Fields.{number}
use Rattle.cdf_format.specs.Index.{Leaf, leaves_of, nodes_of, room_at}
use Rattle.cdf_format.specs.Records.{vdr_max_rec}
use Rattle.cdf_format.specs.Shape.{Each, VariableShape, is_compressed}
use Rattle.cdf_index.specs.Replacing.{with_index}
use Rattle.cdf_model.specs.DataSet.{Variable}
use Rattle.cdf_model.specs.Limits.{record_number_limit}
use Rattle.cdf_model.specs.declared.kinds.Kind.{Kind}
use Rattle.cdf_puts.specs.Going.{GoesOn, found_in}
use Rattle.cdf_cuts.specs.Planning.{freed_of, opening, plan_of}
use Rattle.cdf_cuts.specs.declared.planning.Span.{Span}

-- what a block keeps: its records before the first one that goes
abbrev pub before_first : ℕ → Part
before_first first = kept_open first record_number_limit

-- the records that go, where the first one may also be past the greatest number of a record
abbrev pub past_span : ℕ → Span
past_span first = opening first (max first record_number_limit)

-- the records that are freed: the blocks by record number, and then the nodes, lower ones first
abbrev pub past_acts : List ℕ → VariableShape → ℕ → List Act
past_acts b own first = gave b (freed_of (plan_of (past_span first) 0 own.index))

-- the variable with the index that is left
abbrev pub cut_off : VariableShape → ℕ → VariableShape
cut_off own first = with_index own (cut_nodes false (before_first first) own.index)

-- an image with the variable, and what was taken and freed for it; a put is to go on with a record
abbrev pub stage : List ℕ → VariableShape → List Act → ℕ → Stage
stage image own acts next = record { image = image; own = own; acts = acts; next = next }

-- An image goes on to one in which the variable has another index, of which these records are gone: only blocks that had one of them change, and MaxRec and rMaxRec are as they were.
pub record CutPast (b now : List ℕ) (kind : Kind) (before : List VariableShape) (own own' : VariableShape) (after : List VariableShape) (first : ℕ) : Type 0 where
  pub loose : is_compressed b own.vdr ≡ false
  pub goes_on : GoesOn b now kind before own own' after (past_acts b own first)
  pub long : length now ≡ length b
  pub cuts : (v : Variable) → CutsIndex v (before_first first) own.index own'.index own'.index (past_acts b own first)
  pub goes : (next : ℕ) → Goes (found_in b kind before own) (stage b own [] next) (stage now own' (past_acts b own first) next) (λ r. nat_le first r.last)
  pub blocks : Each (λ l. l.first < first → Stays b now l.place []) (leaves_of own.index)
  pub max_rec_is : number now own.vdr vdr_max_rec ≡ number b own.vdr vdr_max_rec
  pub r_max_rec_is : r_max_rec now ≡ r_max_rec b

-- a leaf ends before the first record that goes, or it begins with it or behind it
abbrev pub EndsOrGoes : ℕ → Leaf → Type 0
EndsOrGoes first l = (l.last < first) ⊎ (first ≤ l.first)

-- a block is not packed, or it stays whole or goes
abbrev pub PlainOrUncut : ℕ → Leaf → Type 0
PlainOrUncut first l = (l.packed ≡ false) ⊎ EndsOrGoes first l

-- Likewise of any variable of which no packed block is cut in part; what is said of how it is packed stays.
pub record EndCut (b now : List ℕ) (kind : Kind) (before : List VariableShape) (own own' : VariableShape) (after : List VariableShape) (first : ℕ) : Type 0 where
  pub goes_on : GoesOn b now kind before own own' after (past_acts b own first)
  pub long : length now ≡ length b
  pub rooms : Each (λ m. room_at now m ≡ room_at b m) (nodes_of own'.index)
  pub cuts : (v : Variable) → CutsIndex v (before_first first) own.index own'.index own'.index (past_acts b own first)
  pub goes : (next : ℕ) → Goes (found_in b kind before own) (stage b own [] next) (stage now own' (past_acts b own first) next) (λ r. nat_le first r.last)
  pub blocks : Each (λ l. l.first < first → Stays b now l.place []) (leaves_of own.index)
  pub max_rec_is : number now own.vdr vdr_max_rec ≡ number b own.vdr vdr_max_rec
  pub r_max_rec_is : r_max_rec now ≡ r_max_rec b
