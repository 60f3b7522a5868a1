-- A new block of a packed variable, for records that no leaf has: where it may stand, and what it leaves (own).
use Rattle.std.specs.Prelude.{◌≡◌, ◌≤◌, ℕ, ◌+◌, ◌-◌, ◌*◌, max, List, [], length, Bool, true, None}
use Rattle.cdf_edits.specs.Commands.Allowances.{Stays}
use Rattle.cdf_edits.specs.Commands.GreatestRecord.{r_max_rec}
use Rattle.cdf_edits.specs.Commands.PutSteps.{BlockWritten, Goes, leaf_step}
use Rattle.cdf_edits.specs.Commands.Room.{widest}
use Rattle.cdf_edits.specs.Edits.Standing.{IsOneOf, StandsAmong}
use Rattle.cdf_edits.specs.Index.Blocks.{Range}
use Rattle.cdf_edits.specs.Index.Written.{block_need}
use Rattle.cdf_edits.specs.Space.Acts.{Act}
use Rattle.cdf_format.specs.Fields.{number}
use Rattle.cdf_format.specs.Index.{Leaf, leaves_of}
use Rattle.cdf_format.specs.Records.{linked_size, vdr_max_rec, vdr_vxr_head, vvr_bytes, vxr_bytes}
use Rattle.cdf_format.specs.Shape.{Each, VariableShape, is_compressed}
use Rattle.cdf_format.specs.VariableFields.{record_bytes}
use Rattle.cdf_format.specs.WellFormed.{Good}
use Rattle.cdf_index.specs.Starting.{IsStart}
use Rattle.cdf_model.specs.declared.kinds.Kind.{Kind}
use Rattle.cdf_puts.specs.Going.{GoesOn, found_in}
use Rattle.cdf_puts.specs.Steps.{IsVacant}
use Rattle.cdf_blocks.specs.Blocks.{StoredAs}
use Rattle.cdf_blocks.specs.Replaced.{stage}
use Rattle.cdf_packed_puts.specs.declared.adding.Vacancy.{Vacancy}

-- Records of a packed variable of a good image of which the first one has no leaf and none of the others begins one, and as many plain bytes as they have; under a limit there is room for their block and a node.
pub record IsVacancy (b : List ℕ) (kind : Kind) (before : List VariableShape) (own : VariableShape) (after : List VariableShape) (vacancy : Vacancy) (plain : List ℕ) (limit : ℕ) : Type 0 where
  pub good : Good b
  pub among : StandsAmong b kind before own after
  pub rle : is_compressed b own.vdr ≡ true
  pub vdr_is : own.vdr ≡ vacancy.vdr
  pub start : IsStart b (number b own.vdr vdr_vxr_head) vacancy.first vacancy.start
  pub vacant : IsVacant own vacancy.first vacancy.last
  pub as_long : length plain ≡ (vacancy.last + 1 - vacancy.first) * record_bytes b own.vdr
  pub room : length b + max linked_size (vvr_bytes (length plain)) + vxr_bytes (widest own.index) ≤ limit

-- of some variable
pub record HasVacancy (b : List ℕ) (vacancy : Vacancy) (plain : List ℕ) (limit : ℕ) : Type 0 where
  pub kind : Kind
  pub before : List VariableShape
  pub own : VariableShape
  pub after : List VariableShape
  pub is_vacancy : IsVacancy b kind before own after vacancy plain limit

-- and of some plain bytes, which are stored so
pub record HasStored (b : List ℕ) (vacancy : Vacancy) (packed : Bool) (bytes : List ℕ) (limit : ℕ) : Type 0 where
  pub plain : List ℕ
  pub vacancy_of : HasVacancy b vacancy plain limit
  pub stored : StoredAs plain packed bytes

-- From one good image to another, in which the records have a leaf, and its block these plain bytes, whose record needs no more than one of the plain bytes would. All other blocks stay, and MaxRec and rMaxRec.
pub record BlockAdded (b now : List ℕ) (kind : Kind) (before : List VariableShape) (own : VariableShape) (after : List VariableShape) (first last : ℕ) (plain : List ℕ) : Type 0 where
  pub own' : VariableShape
  pub acts : List Act
  pub new : Leaf
  pub at : ℕ
  pub step : (own'.index, acts) ≡ leaf_step b now true own.vdr own.index None new at
  pub one : IsOneOf (leaves_of own'.index) new
  pub first_is : new.first ≡ first
  pub last_is : new.last ≡ last
  pub written : BlockWritten b now true own.vdr acts new plain
  pub needs : block_need now own.vdr new ≤ max linked_size (vvr_bytes (length plain))
  pub goes_on : GoesOn b now kind before own own' after acts
  pub goes : (changes : Range → Bool) (done : List Act) (next to : ℕ) → Goes (found_in b kind before own) (stage b own done next) (stage now own' acts to) changes
  pub leaves : (l : Leaf) → IsOneOf (leaves_of own.index) l → IsOneOf (leaves_of own'.index) l
  pub blocks : Each (λ (l : Leaf). Stays b now l.place []) (leaves_of own.index)
  pub max_rec_is : number now own.vdr vdr_max_rec ≡ number b own.vdr vdr_max_rec
  pub r_max_rec_is : r_max_rec now ≡ r_max_rec b
