-- The block of a leaf has other plain bytes, and its entry may have another range: in its record, or in one that was taken, after which the old one was freed (own).
use Rattle.std.specs.Prelude.{◌≡◌, ◌≢◌, ◌≤◌, ℕ, List, [], ◌∷◌, length, max, true, Some}
use Rattle.cdf_edits.specs.Edits.Standing.{IsOneOf}
use Rattle.cdf_edits.specs.Commands.Allowances.{Stays}
use Rattle.cdf_edits.specs.Commands.GreatestRecord.{r_max_rec}
use Rattle.cdf_edits.specs.Commands.PutSteps.{BlockWritten, Goes, Stage, leaf_step}
use Rattle.cdf_edits.specs.Index.Blocks.{Range, range}
use Rattle.cdf_edits.specs.Index.Written.{block_need}
use Rattle.cdf_edits.specs.Space.Acts.{Act}
use Rattle.cdf_edits.specs.Space.Freeing.{AllGiven}
use Rattle.cdf_edits.specs.Space.Placing.{Placed}
use Rattle.cdf_format.specs.Fields.{number}
use Rattle.cdf_format.specs.Index.{Leaf, leaves_of}
use Rattle.cdf_format.specs.Records.{linked_size, vdr_max_rec, vvr_bytes}
use Rattle.cdf_format.specs.Shape.{Each, VariableShape}
use Rattle.cdf_index.specs.Writing.{EntrySet}
use Rattle.cdf_model.specs.declared.kinds.Kind.{Kind}
use Rattle.cdf_puts.specs.Going.{GoesOn, found_in}
use Rattle.cdf_blocks.specs.Blocks.{Overwritten, block_body}
use Rattle.cdf_blocks.specs.declared.placing.Site.{Site}
use Rattle.std.specs.Prelude.{Bool}

-- From an image to one in which other bytes stand in the record of the block, and to one in which its entry has another range.
pub record Rewritten (b now : List ℕ) (site : Site) (old new : Leaf) (bytes : List ℕ) : Type 0 where
  pub written : List ℕ
  pub block : Overwritten b written old.place old.packed bytes
  pub entry : EntrySet written now site.node site.number new.first new.last old.place

-- From an image to one in which a record was taken for the block, to one in which its entry names it, and to one in which the old one was freed.
pub record Moved (b now : List ℕ) (site : Site) (old new : Leaf) (bytes : List ℕ) : Type 0 where
  pub filled : List ℕ
  pub block : Placed b filled (block_body new.packed bytes) new.place
  pub linked : List ℕ
  pub entry : EntrySet filled linked site.node site.number new.first new.last new.place
  pub given : AllGiven linked now (old.place ∷ [])

-- an image with the variable, and what was taken and freed for it; a put is to go on with a record
abbrev pub stage : List ℕ → VariableShape → List Act → ℕ → Stage
stage image own acts next = record { image = image; own = own; acts = acts; next = next }

-- From one good image to another. The record of the block needs no more than one of the plain bytes would. All other blocks stay, and MaxRec and rMaxRec.
pub record BlockReplaced (b now : List ℕ) (kind : Kind) (before : List VariableShape) (own : VariableShape) (after : List VariableShape) (old new : Leaf) (plain : List ℕ) : Type 0 where
  pub own' : VariableShape
  pub acts : List Act
  pub step : (at : ℕ) → (own'.index, acts) ≡ leaf_step b now true own.vdr own.index (Some old) new at
  pub one : IsOneOf (leaves_of own'.index) new
  pub first_is : new.first ≡ old.first
  pub last_is : new.last ≡ old.last
  pub written : BlockWritten b now true own.vdr acts new plain
  pub needs : block_need now own.vdr new ≤ max linked_size (vvr_bytes (length plain))
  pub goes_on : GoesOn b now kind before own own' after acts
  pub goes : (changes : Range → Bool) → changes (range old.first old.last) ≡ true → (done : List Act) (next to : ℕ) → Goes (found_in b kind before own) (stage b own done next) (stage now own' acts to) changes
  pub blocks : Each (λ l. l.place ≢ old.place → Stays b now l.place []) (leaves_of own.index)
  pub max_rec_is : number now own.vdr vdr_max_rec ≡ number b own.vdr vdr_max_rec
  pub r_max_rec_is : r_max_rec now ≡ r_max_rec b
