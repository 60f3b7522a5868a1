-- Under a rule for missing records `del-recs` goes from image to image: up to the second the records from a first to a last are cut open, up to the third all that is past the new MaxRec is cut, and in the last MaxRec is written where it falls.
use Rattle.cdf_cuts.proofs.Common.{Changed, List, [], append-nil, ap, subst, sym, true, ℕ, ◌<◌, ◌∙◌, ◌≡◌, ◌≤◌}
use Rattle.cdf_edits.proofs.Common.{Act, Good, Kind, VariableShape, extent, is_max_rec, is_sparse, last_number, max_rec_at, variable_of, with_sign}
use Rattle.cdf_edits.proofs.Edits.Common.{StandsAmong}
use Rattle.cdf_edits.proofs.Edits.RecordsWritten.{WritesRecords}
use Rattle.cdf_edits.specs.Index.Blocks.{extent_after}
use Rattle.cdf_puts.specs.Steps.{MaxRecRaised}
use Rattle.cdf_cuts.specs.Past.{CutPast, cut_off}
use Rattle.cdf_sparse.specs.Opening.{RecordsOpened}

pub record CutTwice (b mid left now : List ℕ) (kind : Kind) (before : List VariableShape) (own own' : VariableShape) (after : List VariableShape) (first last : ℕ) (takes : List Act) (r : ℕ) : Type 0 where
  pub good : Good b
  pub among : StandsAmong b kind before own after
  pub rule : is_sparse (variable_of b own).sparse ≡ true
  pub order : first ≤ last
  pub has : last < extent (max_rec_at b own.vdr)
  pub opened : RecordsOpened b mid kind before own own' after first last takes
  pub past : CutPast mid left kind before own' (cut_off own' (extent_after (variable_of b own) first last)) after (extent_after (variable_of b own) first last)
  pub low : MaxRecRaised left now kind (cut_off own' (extent_after (variable_of b own) first last)) r
  pub ruled : is_max_rec r ≡ true
  pub r_is : with_sign r ≡ last_number (extent_after (variable_of b own) first last)

module _ {b mid left now : List ℕ} {kind : Kind} {before : List VariableShape} {own own' : VariableShape} {after : List VariableShape} {first last : ℕ} {takes : List Act} {r : ℕ} (t : CutTwice b mid left now kind before own own' after first last takes r) where
  abbrev end : ℕ
  end = extent_after (variable_of b own) first last

  -- MaxRec is written, and no record
  pub low_writes : WritesRecords left now kind (cut_off own' end) []
  low_writes = record { changed = subst (Changed left now) (sym (append-nil _)) t.low.changed; as_long = t.low.as_long; in_blocks = tt; max_rec_ruled = ap is_max_rec t.low.max_rec_is ∙ t.ruled }

  -- MaxRec of the last image
  pub max_rec_last : max_rec_at now own'.vdr ≡ last_number end
  max_rec_last = ap with_sign t.low.max_rec_is ∙ t.r_is
