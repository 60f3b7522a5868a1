-- A put under a rule for missing records that is past MaxRec + 1, as four images: from the first to the second all that blocks have past MaxRec is cut, up to the third the record is put, and in the last MaxRec is raised. What of the descriptor and of the file is as it was.
use Rattle.cdf_puts.proofs.Common.{Act, FileSame, Good, Kind, List, MaxRecDone, RMaxRecFollows, SoFar, StandsAmong, VariableShape, ap, arith, bytes_eq, content, extent, if◌then◌else◌, is_little, is_sparse, last_number, max_rec_at, put_room, ranges_after_put, ranges_of, record_bytes, stays_alike, suc, taken_bytes, true, type_alike, type_of_variable, variable_of, with_sign, ℕ, ◌+◌, ◌<◌, ◌∙◌, ◌≡◌, ◌≤◌}
use Rattle.cdf_edits.proofs.Edits.RecordsPut.{extent_last, greater_is_last}
use Rattle.cdf_edits.specs.Commands.GreatestRecord.{greatest_r_max_rec, r_extents}
use Rattle.cdf_puts.proofs.DoneBytes as done
use Rattle.cdf_puts.proofs.CoveringRanges.{covering_done}
use Rattle.cdf_puts.proofs.GoesThen.{later_size, stays}
use Rattle.cdf_puts.specs.Going.{GoesOn, found_in}
use Rattle.cdf_cuts.proofs.PastContent.{content_past, variable_past}
use Rattle.cdf_cuts.specs.Past.{CutPast, cut_off}
use Rattle.cdf_gaps.proofs.PastStart as start

pub record CutThenPut (b mid now last : List ℕ) (kind : Kind) (before : List VariableShape) (own own' : VariableShape) (after : List VariableShape) (raw pad : List ℕ) (first r : ℕ) (acts : List Act) : Type 0 where
  pub good : Good b
  pub among : StandsAmong b kind before own after
  pub cut : CutPast b mid kind before own (cut_off own first) after first
  pub first_is : first ≡ extent (max_rec_at b own.vdr)
  pub rule : is_sparse (variable_of b own).sparse ≡ true
  pub past : first < r
  pub so : SoFar mid now kind before (cut_off own first) own' after raw pad r (r + 1) acts
  pub done : MaxRecDone mid now last kind (cut_off own first) own' r

module _ {b mid now last : List ℕ} {kind : Kind} {before : List VariableShape} {own own' : VariableShape} {after : List VariableShape} {raw pad : List ℕ} {first r : ℕ} {acts : List Act} (t : CutThenPut b mid now last kind before own own' after raw pad first r acts) where
  -- ---- the cut leaves the content

  pub variable_mid : variable_of mid (cut_off own first) ≡ variable_of b own
  variable_mid = variable_past t.good t.among t.cut (omega (arith, t.first_is))

  pub content_mid : content mid ≡ content b
  content_mid = content_past t.good t.among t.cut (omega (arith, t.first_is))

  pub found_mid : found_in mid kind before (cut_off own first) ≡ found_in b kind before own
  found_mid = λ i. record (found_in b kind before own) { variable = variable_mid i }

  pub size_mid : record_bytes mid own.vdr ≡ record_bytes b own.vdr
  size_mid = later_size t.good t.among t.cut.goes_on

  pub type_mid : type_of_variable mid own.vdr ≡ type_of_variable b own.vdr
  type_mid = type_alike t.cut.goes_on.file (stays_alike t.cut.goes_on.file (stays t.good t.among t.cut.goes_on.descriptor))

  pub little_mid : is_little mid ≡ is_little b
  little_mid = t.cut.goes_on.file.little

  pub max_rec_mid : max_rec_at mid own.vdr ≡ max_rec_at b own.vdr
  max_rec_mid = ap with_sign t.cut.max_rec_is

  -- ---- from the cut to the last image

  pub put_last : GoesOn mid last kind before (cut_off own first) own' after acts
  put_last = done.put t.so t.done

  pub vdr_last : own'.vdr ≡ own.vdr
  vdr_last = put_last.vdr_is

  -- ---- the last image

  pub file : FileSame b last
  file =
      let x = t.cut.goes_on.file in
      let y = put_last.file in
      record { longer = omega (arith, x.longer, y.longer); gdr_is = y.gdr_is ∙ x.gdr_is; little = y.little ∙ x.little; dimensions = y.dimensions ∙ x.dimensions; sizes = y.sizes ∙ x.sizes }

  pub size_last : record_bytes last own'.vdr ≡ record_bytes b own.vdr
  size_last = done.size_last t.so t.done ∙ size_mid

  pub own_size_last : record_bytes last own.vdr ≡ record_bytes b own.vdr
  own_size_last = done.own_size t.so t.done ∙ size_mid

  pub type_last : type_of_variable last own.vdr ≡ type_of_variable b own.vdr
  type_last = done.last_type t.so t.done ∙ type_mid

  pub little_last : is_little last ≡ is_little b
  little_last = file.little

  -- MaxRec is r
  pub last_max_rec : max_rec_at last own.vdr ≡ last_number (r + 1)
  last_max_rec =
      let one : suc r ≡ r + 1 = omega arith in
      done.last_max_rec t.so t.done ∙ ap last_number (greater_is_last (extent (max_rec_at mid own.vdr)) r (omega (arith, t.first_is, t.past, ap extent max_rec_mid)) ∙ one)

  pub last_extent : extent (max_rec_at last own.vdr) ≡ r + 1
  last_extent = ap extent last_max_rec ∙ extent_last (r + 1)

  -- rMaxRec follows, as the cut changes no MaxRec
  pub last_r_max_rec : RMaxRecFollows b last
  last_r_max_rec = done.last_r_max_rec t.so t.done ∙ (λ i. if bytes_eq (r_extents (content_mid i)) (r_extents (content last)) then t.cut.r_max_rec_is i else greatest_r_max_rec (content last))

  -- ---- the index

  -- the ranges are those that the put leaves of the first index
  pub ranges_last : ranges_of own'.index ≡ ranges_after_put (variable_of b own) own.index r
  ranges_last = covering_done t.so.covers (omega arith) ∙ start.after_same t.good t.among t.cut t.first_is t.rule r t.past

  -- ---- what was taken is within the room of the put

  pub fits : taken_bytes acts ≤ put_room (variable_of b own) own.index r
  fits = omega (arith, t.so.covers.fits, start.room t.good t.among t.cut t.first_is t.rule r t.past)
