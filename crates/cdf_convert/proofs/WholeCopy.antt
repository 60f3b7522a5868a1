-- What a writer that took all events leaves.
use Rattle.std.proofs.Common.{Err, List, Ok, Result, ap, arith, length, subst, sym, ℕ, ◌∙◌, ◌≡◌, ◌≤◌}
use Rattle.std.specs.Prelude.{IfErr, OnOk}
use Rattle.cdf_area.specs.Frame.{Frame}
use Rattle.cdf_convert.proofs.Stopped.{passes_limit}
use Rattle.cdf_convert.specs.Errors.{NamesRecord, PassesLimit}
use Rattle.cdf_convert.specs.declared.error.ConvertError.{ConvertError}
use Rattle.cdf_format.specs.Content.{content}
use Rattle.cdf_format.specs.NotRead.{IsRead}
use Rattle.cdf_format.specs.WellFormed.{Good}
use Rattle.cdf_model.specs.DataSet.{DataSet}
use Rattle.cdf_model.specs.Events.{events_of}
use Rattle.cdf_model.specs.Limits.{image_limit}
use Rattle.cdf_writer.proofs.Whole.{compact_good, compact_means, compact_read, of_fine}
use Rattle.cdf_writer.specs.Compact.{compact}
use Rattle.cdf_writer.specs.Fine.{Fine, PlainVariables}
use Rattle.cdf_writer.specs.Taken.{Took, area_of}
use Rattle.cdf_writer.specs.declared.writer.Writer.{Writer}

on_done : {P Q : Type 0} (done : Result (Unit {0}) ConvertError) → (P → Q) → OnOk done P → OnOk done Q
on_done (Ok x) so p = so p
on_done (Err e) so p = tt

-- a limit that is passed is one that the whole image passes
pub if_passed : (limit : ℕ) (d : DataSet) (done : Result (Unit {0}) ConvertError) → IfErr done (NamesRecord limit d) → IfErr done (PassesLimit limit d)
if_passed limit d (Ok x) p = tt
if_passed limit d (Err e) p = passes_limit limit d e p

module _ {A U : Type 0} (image_of : A → List ℕ) (frame_of : A → Frame U) (d : DataSet) (fine : Fine d) (w : Writer A) (area : A) (same : area ≡ area_of w) (whole : Took image_of frame_of w (events_of d) → image_of area ≡ compact d) (done : Result (Unit {0}) ConvertError) (took : OnOk done (Took image_of frame_of w (events_of d))) where
  within : Took image_of frame_of w (events_of d) → length (compact d) ≤ (frame_of (area_of w)).limit
  within t = subst (λ (b : List ℕ). length b ≤ (frame_of (area_of w)).limit) (ap image_of (sym same) ∙ whole t) t.within

  short : Took image_of frame_of w (events_of d) → length (compact d) ≤ image_limit
  short t = let here = within t in let most = t.most in omega (arith, here, most)

  pub copy_written : OnOk done (image_of area ≡ compact d)
  copy_written = on_done done whole took

  pub copy_fits : OnOk done (length (compact d) ≤ (frame_of (area_of w)).limit)
  copy_fits = on_done done within took

  pub copy_means : OnOk done (content (image_of area) ≡ d)
  copy_means = on_done done (λ t. subst (λ (b : List ℕ). content b ≡ d) (sym (whole t)) (compact_means d (of_fine d fine (short t)) fine.attributes fine.variables)) took

  pub copy_good : OnOk done (Good (image_of area))
  copy_good = on_done done (λ t. subst Good (sym (whole t)) (compact_good d (of_fine d fine (short t)) fine.attributes fine.variables)) took

  pub copy_read : PlainVariables d → OnOk done (IsRead (image_of area))
  copy_read plain = on_done done (λ t. subst IsRead (sym (whole t)) (compact_read d (of_fine d fine (short t)) fine.attributes fine.variables plain)) took
