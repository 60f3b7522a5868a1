-- MaxRec where records were deleted under a rule for missing records: where the last record went, MaxRec is written, and rMaxRec follows; else both stay.
use Rattle.cdf_puts.proofs.Common.{Act, Kind, List, RMaxRecFollows, Variable, VariableShape, ap, bytes_eq-same, content, eq-eqb, extent, last_number, length, max_rec_at, r_max_rec, r_max_rec_of_z, slice_get, slice_set, sym, variable_of, variables_of, with_sign, with_variables, Some, ℕ, ◌∙◌, ◌≡◌, ◌≢◌}
use Rattle.cdf_edits.proofs.Edits.RecordsPut.{extent_last}
use Rattle.cdf_edits.specs.Index.Blocks.{extent_after}
use Rattle.cdf_model.specs.declared.kinds.Kind.TheVariants.{R, Z}
use Rattle.cdf_puts.proofs.DoneBytes.{last_of_extent}
use Rattle.cdf_puts.proofs.GoesThen.{variable_there, writes_nothing}
use Rattle.cdf_cuts.proofs.GreatestLowered.{extents, extents_set, greatest_lowered}
use Rattle.cdf_cuts.specs.Past.{cut_off}
use Rattle.cdf_sparse.proofs.CutTwice.{CutTwice, low_writes, max_rec_last}
use Rattle.cdf_sparse.proofs.TwiceGoes.{goes_left, twice_goes}
use Rattle.cdf_sparse.proofs.TwiceLeft.{TwiceEnds, TwiceLeft, left_twice}

-- a variable has the same MaxRec, and so no rMaxRec is written
pub greatest_kept : (b now : List ℕ) (kind : Kind) (n : ℕ) (x v : Variable) → slice_get (variables_of (content b) kind) n ≡ Some x → content now ≡ with_variables (content b) kind (slice_set (variables_of (content b) kind) n v) → extent x.max_rec ≡ extent v.max_rec → r_max_rec now ≡ r_max_rec b → RMaxRecFollows b now
greatest_kept b now Z n x v at is same kept = rw (is, bytes_eq-same (extents (content b).r_variables)) kept
greatest_kept b now R n x v at is same kept = rw (is, extents_set (content b).r_variables n x v at, eq-eqb (extent x.max_rec) (extent v.max_rec) same) kept

-- MaxRec is written, and it is another one
module _ {b mid left now : List ℕ} {kind : Kind} {before : List VariableShape} {own own' : VariableShape} {after : List VariableShape} {first last : ℕ} {takes : List Act} {r : ℕ} (t : CutTwice b mid left now kind before own own' after first last takes r) (other : extent (max_rec_at b own.vdr) ≢ extent_after (variable_of b own) first last) where
  abbrev end : ℕ
  end = extent_after (variable_of b own) first last

  abbrev rest : VariableShape
  rest = cut_off own' end

  r_max_rec_rec : RMaxRecFollows b now
  r_max_rec_rec =
      let z = t.past.goes_on in
      let goes = twice_goes (left_twice t) (low_writes t) in
      let max_rec_is : extent (max_rec_at now rest.vdr) ≡ end = ap extent (max_rec_last t) ∙ extent_last end in
      greatest_lowered b now kind (length before) (variable_of b own) (variable_of now rest) (variable_there t.good t.among) goes.content_is (λ q. r_max_rec_of_z z.good z.among (low_writes t) q ∙ t.past.r_max_rec_is ∙ t.opened.r_max_rec_is) (λ e. other (e ∙ max_rec_is)) t.low.greatest

  pub low_ends : TwiceEnds b left now kind rest end
  low_ends = record { writes = low_writes t; max_rec_is = max_rec_last t; r_max_rec_is = r_max_rec_rec }

-- MaxRec stays, and nothing is written
module _ {b mid left : List ℕ} {kind : Kind} {before : List VariableShape} {own own' : VariableShape} {after : List VariableShape} {first last : ℕ} {takes : List Act} (t : TwiceLeft b mid left kind before own own' after first last takes) (same : extent (max_rec_at b own.vdr) ≡ extent_after (variable_of b own) first last) where
  abbrev left_over : VariableShape
  left_over = cut_off own' (extent_after (variable_of b own) first last)

  left_max_rec : max_rec_at left own'.vdr ≡ max_rec_at b own.vdr
  left_max_rec = ap with_sign t.past.max_rec_is ∙ ap (max_rec_at mid) t.opened.goes.vdr_is ∙ ap with_sign t.opened.max_rec_is

  pub same_ends : TwiceEnds b left left kind left_over (extent_after (variable_of b own) first last)
  same_ends = record {
    writes = writes_nothing t.past.goes_on.good t.past.goes_on.among;
    max_rec_is = left_max_rec ∙ sym (last_of_extent (max_rec_at b own.vdr) last t.has) ∙ ap last_number same;
    r_max_rec_is = greatest_kept b left kind (length before) (variable_of b own) (variable_of left left_over) (variable_there t.good t.among) (goes_left t).content_is (sym (ap extent left_max_rec)) (t.past.r_max_rec_is ∙ t.opened.r_max_rec_is);
  }
