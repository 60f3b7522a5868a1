-- Records were deleted under a rule for missing records: that is what `del-recs` does there, by the images between.
use Rattle.cdf_puts.proofs.Common.{Act, Changed, Each, Found, IsOneOf, Kind, Leaf, List, Variable, VariableShape, ap, append-nil, each_of, extent, false, leaves_of, max_rec_touches, refl, subst, sym, variable_of, ℕ, ◌++◌, ◌∙◌, ◌≡◌}
use Rattle.cdf_edits.proofs.Edits.LeafPieces.{of_each}
use Rattle.cdf_edits.proofs.Edits.RecordsPut.{extent_last}
use Rattle.cdf_edits.specs.Commands.PutSteps.{Stage}
use Rattle.cdf_edits.specs.Index.Blocks.{extent_after}
use Rattle.cdf_edits.specs.Index.Cut.{IsPlaced, StaysWhole, is_whole}
use Rattle.cdf_edits.specs.Index.Grown.{kept_open}
use Rattle.cdf_model.specs.Limits.{record_number_limit}
use Rattle.cdf_puts.proofs.GoesThen.{later_size}
use Rattle.cdf_puts.specs.Going.{found_in}
use Rattle.cdf_cuts.proofs.PastFollows.{or_true}
use Rattle.cdf_cuts.specs.Past.{cut_off, past_acts, stage}
use Rattle.cdf_sparse.proofs.PastOpens.{past_opens}
use Rattle.cdf_sparse.proofs.TwiceLeaves.{taken_new}
use Rattle.cdf_sparse.proofs.TwiceLeft.{TwiceEnds, TwiceLeft}
use Rattle.cdf_edits.specs.Commands.Deleting.{CutsOpen, DeletesUnderRule, LeafKept, LeafSplit, untouched}
use Rattle.cdf_sparse.specs.Opening.{opening_acts}

module _ {b mid left : List ℕ} {kind : Kind} {before : List VariableShape} {own own' : VariableShape} {after : List VariableShape} {first last : ℕ} {takes : List Act} (t : TwiceLeft b mid left kind before own own' after first last takes) where
  abbrev v : Variable
  v = variable_of b own

  abbrev found : Found
  found = found_in b kind before own

  abbrev end : ℕ
  end = extent_after (variable_of b own) first last

  abbrev rest : VariableShape
  rest = cut_off own' end

  abbrev leaves : List Leaf
  leaves = leaves_of own.index

  abbrev leaves' : List Leaf
  leaves' = leaves_of own'.index

  abbrev cut_acts : List Act
  cut_acts = opening_acts b own first last takes

  abbrev left_acts : List Act
  left_acts = past_acts mid own' end

  abbrev from : Stage
  from = untouched b own

  abbrev cut : Stage
  cut = stage mid own' cut_acts 0

  -- ---- the records that are cut open

  placed : (old new : Leaf) → IsOneOf leaves old → IsOneOf leaves' new → IsPlaced b mid v own'.vdr (kept_open first last) cut_acts old new
  placed old new i j part =
      let rle : v.rle ≡ false = t.opened.loose in
      let two = of_each (λ (o : Leaf). Each (StaysWhole v (kept_open first last) cut_acts o) leaves') leaves old (t.opened.cuts v refl).stay i in
      let s = of_each (StaysWhole v (kept_open first last) cut_acts old) leaves' new two j part (rw rle (or_true (is_whole old new))) in
      rw (rle, or_true (is_whole old new)) (s.0, s.2)

  kept : Each (λ old. Each (LeafKept found first last from cut old) leaves') leaves
  kept = each_of (λ old. Each (LeafKept found first last from cut old) leaves') leaves (λ old i. each_of (LeafKept found first last from cut old) leaves' (λ new j. record { placed = placed old new i j; written = λ part whole. (t.opened.kept old new i j part).written }))

  split : Each (λ old. Each (LeafSplit found first last from cut old) leaves') leaves
  split = each_of (λ old. Each (LeafSplit found first last from cut old) leaves') leaves (λ old i. each_of (LeafSplit found first last from cut old) leaves' (λ new j. record {
    placed = λ part. taken_new t.good t.among t.order t.opened new j (t.opened.split old new i j part).is_new;
    written = λ part. (t.opened.split old new i j part).written;
  }))

  pub cuts_open : CutsOpen found first last from cut
  cuts_open = record { index = t.opened.cuts v refl; kept = kept; split = split; goes = t.opened.step 0; next_is = refl }

  -- ---- what is past the new MaxRec

  pub cuts_past : CutsOpen found end record_number_limit cut (stage left rest left_acts 0)
  cuts_past = past_opens t.opened.goes.good t.opened.goes.among t.past v (sym (later_size t.good t.among t.opened.goes)) t.opened.loose cut_acts 0

  -- ---- the whole

  pub deletes_by : {now : List ℕ} → TwiceEnds b left now kind rest end → DeletesUnderRule b now found first last own rest (cut_acts ++ left_acts)
  deletes_by {now = now} e = record {
    cut = cut;
    left = stage left rest left_acts 0;
    cuts = cuts_open;
    cuts_past = cuts_past;
    acts_are = refl;
    stands = refl;
    changed = subst (Changed left now) (append-nil (max_rec_touches left kind rest.vdr)) e.writes.changed;
    as_long = e.writes.as_long;
    max_rec_is = ap extent e.max_rec_is ∙ extent_last end;
    r_max_rec = e.r_max_rec_is;
  }
