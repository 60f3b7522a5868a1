-- A variable without records has another index, as where its blocks go: it is what it was, and so is the content.
use Rattle.cdf_edits.proofs.Common.{Good, Kind, List, Nodes, Variable, VariableShape, [], ap, arith, content, extent, leaves_of, length, max_rec_at, records_in, refl, sym, variable_of, variables_of, vdr_vxr_head, vdr_vxr_tail, with_sign, with_variables, word_kept, ℕ, ◌+◌, ◌∙◌, ◌∷◌, ◌≡◌}
use Rattle.std.proofs.Common.{slice_set}
use Rattle.cdf_edits.proofs.Edits.Common.{long, record_past, rising_records, stays_bytes}
use Rattle.cdf_edits.proofs.Edits.NumberedLookup.{same_items}
use Rattle.cdf_edits.proofs.Edits.PlainLeaves.{leaves_ascend}
use Rattle.cdf_edits.proofs.Edits.StandsAmong.{StandsAmong}
use Rattle.cdf_edits.proofs.Frame.VdrStays.{variable_stays}
use Rattle.cdf_edits.specs.Commands.Allowances.{Stays}
use Rattle.cdf_puts.proofs.GoesThen.{stays, variable_there}
use Rattle.cdf_puts.specs.Going.{GoesOn}
use Rattle.cdf_cuts.proofs.PastContent.{same_set, same_variables}
use Rattle.cdf_edits.specs.Space.Acts.{Act}
use Rattle.cdf_index.specs.Replacing.{with_index}

module _ {b now : List ℕ} {kind : Kind} {before : List VariableShape} {own : VariableShape} {after : List VariableShape} {index : Nodes} {acts : List Act} (good : Good b) (at : StandsAmong b kind before own after) (goes : GoesOn b now kind before own (with_index own index) after acts) (descriptor : Stays b now own.vdr (vdr_vxr_head ∷ vdr_vxr_tail ∷ [])) (none : extent (max_rec_at b own.vdr) ≡ 0) where
  pub max_same : max_rec_at now own.vdr ≡ max_rec_at b own.vdr
  max_same = ap with_sign (let l = long good at in word_kept b now (own.vdr + 24) (own.vdr + 28) (stays_bytes descriptor 24 28 (omega arith) (λ i low high. grind arith)) (own.vdr + 24) 4 (omega arith) (omega arith))

  none_now : extent (max_rec_at now own.vdr) ≡ 0
  none_now = ap extent max_same ∙ none

  same_records : records_in now own.vdr (leaves_of index) ≡ records_in b own.vdr (leaves_of own.index)
  same_records =
      let was = leaves_ascend good at in
      let is = leaves_ascend goes.good goes.among in
      same_items 0 0 _ _ (rising_records now own.vdr (leaves_of index) is) (rising_records b own.vdr (leaves_of own.index) was) (λ k. record_past now own.vdr (leaves_of index) is k (omega (arith, none_now)) ∙ sym (record_past b own.vdr (leaves_of own.index) was k (omega (arith, none))))

  pub same_variable : variable_of now (with_index own index) ≡ variable_of b own
  same_variable = variable_stays goes.file own (with_index own index) (stays good at goes.descriptor) refl ∙ (λ i. record (variable_of b own) { max_rec = max_same i; recs = same_records i })

  pub content_stays : content now ≡ content b
  content_stays =
      goes.content_is
      ∙ ap (λ (u : Variable). with_variables (content b) kind (slice_set (variables_of (content b) kind) (length before) u)) same_variable
      ∙ ap (with_variables (content b) kind) (same_set (variables_of (content b) kind) (length before) (variable_of b own) (variable_there good at))
      ∙ same_variables (content b) kind
