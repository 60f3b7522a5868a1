-- What is stored as each record once a put went past it, and that the content is as the data set says.
use Rattle.cdf_edits.proofs.Common.{Act, Bool, Good, Kind, Leaf, List, Option, Some, Variable, VariableShape, [], ap, arith, cases_lt, content, either, eq-eqb, extent, false, filled, image_limit, inl, inr, is_little, is_sparse, leaves_of, length, max_rec_at, nat_lt, nat_tests, ne_eqb, option_map, pad_record, plain_bytes, record_bytes, records_in, refl, stored_bytes, sym, turned, type_of_variable, variable_of, with_item, with_variable, ℕ, ◌-◌, ◌<◌, ◌==◌, ◌∙◌, ◌≡◌, ◌≢◌, ◌≤◌, ◌⊎◌}
use Rattle.cdf_edits.proofs.Edits.Common.{block_behind, StandsAmong}
use Rattle.cdf_edits.proofs.Edits.LeafPieces.{IsOneOf, place_in}
use Rattle.cdf_edits.proofs.Edits.PlainLeaves.{leaves_ascend}
use Rattle.cdf_edits.proofs.Edits.RecordsPut.{StoresPut, filled_uncut, records_put}
use Rattle.cdf_edits.proofs.Edits.RecordsWritten.{behind_kept}
use Rattle.cdf_edits.proofs.Frame.VdrAlike.{type_alike}
use Rattle.cdf_edits.proofs.Frame.VdrStays.{stays_alike, variable_stays}
use Rattle.cdf_edits.specs.Commands.PutSteps.{PutsLeaf, Stage}
use Rattle.cdf_edits.specs.Index.Blocks.{cuts_before_put, first_written}
use Rattle.cdf_model.specs.RecordSteps.{with_record}
use Rattle.cdf_puts.proofs.CoveringRanges.{some_or_none, written_from, written_upto}
use Rattle.cdf_puts.proofs.GoesThen.{goes_written, later_size, stays}
use Rattle.cdf_puts.proofs.PutBytes.{found_covering}
use Rattle.cdf_puts.specs.Going.{GoesOn, found_in}
use Rattle.cdf_puts.specs.SoFar.{MaxRecDone}
use Rattle.cdf_put_steps.proofs.Along.{by_along, longer_along}
use Rattle.cdf_put_steps.proofs.BlockKept.{plain_kept}
use Rattle.cdf_put_steps.proofs.KeptAlong.{KeptSo, kept_first, kept_then, put_goes, so, writes}
use Rattle.cdf_put_steps.proofs.RecordPieces.{piece}
use Rattle.cdf_put_steps.proofs.StepsDone.{extent_set, max_rec_set}
use Rattle.cdf_put_steps.proofs.StepStored.{leaf_of, stored_beside, stored_by, stored_written}
use Rattle.cdf_put_steps.specs.Along.{LeavesPut, at_start, put_in, stored_pad}
use Rattle.std.proofs.Common.{if◌then◌else◌}

abbrev stored_at : List ℕ → VariableShape → Stage → ℕ → Option (List ℕ)
stored_at b own stage j = stored_bytes stage.image stage.own.vdr (record_bytes b own.vdr) (leaves_of stage.own.index) j

-- what is stored in an image on the way
pub record StoredSo (b : List ℕ) (own : VariableShape) (n : ℕ) (raw : List ℕ) (stage : Stage) : Type 0 where
  pub put : (j : ℕ) → first_written (variable_of b own) n ≤ j → j < stage.next → j ≤ n → stored_at b own stage j ≡ Some (if j == n then raw else stored_pad b own)
  pub same : (j : ℕ) → (j < first_written (variable_of b own) n) ⊎ ((n < j) × (j < extent (variable_of b own).max_rec)) → stored_at b own stage j ≡ stored_bytes b own.vdr (record_bytes b own.vdr) (leaves_of own.index) j

module _ {b : List ℕ} {kind : Kind} {before : List VariableShape} {own : VariableShape} {after : List VariableShape} (n : ℕ) (raw : List ℕ) (good : Good b) (at : StandsAmong b kind before own after) (raw_long : length raw ≡ record_bytes b own.vdr) (pad_long : length (stored_pad b own) ≡ record_bytes b own.vdr) where
  stored_first : StoredSo b own n raw (at_start b (put_in b kind before own n raw) own)
  stored_first = record { put = λ j low high le. absurd (omega (arith, low, high)); same = λ j side. refl }

  module _ (from to : Stage) (acts : List Act) (x : KeptSo b kind before own after n from acts) (s : StoredSo b own n raw from) (leaf : PutsLeaf (put_in b kind before own n raw) from to) (one : GoesOn from.image to.image kind before from.own to.own after to.acts) where
    put_then : (j : ℕ) → first_written (variable_of b own) n ≤ j → j < to.next → j ≤ n → stored_at b own to j ≡ Some (if j == n then raw else stored_pad b own)
    put_then j low high le = elim (cases_lt j from.next) [
      | inl lt ↦ stored_beside n raw good at from to acts x leaf one raw_long pad_long j (inl lt) (inl lt) ∙ s.put j low lt le
      | inr ge ↦
          stored_written n raw good at from to acts x leaf one raw_long pad_long j (omega arith) (omega (arith, leaf.next_is)) le
          ∙ ap (λ (l : Bool). Some (if j == n then raw else turned (variable_of b own).type l (pad_record (variable_of b own)))) x.goes.file.little
    ]

    same_then : (j : ℕ) → (j < first_written (variable_of b own) n) ⊎ ((n < j) × (j < extent (variable_of b own).max_rec)) → stored_at b own to j ≡ stored_bytes b own.vdr (record_bytes b own.vdr) (leaves_of own.index) j
    same_then j (inl lt) = let low : j < from.next = omega (arith, lt, x.from) in stored_beside n raw good at from to acts x leaf one raw_long pad_long j (inl low) (inl low) ∙ s.same j (inl lt)
    same_then j (inr past) = stored_beside n raw good at from to acts x leaf one raw_long pad_long j (inr past.0) (inr past.1) ∙ s.same j (inr past)

    stored_then : StoredSo b own n raw to
    stored_then = record { put = put_then; same = same_then }

  stored_along : {to : Stage} {acts : List Act} → LeavesPut b kind before own after n raw to acts → length to.image ≤ image_limit → StoredSo b own n raw to
  stored_along along short =
      (by_along b kind before own after n raw (λ stage acts. KeptSo b kind before own after n stage acts × StoredSo b own n raw stage) (λ from to acts x leaf one. (kept_then n raw good at from to acts x.0 leaf one, stored_then from to acts x.0 x.1 leaf one))
      (kept_first n raw good at (omega (arith, short, longer_along along)), stored_first) along).1

-- ---- and then MaxRec is raised

module _ {b now : List ℕ} {kind : Kind} {before : List VariableShape} {own : VariableShape} {after : List VariableShape} {n : ℕ} {raw : List ℕ} {to : Stage} {acts : List Act} (along : LeavesPut b kind before own after n raw to acts) (past : n < to.next) (done : MaxRecDone b to.image now kind own to.own n) (short : length to.image ≤ image_limit) (raw_long : length raw ≡ record_bytes b own.vdr) (pad_long : length (stored_pad b own) ≡ record_bytes b own.vdr) where
  abbrev v : Variable
  v = variable_of b own

  abbrev size : ℕ
  size = record_bytes b own.vdr

  abbrev most : ℕ
  most = extent (max_rec_at b own.vdr)

  abbrev first : ℕ
  first = first_written v n

  abbrev olds : List Leaf
  olds = leaves_of own.index

  abbrev leaves : List Leaf
  leaves = leaves_of to.own.index

  kept : KeptSo b kind before own after n to acts
  kept = so along past done short

  put : GoesOn b now kind before own to.own after acts
  put = put_goes along past done short

  stored_so : StoredSo b own n raw to
  stored_so = stored_along n raw along.good along.among raw_long pad_long along short

  raises : GoesOn to.image now kind before to.own to.own after []
  raises = goes_written kept.goes.good kept.goes.among (writes along past done short) short

  -- what was stored is stored
  leaf_still : (j : ℕ) (l : Leaf) → IsOneOf leaves l → piece size (j - l.first) (plain_bytes now to.own.vdr l) ≡ piece size (j - l.first) (plain_bytes to.image to.own.vdr l)
  leaf_still j l i = ap (piece size (j - l.first)) (plain_kept kept.goes.good kept.goes.among l i raises (behind_kept kept.goes.good kept.goes.among (writes along past done short) l.place (block_behind to.own l.place (place_in leaves l i)) (λ none. none)))

  stored_still : (j : ℕ) → stored_bytes now own.vdr size leaves j ≡ stored_bytes to.image to.own.vdr size leaves j
  stored_still j =
      ap (λ (vdr : ℕ). stored_bytes now vdr size leaves j) (sym put.vdr_is)
      ∙ elim (some_or_none (leaf_of j leaves)) [
        | inr none ↦ ap (stored_by now to.own.vdr size j) none ∙ sym (ap (stored_by to.image to.own.vdr size j) none)
        | inl y ↦ ap (stored_by now to.own.vdr size j) y.1 ∙ ap Some (leaf_still j y.0 (found_covering j leaves y.0 y.1).0) ∙ sym (ap (stored_by to.image to.own.vdr size j) y.1)
      ]

  pub stored_put : (j : ℕ) → first ≤ j → j ≤ n → stored_bytes now own.vdr size leaves j ≡ Some (if j == n then raw else stored_pad b own)
  stored_put j low le = stored_still j ∙ stored_so.put j low (omega (arith, past, le)) le

  pub stored_same : (j : ℕ) → j < most → j ≢ n → stored_bytes now own.vdr size leaves j ≡ stored_bytes b own.vdr size olds j
  stored_same j lt ne = stored_still j ∙ stored_so.same j (elim (cases_lt n j) [ inl after ↦ inr (after, lt) | inr le ↦ inl (omega (arith, written_from v n, lt, ne, le)) ])

  -- and so is what was stored before the first record that is written
  pub stored_before : (j : ℕ) → j < first → stored_bytes now own.vdr size leaves j ≡ stored_bytes b own.vdr size olds j
  stored_before j lt = stored_still j ∙ stored_so.same j (inl lt)

  -- ---- the content

  abbrev turn : List ℕ → List ℕ
  turn = turned (type_of_variable b own.vdr) (is_little b)

  module _ (uncut : cuts_before_put v n ≡ false) where
    -- records past MaxRec are only put where there is no rule
    first_past : (k : ℕ) → most ≤ k → k < n → first ≤ k
    first_past k le lt = elim (either (is_sparse v.sparse)) [
      | inl rule ↦ let none : nat_lt most n ≡ false = rw rule at uncut in absurd (grind (arith, nat_tests, none, le, lt))
      | inr free ↦ rw free (omega (arith, le))
    ]

    module _ (bytes : List ℕ) (raw_is : turned (type_of_variable b own.vdr) (is_little b) raw ≡ bytes) (pad_is : most < n → turned (type_of_variable b own.vdr) (is_little b) (stored_pad b own) ≡ pad_record v) where
      stored_bytes_is : option_map turn (stored_bytes now own.vdr size leaves n) ≡ Some bytes
      stored_bytes_is = ap (option_map turn) (stored_put n (written_upto v n) (omega arith)) ∙ ap Some (rw (eq-eqb n n refl) raw_is)

      padded : (k : ℕ) → most ≤ k → k < n → option_map turn (stored_bytes now own.vdr size leaves k) ≡ Some (pad_record v)
      padded k le lt = ap (option_map turn) (stored_put k (first_past k le lt) (omega arith)) ∙ ap Some (rw (ne_eqb k n (λ e. absurd (omega (arith, e, lt)))) (pad_is (omega arith)))

      stores : StoresPut b now own.vdr own.vdr olds leaves n bytes (pad_record v)
      stores = record {
        typed = type_alike put.file (stays_alike put.file (stays along.good along.among put.descriptor));
        little = put.file.little;
        as_long = ap (record_bytes now) (sym put.vdr_is) ∙ later_size along.good along.among put;
        ascend = leaves_ascend along.good along.among;
        ascend_now = leaves_ascend put.good put.among;
        upto = extent_set along past done short;
        stored = stored_bytes_is;
        padded = padded;
        kept = stored_same;
      }

      records_are : records_in now own.vdr leaves ≡ with_item n bytes (filled v.sparse v n)
      records_are = records_put stores ∙ ap (with_item n bytes) (sym (filled_uncut v n uncut))

      pub put_content : content now ≡ with_variable (content b) (found_in b kind before own) (with_record v n bytes)
      put_content = put.content_is ∙ ap (with_variable (content b) (found_in b kind before own)) (variable_stays put.file own to.own (stays along.good along.among put.descriptor) put.vdr_is ∙ (λ i. record v { max_rec = max_rec_set along past done short i; recs = records_are i }))
