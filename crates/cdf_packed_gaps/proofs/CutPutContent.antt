-- A put past MaxRec + 1 of a packed variable under a rule: the content has the record by then, as the cut before the put leaves each record of the variable.
use Rattle.cdf_edits.proofs.Common.{Act, Kind, Leaf, List, None, Some, Variable, VariableShape, ap, arith, content, eq-eqb, extent, filled, if◌then◌else◌, is_little, last_number, leaves_of, length, max_rec_at, option_map, pad_record, record_bytes, records_in, refl, stored_bytes, sym, turned, type_of_variable, variable_of, with_item, with_variable, ℕ, ◌+◌, ◌<◌, ◌∙◌, ◌≡◌, ◌≢◌, ◌≤◌}
use Rattle.cdf_edits.proofs.Edits.PlainLeaves.{leaves_ascend}
use Rattle.cdf_edits.proofs.Frame.VdrAlike.{type_alike}
use Rattle.cdf_edits.proofs.Frame.VdrStays.{stays_alike, variable_stays}
use Rattle.cdf_edits.specs.Commands.PutSteps.{Stage}
use Rattle.cdf_edits.specs.Index.Blocks.{first_written}
use Rattle.cdf_model.specs.RecordSteps.{greater, with_record}
use Rattle.cdf_puts.proofs.CoveringRanges.{written_upto}
use Rattle.cdf_puts.proofs.GoesThen.{later_size, stays}
use Rattle.cdf_puts.proofs.PutAlone.{StoresAlone, filled_ruled, records_put_alone}
use Rattle.cdf_puts.specs.Going.{found_in}
use Rattle.cdf_put_steps.proofs.PutContent.{stored_before, stored_put}
use Rattle.cdf_put_steps.proofs.StepsDone.{extent_set, max_rec_set}
use Rattle.cdf_put_steps.specs.Along.{stored_pad}
use Rattle.cdf_packed_cuts.specs.Past.{PackedPast}
use Rattle.cdf_packed_gaps.proofs.CutPutDone.{goes, max_rec_mid, put}
use Rattle.cdf_packed_gaps.proofs.CutRoom.{alone, variable_mid}
use Rattle.cdf_packed_gaps.specs.CutThenPut.{CutThenPut}

module _ {b mid now : List ℕ} {kind : Kind} {before : List VariableShape} {own : VariableShape} {after : List VariableShape} {first n : ℕ} {raw : List ℕ} {cut : PackedPast b mid kind before own after first} {to : Stage} {acts : List Act} (t : CutThenPut b mid now kind before own after first n raw cut to acts) (raw_long : length raw ≡ record_bytes b own.vdr) (pad_long : length (stored_pad b own) ≡ record_bytes b own.vdr) where
  abbrev v : Variable
  v = variable_of b own

  abbrev size : ℕ
  size = record_bytes b own.vdr

  abbrev most : ℕ
  most = extent (max_rec_at b own.vdr)

  abbrev leaves : List Leaf
  leaves = leaves_of to.own.index

  vdr_mid : cut.own'.vdr ≡ own.vdr
  vdr_mid = cut.goes_on.vdr_is

  size_mid : record_bytes mid cut.own'.vdr ≡ size
  size_mid = later_size t.cuts.good t.cuts.among cut.goes_on

  alone_mid : first_written (variable_of mid cut.own') n ≡ n
  alone_mid = ap (λ (w : Variable). first_written w n) (variable_mid t.cuts cut) ∙ alone t.cuts

  -- the bytes of a record and of the pad are as many after the cut
  raw_mid : length raw ≡ record_bytes mid cut.own'.vdr
  raw_mid = raw_long ∙ sym size_mid

  pad_mid : length (stored_pad mid cut.own') ≡ record_bytes mid cut.own'.vdr
  pad_mid =
      let same = variable_mid t.cuts cut in
      let little = cut.goes_on.file.little in
      ap (λ (xs : List ℕ). length xs) (λ i. turned (same i).type (little i) (pad_record (same i))) ∙ pad_long ∙ sym size_mid

  -- ---- what is stored

  stored_is : (j : ℕ) → stored_bytes now own.vdr size leaves j ≡ stored_bytes now cut.own'.vdr (record_bytes mid cut.own'.vdr) leaves j
  stored_is j = λ i. stored_bytes now (sym vdr_mid i) (sym size_mid i) leaves j

  stored_early : (j : ℕ) → j < n → stored_bytes now own.vdr size leaves j ≡ stored_bytes mid cut.own'.vdr size (leaves_of cut.own'.index) j
  stored_early j lt =
      stored_is j
      ∙ stored_before (put t) t.upto t.done t.short raw_mid pad_mid j (omega (arith, alone_mid, lt))
      ∙ ap (λ (s : ℕ). stored_bytes mid cut.own'.vdr s (leaves_of cut.own'.index) j) size_mid

  kept : (j : ℕ) → j < most → j ≢ n → stored_bytes now own.vdr size leaves j ≡ stored_bytes b own.vdr size (leaves_of own.index) j
  kept j lt ne =
      let is = t.cuts.first_is in
      let past = t.cuts.past in
      stored_early j (omega arith) ∙ cut.stored.front j (omega arith)

  missing : (j : ℕ) → most ≤ j → j < n → stored_bytes now own.vdr size leaves j ≡ None
  missing j le lt = let is = t.cuts.first_is in stored_early j lt ∙ cut.stored.gone j (omega arith)

  here : stored_bytes now own.vdr size leaves n ≡ Some raw
  here = stored_is n ∙ stored_put (put t) t.upto t.done t.short raw_mid pad_mid n (written_upto (variable_of mid cut.own') n) (omega arith) ∙ ap (λ (p : _). Some (if p then raw else stored_pad mid cut.own')) (eq-eqb n n refl)

  -- ---- MaxRec

  max_rec_now : max_rec_at now own.vdr ≡ last_number (greater most (n + 1))
  max_rec_now = ap (max_rec_at now) (sym vdr_mid) ∙ max_rec_set (put t) t.upto t.done t.short ∙ ap (λ (m : _). last_number (greater (extent m) (n + 1))) (max_rec_mid t)

  extent_now : extent (max_rec_at now own.vdr) ≡ greater most (n + 1)
  extent_now = ap (λ (m : ℕ). extent (max_rec_at now m)) (sym vdr_mid) ∙ extent_set (put t) t.upto t.done t.short ∙ ap (λ (m : _). greater (extent m) (n + 1)) (max_rec_mid t)

  -- ---- the content

  module _ (bytes : List ℕ) (raw_is : turned (type_of_variable b own.vdr) (is_little b) raw ≡ bytes) where
    stores : StoresAlone b now own.vdr own.vdr (leaves_of own.index) leaves n bytes
    stores =
        let g = goes t in
        record {
          typed = type_alike g.file (stays_alike g.file (stays t.cuts.good t.cuts.among g.descriptor));
          little = g.file.little;
          as_long = ap (record_bytes now) (sym g.vdr_is) ∙ later_size t.cuts.good t.cuts.among g;
          ascend = leaves_ascend t.cuts.good t.cuts.among;
          ascend_now = leaves_ascend g.good g.among;
          upto = extent_now;
          stored = ap (option_map (turned (type_of_variable b own.vdr) (is_little b))) here ∙ ap Some raw_is;
          missing = missing;
          kept = kept;
        }

    records_are : records_in now own.vdr leaves ≡ with_item n bytes (filled v.sparse v n)
    records_are = records_put_alone stores ∙ ap (with_item n bytes) (sym (filled_ruled v n t.cuts.rule))

    pub content_then : content now ≡ with_variable (content b) (found_in b kind before own) (with_record (variable_of b own) n bytes)
    content_then =
        let g = goes t in
        g.content_is ∙ ap (with_variable (content b) (found_in b kind before own)) (variable_stays g.file own to.own (stays t.cuts.good t.cuts.among g.descriptor) g.vdr_is ∙ (λ i. record v { max_rec = max_rec_now i; recs = records_are i }))
