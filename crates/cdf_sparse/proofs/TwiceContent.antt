-- Under a rule for missing records the records from a first to a last were cut out, then all that was past the new MaxRec, and MaxRec was written where it fell: the variable is without these records, and all else of the content stays.
use Rattle.cdf_cuts.proofs.Common.{Leaf, List, Some, [], ap, arith, inl, inr, leaves_of, option_map, range, refl, size_at, subst, suc, sym, ℕ, ◌++◌, ◌+◌, ◌-◌, ◌<◌, ◌∙◌, ◌≡◌, ◌≤◌}
use Rattle.std.proofs.Common.{drop, find, take}
use Rattle.cdf_edits.proofs.Common.{Act, Good, Kind, Variable, VariableShape, content, covers, extent, last_number, max_rec_at, record_bytes, records_in, stored_bytes, type_of_variable, variable_of, with_variable, without}
use Rattle.cdf_edits.proofs.Edits.LeafPieces.{IsOneOf, place_in, plain_piece, record_place, times_le}
use Rattle.cdf_edits.proofs.Edits.PlainLeaves.{leaves_ascend, plain_leaf}
use Rattle.cdf_edits.proofs.Edits.RecordsWritten.{WritesRecords, block_kept}
use Rattle.cdf_edits.proofs.Edits.StandsAmong.{StandsAmong}
use Rattle.cdf_edits.proofs.Frame.VdrAlike.{type_alike}
use Rattle.cdf_edits.proofs.Frame.VdrStays.{stays_alike, variable_stays}
use Rattle.cdf_edits.specs.Index.Blocks.{extent_after}
use Rattle.cdf_model.specs.Numbered.{greatest}
use Rattle.cdf_model.specs.RecordSteps.{without_records}
use Rattle.cdf_puts.proofs.CoveringRanges.{some_or_none}
use Rattle.cdf_puts.proofs.GoesThen.{goes_written, later_size, stays, later_loose}
use Rattle.cdf_puts.proofs.PutBytes.{found_covering}
use Rattle.cdf_puts.specs.Going.{GoesOn, found_in}
use Rattle.cdf_cuts.proofs.BlocksMoved.{piece_shifted}
use Rattle.cdf_cuts.proofs.PastContent.{stored_front}
use Rattle.cdf_cuts.specs.Past.{cut_off, past_acts}
use Rattle.cdf_sparse.proofs.GreatestLeft.{greatest_is, last_greatest, without_ruled}
use Rattle.cdf_sparse.proofs.OpenStored.{stored_inside, stored_outside}
use Rattle.cdf_sparse.proofs.TwiceGoes.{twice_goes}
use Rattle.cdf_sparse.proofs.TwiceLeft.{TwiceEnds, TwiceLeft, left_short}
use Rattle.cdf_sparse.specs.Opening.{opening_acts}
use Rattle.cdf_sparse.proofs.RecordsLeft.{StoresLeft, records_left}
use Rattle.cdf_format.specs.Shape.{is_compressed}
use Rattle.std.specs.Prelude.{false}

-- ---- where no record is written, what is stored stays

module _ {b now : List ℕ} {kind : Kind} {before : List VariableShape} {own : VariableShape} {after : List VariableShape} (good : Good b) (at : StandsAmong b kind before own after) (w : WritesRecords b now kind own []) (goes : GoesOn b now kind before own own after []) (loose : is_compressed b own.vdr ≡ false) where
  abbrev width : ℕ
  width = record_bytes b own.vdr

  abbrev blocks : List Leaf
  blocks = leaves_of own.index

  block_same : (l : Leaf) → IsOneOf blocks l → (k : ℕ) → l.first ≤ k → k ≤ l.last → take width (drop (record_place l width k) now) ≡ take width (drop (record_place l width k) b)
  block_same l i k low high =
      let p = plain_leaf good at loose l i in
      let kept = block_kept good at w l.place (place_in blocks l i) (λ none. none) in
      let fit = times_le (suc (k - l.first)) (l.last + 1 - l.first) width (omega arith) in
      let inside = kept.inside in
      let upto : record_place l width k + width ≤ l.place + size_at b l.place = omega (arith, fit, p.room) in
      piece_shifted width (record_place l width k) (record_place l width k) now b (omega (arith, upto, inside, w.as_long)) (omega (arith, upto, inside)) (λ n lt. kept.same.each (record_place l width k + n) (omega arith) (omega (arith, upto, lt)))

  pub stored_still : (k : ℕ) → stored_bytes now own.vdr width blocks k ≡ stored_bytes b own.vdr width blocks k
  stored_still k = elim (some_or_none (find (λ (leaf : Leaf). covers k (range leaf.first leaf.last)) blocks)) [
    | inl y ↦
        let l = y.0 in
        let o = found_covering k blocks l y.1 in
        let p = plain_leaf good at loose l o.0 in
        ap (option_map _) y.1 ∙ ap Some (plain_piece now own.vdr width k l p.plain p.small (later_size good at goes) o.1.0 o.1.1 ∙ block_same l o.0 k o.1.0 o.1.1 ∙ sym (plain_piece b own.vdr width k l p.plain p.small refl o.1.0 o.1.1)) ∙ sym (ap (option_map _) y.1)
    | inr none ↦ ap (option_map _) none ∙ sym (ap (option_map _) none)
  ]

-- ---- the content

module _ {b mid left now : List ℕ} {kind : Kind} {before : List VariableShape} {own own' : VariableShape} {after : List VariableShape} {first last : ℕ} {takes : List Act} (t : TwiceLeft b mid left kind before own own' after first last takes) (e : TwiceEnds b left now kind (cut_off own' (extent_after (variable_of b own) first last)) (extent_after (variable_of b own) first last)) where
  abbrev v : Variable
  v = variable_of b own

  abbrev end : ℕ
  end = extent_after v first last

  abbrev own'' : VariableShape
  own'' = cut_off own' end

  abbrev size : ℕ
  size = record_bytes b own.vdr

  abbrev acts : List Act
  acts = opening_acts b own first last takes ++ past_acts mid own' end

  goes : GoesOn b now kind before own own'' after acts
  goes = twice_goes t e.writes

  ruled_is : without_records v.sparse v first last ≡ record v { recs = without first last v.recs; max_rec = greatest_is (greatest (without first last v.recs)) }
  ruled_is = without_ruled v.sparse v first last t.rule

  max_rec_now : max_rec_at now own''.vdr ≡ greatest_is (greatest (without first last v.recs))
  max_rec_now = e.max_rec_is ∙ ap (λ (x : Variable). last_number (extent x.max_rec)) ruled_is ∙ last_greatest (greatest (without first last v.recs))

  end_is : extent (max_rec_at now own''.vdr) ≡ end
  end_is = ap extent max_rec_now ∙ sym (ap (λ (x : Variable). extent x.max_rec) ruled_is)

  mid_size : record_bytes mid own'.vdr ≡ size
  mid_size = later_size t.good t.among t.opened.goes

  left_size : record_bytes left own''.vdr ≡ size
  left_size = later_size t.opened.goes.good t.opened.goes.among t.past.goes_on ∙ mid_size

  left_loose : is_compressed left own''.vdr ≡ false
  left_loose = later_loose t.opened.goes.good t.opened.goes.among t.past.goes_on t.past.loose

  low_goes : GoesOn left now kind before own'' own'' after []
  low_goes = goes_written t.past.goes_on.good t.past.goes_on.among e.writes (left_short t)

  -- below the new MaxRec there is stored what the open cut left
  stored_low : (k : ℕ) → k < end → stored_bytes now own''.vdr size (leaves_of own''.index) k ≡ stored_bytes mid own'.vdr size (leaves_of own'.index) k
  stored_low k lt =
      subst (λ (n : ℕ). stored_bytes now own''.vdr n (leaves_of own''.index) k ≡ stored_bytes left own''.vdr n (leaves_of own''.index) k) left_size (stored_still t.past.goes_on.good t.past.goes_on.among e.writes low_goes left_loose k)
      ∙ subst (λ (n : ℕ). stored_bytes left own''.vdr n (leaves_of own''.index) k ≡ stored_bytes mid own'.vdr n (leaves_of own'.index) k) mid_size (stored_front t.opened.goes.good t.opened.goes.among t.past k lt)

  stores : StoresLeft b now own.vdr own''.vdr (leaves_of own.index) (leaves_of own''.index) first last
  stores = record {
    typed = ap (type_of_variable now) goes.vdr_is ∙ type_alike goes.file (stays_alike goes.file (stays t.good t.among goes.descriptor));
    little = goes.file.little;
    as_long = later_size t.good t.among goes;
    ascend = leaves_ascend t.good t.among;
    ascend_now = leaves_ascend goes.good goes.among;
    upto = ap extent max_rec_now;
    inside = λ k lt low high. stored_low k (omega (arith, lt, end_is)) ∙ stored_inside t.good t.among t.order t.opened k low high;
    kept = λ k lt side. stored_low k (omega (arith, lt, end_is)) ∙ stored_outside t.good t.among t.order t.opened k side;
  }

  recs_now : records_in now own.vdr (leaves_of own''.index) ≡ without first last v.recs
  recs_now = ap (λ (d : ℕ). records_in now d (leaves_of own''.index)) (sym goes.vdr_is) ∙ records_left stores

  max_now : max_rec_at now own.vdr ≡ greatest_is (greatest (without first last v.recs))
  max_now = ap (max_rec_at now) (sym goes.vdr_is) ∙ max_rec_now

  pub variable_left : variable_of now own'' ≡ without_records v.sparse v first last
  variable_left = variable_stays goes.file own own'' (stays t.good t.among goes.descriptor) goes.vdr_is ∙ (λ i. record v { max_rec = max_now i; recs = recs_now i }) ∙ sym ruled_is

  pub deleted_content : content now ≡ with_variable (content b) (found_in b kind before own) (without_records v.sparse v first last)
  deleted_content = goes.content_is ∙ ap (with_variable (content b) (found_in b kind before own)) variable_left
