-- The image after the cut is one in which the record may be put: it is of the same variable, what would be cut first is gone, and there is room left for the put.
use Rattle.cdf_edits.proofs.Common.{Kind, List, Variable, VariableShape, ap, arith, pad_record, record_bytes, sym, turned, variable_of, ℕ, ◌∙◌, ◌≡◌}
use Rattle.cdf_edits.specs.Index.Blocks.{first_written}
use Rattle.cdf_puts.proofs.GoesThen.{later_size}
use Rattle.cdf_puts.specs.Putting.{most_in_block}
use Rattle.cdf_puts.specs.declared.putting.NewRecord.{NewRecord}
use Rattle.cdf_put_steps.specs.Along.{stored_pad}
use Rattle.cdf_packed_cuts.specs.Past.{PackedPast}
use Rattle.cdf_packed_puts.specs.Putting.{Packing}
use Rattle.cdf_packed_gaps.proofs.CutRoom.{alone, both_within, gone_mid, variable_mid}
use Rattle.cdf_packed_gaps.specs.CutThenPut.{PackingToCut}

module _ {b mid : List ℕ} {kind : Kind} {before : List VariableShape} {own : VariableShape} {after : List VariableShape} {first limit : ℕ} {put : NewRecord} (p : PackingToCut b kind before own after first put limit) (cut : PackedPast b mid kind before own after first) where
  same : variable_of b own ≡ variable_of mid cut.own'
  same = sym (variable_mid p.cuts cut)

  size_same : record_bytes b own.vdr ≡ record_bytes mid cut.own'.vdr
  size_same = sym (later_size p.cuts.good p.cuts.among cut.goes_on)

  pad_same : stored_pad b own ≡ stored_pad mid cut.own'
  pad_same = let little = sym cut.goes_on.file.little in λ i. turned (same i).type (little i) (pad_record (same i))

  pub packs : Packing mid kind before cut.own' after put limit
  packs = record {
    good = cut.goes_on.good;
    among = cut.goes_on.among;
    rle = ap (λ (w : Variable). w.rle) (variable_mid p.cuts cut) ∙ p.rle;
    gone = λ t. gone_mid p.cuts cut;
    vdr_is = cut.goes_on.vdr_is ∙ p.vdr_is;
    small = p.small;
    raw_long = p.raw_long ∙ size_same;
    pad_is = p.pad_is ∙ pad_same;
    pad_long = p.pad_long ∙ size_same;
    most_is = p.most_is ∙ ap (λ (w : Variable). most_in_block w put.rec) same;
    room = (let longer = cut.longer in let within = both_within p.cuts cut p.rle in let room = p.room in omega arith);
  }

  pub begins : first_written (variable_of mid cut.own') put.rec ≡ put.rec
  begins = ap (λ (w : Variable). first_written w put.rec) (variable_mid p.cuts cut) ∙ alone p.cuts
