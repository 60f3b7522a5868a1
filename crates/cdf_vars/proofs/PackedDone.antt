-- A record was put into a packed variable of which nothing was cut first, and MaxRec was raised where that was due: what holds of the last image.
use Rattle.cdf_vars.proofs.Common.{Act, Kind, List, NewRecord, VariableShape, ap, image_limit, is_little, length, pad_record, record_bytes, subst, sym, turned, variable_of, ℕ, ◌≡◌, ◌∙◌, ◌≤◌, false}
use Rattle.cdf_puts.specs.SoFar.{MaxRecDone}
use Rattle.cdf_put_steps.proofs.KeptAlong.{put_goes, put_keeps}
use Rattle.cdf_put_steps.proofs.PutContent as stored
use Rattle.cdf_put_steps.proofs.StepsDone.{by_steps}
use Rattle.cdf_put_steps.proofs.Along.{put_leaves}
use Rattle.cdf_put_steps.specs.Along.{PutsAlong, stored_pad}
use Rattle.cdf_blocks.specs.Replaced.{stage}
use Rattle.cdf_edits.specs.Index.Blocks.{cuts_before_put}
use Rattle.cdf_packed_puts.proofs.NothingCut.{uncut_along}
use Rattle.cdf_packed_puts.specs.Putting.{PackedPut, Packing}
use Rattle.cdf_vars.proofs.PackedFollows.{IsPackedPut}

module _ {b now last : List ℕ} {kind : Kind} {before : List VariableShape} {own : VariableShape} {after : List VariableShape} {put : NewRecord} {limit : ℕ} (p : Packing b kind before own after put limit) (uncut : cuts_before_put (variable_of b own) put.rec ≡ false) (d : PackedPut b now kind before own after put) (short : length now ≤ image_limit) (done : MaxRecDone b now last kind own d.is_put.own' put.rec) where
  abbrev own' : VariableShape
  own' = d.is_put.own'

  abbrev acts : List Act
  acts = d.is_put.acts

  along : PutsAlong b kind before own after put.rec put.raw.items (stage now own' d.is_put.last d.next) acts
  along = uncut_along p uncut d.is_put

  pad_long : length (stored_pad b own) ≡ record_bytes b own.vdr
  pad_long = ap length (sym p.pad_is) ∙ p.pad_long

  module _ (bytes : List ℕ) (raw_is : turned (variable_of b own).type (is_little b) put.raw.items ≡ bytes) (pad_is : turned (variable_of b own).type (is_little b) put.pad.items ≡ pad_record (variable_of b own)) where
    pub is_packed_put : IsPackedPut b last kind before own d.is_put.own' after put.rec bytes d.is_put.acts
    is_packed_put = record {
      good = p.good;
      among = p.among;
      rle = p.rle;
      goes = put_goes (put_leaves along) d.past done short;
      keeps = put_keeps (put_leaves along) d.past done short;
      fits = d.fits;
      steps = by_steps (put_leaves along) d.past done short along.puts p.raw_long;
      content_is = stored.put_content (put_leaves along) d.past done short p.raw_long pad_long uncut bytes raw_is (λ lt. subst (λ (xs : List ℕ). turned (variable_of b own).type (is_little b) xs ≡ pad_record (variable_of b own)) p.pad_is pad_is);
    }
