-- A put went past its record, and MaxRec was raised where that was due: MaxRec and rMaxRec are as they should be, and all of it is as the steps say.
use Rattle.cdf_edits.proofs.Common.{Act, Kind, List, R, VariableShape, ap, append-nil, arith, content, extent, image_limit, inl, inr, last_number, length, max_rec_at, nat_tests, number, r_max_rec, record_bytes, record_number_limit, subst, sym, variable_of, vdr_max_rec, with_sign, ℕ, ◌+◌, ◌<◌, ◌∙◌, ◌≡◌, ◌≤◌, ◌⊎◌}
use Rattle.cdf_edits.proofs.Edits.LeafRecords.{signed}
use Rattle.cdf_edits.proofs.Edits.RecordsPut.{extent_last, greater_is_first, greater_is_last}
use Rattle.cdf_edits.proofs.Edits.RecordsWritten.{r_max_rec_of_z}
use Rattle.cdf_edits.specs.Commands.GreatestRecord.{RMaxRecFollows, greatest_r_max_rec}
use Rattle.cdf_edits.specs.Commands.PutSteps.{PutsBySteps, PutsUpTo, Stage}
use Rattle.cdf_edits.specs.Commands.Puts.{max_rec_touches}
use Rattle.cdf_edits.specs.Frame.Changed.{Changed, Touch}
use Rattle.cdf_model.specs.RecordSteps.{greater}
use Rattle.cdf_puts.proofs.DoneBytes.{last_of_extent}
use Rattle.cdf_puts.proofs.GoesThen.{variable_there}
use Rattle.cdf_puts.proofs.RaisedGoes.{greatest_follows}
use Rattle.cdf_puts.specs.Going.{GoesOn, found_in}
use Rattle.cdf_puts.specs.SoFar.{MaxRecDone}
use Rattle.cdf_put_steps.proofs.KeptAlong.{KeptSo, put_goes, small_record, so, writes}
use Rattle.cdf_put_steps.specs.Along.{LeavesPut, put_in}
use Rattle.std.specs.Prelude.{max}

pub greater_is_max : (m n : ℕ) → greater m n ≡ max m n
greater_is_max m n = grind (arith, nat_tests)

r_max_done : (b mid now : List ℕ) (kind : Kind) (own own' : VariableShape) (n : ℕ) → extent (max_rec_at now own'.vdr) ≡ greater (extent (max_rec_at b own.vdr)) (n + 1) → r_max_rec mid ≡ r_max_rec b → MaxRecDone b mid now kind own own' n
    → ((extent (max_rec_at now own'.vdr) ≡ extent (max_rec_at b own.vdr)) × (r_max_rec now ≡ r_max_rec b)) ⊎ ((extent (max_rec_at b own.vdr) < extent (max_rec_at now own'.vdr)) × (kind ≡ R → r_max_rec now ≡ greatest_r_max_rec (content now)))
r_max_done b mid now kind own own' n is same (inl x) = let past = is ∙ greater_is_last (extent (max_rec_at b own.vdr)) n x.0 in inr (omega (arith, past, x.0), x.1.greatest)
r_max_done b mid now kind own own' n is same (inr x) = inl (is ∙ greater_is_first (extent (max_rec_at b own.vdr)) n x.0, ap r_max_rec x.1 ∙ same)

max_rec_done : (b mid now : List ℕ) (kind : Kind) (own own' : VariableShape) (n : ℕ) → own'.vdr ≡ own.vdr → n ≤ record_number_limit → number mid own'.vdr vdr_max_rec ≡ number b own.vdr vdr_max_rec → MaxRecDone b mid now kind own own' n → max_rec_at now own.vdr ≡ last_number (greater (extent (max_rec_at b own.vdr)) (n + 1))
max_rec_done b mid now kind own own' n vdr small same (inl x) = ap (max_rec_at now) (sym vdr) ∙ ap with_sign x.1.max_rec_is ∙ signed n small ∙ sym (ap last_number (greater_is_last (extent (max_rec_at b own.vdr)) n x.0))
max_rec_done b mid now kind own own' n vdr small same (inr x) = ap (max_rec_at now) (sym vdr) ∙ ap (λ (y : List ℕ). max_rec_at y own'.vdr) x.1 ∙ ap with_sign same ∙ sym (last_of_extent (max_rec_at b own.vdr) n x.0) ∙ ap last_number (sym (greater_is_first (extent (max_rec_at b own.vdr)) n x.0))

module _ {b now : List ℕ} {kind : Kind} {before : List VariableShape} {own : VariableShape} {after : List VariableShape} {n : ℕ} {raw : List ℕ} {to : Stage} {acts : List Act} (along : LeavesPut b kind before own after n raw to acts) (past : n < to.next) (done : MaxRecDone b to.image now kind own to.own n) (short : length to.image ≤ image_limit) where
  abbrev most : ℕ
  most = extent (max_rec_at b own.vdr)

  kept : KeptSo b kind before own after n to acts
  kept = so along past done short

  put : GoesOn b now kind before own to.own after acts
  put = put_goes along past done short

  pub max_rec_set : max_rec_at now own.vdr ≡ last_number (greater most (n + 1))
  max_rec_set = max_rec_done b to.image now kind own to.own n put.vdr_is (small_record along past done short) kept.max_rec done

  pub extent_set : extent (max_rec_at now own.vdr) ≡ greater most (n + 1)
  extent_set = ap extent max_rec_set ∙ extent_last (greater most (n + 1))

  pub last_extent : extent (max_rec_at now to.own.vdr) ≡ greater most (n + 1)
  last_extent = ap (λ (x : ℕ). extent (max_rec_at now x)) put.vdr_is ∙ extent_set

  pub last_r_max_rec : RMaxRecFollows b now
  last_r_max_rec =
      greatest_follows b now kind (length before) (variable_of b own) (variable_of now to.own) (variable_there along.good along.among) put.content_is (λ z. r_max_rec_of_z kept.goes.good kept.goes.among (writes along past done short) z ∙ kept.r_max)
      (r_max_done b to.image now kind own to.own n last_extent kept.r_max done)

  pub touched : Changed to.image now (max_rec_touches to.image kind to.own.vdr)
  touched = subst (λ (ts : List Touch). Changed to.image now ts) (append-nil (max_rec_touches to.image kind to.own.vdr)) (writes along past done short).changed

  pub by_steps : PutsUpTo b (put_in b kind before own n raw) own to acts → length raw ≡ record_bytes b own.vdr → PutsBySteps b now (found_in b kind before own) n own acts
  by_steps puts raw_long = record {
    raw = raw;
    raw_long = raw_long;
    last = to;
    puts = puts;
    past = past;
    changed = touched;
    as_long = (writes along past done short).as_long;
    max_rec_is = last_extent ∙ greater_is_max most (n + 1);
    r_max_rec = last_r_max_rec;
  }
