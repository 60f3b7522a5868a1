use Rattle.std.proofs.Common.{refl}
use Rattle.cdf_text_examples.proofs.lines.of_records.Goals as goal

pub returns : goal.returns
returns c = record { put_rec = refl; get_rec = refl; del_recs = refl; put_val = refl; get_val = refl }
