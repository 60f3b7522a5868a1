use Rattle.std.proofs.Common.{refl}
use Rattle.cdf_text_examples.proofs.lines.of_the_file.Goals as goal

pub returns : goal.returns
returns c = record { info = refl; list = refl; dump = refl; report = refl; setup = refl; no_dims = refl; checksum = refl; attr = refl; rename = refl; del = refl; put_entry = refl; get_entry = refl; del_entry = refl }
