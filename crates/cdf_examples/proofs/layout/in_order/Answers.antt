use Rattle.cdf_examples.proofs.Common.{refl}
use Rattle.cdf_examples.proofs.layout.in_order.Goals as goal

pub returns : goal.returns
returns c = record { head = refl; cdr = refl; gdr = refl; adr = refl; aedr = refl; vdr = refl; vxr = refl; cvvr = refl; cpr = refl; uir = refl }
