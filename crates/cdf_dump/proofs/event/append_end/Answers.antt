use Rattle.cdf_dump.proofs.Parts.{three_parts}
use Rattle.cdf_dump.proofs.event.append_end.Goals as goal

pub returns : goal.returns
returns c = three_parts c.append_number-3.result _ _ _ _ _ _ _ (rw c.from.ensures at c.in_ok-append_number.ensures) (rw c.from-2.ensures at c.in_ok-append_number-2.ensures) c.append_number-3.ensures
