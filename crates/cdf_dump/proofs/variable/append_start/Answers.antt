use Rattle.cdf_dump.proofs.Parts.{named_parts}
use Rattle.cdf_dump.proofs.variable.append_start.Goals as goal

pub returns : goal.returns
returns c =
    named_parts c.append_type.result _ _ _ _ _ _ _ _ _ (rw (c.kind_name.ensures, c.from.ensures) at c.in_ok-append_number.ensures) c.in_ok-push.ensures.items c.in_ok-append_quoted.ensures c.append_type.ensures
