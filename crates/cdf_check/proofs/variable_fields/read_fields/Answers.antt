use Rattle.cdf_check.proofs.Common.{read_done, read_once, refl}
use Rattle.cdf_check.proofs.FieldSteps.{fields_are}
use Rattle.cdf_check.proofs.variable_fields.read_fields.Goals as goal

pub returns-clause-fields : goal.returns-clause-fields
returns-clause-fields g c =
    fields_are (g.A.Area.image c.args.area.now) c.args.vdr c.in_ok-head.head c.in_ok-head.ensures.value c.in_ok-head.ensures.bytes _
    refl c.cast_unsigned.ensures c.of_code.ensures c.cast_unsigned-2.ensures refl refl c.cast_unsigned-3.ensures c.cast_unsigned-4.ensures c.cast_unsigned-5.ensures

pub returns-clause-area : goal.returns-clause-area
returns-clause-area g c = read_done (read_once c.in_ok-head.ensures.area)
