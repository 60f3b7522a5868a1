use Rattle.std.proofs.Common.{refl}
use Rattle.cdf_convert.proofs.Causes.{at_error, becomes_counted, not_read, only_written, uncounted}
use Rattle.cdf_convert.proofs.Stopped.{written_ends, written_names}
use Rattle.cdf_convert.specs.Errors.{EndsBefore, NamesRecord, write_error}
use Rattle.cdf_convert.specs.declared.error.ConvertError.TheVariants.{SourceFault}
use Rattle.cdf_writer.specs.Taken.{area_of}
use Rattle.cdf_writer.specs.declared.appending.WriteStop.TheVariants as stops
use Rattle.cdf_convert.proofs.copying.put_event.Goals as goal

pub returns-in_err-put-clause-named : goal.returns-in_err-put-clause-named
returns-in_err-put-clause-named g c taken d rest took fine are =
    let limit = (g.B.Area.frame (area_of c.args.writer.now)).limit in
    at_error (NamesRecord limit d) _ (write_error c.in_err-put.field-0.0) c.from_residual.ensures.1 (written_names limit d c.in_err-put.field-0.0 (c.in_err-put.ensures.too_large taken d rest took fine are))

pub returns-in_err-put-clause-ends : goal.returns-in_err-put-clause-ends
returns-in_err-put-clause-ends g c =
    let b = g.B.Area.image (area_of c.put.new.self) in
    at_error (EndsBefore b) _ (write_error c.in_err-put.field-0.0) c.from_residual.ensures.1 (written_ends b c.in_err-put.field-0.0 c.in_err-put.ensures.ends)

pub returns-in_err-put-clause-source : goal.returns-in_err-put-clause-source
returns-in_err-put-clause-source g c faults = uncounted SourceFault faults faults (write_error c.in_err-put.field-0.0) _ refl (not_read c.in_err-put.field-0.0) c.from_residual.ensures.1

pub returns-in_err-put-clause-target : goal.returns-in_err-put-clause-target
returns-in_err-put-clause-target g c = becomes_counted write_error stops.Fault only_written _ _ _ c.in_err-put.field-0.0 _ refl c.in_err-put.ensures.cause c.from_residual.ensures.1
