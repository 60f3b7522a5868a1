use Rattle.std.proofs.Common.{◌∙◌, refl, subst, sym}
use Rattle.cdf_convert.proofs.Causes.{at_error, becomes_counted, not_written, only_read, passed_on, uncounted}
use Rattle.cdf_convert.proofs.FewRecords.{few_records}
use Rattle.cdf_convert.proofs.Stopped.{read_ends, read_names}
use Rattle.cdf_convert.proofs.TakenSoFar.{all_taken, next_are, next_begins, none_taken, one_taken}
use Rattle.cdf_convert.specs.Errors.{EndsBefore, NamesRecord, read_error}
use Rattle.cdf_area.specs.declared.area.AreaError.TheVariants as areas
use Rattle.cdf_convert.specs.declared.error.ConvertError.TheVariants.{SourceFault, TargetFault}
use Rattle.cdf_model.specs.DataSet.{DataSet}
use Rattle.cdf_model.specs.Walks.{all_records}
use Rattle.cdf_walk.specs.Walks.{Stands}
use Rattle.cdf_writer.specs.Taken.{area_of}
use Rattle.std.specs.Prelude.{◌<◌, ◌^◌}
use Rattle.cdf_convert.proofs.copying.put_all.Goals as goal

pub loop-event-init : goal.loop-event-init
loop-event-init g c =
    let d = g.P.Parts.told c.args.parts.now in
    record {
      told = refl;
      under = refl;
      faults = refl;
      frame = refl;
      target_faults = refl;
      stands = c.new-walk.ensures.stands d;
      taken = none_taken g.B.Area.image g.B.Area.frame c.args.writer.now d c.new-walk.result.spot c.new-walk.ensures.spot c.requires.took;
    }

pub next_event-requires-clause-few : goal.next_event-requires-clause-few
next_event-requires-clause-few g c = subst (λ (d : DataSet). all_records d < 2 ^ 64) (sym c.loop-event.invariant.told) (few_records (g.P.Parts.told c.args.parts.now) c.requires.fine)

pub put_event-requires : goal.put_event-requires
put_event-requires g c =
    let i = c.loop-event.invariant in
    let d = g.P.Parts.told c.args.parts.now in
    let more = rw i.told at (rw c.in-Some.is at c.in_ok-event.ensures.gives) in
    (i.taken.taken, i.taken.took, next_begins g.B.Area.image g.B.Area.frame c.loop-event.writer d c.loop-event.walk.spot i.taken c.next_event.new.walk.spot c.in-Some.event more c.requires.fine)

pub loop-event-preserved : goal.loop-event-preserved
loop-event-preserved g c =
    let i = c.loop-event.invariant in
    let d = g.P.Parts.told c.args.parts.now in
    let more = rw i.told at (rw c.in-Some.is at c.in_ok-event.ensures.gives) in
    record {
      told = c.in_ok-event.ensures.parts.told ∙ i.told;
      under = c.in_ok-event.ensures.parts.under ∙ i.under;
      faults = c.in_ok-event.ensures.parts.cause.done ∙ i.faults;
      frame = c.in_ok-put_event.ensures.frame ∙ i.frame;
      target_faults = c.in_ok-put_event.ensures.target.done ∙ i.target_faults;
      stands = subst (λ (x : DataSet). Stands x c.next_event.new.walk) (c.in_ok-event.ensures.parts.told ∙ i.told) c.in_ok-event.ensures.stands;
      taken = one_taken g.B.Area.image g.B.Area.frame c.loop-event.writer d c.loop-event.walk.spot i.taken c.next_event.new.walk.spot c.in-Some.event more c.put_event.new.writer (c.in_ok-put_event.ensures.took i.taken.taken i.taken.took);
    }

pub returns-in_err-event-clause-named : goal.returns-in_err-event-clause-named
returns-in_err-event-clause-named g c =
    let d = g.P.Parts.told c.args.parts.now in
    let limit = (g.B.Area.frame (area_of c.args.writer.now)).limit in
    at_error (NamesRecord limit d) _ (read_error c.in_err-event.field-0.0) c.from_residual.ensures.1 (read_names limit d c.in_err-event.field-0.0)

pub returns-in_err-event-clause-ends : goal.returns-in_err-event-clause-ends
returns-in_err-event-clause-ends g c =
    let b = g.B.Area.image (area_of c.loop-event.writer) in
    at_error (EndsBefore b) _ (read_error c.in_err-event.field-0.0) c.from_residual.ensures.1 (read_ends b c.in_err-event.field-0.0)

pub returns-in_err-event-clause-source : goal.returns-in_err-event-clause-source
returns-in_err-event-clause-source g c =
    becomes_counted read_error areas.Fault only_read _ _ _ c.in_err-event.field-0.0 _ c.loop-event.invariant.faults c.in_err-event.ensures.parts.cause c.from_residual.ensures.1

pub returns-in_err-event-clause-target : goal.returns-in_err-event-clause-target
returns-in_err-event-clause-target g c =
    uncounted TargetFault _ _ (read_error c.in_err-event.field-0.0) _ c.loop-event.invariant.target_faults (not_written c.in_err-event.field-0.0) c.from_residual.ensures.1

pub returns-in_err-put_event-clause-named : goal.returns-in_err-put_event-clause-named
returns-in_err-put_event-clause-named g c =
    let i = c.loop-event.invariant in
    let d = g.P.Parts.told c.args.parts.now in
    let limit = (g.B.Area.frame (area_of c.args.writer.now)).limit in
    let more = rw i.told at (rw c.in-Some.is at c.in_ok-event.ensures.gives) in
    let are = next_are g.B.Area.image g.B.Area.frame c.loop-event.writer d c.loop-event.walk.spot i.taken c.next_event.new.walk.spot c.in-Some.event more in
    let named = c.in_err-put_event.ensures.named i.taken.taken d _ i.taken.took c.requires.fine are in
    at_error (NamesRecord limit d) _ c.in_err-put_event.field-0.0 c.from_residual-in_err-put_event.ensures.1 (rw i.frame at named)

pub returns-in_err-put_event-clause-ends : goal.returns-in_err-put_event-clause-ends
returns-in_err-put_event-clause-ends g c =
    at_error (EndsBefore (g.B.Area.image (area_of c.put_event.new.writer))) _ c.in_err-put_event.field-0.0 c.from_residual-in_err-put_event.ensures.1 c.in_err-put_event.ensures.ends

pub returns-in_err-put_event-clause-source : goal.returns-in_err-put_event-clause-source
returns-in_err-put_event-clause-source g c =
    let faults = g.P.Parts.faults c.next_event.new.parts in
    passed_on SourceFault _ faults _ _ _ (c.in_ok-event.ensures.parts.cause.done ∙ c.loop-event.invariant.faults) (c.in_err-put_event.ensures.source faults) c.from_residual-in_err-put_event.ensures.1

pub returns-in_err-put_event-clause-target : goal.returns-in_err-put_event-clause-target
returns-in_err-put_event-clause-target g c = passed_on TargetFault _ _ _ _ _ c.loop-event.invariant.target_faults c.in_err-put_event.ensures.target c.from_residual-in_err-put_event.ensures.1

pub returns-clause-took : goal.returns-clause-took
returns-clause-took g c =
    let i = c.loop-event.invariant in
    all_taken g.B.Area.image g.B.Area.frame c.loop-event.writer (g.P.Parts.told c.args.parts.now) c.loop-event.walk.spot i.taken (rw i.told at (rw c.in_default.is at c.in_ok-event.ensures.gives)).0
