use Rattle.std.proofs.Common.{◌∙◌, refl, subst, sym}
use Rattle.std.specs.List.{All}
use Rattle.cdf_model.specs.Whole.{CanBeShown}
use Rattle.cdf_store.proofs.Fronts.{on_err}
use Rattle.cdf_walk.proofs.Causes.{passed_on}
use Rattle.cdf_walk.proofs.Dumped.{all_left, all_shown, dumped_in_part, last_cut, last_dumped, none_dumped, one_cut, one_dumped}
use Rattle.cdf_walk.specs.Walks.{Stands}
use Rattle.cdf_walk.specs.declared.error.WalkError.TheVariants.{Fault, SinkFault}
use Rattle.cdf_walk.proofs.dumping.dump.Goals as goal

pub loop-gathered-init : goal.loop-gathered-init
loop-gathered-init g c =
    let d = g.P.Parts.told c.args.parts.now in
    record {
      told = refl;
      under = refl;
      faults = refl;
      sink_faults = refl;
      stands = c.new-walk.ensures.stands d;
      shown = subst (λ l. All CanBeShown l) (sym (all_left d c.new-walk.result.spot c.new-walk.ensures.spot)) c.requires.shown;
      dumped = none_dumped d c.new-walk.result.spot (g.O.Sink.written c.args.out.now) _ c.new-walk.ensures.spot c.new-gathered.ensures;
    }

pub returns-in_err-event-clause-part : goal.returns-in_err-event-clause-part
returns-in_err-event-clause-part g c = on_err _ (dumped_in_part (g.P.Parts.told c.args.parts.now) c.loop-gathered.walk.spot _ _ _ c.loop-gathered.invariant.dumped)

pub gather_line-requires : goal.gather_line-requires
gather_line-requires g c =
    let i = c.loop-gathered.invariant in
    (all_shown (g.P.Parts.told c.args.parts.now) c.loop-gathered.walk.spot c.next_event.new.walk.spot c.in-Some.event (rw i.told at (rw c.in-Some.is at c.in_ok-event.ensures.gives)) i.shown).0

pub returns-in_err-gather_line-clause-part : goal.returns-in_err-gather_line-clause-part
returns-in_err-gather_line-clause-part g c =
    let i = c.loop-gathered.invariant in
    on_err _ (one_cut (g.P.Parts.told c.args.parts.now) c.loop-gathered.walk.spot _ _ _ i.dumped c.next_event.new.walk.spot c.in-Some.event (rw i.told at (rw c.in-Some.is at c.in_ok-event.ensures.gives)) _ c.in_err-gather_line.ensures.part)

pub returns-in_err-gather_line-clause-cause : goal.returns-in_err-gather_line-clause-cause
returns-in_err-gather_line-clause-cause g c =
    let parts = g.P.Parts.faults c.next_event.new.parts in
    passed_on Fault _ parts _ _ _ (c.in_ok-event.ensures.parts.cause.done ∙ c.loop-gathered.invariant.faults) (c.in_err-gather_line.ensures.cause parts) c.from_residual-in_err-gather_line.ensures.1

pub returns-in_err-gather_line-clause-sink : goal.returns-in_err-gather_line-clause-sink
returns-in_err-gather_line-clause-sink g c = passed_on SinkFault _ _ _ _ _ c.loop-gathered.invariant.sink_faults c.in_err-gather_line.ensures.sink c.from_residual-in_err-gather_line.ensures.1

pub loop-gathered-preserved : goal.loop-gathered-preserved
loop-gathered-preserved g c =
    let i = c.loop-gathered.invariant in
    let d = g.P.Parts.told c.args.parts.now in
    let next = c.next_event.new.walk.spot in
    let more = rw i.told at (rw c.in-Some.is at c.in_ok-event.ensures.gives) in
    record {
      told = c.in_ok-event.ensures.parts.told ∙ i.told;
      under = c.in_ok-event.ensures.parts.under ∙ i.under;
      faults = c.in_ok-event.ensures.parts.cause.done ∙ i.faults;
      sink_faults = c.in_ok-gather_line.ensures.sink.done ∙ i.sink_faults;
      stands = subst (λ x. Stands x c.next_event.new.walk) (c.in_ok-event.ensures.parts.told ∙ i.told) c.in_ok-event.ensures.stands;
      shown = (all_shown d c.loop-gathered.walk.spot next c.in-Some.event more i.shown).1;
      dumped = one_dumped d c.loop-gathered.walk.spot _ _ _ i.dumped next c.in-Some.event more _ _ c.in_ok-gather_line.ensures.all;
    }

pub returns-in_err-write-clause-part : goal.returns-in_err-write-clause-part
returns-in_err-write-clause-part g c = on_err _ (last_cut (g.P.Parts.told c.args.parts.now) c.loop-gathered.walk.spot _ _ _ c.loop-gathered.invariant.dumped _ c.in_err-write.ensures.part)

pub returns-clause-all : goal.returns-clause-all
returns-clause-all g c =
    let i = c.loop-gathered.invariant in
    last_dumped (g.P.Parts.told c.args.parts.now) c.loop-gathered.walk.spot _ _ _ i.dumped _ (rw i.told at (rw c.in_default.is at c.in_ok-event.ensures.gives)).0 c.in_ok-write.ensures.all
