use Rattle.cdf_tool.proofs.Common.{Counted, List, SaysAccepted, Status, accepted_text, counts, false, inl, inr, subst, sym, transport, ℕ}
use Rattle.cdf_tool.proofs.checked.check_area.Goals as goal

pub returns-in-Ok-clause-ends : goal.returns-in-Ok-clause-ends
returns-in-Ok-clause-ends g c =
    let adopted = c.in-Ok.ensures.adopted in
    inr (adopted.well_formed, subst (λ (b : List ℕ). SaysAccepted (accepted_text c.args.space b) (g.O.Sink.written c.args.out.now) (g.O.Sink.written c.confirm-status.new.out) c.confirm-status.result) adopted.image_is c.confirm-status.ensures.says)

pub returns-in-Ok-clause-counted : goal.returns-in-Ok-clause-counted
returns-in-Ok-clause-counted g c = λ source.
    transport (λ i. Counted (counts (c.in-Ok.ensures.area.counted i) 0 (g.O.Sink.faults c.args.out.now) source) (counts (g.A.Area.faults (sym c.into_area-area.ensures.area i)) 0 (g.O.Sink.faults c.confirm-status.new.out) source) c.confirm-status.result)
    (c.confirm-status.ensures.counted source)

pub returns-in-Ok-clause-told : goal.returns-in-Ok-clause-told
returns-in-Ok-clause-told g c = λ is. subst (λ (s : Status). SaysAccepted (accepted_text c.args.space (g.A.Area.image c.in-Ok.session)) (g.O.Sink.written c.args.out.now) (g.O.Sink.written c.confirm-status.new.out) s) is c.confirm-status.ensures.says

pub returns-in-Err-clause-told : goal.returns-in-Err-clause-told
returns-in-Err-clause-told g c = c.refuse-status.ensures.told false (g.A.Area.image c.args.area) c.in-Err.ensures.rejected

pub returns-in-Err-clause-ends : goal.returns-in-Err-clause-ends
returns-in-Err-clause-ends g c = inl (c.refuse-status.ensures.ends false (g.A.Area.image c.args.area) c.in-Err.ensures.rejected)

pub returns-in-Err-clause-counted : goal.returns-in-Err-clause-counted
returns-in-Err-clause-counted g c = λ source. c.refuse-status.ensures.counted _ _ source c.in-Err.ensures.area.cause
