use Rattle.cdf_tool.proofs.Common.{CountedIn, counts, subst, ℕ}
use Rattle.cdf_tool.proofs.measured.measure.Goals as goal

pub returns-in-Ok-clause-counted : goal.returns-in-Ok-clause-counted
returns-in-Ok-clause-counted g c =
    subst (λ (n : ℕ). CountedIn (counts n 0 (g.O.Sink.faults c.args.out.now) 0) (counts (g.A.Area.faults c.space.new.self) 0 (g.O.Sink.faults c.say_space.new.out) 0) c.say_space.result) c.in-Ok.ensures.area.cause.done
    (c.say_space.ensures.counted (g.A.Area.faults c.space.new.self) 0 0)
