use Rattle.cdf_tool.proofs.CheckLemmas.{said_counted, says_space}
use Rattle.cdf_tool.proofs.checked.confirm.Goals as goal

pub returns-then-not-space-clause-counted : goal.returns-then-not-space-clause-counted
returns-then-not-space-clause-counted g c = λ source. c.say_accepted.ensures.counted _ _ source

pub returns-in-Ok-clause-says : goal.returns-in-Ok-clause-says
returns-in-Ok-clause-says g c =
    says_space c.args.space (g.A.Area.image c.args.session.now) c.in-Ok.space (g.O.Sink.written c.args.out.now) (g.O.Sink.written c.say_accepted-in-Ok.new.out) c.say_accepted-in-Ok.result c.if-not-space.false c.in-Ok.ensures.value c.say_accepted-in-Ok.ensures.text

pub returns-in-Ok-clause-counted : goal.returns-in-Ok-clause-counted
returns-in-Ok-clause-counted g c = λ source.
    said_counted c.say_accepted-in-Ok.result (g.A.Area.faults c.args.session.now) (g.O.Sink.faults c.args.out.now) source (g.A.Area.faults c.space.new.self) (g.O.Sink.faults c.say_accepted-in-Ok.new.out) c.in-Ok.ensures.area.cause.done (c.say_accepted-in-Ok.ensures.counted _ 0 source)
