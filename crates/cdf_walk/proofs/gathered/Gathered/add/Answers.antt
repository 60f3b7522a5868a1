use Rattle.cdf_walk.proofs.GatheredTexts.{gathers_none_if}
use Rattle.cdf_walk.proofs.gathered.Gathered.add.Goals as goal

pub returns-clause-all : goal.returns-clause-all
returns-clause-all g c =
    gathers_none_if (g.O.Sink.written c.args.out.now) (g.O.Sink.written c.write.new.out) (g.O.Sink.written c.write_all.new.out) c.args.self.now c.args.text.now c.gather.new.self c.write.new.self c.gather-2.new.self
    (c.gather.ensures.stays c.if-gather.false) c.in_ok-write.ensures.all c.in_ok-write.ensures.none_left (c.gather-2.ensures.stays c.if-gather-2.false) c.write_all.result c.write_all.ensures.all
