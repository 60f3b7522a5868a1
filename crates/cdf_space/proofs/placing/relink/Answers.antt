use Rattle.cdf_space.proofs.Common.{on_ok_weaker}
use Rattle.cdf_space.proofs.Writing.{relinked_last, relinked_by}
use Rattle.cdf_space.proofs.placing.relink.Goals as goal

pub returns-then-fit-eq0-clause-relinked : goal.returns-then-fit-eq0-clause-relinked
returns-then-fit-eq0-clause-relinked g c =
    relinked_last (g.A.Area.image c.args.area.now) (g.A.Area.image c.set_unsigned8.new.area) c.args.fit c.args.to c.args.back c.requires.link c.ranges.to.fits c.if-fit-eq0.true c.in_ok-set_unsigned8.ensures.ok

pub returns-clause-relinked : goal.returns-clause-relinked
returns-clause-relinked g c =
    let some = c.if-fit-eq0.false in
    on_ok_weaker _ (λ w. relinked_by (g.A.Area.image c.args.area.now) (g.A.Area.image c.set_unsigned8.new.area) (g.A.Area.image c.set_uir_prev_uir.new.area) c.args.fit c.args.to c.args.back
    c.requires.link (c.requires.next some) (c.requires.apart some) c.ranges.to.fits c.ranges.back.fits some c.in_ok-set_unsigned8.ensures.ok w) c.set_uir_prev_uir.ensures.ok
