use Rattle.cdf_index.proofs.Common.{arith, read_more, ◌≡◌}
use Rattle.cdf_index.proofs.EntriesCut.{is_cut}
use Rattle.cdf_index.proofs.scanning.count_below.Goals as goal

pub loop-low-preserved : goal.loop-low-preserved
loop-low-preserved g c =
    let i = c.loop-low.invariant in
    let number = rw i.area.image at c.in_ok-number.ensures.value in
    let area = read_more i.area c.in_ok-number.ensures.area in
    grind (arith, number, area, i, i.between c.loop-low-test.true)

pub returns-clause-cut : goal.returns-clause-cut
returns-clause-cut g c =
    let i = c.loop-low.invariant in
    let met : c.loop-low.high ≡ c.loop-low.low = omega (arith, i.order, c.loop-low-test.false) in
    is_cut (g.A.Area.image c.args.area.now) c.args.at c.args.field c.args.used c.args.bound c.loop-low.low c.requires.ascends i.before (omega (arith, i.order, i.most)) (rw met at i.stop)
