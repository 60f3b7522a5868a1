use Rattle.cdf_index.proofs.Common.{arith, ◌+◌, ◌≡◌}
use Rattle.cdf_index.proofs.EntriesCut.{is_cut}
use Rattle.cdf_index.proofs.Looking.{node_firsts}
use Rattle.cdf_var_records.proofs.previous.entries_begun.Goals as goal

pub returns-clause-begun : goal.returns-clause-begun
returns-clause-begun g c =
    let i = c.loop-low.invariant in
    let b = g.A.Area.image c.args.area.now in
    let h = c.requires.head in
    let met : c.loop-low.high ≡ c.loop-low.low = omega (arith, i.order, c.loop-low-test.false) in
    let cut = is_cut b c.args.at 28 c.args.head.now.used (c.args.rec + 1) c.loop-low.low (node_firsts b c.args.at c.args.head.now.used c.requires.node h.used_is) (λ j e. omega (arith, i.before j e)) (omega (arith, i.order, i.most)) (λ lt. omega (arith, (rw met at i.stop) lt)) in
    record { before = λ j lt. omega (arith, cut.before j lt); most = omega (arith, cut.most, h.used_is); stop = λ lt. omega (arith, cut.stop (omega (arith, h.used_is))) }
