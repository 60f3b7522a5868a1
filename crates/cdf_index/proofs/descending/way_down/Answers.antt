use Rattle.cdf_index.proofs.Common.{arith, read_more, read_once}
use Rattle.cdf_index.proofs.LevelsDown.{descend_start, descend_more, descend_never, all_among, last_among}
use Rattle.cdf_index.proofs.descending.way_down.Goals as goal

pub loop-turn-init : goal.loop-turn-init
loop-turn-init g c =
    let e = c.in_ok-end.ensures in
    rw c.new-passed.ensures.items (record { descending = descend_start c.requires.index c.requires.some e.place e.sees; area = read_once e.area })

pub spot_of_chain-requires-in-loop-turn-clause-index : goal.spot_of_chain-requires-in-loop-turn-clause-index
spot_of_chain-requires-in-loop-turn-clause-index g c = let i = c.loop-turn.invariant in rw i.area.image i.descending.level.index

pub loop-turn-preserved : goal.loop-turn-preserved
loop-turn-preserved g c =
    let i = c.loop-turn.invariant in
    let place = rw i.area.image at c.in_ok-below.ensures.place in
    let sees = rw i.area.image at c.in_ok-below.ensures.sees in
    rw c.in_ok-push.ensures.items (record { descending = descend_more i.descending _ c.if-end-eq0.false place sees; area = read_more i.area c.in_ok-below.ensures.area })

pub returns-then-end-eq0-clause-last : goal.returns-then-end-eq0-clause-last
returns-then-end-eq0-clause-last g c = last_among c.requires.index c.requires.some c.loop-turn.invariant.descending c.if-end-eq0.true

pub returns-then-end-eq0-clause-among : goal.returns-then-end-eq0-clause-among
returns-then-end-eq0-clause-among g c = all_among c.loop-turn.invariant.descending c.if-end-eq0.true c.requires.index.order

pub returns : goal.returns
returns g c = absurd (descend_never c.loop-turn.invariant.descending (omega (arith, c.loop-turn-test.false)))
