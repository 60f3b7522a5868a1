use Rattle.cdf_index.proofs.Common.{arith, read_more, rules}
use Rattle.cdf_index.proofs.Walking.{next_start, next_done, next_level, next_over}
use Rattle.cdf_index.proofs.next.next_first.Goals as goal

pub loop-turn-init : goal.loop-turn-init
loop-turn-init g c = record { next = next_start c.args.rec c.args.steps.now c.requires.index; area = search rules }

pub returns-then-at-eq0-clause-value : goal.returns-then-at-eq0-clause-value
returns-then-at-eq0-clause-value g c = next_done c.loop-turn.invariant.next c.if-at-eq0.true

pub loop-turn-preserved : goal.loop-turn-preserved
loop-turn-preserved g c =
    let i = c.loop-turn.invariant in
    let chain = c.in_ok-chain.ensures in
    let walked = rw i.area.image at chain.chain in
    let taken = rw i.area.image at c.walk_chain.ensures.steps in
    let best = rw (chain.area.image, i.area.image) at c.in_ok-best.ensures.first in
    let below = rw (c.in_ok-best.ensures.area.image, chain.area.image, i.area.image) at c.in_ok-at.ensures.chain in
    record { next = rw best (next_level i.next c.if-at-eq0.false taken walked below); area = read_more (read_more (read_more i.area chain.area) c.in_ok-best.ensures.area) c.in_ok-at.ensures.area }

pub returns-clause-value : goal.returns-clause-value
returns-clause-value g c = let n = c.loop-turn.invariant.next in next_done n (next_over n (omega (arith, c.loop-turn-test.false)))
