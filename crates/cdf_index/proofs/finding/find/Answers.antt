use Rattle.cdf_index.proofs.Common.{arith, read_more, rules}
use Rattle.cdf_index.proofs.Searching.{at_start, turns, answer, none_left, over}
use Rattle.cdf_index.proofs.finding.find.Goals as goal

pub returns-then-at-eq0-clause-value : goal.returns-then-at-eq0-clause-value
returns-then-at-eq0-clause-value g c = none_left c.requires.index c.loop-turn.invariant.at c.if-at-eq0.true

pub returns-in-End-clause-value : goal.returns-in-End-clause-value
returns-in-End-clause-value g c =
    let i = c.loop-turn.invariant in
    answer c.requires.index c.args.rec _ ((rw (c.in-End.is, c.read_node.ensures.area.image, i.area.image) at c.in_ok-link.ensures.told) _ c.loop-turn.turn i.at)

pub loop-turn-init : goal.loop-turn-init
loop-turn-init g c = record { at = at_start c.requires.index; turns = turns c.requires.index (at_start c.requires.index); area = search rules; steps = omega arith }

pub loop-turn-preserved : goal.loop-turn-preserved
loop-turn-preserved g c =
    let i = c.loop-turn.invariant in
    let next = (rw (c.in-On.is, c.read_node.ensures.area.image, i.area.image) at c.in_ok-link.ensures.told) _ c.loop-turn.turn i.at in
    record {
      at = next;
      turns = turns c.requires.index next;
      area = read_more (read_more i.area c.in_ok-node.ensures.area) c.in_ok-link.ensures.area;
      steps = omega (arith, i.steps, c.read_node.ensures.step);
    }

pub returns-clause-value : goal.returns-clause-value
returns-clause-value g c = absurd (over c.requires.index c.loop-turn.invariant.at (omega (arith, c.size-turn-end.ensures, c.loop-turn-test.false)))
