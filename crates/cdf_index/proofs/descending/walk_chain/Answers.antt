use Rattle.cdf_index.proofs.Common.{ap, arith, length, read_more, read_once, ◌∙◌}
use Rattle.cdf_index.proofs.GoingDown.{chain_start, chain_walked, next_node, chain_next, chain_never, next_turn}
use Rattle.cdf_index.proofs.descending.walk_chain.Goals as goal

pub loop-turn-init : goal.loop-turn-init
loop-turn-init g c =
    let x = c.requires.index.index.link_is in
    let h = c.in_ok-here.ensures in
    record { chain = chain_start _ _ _ _ (λ z. c.requires.some (x ∙ z)) (h.place ∙ x) h.meets; area = read_once h.area; steps = omega (arith, c.see_node.ensures.step) }

pub see_node-requires-in-loop-turn-clause-node : goal.see_node-requires-in-loop-turn-clause-node
see_node-requires-in-loop-turn-clause-node g c =
    let i = c.loop-turn.invariant in
    rw i.area.image (next_node c.requires.index i.chain (c.ends_search.ensures.goes_on c.if-ends_search.false).1)

pub loop-turn-preserved : goal.loop-turn-preserved
loop-turn-preserved g c =
    let i = c.loop-turn.invariant in
    let n = c.in_ok-next.ensures in
    let meets = rw i.area.image at n.meets in
    record {
      chain = chain_next c.requires.index i.chain _ _ (c.ends_search.ensures.goes_on c.if-ends_search.false) n.place meets c.better-best.ensures.taken c.better-best.ensures.kept;
      area = read_more i.area n.area;
      steps = omega (arith, i.steps, c.see_node-in-loop-turn.ensures.step);
    }

pub returns : goal.returns
returns g c = absurd (chain_never c.requires.index c.loop-turn.invariant.chain (omega (arith, ap length c.in_ok-here.ensures.area.image, c.loop-turn-test.false, c.size-turn-end.ensures)))

pub returns-then-ends_search-clause-chain : goal.returns-then-ends_search-clause-chain
returns-then-ends_search-clause-chain g c = chain_walked c.requires.index c.loop-turn.invariant.chain c.requires.some (c.ends_search.ensures.ends c.if-ends_search.true)

pub returns-in_err-next-clause-steps : goal.returns-in_err-next-clause-steps
returns-in_err-next-clause-steps g c =
    let i = c.loop-turn.invariant in
    omega (arith, i.steps, c.see_node-in-loop-turn.ensures.step, next_turn c.requires.index i.chain (c.ends_search.ensures.goes_on c.if-ends_search.false).1)
