use Rattle.cdf_index.proofs.Common.{arith, read_more, used_count, ◌<◌, ◌∙◌}
use Rattle.cdf_index.proofs.Looking.{node_inside}
use Rattle.cdf_index.proofs.ChainWalk.{walk_end, walk_over, walk_node, past_block, past_lower, walk_out}
use Rattle.cdf_index.proofs.gathering.+gather_chain.Goals.{then-named-eq-VXR_TYPE+in_ok-gather_chain, else-named-eq-VXR_TYPE+in_ok-block}
use Rattle.cdf_index.proofs.gathering.+gather_chain.Goals as goal

pub loop-i-preserved : goal.loop-i-preserved
loop-i-preserved g t c =
    let l = c.loop-i in
    let b = g.A.Area.image c.args.area.now in
    let lt : l.i < used_count b c.loop-turn.at = omega (arith, (rw c.loop-turn.invariant.area.image at c.in_ok-head.ensures.head).used_is) in
    let place = rw l.invariant.area.image at c.in_ok-named.ensures.place in
    let kind = rw l.invariant.area.image at c.in_ok-named.ensures.kind in
    let same = c.in_ok-named.ensures.area.image ∙ l.invariant.area.image in
    let area = read_more l.invariant.area c.in_ok-named.ensures.area in
    elim c.if-named-eq-VXR_TYPE.branch [
      | then-named-eq-VXR_TYPE+in_ok-gather_chain w ↦
          let told = rw same at w.in_ok-gather_chain.ensures.grew in
          rw (w.gathered-is, w.area-is) (record { gone = λ ns st e. past_lower (l.invariant.gone ns st e) lt place kind w.if-named-eq-VXR_TYPE.true told; area = read_more area w.in_ok-gather_chain.ensures.area })
      | else-named-eq-VXR_TYPE+in_ok-block w ↦
          let grew = rw same at w.in_ok-block.ensures.grew in
          rw (w.gathered-is, w.area-is) (record { gone = λ ns st e. past_block (l.invariant.gone ns st e) lt place kind w.if-named-eq-VXR_TYPE.false grew; area = read_more area w.in_ok-block.ensures.area })
    ]

pub loop-turn-preserved : goal.loop-turn-preserved
loop-turn-preserved g t c =
    let h = rw c.loop-turn.invariant.area.image at c.in_ok-head.ensures.head in
    record { walked = record { left = λ ns st e. walk_out (c.loop-i.invariant.gone ns st e) (omega (arith, h.used_is, c.loop-i-test.false)) h.next_is }; area = c.loop-i.invariant.area }

pub returns-clause-grew : goal.returns-clause-grew
returns-clause-grew g t c =
    let some = c.requires.chain in
    let over = walk_over (c.loop-turn.invariant.walked.left some.nodes some.stands some.link_is) (omega (arith, some.few, c.size-turn-end.ensures, c.loop-turn-test.false)) in
    λ ns st e. walk_end (c.loop-turn.invariant.walked.left ns st e) some.tiled over

pub read_head-requires-clause-inside : goal.read_head-requires-clause-inside
read_head-requires-clause-inside g t c =
    let i = c.loop-turn.invariant in
    rw i.area.image (node_inside _ c.loop-turn.at (walk_node c.requires.chain i.walked c.if-at-eq0.false))
