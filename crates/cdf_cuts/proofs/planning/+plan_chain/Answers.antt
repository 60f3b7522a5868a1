use Rattle.cdf_cuts.proofs.Common.{ap, arith, read_failed, read_more, read_without_memory, sym, type_at, used_count, ◌<◌, ◌∙◌, ◌≡◌, ◌≤◌}
use Rattle.cdf_index.proofs.Looking.{node_inside}
use Rattle.cdf_cuts.proofs.PlanWalk.{chain_below, plan_block, plan_end, plan_in, plan_lower, plan_node, plan_out, plan_over}
use Rattle.cdf_cuts.proofs.planning.+plan_chain.Goals.{then-named-eq-VXR_TYPE+in_ok-below+in_ok-keep_lower, else-named-eq-VXR_TYPE+in_ok-keep_block}
use Rattle.cdf_cuts.proofs.planning.+plan_chain.Goals as goal

pub returns-then-at-eq0-clause-does : goal.returns-then-at-eq0-clause-does
returns-then-at-eq0-clause-does g t c = λ ns st e. (plan_end (c.loop-turn.invariant.planning.left_is ns st e) c.requires.chain.tiled c.if-at-eq0.true c.in_ok-end_chain.ensures.does).0

pub returns-then-at-eq0-clause-found : goal.returns-then-at-eq0-clause-found
returns-then-at-eq0-clause-found g t c = λ ns st e. (plan_end (c.loop-turn.invariant.planning.left_is ns st e) c.requires.chain.tiled c.if-at-eq0.true c.in_ok-end_chain.ensures.does).1

pub returns-then-at-eq0-clause-last : goal.returns-then-at-eq0-clause-last
returns-then-at-eq0-clause-last g t c = λ ns st e. (plan_end (c.loop-turn.invariant.planning.left_is ns st e) c.requires.chain.tiled c.if-at-eq0.true c.in_ok-end_chain.ensures.does).2

pub returns-then-at-eq0-clause-whole : goal.returns-then-at-eq0-clause-whole
returns-then-at-eq0-clause-whole g t c = λ ns st e. (plan_end (c.loop-turn.invariant.planning.left_is ns st e) c.requires.chain.tiled c.if-at-eq0.true c.in_ok-end_chain.ensures.does).3

pub read_head-requires-clause-inside : goal.read_head-requires-clause-inside
read_head-requires-clause-inside g t c =
    let i = c.loop-turn.invariant in
    rw i.area.image (node_inside _ c.loop-turn.at (plan_node c.requires.chain i.planning c.if-at-eq0.false))

pub loop-i-init : goal.loop-i-init
loop-i-init g t c =
    let i = c.loop-turn.invariant in
    rw c.new-kept.ensures.items (record { node = λ ns st e. plan_in (i.planning.left_is ns st e) c.if-at-eq0.false; area = read_more i.area c.in_ok-head.ensures.area })

pub read_named-requires-clause-node : goal.read_named-requires-clause-node
read_named-requires-clause-node g t c = rw c.loop-i.invariant.area.image (plan_node c.requires.chain c.loop-turn.invariant.planning c.if-at-eq0.false)

pub read_entry-requires-clause-inside : goal.read_entry-requires-clause-inside
read_entry-requires-clause-inside g t c = rw (c.in_ok-named.ensures.area.image ∙ c.loop-i.invariant.area.image) (node_inside _ c.loop-turn.at (plan_node c.requires.chain c.loop-turn.invariant.planning c.if-at-eq0.false))

pub plan_chain-requires : goal.plan_chain-requires
plan_chain-requires g t c κs within =
    let l = c.loop-i in
    let i = l.invariant in
    let some = c.requires.chain in
    let lt : l.i < used_count (g.A.Area.image c.args.area.now) c.loop-turn.at = omega (arith, (rw c.loop-turn.invariant.area.image at c.in_ok-head.ensures.head).used_is) in
    let place = rw i.area.image at c.in_ok-named.ensures.place in
    let kind = rw i.area.image at c.in_ok-named.ensures.kind in
    let n = i.node some.nodes some.stands some.link_is in
    let chain = chain_below n lt place kind c.if-named-eq-VXR_TYPE.true some.tiled some.few in
    rw (c.in_ok-entry.ensures.area.image ∙ c.in_ok-named.ensures.area.image ∙ i.area.image) ((let d = c.decreases in let deep = n.node.deep in omega arith), (within, (chain, (c.requires.short, c.requires.order))))

pub loop-i-preserved : goal.loop-i-preserved
loop-i-preserved g t c =
    let l = c.loop-i in
    let i = l.invariant in
    let b = g.A.Area.image c.args.area.now in
    let lt : l.i < used_count b c.loop-turn.at = omega (arith, (rw c.loop-turn.invariant.area.image at c.in_ok-head.ensures.head).used_is) in
    let place = rw i.area.image at c.in_ok-named.ensures.place in
    let kind = rw i.area.image at c.in_ok-named.ensures.kind in
    let same = c.in_ok-named.ensures.area.image ∙ i.area.image in
    let said = rw same at c.in_ok-entry.ensures.value in
    let area = read_more (read_more i.area c.in_ok-named.ensures.area) c.in_ok-entry.ensures.area in
    elim c.if-named-eq-VXR_TYPE.branch [
      | then-named-eq-VXR_TYPE+in_ok-below+in_ok-keep_lower w ↦
          let six = ap (type_at b) (sym place) ∙ sym kind ∙ w.if-named-eq-VXR_TYPE.true in
          let does = rw (c.in_ok-entry.ensures.area.image ∙ same) at w.in_ok-below.ensures.does in
          let found = rw (c.in_ok-entry.ensures.area.image ∙ same) at w.in_ok-below.ensures.found in
          rw (w.plan-is, w.kept-is, w.area-is) (record { node = λ ns st e. plan_lower (i.node ns st e) lt six said place does found w.in_ok-keep_lower.ensures.kept; area = read_more area w.in_ok-below.ensures.area })
      | else-named-eq-VXR_TYPE+in_ok-keep_block w ↦
          let ne = λ (six : type_at b _ ≡ 6). w.if-named-eq-VXR_TYPE.false (kind ∙ ap (type_at b) place ∙ six) in
          rw (w.plan-is, w.kept-is, w.area-is) (record { node = λ ns st e. plan_block (i.node ns st e) lt said ne w.in_ok-keep_block.ensures.does w.in_ok-keep_block.ensures.kept; area = area })
    ]

pub loop-turn-preserved : goal.loop-turn-preserved
loop-turn-preserved g t c =
    let h = rw c.loop-turn.invariant.area.image at c.in_ok-head.ensures.head in
    let k = c.in_ok-left.ensures in
    let le : used_count (g.A.Area.image c.args.area.now) c.loop-turn.at ≤ c.loop-i.i = omega (arith, h.used_is, c.loop-i-test.false) in
    let does = rw (h.room_is, h.used_is) at k.does in
    record { planning = record { left_is = λ ns st e. plan_out (c.loop-i.invariant.node ns st e) le h.next_is does k.found k.prev k.whole }; area = c.loop-i.invariant.area }

pub returns-clause-does : goal.returns-clause-does
returns-clause-does g t c =
    let some = c.requires.chain in
    let over = plan_over (c.loop-turn.invariant.planning.left_is some.nodes some.stands some.link_is) (omega (arith, some.few, c.size-turn-end.ensures, c.loop-turn-test.false)) in
    λ ns st e. (plan_end (c.loop-turn.invariant.planning.left_is ns st e) some.tiled over c.in_ok-end_chain-2.ensures.does).0

pub returns-clause-found : goal.returns-clause-found
returns-clause-found g t c =
    let some = c.requires.chain in
    let over = plan_over (c.loop-turn.invariant.planning.left_is some.nodes some.stands some.link_is) (omega (arith, some.few, c.size-turn-end.ensures, c.loop-turn-test.false)) in
    λ ns st e. (plan_end (c.loop-turn.invariant.planning.left_is ns st e) some.tiled over c.in_ok-end_chain-2.ensures.does).1

pub returns-clause-last : goal.returns-clause-last
returns-clause-last g t c =
    let some = c.requires.chain in
    let over = plan_over (c.loop-turn.invariant.planning.left_is some.nodes some.stands some.link_is) (omega (arith, some.few, c.size-turn-end.ensures, c.loop-turn-test.false)) in
    λ ns st e. (plan_end (c.loop-turn.invariant.planning.left_is ns st e) some.tiled over c.in_ok-end_chain-2.ensures.does).2

pub returns-clause-whole : goal.returns-clause-whole
returns-clause-whole g t c =
    let some = c.requires.chain in
    let over = plan_over (c.loop-turn.invariant.planning.left_is some.nodes some.stands some.link_is) (omega (arith, some.few, c.size-turn-end.ensures, c.loop-turn-test.false)) in
    λ ns st e. (plan_end (c.loop-turn.invariant.planning.left_is ns st e) some.tiled over c.in_ok-end_chain-2.ensures.does).3

pub returns-in_err-below-clause-area : goal.returns-in_err-below-clause-area
returns-in_err-below-clause-area g t c = read_failed (read_more (read_more c.loop-i.invariant.area c.in_ok-named.ensures.area) c.in_ok-entry.ensures.area) c.in_err-below.ensures.area c.from_residual-in_err-below.ensures.1

pub returns-in_err-keep_block-clause-area : goal.returns-in_err-keep_block-clause-area
returns-in_err-keep_block-clause-area g t c = read_without_memory (read_more (read_more c.loop-i.invariant.area c.in_ok-named.ensures.area) c.in_ok-entry.ensures.area) c.from_residual-in_err-keep_block.ensures.1
