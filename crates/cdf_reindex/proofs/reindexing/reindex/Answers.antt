use Rattle.cdf_reindex.proofs.Common.{arith, eq-eqb, eqb-true, length, on_ok_weaker, rules, sym, true≢false, ◌∙◌, ◌≡◌}
use Rattle.cdf_reindex.proofs.ReindexCalls.{good_again, has_index, head_there, nothing_done, reindexed}
use Rattle.cdf_reindex.proofs.reindexing.reindex.Goals as goal

pub read_unsigned8-requires : goal.read_unsigned8-requires
read_unsigned8-requires g c = head_there _ c.requires.good _ c.requires.vdr

pub overflow_add-vdr : goal.overflow_add-vdr
overflow_add-vdr g c = omega (arith, head_there _ c.requires.good _ c.requires.vdr, c.requires.room, c.requires.limit)

pub index_parts-requires-clause-index : goal.index_parts-requires-clause-index
index_parts-requires-clause-index g c = rw (c.in_ok-head.ensures.area.image, c.in_ok-head.ensures.value) (has_index _ c.requires.good _ c.requires.vdr)

pub returns-then-is_empty-clause-good : goal.returns-then-is_empty-clause-good
returns-then-is_empty-clause-good g c = rw (c.in_ok-parts.ensures.area.image, c.in_ok-head.ensures.area.image) c.requires.good

pub rebuild-requires-clause-good : goal.rebuild-requires-clause-good
rebuild-requires-clause-good g c = rw (c.in_ok-parts.ensures.area.image, c.in_ok-head.ensures.area.image) c.requires.good

pub returns-then-is_empty-clause-made : goal.returns-then-is_empty-clause-made
returns-then-is_empty-clause-made g c =
    let nodes = c.in_ok-parts.parts.nodes in
    rw (c.in_ok-parts.ensures.area.image, c.in_ok-head.ensures.area.image) (nothing_done _ c.requires.good (rw (c.in_ok-head.ensures.area.image, c.in_ok-head.ensures.value) at c.in_ok-parts.ensures.nodes) (omega (arith, nodes.ok, eqb-true nodes.len 0 (sym c.is_empty.ensures ∙ c.if-is_empty.true))))

pub returns : goal.returns
returns g c =
    let nodes = c.in_ok-parts.parts.nodes in
    let some : length nodes.items ≡ 0 → ⊥ = λ e. true≢false (sym (eq-eqb nodes.len 0 (omega (arith, nodes.ok, e))) ∙ sym c.is_empty.ensures ∙ c.if-is_empty.false) in
    let built = rw (c.in_ok-parts.ensures.area.image, c.in_ok-head.ensures.area.image) at c.rebuild.ensures.rebuilt in
    let by = reindexed _ c.requires.good (rw (c.in_ok-head.ensures.area.image, c.in_ok-head.ensures.value) at c.in_ok-parts.ensures.nodes) some in
    let made = on_ok_weaker c.rebuild.result by built in
    let good = on_ok_weaker c.rebuild.result (λ w. good_again _ c.requires.good _ c.requires.vdr c.requires.room c.requires.limit (by w)) built in
    search (rules, made, good)
