use Rattle.cdf_reindex.proofs.Common.{Entry, ap, arith, edit_more, edit_once, length, rules, ◌≤◌}
use Rattle.cdf_reindex.proofs.LevelSteps.{levels_first, levels_left, levels_more, levels_next, pyramid_last, room_next}
use Rattle.cdf_reindex.proofs.pyramid.write_levels.Goals as goal

pub loop-alloc-init : goal.loop-alloc-init
loop-alloc-init g c =
    let call = c.in_ok-level.ensures in
    search (arith, rules, call.count, c.requires.some, levels_first call.made, levels_left _ _ _ _ _ call.count call.longest c.requires.some c.requires.few c.requires.room, edit_once call.area)

pub write_level-requires-in-loop-alloc-clause-room : goal.write_level-requires-in-loop-alloc-clause-room
write_level-requires-in-loop-alloc-clause-room g c =
    let l = c.loop-alloc in
    rw (c.deref.ensures.value, l.invariant.area.frame) (room_next _ _ _ l.invariant.room (omega (arith, c.len.ensures, c.loop-alloc-test.true)))

pub loop-alloc-preserved : goal.loop-alloc-preserved
loop-alloc-preserved g c =
    let l = c.loop-alloc in
    let call = c.in_ok-level-2.ensures in
    let two : 2 ≤ length l.level.items = omega (arith, c.len.ensures, c.loop-alloc-test.true) in
    let count = rw c.deref.ensures.value at call.count in
    search (arith, rules, count, levels_more l.invariant.made two (rw c.deref.ensures.value at call.made), levels_next _ _ _ _ _ count call.longest two l.invariant.room, edit_more l.invariant.area call.area)

pub returns-clause-made : goal.returns-clause-made
returns-clause-made g c =
    let l = c.loop-alloc in
    pyramid_last c.index.result.now c.index.result.now.place l.invariant.made (omega (arith, c.len.ensures, c.loop-alloc-test.false, l.invariant.some)) (ap (λ (e : Entry). e.place) c.index.ensures)
