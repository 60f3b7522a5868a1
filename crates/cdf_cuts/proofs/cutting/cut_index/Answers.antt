use Rattle.cdf_cuts.proofs.Common.{List, ap, arith, on_ok_weaker, ℕ, ◌++◌, ◌∙◌}
use Rattle.cdf_index.proofs.OneVariable.{one_of}
use Rattle.cdf_cuts.proofs.CutCalls as by
use Rattle.cdf_cuts.proofs.cutting.cut_index.Goals as goal

pub overflow_add-vdr : goal.overflow_add-vdr
overflow_add-vdr g c = let one = one_of (g.A.Area.image c.args.area.now) c.args.vdr c.requires.vdr in omega (arith, by.head_lies _ c.requires.good one.among one.vdr_is, c.requires.short)

pub read_unsigned8-requires : goal.read_unsigned8-requires
read_unsigned8-requires g c = let one = one_of (g.A.Area.image c.args.area.now) c.args.vdr c.requires.vdr in omega (arith, by.head_lies _ c.requires.good one.among one.vdr_is)

pub plan_chain-requires-clause-chain : goal.plan_chain-requires-clause-chain
plan_chain-requires-clause-chain g c = let one = one_of (g.A.Area.image c.args.area.now) c.args.vdr c.requires.vdr in rw (c.in_ok-head.ensures.area.image, c.in_ok-head.ensures.value) (by.chain_there _ c.requires.good one.among one.vdr_is)

pub rewrite_nodes-requires-clause-tiled : goal.rewrite_nodes-requires-clause-tiled
rewrite_nodes-requires-clause-tiled g c =
    let one = one_of (g.A.Area.image c.args.area.now) c.args.vdr c.requires.vdr in
    let same = c.in_ok-left.ensures.area.image ∙ c.in_ok-head.ensures.area.image in
    rw same (by.tiled_b _ c.requires.good one.among one.vdr_is)

pub rewrite_nodes-requires-clause-may : goal.rewrite_nodes-requires-clause-may
rewrite_nodes-requires-clause-may g c =
    let one = one_of (g.A.Area.image c.args.area.now) c.args.vdr c.requires.vdr in
    let same = c.in_ok-left.ensures.area.image ∙ c.in_ok-head.ensures.area.image in
    let p = by.planned _ c.requires.good one.among one.vdr_is c.args.span c.in_ok-head.ensures.value c.new.ensures.items c.new-2.ensures.items c.new-3.ensures.items c.new-4.ensures.items (rw c.in_ok-head.ensures.area.image at c.in_ok-left.ensures.does) in
    rw (same, c.deref.ensures.value) (by.may_rewrite _ c.requires.good one.among one.vdr_is c.args.span _ c.requires.short p).0

pub rewrite_nodes-requires-clause-once : goal.rewrite_nodes-requires-clause-once
rewrite_nodes-requires-clause-once g c =
    let one = one_of (g.A.Area.image c.args.area.now) c.args.vdr c.requires.vdr in
    let same = c.in_ok-left.ensures.area.image ∙ c.in_ok-head.ensures.area.image in
    let p = by.planned _ c.requires.good one.among one.vdr_is c.args.span c.in_ok-head.ensures.value c.new.ensures.items c.new-2.ensures.items c.new-3.ensures.items c.new-4.ensures.items (rw c.in_ok-head.ensures.area.image at c.in_ok-left.ensures.does) in
    rw c.deref.ensures.value (by.may_rewrite _ c.requires.good one.among one.vdr_is c.args.span _ c.requires.short p).1

pub relink_nodes-requires-clause-tiled : goal.relink_nodes-requires-clause-tiled
relink_nodes-requires-clause-tiled g c =
    let one = one_of (g.A.Area.image c.args.area.now) c.args.vdr c.requires.vdr in
    let same = c.in_ok-left.ensures.area.image ∙ c.in_ok-head.ensures.area.image in
    let p = by.planned _ c.requires.good one.among one.vdr_is c.args.span c.in_ok-head.ensures.value c.new.ensures.items c.new-2.ensures.items c.new-3.ensures.items c.new-4.ensures.items (rw c.in_ok-head.ensures.area.image at c.in_ok-left.ensures.does) in
    let w = rw (same, c.deref.ensures.value) at c.in_ok-rewrite_nodes.ensures.rewritten in
    by.tiled_written _ c.requires.good one.among one.vdr_is c.requires.short p w

pub relink_nodes-requires-clause-may : goal.relink_nodes-requires-clause-may
relink_nodes-requires-clause-may g c =
    let one = one_of (g.A.Area.image c.args.area.now) c.args.vdr c.requires.vdr in
    let same = c.in_ok-left.ensures.area.image ∙ c.in_ok-head.ensures.area.image in
    let p = by.planned _ c.requires.good one.among one.vdr_is c.args.span c.in_ok-head.ensures.value c.new.ensures.items c.new-2.ensures.items c.new-3.ensures.items c.new-4.ensures.items (rw c.in_ok-head.ensures.area.image at c.in_ok-left.ensures.does) in
    let w = rw (same, c.deref.ensures.value) at c.in_ok-rewrite_nodes.ensures.rewritten in
    rw c.deref-2.ensures.value (by.may_relink _ c.requires.good one.among one.vdr_is c.requires.short p w).0

pub relink_nodes-requires-clause-once : goal.relink_nodes-requires-clause-once
relink_nodes-requires-clause-once g c =
    let one = one_of (g.A.Area.image c.args.area.now) c.args.vdr c.requires.vdr in
    let same = c.in_ok-left.ensures.area.image ∙ c.in_ok-head.ensures.area.image in
    let p = by.planned _ c.requires.good one.among one.vdr_is c.args.span c.in_ok-head.ensures.value c.new.ensures.items c.new-2.ensures.items c.new-3.ensures.items c.new-4.ensures.items (rw c.in_ok-head.ensures.area.image at c.in_ok-left.ensures.does) in
    let w = rw (same, c.deref.ensures.value) at c.in_ok-rewrite_nodes.ensures.rewritten in
    rw c.deref-2.ensures.value (by.may_relink _ c.requires.good one.among one.vdr_is c.requires.short p w).1

pub lead_to-requires-clause-head : goal.lead_to-requires-clause-head
lead_to-requires-clause-head g c =
    let one = one_of (g.A.Area.image c.args.area.now) c.args.vdr c.requires.vdr in
    let same = c.in_ok-left.ensures.area.image ∙ c.in_ok-head.ensures.area.image in
    let p = by.planned _ c.requires.good one.among one.vdr_is c.args.span c.in_ok-head.ensures.value c.new.ensures.items c.new-2.ensures.items c.new-3.ensures.items c.new-4.ensures.items (rw c.in_ok-head.ensures.area.image at c.in_ok-left.ensures.does) in
    let w = rw (same, c.deref.ensures.value) at c.in_ok-rewrite_nodes.ensures.rewritten in
    let j = rw c.deref-2.ensures.value at c.in_ok-relink_nodes.ensures.relinked in
    by.vdr_lies _ c.requires.good one.among one.vdr_is c.requires.short p w j

pub lead_to-requires-clause-tail : goal.lead_to-requires-clause-tail
lead_to-requires-clause-tail g c =
    let one = one_of (g.A.Area.image c.args.area.now) c.args.vdr c.requires.vdr in
    let same = c.in_ok-left.ensures.area.image ∙ c.in_ok-head.ensures.area.image in
    let p = by.planned _ c.requires.good one.among one.vdr_is c.args.span c.in_ok-head.ensures.value c.new.ensures.items c.new-2.ensures.items c.new-3.ensures.items c.new-4.ensures.items (rw c.in_ok-head.ensures.area.image at c.in_ok-left.ensures.does) in
    let w = rw (same, c.deref.ensures.value) at c.in_ok-rewrite_nodes.ensures.rewritten in
    let j = rw c.deref-2.ensures.value at c.in_ok-relink_nodes.ensures.relinked in
    by.tail_lies _ c.requires.good one.among one.vdr_is c.requires.short p w j

pub free_records-requires-clause-sound : goal.free_records-requires-clause-sound
free_records-requires-clause-sound g c =
    let one = one_of (g.A.Area.image c.args.area.now) c.args.vdr c.requires.vdr in
    let same = c.in_ok-left.ensures.area.image ∙ c.in_ok-head.ensures.area.image in
    let p = by.planned _ c.requires.good one.among one.vdr_is c.args.span c.in_ok-head.ensures.value c.new.ensures.items c.new-2.ensures.items c.new-3.ensures.items c.new-4.ensures.items (rw c.in_ok-head.ensures.area.image at c.in_ok-left.ensures.does) in
    let w = rw (same, c.deref.ensures.value) at c.in_ok-rewrite_nodes.ensures.rewritten in
    let j = rw c.deref-2.ensures.value at c.in_ok-relink_nodes.ensures.relinked in
    let f = by.leads _ c.requires.good one.among one.vdr_is c.args.span c.in_ok-head.ensures.value (rw c.in_ok-head.ensures.area.image at c.in_ok-left.ensures.found) (rw c.in_ok-head.ensures.area.image at c.in_ok-left.ensures.last) (rw c.in_ok-head.ensures.area.image at c.in_ok-left.ensures.whole) in
    by.sound_then _ c.requires.good one.among one.vdr_is c.requires.short p w j f c.in_ok-lead_to.ensures.small c.in_ok-lead_to.ensures.small_last c.in_ok-lead_to.ensures.led c.requires.order

pub free_records-requires-clause-free : goal.free_records-requires-clause-free
free_records-requires-clause-free g c =
    let one = one_of (g.A.Area.image c.args.area.now) c.args.vdr c.requires.vdr in
    let same = c.in_ok-left.ensures.area.image ∙ c.in_ok-head.ensures.area.image in
    let p = by.planned _ c.requires.good one.among one.vdr_is c.args.span c.in_ok-head.ensures.value c.new.ensures.items c.new-2.ensures.items c.new-3.ensures.items c.new-4.ensures.items (rw c.in_ok-head.ensures.area.image at c.in_ok-left.ensures.does) in
    let w = rw (same, c.deref.ensures.value) at c.in_ok-rewrite_nodes.ensures.rewritten in
    let j = rw c.deref-2.ensures.value at c.in_ok-relink_nodes.ensures.relinked in
    let f = by.leads _ c.requires.good one.among one.vdr_is c.args.span c.in_ok-head.ensures.value (rw c.in_ok-head.ensures.area.image at c.in_ok-left.ensures.found) (rw c.in_ok-head.ensures.area.image at c.in_ok-left.ensures.last) (rw c.in_ok-head.ensures.area.image at c.in_ok-left.ensures.whole) in
    rw c.deref-4.ensures.value (by.free_then _ c.requires.good one.among one.vdr_is c.requires.short p w j f c.in_ok-lead_to.ensures.small c.in_ok-lead_to.ensures.small_last c.in_ok-lead_to.ensures.led (c.in_ok-push_all.ensures ∙ ap (λ (xs : List ℕ). c.plan_chain.new.plan.blocks.items ++ xs) c.deref-3.ensures.value))

pub returns-clause-cut : goal.returns-clause-cut
returns-clause-cut g c =
    on_ok_weaker c.free_records.result (λ given kind before own after among is.
    (let same = c.in_ok-left.ensures.area.image ∙ c.in_ok-head.ensures.area.image in
    let p = by.planned _ c.requires.good among is c.args.span c.in_ok-head.ensures.value c.new.ensures.items c.new-2.ensures.items c.new-3.ensures.items c.new-4.ensures.items (rw c.in_ok-head.ensures.area.image at c.in_ok-left.ensures.does) in
    let w = rw (same, c.deref.ensures.value) at c.in_ok-rewrite_nodes.ensures.rewritten in
    let j = rw c.deref-2.ensures.value at c.in_ok-relink_nodes.ensures.relinked in
    let f = by.leads _ c.requires.good among is c.args.span c.in_ok-head.ensures.value (rw c.in_ok-head.ensures.area.image at c.in_ok-left.ensures.found) (rw c.in_ok-head.ensures.area.image at c.in_ok-left.ensures.last) (rw c.in_ok-head.ensures.area.image at c.in_ok-left.ensures.whole) in
    by.cut_done _ c.requires.good among is c.requires.short p w j f c.in_ok-lead_to.ensures.small c.in_ok-lead_to.ensures.small_last c.in_ok-lead_to.ensures.led (c.in_ok-push_all.ensures ∙ ap (λ (xs : List ℕ). c.plan_chain.new.plan.blocks.items ++ xs) c.deref-3.ensures.value) given)) (rw c.deref-4.ensures.value at c.free_records.ensures.given)
