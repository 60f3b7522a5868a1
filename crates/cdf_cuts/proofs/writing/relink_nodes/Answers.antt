use Rattle.cdf_cuts.proofs.Common.{arith, edit_more, edits_by_write}
use Rattle.cdf_cuts.proofs.Relinking.{all_done, turn, turned}
use Rattle.cdf_cuts.proofs.writing.relink_nodes.Goals as goal

pub set_vxr_vxr_next-requires : goal.set_vxr_vxr_next-requires
set_vxr_vxr_next-requires g c = omega (arith, (turn c.loop-link.invariant.progress (record { place = 0; next = 0 }) c.loop-link-test.true).lies)

pub loop-link-preserved : goal.loop-link-preserved
loop-link-preserved g c =
    let i = c.loop-link.invariant in
    record { progress = turned (turn i.progress (record { place = 0; next = 0 }) c.loop-link-test.true) c.requires.once c.in_ok-set_vxr_vxr_next.ensures.ok; area = edit_more i.area (edits_by_write c.in_ok-set_vxr_vxr_next.ensures.area) }

pub returns-clause-relinked : goal.returns-clause-relinked
returns-clause-relinked g c = all_done c.loop-link.invariant.progress (omega (arith, c.loop-link-test.false))
