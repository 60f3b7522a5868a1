use Rattle.cdf_space.proofs.Common.{arith, edit_more, get_or-replicate, length-replicate, refl, replicate, rules, ℕ}
use Rattle.cdf_space.proofs.Writing.{cleared_more, cleared_none}
use Rattle.cdf_space.proofs.placing.clear.Goals as goal

pub loop-done-init : goal.loop-done-init
loop-done-init g c = record { cleared = cleared_none _ c.args.from; within = omega arith; area = record { frame = refl; faults = refl } }

pub loop-done-preserved : goal.loop-done-preserved
loop-done-preserved g c =
    let i = c.loop-done.invariant in
    let count = c.min-count.result in
    record {
      cleared = cleared_more _ _ _ c.args.from c.loop-done.done count (replicate count 0) i.cleared c.in_ok-set_zeros.ensures.written (length-replicate {A = ℕ} count 0) (λ k lt. get_or-replicate {A = ℕ} count k 0 0 lt) (let r = c.requires in let w = i.within in search rules);
      within = search rules;
      area = edit_more i.area c.in_ok-set_zeros.ensures.area;
    }
