use Rattle.cdf_edits.proofs.Common.{arith, leaves_of, min, record_number_limit, subst, suc, sym, ◌+◌, ◌-◌, ◌≡◌}
use Rattle.cdf_index.specs.Finding.{index_at}
use Rattle.cdf_index.specs.Sight.{seen}
use Rattle.cdf_var_records.proofs.LeafItems.{rise}
use Rattle.cdf_sparse_reads.proofs.EndBefore.{last_before, none_before}
use Rattle.cdf_sparse_reads.specs.Left.{IsEnd}
use Rattle.cdf_sparse_reads.proofs.left.read_end_before.Goals as goal

pub returns-in-Some-clause-end : goal.returns-in-Some-clause-end
returns-in-Some-clause-end g c =
    let leaves = leaves_of (index_at (g.A.Area.image c.args.area.now) c.args.head) in
    let l = seen c.in-Some.leaf in
    let at : min l.last (c.args.bound - 1) + 1 ≡ c.min.result + 1 = omega (arith, c.min.ensures) in
    subst (IsEnd leaves c.args.bound) at (last_before c.args.bound leaves (omega (arith, c.if-bound-eq0.false)) (suc record_number_limit) l (rise c.requires.index) (rw c.in-Some.is at c.in_ok-found.ensures.leaf))

pub returns-in-None-clause-end : goal.returns-in-None-clause-end
returns-in-None-clause-end g c =
    let leaves = leaves_of (index_at (g.A.Area.image c.args.area.now) c.args.head) in
    none_before c.args.bound leaves (omega (arith, c.if-bound-eq0.false)) (sym (rw c.in-None.is at c.in_ok-found.ensures.leaf))
