use Rattle.cdf_edits.proofs.Common.{Kind, List, VariableShape, arith, is_sparse, leaves_of, true, variable_of, ◌≡◌}
use Rattle.cdf_edits.proofs.Edits.Common.{StandsAmong}
use Rattle.cdf_edits.specs.Index.Blocks.{extent_after}
use Rattle.cdf_index.proofs.Common.{IfOk-weaker}
use Rattle.cdf_index.proofs.OneVariable.{one_of}
use Rattle.cdf_index.specs.Finding.{index_at}
use Rattle.cdf_cuts.proofs.CutCalls as by
use Rattle.cdf_sparse_reads.proofs.ExtentLeft.{extent_before, extent_behind, leaves_there}
use Rattle.cdf_sparse_reads.specs.Left.{IsEnd}
use Rattle.cdf_sparse_reads.proofs.left.read_extent_after.Goals as goal

pub overflow_add-vdr : goal.overflow_add-vdr
overflow_add-vdr g c = let one = one_of (g.A.Area.image c.args.area.now) c.args.vdr c.requires.vdr in omega (arith, by.head_lies _ c.requires.good one.among one.vdr_is, c.requires.short)

pub read_unsigned8-requires : goal.read_unsigned8-requires
read_unsigned8-requires g c = let one = one_of (g.A.Area.image c.args.area.now) c.args.vdr c.requires.vdr in omega (arith, by.head_lies _ c.requires.good one.among one.vdr_is)

pub read_end_before-requires-clause-index : goal.read_end_before-requires-clause-index
read_end_before-requires-clause-index g c =
    let one = one_of (g.A.Area.image c.args.area.now) c.args.vdr c.requires.vdr in
    rw (c.in_ok-head.ensures.area.image, c.in_ok-head.ensures.value) (by.index_is _ c.requires.good one.among one.vdr_is).0

pub read_end_before-requires-2-clause-index : goal.read_end_before-requires-2-clause-index
read_end_before-requires-2-clause-index g c =
    let one = one_of (g.A.Area.image c.args.area.now) c.args.vdr c.requires.vdr in
    rw (c.in_ok-end.ensures.area.image, c.in_ok-head.ensures.area.image, c.in_ok-head.ensures.value) (by.index_is _ c.requires.good one.among one.vdr_is).0

pub returns-then-end-last-clause-left : goal.returns-then-end-last-clause-left
returns-then-end-last-clause-left g c kind before own after among is ruled =
    let same = leaves_there c.requires.good among is c.in_ok-head.ensures.area.image c.in_ok-head.ensures.value in
    extent_behind c.requires.good among is ruled same c.requires.order c.requires.has c.requires.count c.in_ok-end.end c.in_ok-end.ensures.end c.if-end-last.true

pub returns-clause-left : goal.returns-clause-left
returns-clause-left g c =
    let b = g.A.Area.image c.args.area.now in
    let leaves = leaves_of (index_at (g.A.Area.image c.read_unsigned8.new.area) c.in_ok-head.head) in
    IfOk-weaker c.read_end_before-2.result (IsEnd leaves c.args.first)
    (λ n. (kind : Kind) (before : List VariableShape) (own : VariableShape) (after : List VariableShape) → StandsAmong b kind before own after → own.vdr ≡ c.args.vdr → is_sparse (variable_of b own).sparse ≡ true → n ≡ extent_after (variable_of b own) c.args.first c.args.last)
    (λ n front kind before own after among is ruled.
    (let same = leaves_there c.requires.good among is c.in_ok-head.ensures.area.image c.in_ok-head.ensures.value in
    extent_before c.requires.good among is ruled same c.requires.order c.requires.has c.requires.count c.in_ok-end.end n c.in_ok-end.ensures.end c.if-end-last.false front))
    (rw c.in_ok-end.ensures.area.image at c.read_end_before-2.ensures.end)
