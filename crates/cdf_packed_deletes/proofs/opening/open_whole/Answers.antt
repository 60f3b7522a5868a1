use Rattle.cdf_cuts.proofs.Common.{on_ok_weaker, subst}
use Rattle.cdf_edits.proofs.Common.{Each, Nodes, leaves_of}
use Rattle.cdf_cuts.proofs.CutCalls.{index_is}
use Rattle.cdf_packed_deletes.proofs.WholeOpen.{whole_opened}
use Rattle.cdf_packed_deletes.specs.Keeping.{IsAllOrNone}
use Rattle.cdf_packed_deletes.proofs.opening.open_whole.Goals as goal

pub returns-clause-opened : goal.returns-clause-opened
returns-clause-opened g c = on_ok_weaker c.cut_index.result (λ cut kind before own after among is.
    (let same = (index_is _ c.requires.good among is).1 in
    whole_opened c.requires.good among c.requires.order c.requires.short (cut kind before own after among is) (subst (λ (y : Nodes). Each (IsAllOrNone c.args.first c.args.last) (leaves_of y)) same c.requires.whole))) c.cut_index.ensures.cut
