use Rattle.cdf_cuts.proofs.Common.{Each, Nodes, leaves_of, on_ok_weaker, subst}
use Rattle.cdf_cuts.proofs.CutCalls.{index_is}
use Rattle.cdf_cuts.proofs.PastCut.{end_cut}
use Rattle.cdf_cuts.specs.Past.{PlainOrUncut}
use Rattle.cdf_cuts.proofs.cutting.cut_end.Goals as goal

pub returns-clause-cut : goal.returns-clause-cut
returns-clause-cut g c = on_ok_weaker c.cut_index.result (λ cut kind before own after among is.
    (let same = (index_is _ c.requires.good among is).1 in
    end_cut c.requires.good among c.requires.short (rw c.max.ensures at cut kind before own after among is) (subst (λ (y : Nodes). Each (PlainOrUncut c.args.first) (leaves_of y)) same c.requires.uncut))) c.cut_index.ensures.cut
