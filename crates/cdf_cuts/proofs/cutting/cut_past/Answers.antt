use Rattle.cdf_cuts.proofs.Common.{Each, Nodes, ap, leaves_of, on_ok_weaker, subst, sym, ◌∙◌}
use Rattle.cdf_cuts.proofs.CutCalls.{index_is}
use Rattle.cdf_cuts.proofs.PastCut.{cut_past, none_cut}
use Rattle.cdf_cuts.specs.Past.{PlainOrUncut}
use Rattle.cdf_cuts.proofs.cutting.cut_past.Goals as goal
use Rattle.cdf_format.specs.Shape.{is_compressed}
use Rattle.cdf_index.proofs.OneVariable.{one_of}

pub cut_end-requires-clause-uncut : goal.cut_end-requires-clause-uncut
cut_end-requires-clause-uncut g c =
    let one = one_of (g.A.Area.image c.args.area.now) c.args.vdr c.requires.vdr in
    let same = (index_is _ c.requires.good one.among one.vdr_is).1 in
    subst (λ (y : Nodes). Each (PlainOrUncut c.args.first) (leaves_of y)) (sym same) (none_cut c.requires.good one.among (ap (is_compressed _) one.vdr_is ∙ c.requires.unpacked) c.args.first)

pub returns-clause-past : goal.returns-clause-past
returns-clause-past g c = on_ok_weaker c.cut_end.result (λ cut kind before own after among is. cut_past c.requires.good among (ap (is_compressed _) is ∙ c.requires.unpacked) (cut kind before own after among is)) c.cut_end.ensures.cut
