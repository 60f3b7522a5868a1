use Rattle.cdf_compress.proofs.AllCut.{all_cut}
use Rattle.cdf_compress.proofs.emptying.cut_all.Goals as goal
use Rattle.cdf_cuts.proofs.Common.{on_ok_weaker}

pub returns-clause-emptied : goal.returns-clause-emptied
returns-clause-emptied g c = on_ok_weaker c.cut_index.result (λ cut kind before own after among is. all_cut c.requires.good among c.requires.short (cut kind before own after among is)) c.cut_index.ensures.cut
