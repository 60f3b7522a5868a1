use Rattle.std.proofs.Common.{ap, ◌∙◌}
use Rattle.cdf_format.specs.Shape.{is_compressed}
use Rattle.cdf_index.proofs.OneVariable.{one_of}
use Rattle.cdf_cuts.proofs.Common.{on_ok_weaker}
use Rattle.cdf_packed_cuts.proofs.KeptThenCut.{may_cut, uncut_there, vdr_there}
use Rattle.cdf_packed_cuts.proofs.past.cut_packed_past.Goals as goal

pub cut_end-requires-clause-good : goal.cut_end-requires-clause-good
cut_end-requires-clause-good g c =
    let one = one_of (g.A.Area.image c.args.area.now) c.args.vdr c.requires.vdr in
    (may_cut c.requires.good one.among (ap (is_compressed _) one.vdr_is ∙ c.requires.packed) c.requires.short (c.in_ok-keep_front.ensures.front one.kind one.before one.own one.after one.among one.vdr_is)).good

pub cut_end-requires-clause-vdr : goal.cut_end-requires-clause-vdr
cut_end-requires-clause-vdr g c =
    let one = one_of (g.A.Area.image c.args.area.now) c.args.vdr c.requires.vdr in
    vdr_there (may_cut c.requires.good one.among (ap (is_compressed _) one.vdr_is ∙ c.requires.packed) c.requires.short (c.in_ok-keep_front.ensures.front one.kind one.before one.own one.after one.among one.vdr_is)) one.vdr_is

pub cut_end-requires-clause-uncut : goal.cut_end-requires-clause-uncut
cut_end-requires-clause-uncut g c =
    let one = one_of (g.A.Area.image c.args.area.now) c.args.vdr c.requires.vdr in
    uncut_there (may_cut c.requires.good one.among (ap (is_compressed _) one.vdr_is ∙ c.requires.packed) c.requires.short (c.in_ok-keep_front.ensures.front one.kind one.before one.own one.after one.among one.vdr_is)) one.vdr_is

pub cut_end-requires-clause-short : goal.cut_end-requires-clause-short
cut_end-requires-clause-short g c =
    let one = one_of (g.A.Area.image c.args.area.now) c.args.vdr c.requires.vdr in
    (may_cut c.requires.good one.among (ap (is_compressed _) one.vdr_is ∙ c.requires.packed) c.requires.short (c.in_ok-keep_front.ensures.front one.kind one.before one.own one.after one.among one.vdr_is)).small

pub returns-clause-past : goal.returns-clause-past
returns-clause-past g c =
    on_ok_weaker c.cut_end.result (λ cut kind before own after among is.
    (let m = may_cut c.requires.good among (ap (is_compressed _) is ∙ c.requires.packed) c.requires.short (c.in_ok-keep_front.ensures.front kind before own after among is) in
    m.past (cut kind before m.own' after m.among (m.vdr_is ∙ is)))) c.cut_end.ensures.cut
