use Rattle.std.proofs.Common.{◌∙◌}
use Rattle.cdf_index.proofs.OneVariable.{one_of}
use Rattle.cdf_cuts.proofs.Common.{on_ok_weaker}
use Rattle.cdf_packed_deletes.proofs.AllClosed.{all_closed, vdr_kept, whole_kept}
use Rattle.cdf_packed_deletes.proofs.closing.close_packed.Goals as goal

pub close_whole-requires-clause-good : goal.close_whole-requires-clause-good
close_whole-requires-clause-good g c =
    let one = one_of (g.A.Area.image c.args.area.now) c.args.vdr c.requires.vdr in
    (c.in_ok-from.ensures.kept one.kind one.before one.own one.after one.among one.vdr_is).good

pub close_whole-requires-clause-vdr : goal.close_whole-requires-clause-vdr
close_whole-requires-clause-vdr g c =
    let one = one_of (g.A.Area.image c.args.area.now) c.args.vdr c.requires.vdr in
    vdr_kept (c.in_ok-from.ensures.kept one.kind one.before one.own one.after one.among one.vdr_is) one.vdr_is

pub close_whole-requires-clause-whole : goal.close_whole-requires-clause-whole
close_whole-requires-clause-whole g c =
    let one = one_of (g.A.Area.image c.args.area.now) c.args.vdr c.requires.vdr in
    whole_kept (c.in_ok-from.ensures.kept one.kind one.before one.own one.after one.among one.vdr_is) one.vdr_is

pub close_whole-requires-clause-short : goal.close_whole-requires-clause-short
close_whole-requires-clause-short g c =
    let one = one_of (g.A.Area.image c.args.area.now) c.args.vdr c.requires.vdr in
    (c.in_ok-from.ensures.kept one.kind one.before one.own one.after one.among one.vdr_is).small

pub returns-clause-closed : goal.returns-clause-closed
returns-clause-closed g c =
    on_ok_weaker c.close_whole.result (λ whole kind before own after among is.
    (let k = c.in_ok-from.ensures.kept kind before own after among is in
    all_closed k (whole kind before k.kept.own after k.among (k.vdr_is ∙ is)))) c.close_whole.ensures.closed
