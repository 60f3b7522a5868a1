use Rattle.cdf_cuts.proofs.Common.{on_ok_weaker}
use Rattle.cdf_compress.proofs.CompressionCalls.{good_then, none_then, room_then, set_then, vdr_then}
use Rattle.cdf_compress.proofs.compressing.set_compression.Goals as goal

pub set_packing-requires-clause-good : goal.set_packing-requires-clause-good
set_packing-requires-clause-good g c = good_then _ _ _ c.requires.good c.in_ok-cut_all.ensures.emptied c.requires.vdr

pub set_packing-requires-clause-vdr : goal.set_packing-requires-clause-vdr
set_packing-requires-clause-vdr g c = vdr_then _ _ _ c.requires.good c.in_ok-cut_all.ensures.emptied c.requires.vdr

pub set_packing-requires-clause-empty : goal.set_packing-requires-clause-empty
set_packing-requires-clause-empty g c = none_then _ _ _ c.requires.good c.in_ok-cut_all.ensures.emptied c.requires.vdr

pub set_packing-requires-clause-fits : goal.set_packing-requires-clause-fits
set_packing-requires-clause-fits g c = rw c.in_ok-cut_all.ensures.area.frame (room_then _ _ _ c.requires.good c.in_ok-cut_all.ensures.emptied c.requires.vdr c.args.rle c.requires.fits)

pub returns-clause-set : goal.returns-clause-set
returns-clause-set g c = on_ok_weaker c.set_packing.result (λ turned kind before own after among is. set_then _ _ _ c.requires.good c.in_ok-cut_all.ensures.emptied c.requires.none turned kind before own after among is) c.set_packing.ensures.repacked
