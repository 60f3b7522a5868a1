use Rattle.std.proofs.Common.{refl}
use Rattle.cdf_area.proofs.Calls.{edit_done, edit_failed, edit_once}
use Rattle.cdf_blocks.proofs.StoringCalls.{has_part, whole_part}
use Rattle.cdf_blocks.proofs.WholeShortened.{replaced}
use Rattle.cdf_blocks.proofs.blocks.write_block.Goals as goal

pub shorten_block-requires-clause-leaf : goal.shorten_block-requires-clause-leaf
shorten_block-requires-clause-leaf g c = has_part c.requires.leaf

pub returns-in_err-new-clause-area : goal.returns-in_err-new-clause-area
returns-in_err-new-clause-area g c = edit_failed (record { frame = refl; faults = refl }) c.in_err-new.ensures.area c.from_residual.ensures.1

pub returns-clause-replaced : goal.returns-clause-replaced
returns-clause-replaced g c = λ kind before own after p. replaced p.good p.among p.one c.in_ok-new.ensures.first c.in_ok-new.ensures.last (c.in_ok-new.ensures.shortened kind before own after (whole_part p))

pub returns-clause-area : goal.returns-clause-area
returns-clause-area g c = edit_done (edit_once c.in_ok-new.ensures.area)
