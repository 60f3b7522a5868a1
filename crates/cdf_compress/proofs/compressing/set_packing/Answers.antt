use Rattle.cdf_edits.proofs.Common.{Good, arith, subst, sym, ◌∙◌}
use Rattle.cdf_compress.proofs.CompressionCalls.{already, low_room}
use Rattle.cdf_compress.proofs.PackingCalls.{room}
use Rattle.cdf_compress.proofs.compressing.set_packing.Goals as goal

pub overflow_add-vdr : goal.overflow_add-vdr
overflow_add-vdr g c = omega (arith, low_room _ _ _ _ (room _ _ c.requires.good c.requires.vdr) c.requires.fits c.requires.limit)

pub read_unsigned4-requires : goal.read_unsigned4-requires
read_unsigned4-requires g c = omega (arith, room _ _ c.requires.good c.requires.vdr)

pub turn_off-requires-clause-good : goal.turn_off-requires-clause-good
turn_off-requires-clause-good g c = subst Good (sym c.in_ok-flags.ensures.area.image) c.requires.good

pub returns-then-has_bit-clause-repacked : goal.returns-then-has_bit-clause-repacked
returns-then-has_bit-clause-repacked g c = λ kind before own after among is. already c.requires.good c.in_ok-flags.ensures.area.image c.if-not-rle.false c.in_ok-flags.ensures.value (sym c.has_bit.ensures ∙ c.if-has_bit.true) among is

pub turn_on-requires-clause-good : goal.turn_on-requires-clause-good
turn_on-requires-clause-good g c = subst Good (sym c.in_ok-flags.ensures.area.image) c.requires.good
