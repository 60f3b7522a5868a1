use Rattle.cdf_cuts.proofs.Common.{on_ok_weaker}
use Rattle.cdf_edits.proofs.Common.{arith, sym, ◌∙◌}
use Rattle.cdf_compress.proofs.PackingCalls.{free_off, off_freed, off_none, room, sound_off}
use Rattle.cdf_compress.proofs.repacking.turn_off.Goals as goal

pub overflow_add-vdr : goal.overflow_add-vdr
overflow_add-vdr g c = omega (arith, room _ _ c.requires.good c.requires.vdr, c.requires.short)

pub read_unsigned8-requires : goal.read_unsigned8-requires
read_unsigned8-requires g c = omega (arith, room _ _ c.requires.good c.requires.vdr)

pub write_packing-requires-clause-inside : goal.write_packing-requires-clause-inside
write_packing-requires-clause-inside g c = rw c.in_ok-cpr.ensures.area.image (omega (arith, room _ _ c.requires.good c.requires.vdr))

pub free_records-requires-clause-sound : goal.free_records-requires-clause-sound
free_records-requires-clause-sound g c = let written = rw c.in_ok-cpr.ensures.area.image at c.in_ok-write_packing.ensures.written in sound_off _ _ c.requires.good c.requires.vdr c.requires.empty c.requires.short c.ranges.flags.fits c.requires.flags written

pub free_records-requires-clause-free : goal.free_records-requires-clause-free
free_records-requires-clause-free g c =
    let written = rw c.in_ok-cpr.ensures.area.image at c.in_ok-write_packing.ensures.written in
    free_off _ _ c.requires.good c.requires.vdr c.requires.empty c.requires.short c.ranges.flags.fits c.requires.flags written c.in_ok-cpr.ensures.value (sym c.has_bit.ensures ∙ c.if-has_bit.true)

pub returns-then-has_bit-clause-repacked : goal.returns-then-has_bit-clause-repacked
returns-then-has_bit-clause-repacked g c =
    on_ok_weaker c.free_records.result (λ given kind before own after among is.
    (let written = rw c.in_ok-cpr.ensures.area.image at c.in_ok-write_packing.ensures.written in
    off_freed c.requires.good c.requires.empty c.requires.short c.ranges.flags.fits c.requires.flags among is written c.in_ok-cpr.ensures.value (sym c.has_bit.ensures ∙ c.if-has_bit.true) given)) c.free_records.ensures.given

pub returns-clause-repacked : goal.returns-clause-repacked
returns-clause-repacked g c = λ kind before own after among is.
    (let written = rw c.in_ok-cpr.ensures.area.image at c.in_ok-write_packing.ensures.written in
    off_none c.requires.good c.requires.empty c.requires.short c.ranges.flags.fits c.requires.flags among is written (sym c.has_bit.ensures ∙ c.if-has_bit.false))
