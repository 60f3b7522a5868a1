use Rattle.cdf_cuts.proofs.Common.{on_ok_weaker}
use Rattle.cdf_edits.proofs.Common.{List, arith, good_is_sound, subst, ℕ, ◌∙◌}
use Rattle.cdf_edits.specs.Space.Placing.{Placed}
use Rattle.cdf_format.proofs.GoodSound.{good_eof}
use Rattle.cdf_index.proofs.OneVariable.{one_of}
use Rattle.cdf_compress.proofs.PackingCalls.{on_done, still_flags, still_inside}
use Rattle.cdf_compress.proofs.repacking.turn_on.Goals as goal

pub place_record-requires-clause-sound : goal.place_record-requires-clause-sound
place_record-requires-clause-sound g c = good_is_sound _ c.requires.good

pub place_record-requires-clause-eof : goal.place_record-requires-clause-eof
place_record-requires-clause-eof g c = good_eof _ c.requires.good

pub write_packing-requires-clause-flags : goal.write_packing-requires-clause-flags
write_packing-requires-clause-flags g c =
    let one = one_of (g.A.Area.image c.args.area.now) c.args.vdr c.requires.vdr in
    let placed = subst (λ (body : List ℕ). Placed (g.A.Area.image c.args.area.now) (g.A.Area.image c.place_record.new.area) body c.in_ok-place.place) (c.deref.ensures.value ∙ c.in_ok-body.ensures) c.in_ok-place.ensures.placed in
    still_flags c.requires.good c.requires.empty c.requires.loose (omega (arith, c.requires.fits, c.requires.limit)) c.ranges.flags.fits c.requires.flags placed one.among one.vdr_is

pub write_packing-requires-clause-inside : goal.write_packing-requires-clause-inside
write_packing-requires-clause-inside g c =
    let one = one_of (g.A.Area.image c.args.area.now) c.args.vdr c.requires.vdr in
    let placed = subst (λ (body : List ℕ). Placed (g.A.Area.image c.args.area.now) (g.A.Area.image c.place_record.new.area) body c.in_ok-place.place) (c.deref.ensures.value ∙ c.in_ok-body.ensures) c.in_ok-place.ensures.placed in
    still_inside c.requires.good c.requires.empty c.requires.loose (omega (arith, c.requires.fits, c.requires.limit)) c.ranges.flags.fits c.requires.flags placed one.among one.vdr_is

pub returns-clause-repacked : goal.returns-clause-repacked
returns-clause-repacked g c =
    on_ok_weaker c.write_packing.result (λ written kind before own after among is.
    (let placed = subst (λ (body : List ℕ). Placed (g.A.Area.image c.args.area.now) (g.A.Area.image c.place_record.new.area) body c.in_ok-place.place) (c.deref.ensures.value ∙ c.in_ok-body.ensures) c.in_ok-place.ensures.placed in
    on_done c.requires.good c.requires.empty c.requires.loose (omega (arith, c.requires.fits, c.requires.limit)) c.ranges.flags.fits c.requires.flags placed among is written)) c.write_packing.ensures.written
