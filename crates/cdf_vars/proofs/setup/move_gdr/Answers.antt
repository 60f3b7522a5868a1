use Rattle.cdf_vars.proofs.SetUpFollows.{late_sound, old_free, old_stands}
use Rattle.cdf_vars.proofs.setup.move_gdr.Goals as goal

pub free_record-requires : goal.free_record-requires
free_record-requires g c =
    let r = c.requires in
    let made = c.in_ok-_place.ensures.made in
    record { sound = late_sound _ _ r.good r.empty r.fine made; stands = old_stands _ _ r.good r.empty r.fine made _ r.gdr; free = old_free _ _ r.good r.empty r.fine made _ r.gdr }
