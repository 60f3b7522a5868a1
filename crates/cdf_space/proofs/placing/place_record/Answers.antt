use Rattle.cdf_space.proofs.Common.{arith, length, refl, ◌+◌}
use Rattle.cdf_space.proofs.Filling.{lies, placed_by, placed_sound, placed_content}
use Rattle.cdf_space.proofs.placing.place_record.Goals as goal

pub set-requires : goal.set-requires
set-requires g c =
    let at = c.in_ok-place.ensures in
    let l = lies (g.A.Area.image c.args.area.now) (g.A.Area.image c.alloc_record.new.area) (g.A.Area.image c.alloc_record.new.area) c.args.bytes.now c.in_ok-place.place (8 + length c.args.bytes.now) c.requires.sound at.takes at.sound at.content refl c.requires.body in
    omega arith

pub returns-clause-placed : goal.returns-clause-placed
returns-clause-placed g c =
    let at = c.in_ok-place.ensures in
    placed_by (g.A.Area.image c.args.area.now) (g.A.Area.image c.alloc_record.new.area) (g.A.Area.image c.set.new.self) c.args.bytes.now c.in_ok-place.place (8 + length c.args.bytes.now) c.requires.sound at.takes at.sound at.content refl c.requires.body c.in_ok-set.ensures.written

pub returns-clause-sound : goal.returns-clause-sound
returns-clause-sound g c =
    let at = c.in_ok-place.ensures in
    placed_sound (g.A.Area.image c.args.area.now) (g.A.Area.image c.alloc_record.new.area) (g.A.Area.image c.set.new.self) c.args.bytes.now c.in_ok-place.place (8 + length c.args.bytes.now) c.requires.sound at.takes at.sound at.content refl c.requires.body c.in_ok-set.ensures.written

pub returns-clause-content : goal.returns-clause-content
returns-clause-content g c =
    let at = c.in_ok-place.ensures in
    placed_content (g.A.Area.image c.args.area.now) (g.A.Area.image c.alloc_record.new.area) (g.A.Area.image c.set.new.self) c.args.bytes.now c.in_ok-place.place (8 + length c.args.bytes.now) c.requires.sound at.takes at.sound at.content refl c.requires.body c.in_ok-set.ensures.written
