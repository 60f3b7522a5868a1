use Rattle.cdf_attrs.proofs.Common.{ap, attributes_listed, good_is_sound, lie_after, map, on_ok_weaker, own, unlinked_by, write_of, ◌∙◌}
use Rattle.cdf_attrs.proofs.deleting.delete.Goals as goal

pub read_records-requires-clause-adr : goal.read_records-requires-clause-adr
read_records-requires-clause-adr g c = (own _ c.requires.good c.args.places.now c.requires.places c.args.number c.requires.within).place_in

pub read_numbers-requires-clause-good : goal.read_numbers-requires-clause-good
read_numbers-requires-clause-good g c = rw c.in_ok-records.ensures.area.image c.requires.good

pub take_out-requires-clause-sound : goal.take_out-requires-clause-sound
take_out-requires-clause-sound g c = rw (c.in_ok-numbers.ensures.area.image ∙ c.in_ok-records.ensures.area.image) (good_is_sound _ c.requires.good)

pub take_out-requires-clause-lists : goal.take_out-requires-clause-lists
take_out-requires-clause-lists g c = rw (c.in_ok-numbers.ensures.area.image ∙ c.in_ok-records.ensures.area.image) (attributes_listed _ c.requires.good c.args.places.now c.requires.places)

pub set_numbers-requires : goal.set_numbers-requires
set_numbers-requires g c =
    lie_after _ c.requires.good c.args.places.now c.requires.places c.args.number c.requires.within c.requires.short (c.in_ok-numbers.ensures.area.image ∙ c.in_ok-records.ensures.area.image) c.in_ok-take_out.ensures.taken
    c.in_ok-records.ensures.area.image (ap (map write_of) c.deref.ensures.value ∙ c.in_ok-numbers.ensures.numbers)

pub free_records-requires : goal.free_records-requires
free_records-requires g c =
    let u = unlinked_by _ c.requires.good c.args.places.now c.requires.places c.args.number c.requires.within c.requires.short (c.in_ok-numbers.ensures.area.image ∙ c.in_ok-records.ensures.area.image) c.in_ok-take_out.ensures.taken
    c.in_ok-records.ensures.area.image (ap (map write_of) c.deref.ensures.value ∙ c.in_ok-numbers.ensures.numbers) c.in_ok-set_numbers.ensures.written (c.deref-2.ensures.value ∙ c.in_ok-records.ensures.records) in
    record { sound = u.sound; free = u.free }

pub returns-clause-deleted : goal.returns-clause-deleted
returns-clause-deleted g c =
    on_ok_weaker _ ((unlinked_by _ c.requires.good c.args.places.now c.requires.places c.args.number c.requires.within c.requires.short (c.in_ok-numbers.ensures.area.image ∙ c.in_ok-records.ensures.area.image) c.in_ok-take_out.ensures.taken
    c.in_ok-records.ensures.area.image (ap (map write_of) c.deref.ensures.value ∙ c.in_ok-numbers.ensures.numbers) c.in_ok-set_numbers.ensures.written (c.deref-2.ensures.value ∙ c.in_ok-records.ensures.records)).deletes _) c.free_records.ensures.given
