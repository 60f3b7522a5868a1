use Rattle.cdf_vars.proofs.Common.{In, arith, cdr_second, emptied_by, few, field_second, good_is_sound, got_in, inside, lie_after, lies_mid, on_ok_weaker, remove, shape, subst, this, variables_listed, ◌+◌, ◌∙◌}
use Rattle.cdf_vars.proofs.RemovalAnswers.{handed_on, to_the_end, numbers_written, few_behind, own_are, vdr_among, in_dropped}
use Rattle.cdf_vars.proofs.removing.remove_at.Goals as goal

pub read_records-requires-clause-vdr : goal.read_records-requires-clause-vdr
read_records-requires-clause-vdr g c = vdr_among c.args.kind (shape (g.A.Area.image c.args.area.now)) _ (this _ c.requires.good c.args.kind c.args.places.now c.requires.places c.args.number c.requires.within).place_in

pub read_records-requires-clause-lies : goal.read_records-requires-clause-lies
read_records-requires-clause-lies g c = inside _ c.requires.good c.args.kind c.args.places.now c.requires.places _ (got_in c.args.places.now c.args.number c.requires.within)

pub greatest_left-requires-clause-lie : goal.greatest_left-requires-clause-lie
greatest_left-requires-clause-lie g c = rw c.in_ok-records.ensures.area.image (inside _ c.requires.good c.args.kind c.args.places.now c.requires.places)

pub take_out-requires-clause-sound : goal.take_out-requires-clause-sound
take_out-requires-clause-sound g c = rw (c.in_ok-greatest.ensures.area.image ∙ c.in_ok-records.ensures.area.image) (good_is_sound _ c.requires.good)

pub take_out-requires-clause-lists : goal.take_out-requires-clause-lists
take_out-requires-clause-lists g c = variables_listed _ c.requires.good c.args.kind c.args.places.now c.requires.places (c.in_ok-greatest.ensures.area.image ∙ c.in_ok-records.ensures.area.image) c.chain_of.ensures

pub overflow_cast-number : goal.overflow_cast-number
overflow_cast-number g c = let f = few _ c.requires.good c.args.kind c.args.places.now c.requires.places c.requires.short in omega (arith, f)

pub set_numbers-requires-clause-lie : goal.set_numbers-requires-clause-lie
set_numbers-requires-clause-lie g c = λ m i. lie_after _ c.requires.good c.args.kind c.args.places.now c.requires.places c.args.number c.requires.within c.requires.short (c.in_ok-greatest.ensures.area.image ∙ c.in_ok-records.ensures.area.image) c.chain_of.ensures c.in_ok-take_out.ensures.taken m (in_dropped c.args.places.now (c.args.number + 1) m (subst (In m) (to_the_end c.args.places.now (c.args.number + 1)) i))

pub set_numbers-requires-clause-few : goal.set_numbers-requires-clause-few
set_numbers-requires-clause-few g c = few_behind c.args.places.now c.args.number c.requires.within (few _ c.requires.good c.args.kind c.args.places.now c.requires.places c.requires.short)

pub set_greatest-requires : goal.set_greatest-requires
set_greatest-requires g c = record {
  cdr = cdr_second _ c.requires.good c.args.kind c.args.places.now c.requires.places c.args.number c.requires.within c.requires.short (c.in_ok-greatest.ensures.area.image ∙ c.in_ok-records.ensures.area.image) c.chain_of.ensures c.in_ok-take_out.ensures.taken (numbers_written _ c.args.places.now c.args.number c.in_ok-set_numbers.ensures.written);
  field = field_second _ c.requires.good c.args.kind c.args.places.now c.requires.places c.args.number c.requires.within c.requires.short (c.in_ok-greatest.ensures.area.image ∙ c.in_ok-records.ensures.area.image) c.chain_of.ensures c.in_ok-take_out.ensures.taken (numbers_written _ c.args.places.now c.args.number c.in_ok-set_numbers.ensures.written);
}

pub unlink_index-requires : goal.unlink_index-requires
unlink_index-requires g c = record { lies = lies_mid _ c.requires.good c.args.kind c.args.places.now c.requires.places c.args.number c.requires.within c.requires.short (c.in_ok-greatest.ensures.area.image ∙ c.in_ok-records.ensures.area.image) c.chain_of.ensures c.in_ok-take_out.ensures.taken (numbers_written _ c.args.places.now c.args.number c.in_ok-set_numbers.ensures.written) (handed_on (g.A.Area.image c.args.area.now) (remove c.args.places.now c.args.number) c.args.kind c.in_ok-greatest.greatest c.in_ok-records.ensures.area.image c.in_ok-greatest.ensures.greatest) c.in_ok-set_greatest.ensures.written }

pub free_records-requires : goal.free_records-requires
free_records-requires g c =
    let e = emptied_by _ c.requires.good c.args.kind c.args.places.now c.requires.places c.args.number c.requires.within c.requires.short (c.in_ok-greatest.ensures.area.image ∙ c.in_ok-records.ensures.area.image) c.chain_of.ensures c.in_ok-take_out.ensures.taken (numbers_written _ c.args.places.now c.args.number c.in_ok-set_numbers.ensures.written)
    (handed_on (g.A.Area.image c.args.area.now) (remove c.args.places.now c.args.number) c.args.kind c.in_ok-greatest.greatest c.in_ok-records.ensures.area.image c.in_ok-greatest.ensures.greatest) c.in_ok-set_greatest.ensures.written c.in_ok-unlink_index.ensures.emptied
    (own_are _ c.requires.good c.args.kind c.args.places.now c.requires.places c.args.number c.requires.within (λ before v after is at. c.deref.ensures.value ∙ c.in_ok-records.ensures.records before v after is at)) in
    record { sound = e.sound; free = e.free }

pub returns-clause-removed : goal.returns-clause-removed
returns-clause-removed g c = on_ok_weaker c.free_records.result ((
    emptied_by _ c.requires.good c.args.kind c.args.places.now c.requires.places c.args.number c.requires.within c.requires.short (c.in_ok-greatest.ensures.area.image ∙ c.in_ok-records.ensures.area.image) c.chain_of.ensures c.in_ok-take_out.ensures.taken (numbers_written _ c.args.places.now c.args.number c.in_ok-set_numbers.ensures.written)
    (handed_on (g.A.Area.image c.args.area.now) (remove c.args.places.now c.args.number) c.args.kind c.in_ok-greatest.greatest c.in_ok-records.ensures.area.image c.in_ok-greatest.ensures.greatest) c.in_ok-set_greatest.ensures.written c.in_ok-unlink_index.ensures.emptied
    (own_are _ c.requires.good c.args.kind c.args.places.now c.requires.places c.args.number c.requires.within (λ before v after is at. c.deref.ensures.value ∙ c.in_ok-records.ensures.records before v after is at))).removes _) c.free_records.ensures.given
