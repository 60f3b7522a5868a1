use Rattle.cdf_attrs.proofs.Common.{List, ap, arith, max_field, with_field, ℕ, ◌∙◌}
use Rattle.cdf_attrs.proofs.EntryPut.{begins_at, fields_inside, max_inside, put_over, stored}
use Rattle.cdf_attrs.proofs.putting.put_in_place.Goals as goal

pub overflow_add-old : goal.overflow_add-old
overflow_add-old g c = omega (arith, begins_at c.requires.good c.requires.ready c.args.i c.requires.old.within, c.requires.old.place_is)

pub set-requires : goal.set-requires
set-requires g c = fields_inside c.requires.good c.requires.ready c.requires.old c.requires.fits (c.deref.ensures.value ∙ c.in_ok-fields.ensures)

pub set_greatest-requires : goal.set_greatest-requires
set_greatest-requires g c = max_inside c.requires.good c.requires.ready _ (let same = c.in_ok-set.ensures.area.size in omega arith)

pub returns-clause-put : goal.returns-clause-put
returns-clause-put g c = put_over c.requires.good c.requires.ready c.requires.old c.requires.fits (c.deref.ensures.value ∙ c.in_ok-fields.ensures) (c.in_ok-set_greatest.ensures.written ∙ ap (λ (x : List ℕ). with_field x c.args.entry.now.slot.adr (max_field c.args.entry.now.slot.kind) (stored c.args.entry.now)) c.in_ok-set.ensures.written)
