use Rattle.cdf_attrs.proofs.Common.{refl, sym, ◌∙◌}
use Rattle.cdf_attrs.proofs.ShownAttributes.{attribute_at, no_attribute, z_chain, z_shown}
use Rattle.std.proofs.lemmas.Result.{IfOk-weaker}
use Rattle.cdf_attrs.proofs.attrs.Attrs.z_entry.Goals as goal

pub returns-in_default-clause-event : goal.returns-in_default-clause-event
returns-in_default-clause-event g c = rw (no_attribute (g.A.Area.image c.args.area.now) c.requires.good c.requires.known.places_are c.args.n (sym c.place_of.ensures ∙ c.in_default.is)) refl

pub entry_event-requires-clause-attribute : goal.entry_event-requires-clause-attribute
entry_event-requires-clause-attribute g c =
    let b = g.A.Area.image c.args.area.now in
    z_chain b c.requires.good (attribute_at b c.requires.good c.requires.known.places_are c.args.n c.in-Some.adr (sym c.place_of.ensures ∙ c.in-Some.is))

pub returns-clause-event : goal.returns-clause-event
returns-clause-event g c =
    let b = g.A.Area.image c.args.area.now in
    let at = attribute_at b c.requires.good c.requires.known.places_are c.args.n c.in-Some.adr (sym c.place_of.ensures ∙ c.in-Some.is) in
    IfOk-weaker c.entry_event.result _ _ (λ o shown. z_shown b c.requires.good at c.args.i o shown) c.entry_event.ensures.event
