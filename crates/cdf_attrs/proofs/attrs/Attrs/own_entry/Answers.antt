use Rattle.cdf_attrs.proofs.Common.{refl, sym, ◌∙◌}
use Rattle.cdf_attrs.proofs.ShownAttributes.{attribute_at, no_attribute, own_chain, own_shown, scope_lies}
use Rattle.std.proofs.lemmas.Result.{IfOk-weaker}
use Rattle.cdf_attrs.proofs.attrs.Attrs.own_entry.Goals as goal

pub returns-in_default-clause-event : goal.returns-in_default-clause-event
returns-in_default-clause-event g c = rw (no_attribute (g.A.Area.image c.args.area.now) c.requires.good c.requires.known.places_are c.args.n (sym c.place_of.ensures ∙ c.in_default.is)) refl

pub read_scope-requires : goal.read_scope-requires
read_scope-requires g c = scope_lies (g.A.Area.image c.args.area.now) c.requires.good c.requires.known.places_are c.args.n c.in-Some.adr (sym c.place_of.ensures ∙ c.in-Some.is) (g.A.Area.image c.args.area.now) refl

pub entry_event-requires-clause-good : goal.entry_event-requires-clause-good
entry_event-requires-clause-good g c = rw c.read_scope.ensures.area.image c.requires.good

pub entry_event-requires-clause-attribute : goal.entry_event-requires-clause-attribute
entry_event-requires-clause-attribute g c =
    let b = g.A.Area.image c.args.area.now in
    let at = attribute_at b c.requires.good c.requires.known.places_are c.args.n c.in-Some.adr (sym c.place_of.ensures ∙ c.in-Some.is) in
    rw c.read_scope.ensures.area.image (own_chain b c.requires.good at)

pub returns-clause-event : goal.returns-clause-event
returns-clause-event g c =
    let b = g.A.Area.image c.args.area.now in
    let at = attribute_at b c.requires.good c.requires.known.places_are c.args.n c.in-Some.adr (sym c.place_of.ensures ∙ c.in-Some.is) in
    IfOk-weaker c.entry_event.result _ _ (λ o shown. own_shown b c.requires.good at c.in_ok-scope.scope c.in_ok-scope.ensures.scope c.kind_in.result c.kind_in.ensures c.args.i o shown) (rw c.read_scope.ensures.area.image at c.entry_event.ensures.event)
