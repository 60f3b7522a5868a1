use Rattle.cdf_attrs.proofs.Common.{List, adr_scope, ap, number, refl, scope_of, sym, ℕ, ◌∙◌}
use Rattle.cdf_attrs.proofs.ShownAttributes.{attribute_at, attribute_shown, few_attributes, name_found, name_lies, no_attribute, scope_lies}
use Rattle.cdf_attrs.proofs.attrs.Attrs.attribute_event.Goals as goal

pub returns-in_default-clause-event : goal.returns-in_default-clause-event
returns-in_default-clause-event g c = rw (no_attribute (g.A.Area.image c.args.area.now) c.requires.good c.requires.known.places_are c.args.n (sym c.place_of.ensures ∙ c.in_default.is)) refl

pub read_name-requires : goal.read_name-requires
read_name-requires g c = name_lies (g.A.Area.image c.args.area.now) c.requires.good c.requires.known.places_are c.args.n c.in-Some.place (sym c.place_of.ensures ∙ c.in-Some.is)

pub read_scope-requires : goal.read_scope-requires
read_scope-requires g c = scope_lies (g.A.Area.image c.args.area.now) c.requires.good c.requires.known.places_are c.args.n c.in-Some.place (sym c.place_of.ensures ∙ c.in-Some.is) (g.A.Area.image c.read_name.new.area) c.read_name.ensures.area.image

pub returns-clause-event : goal.returns-clause-event
returns-clause-event g c =
    let b = g.A.Area.image c.args.area.now in
    let is = sym c.place_of.ensures ∙ c.in-Some.is in
    attribute_shown b c.requires.good (attribute_at b c.requires.good c.requires.known.places_are c.args.n c.in-Some.place is) c.in_ok-name.name
    (name_found b c.requires.good c.requires.known.places_are c.args.n c.in-Some.place is c.in_ok-name.name c.in_ok-name.ensures.value) c.in_ok-scope.scope
    (c.in_ok-scope.ensures.scope ∙ ap (λ (x : List ℕ). scope_of (number x c.in-Some.place adr_scope)) c.read_name.ensures.area.image)

pub returns-clause-few : goal.returns-clause-few
returns-clause-few g c = λ some. few_attributes (g.A.Area.image c.args.area.now) c.requires.good c.requires.known.places_are c.args.n c.in-Some.place (sym c.place_of.ensures ∙ c.in-Some.is)
