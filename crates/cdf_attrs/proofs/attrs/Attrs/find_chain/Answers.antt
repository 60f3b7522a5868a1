use Rattle.cdf_attrs.proofs.Common.{content, sym, ◌∙◌}
use Rattle.cdf_attrs.proofs.AttributeFound.{has_place, scope_inside, is_wrong, is_found}
use Rattle.cdf_attrs.proofs.KnownAttributes.{names_known, places_known}
use Rattle.cdf_attrs.proofs.NamesChanged.{none_named}
use Rattle.cdf_attrs.proofs.attrs.Attrs.find_chain.Goals as goal

pub returns-in_default-clause-target : goal.returns-in_default-clause-target
returns-in_default-clause-target g c = none_named (content (g.A.Area.image c.args.area.now)) c.self.inside.names c.args.attr.now (names_known c.requires.known c.self.view_is) (sym c.find.ensures.number ∙ c.in_default.is)

pub bounds-places-number : goal.bounds-places-number
bounds-places-number g c =
    has_place (g.A.Area.image c.args.area.now) c.args.attr.now c.args.kind c.requires.good c.self.inside.names c.as_slice-places.result.now
    (names_known c.requires.known c.self.view_is) (c.as_slice-places.ensures.value ∙ places_known c.requires.known c.self.view_is) c.in-Some.number (sym c.in-Some.ensures.number)

pub read_scope-requires : goal.read_scope-requires
read_scope-requires g c =
    scope_inside (g.A.Area.image c.args.area.now) c.args.attr.now c.args.kind c.requires.good c.self.inside.names c.as_slice-places.result.now
    (names_known c.requires.known c.self.view_is) (c.as_slice-places.ensures.value ∙ places_known c.requires.known c.self.view_is) c.in-Some.number (sym c.in-Some.ensures.number)

pub returns-then-is_wrong_scope-clause-target : goal.returns-then-is_wrong_scope-clause-target
returns-then-is_wrong_scope-clause-target g c =
    is_wrong (g.A.Area.image c.args.area.now) c.args.attr.now c.args.kind c.requires.good c.self.inside.names c.as_slice-places.result.now
    (names_known c.requires.known c.self.view_is) (c.as_slice-places.ensures.value ∙ places_known c.requires.known c.self.view_is) c.in-Some.number (sym c.in-Some.ensures.number)
    c.in_ok-scope.scope c.in_ok-scope.ensures.scope (sym c.is_wrong_scope.ensures ∙ c.if-is_wrong_scope.true)

pub returns-clause-target : goal.returns-clause-target
returns-clause-target g c =
    is_found (g.A.Area.image c.args.area.now) c.args.attr.now c.args.kind c.requires.good c.self.inside.names c.as_slice-places.result.now
    (names_known c.requires.known c.self.view_is) (c.as_slice-places.ensures.value ∙ places_known c.requires.known c.self.view_is) c.in-Some.number (sym c.in-Some.ensures.number)
    c.in_ok-scope.scope c.in_ok-scope.ensures.scope (sym c.is_wrong_scope.ensures ∙ c.if-is_wrong_scope.false) c.entries_chain.result c.entries_chain.ensures
