use Rattle.cdf_attrs.proofs.Common.{List, ap, arith, content, delete_done, delete_refused, length, names_after, places_after, remove, sym, ℕ, ◌∙◌}
use Rattle.cdf_attrs.proofs.KnownAttributes.{names_known, places_known, none_known}
use Rattle.cdf_attrs.proofs.NamesChanged.{none_named, number_within, some_named}
use Rattle.cdf_attrs.proofs.RenamingSteps.{number_is_adr}
use Rattle.cdf_attrs.proofs.Failing.{on_err}
use Rattle.cdf_attrs.proofs.attrs.Attrs.remove.Goals as goal

pub returns-in_default-clause-answers : goal.returns-in_default-clause-answers
returns-in_default-clause-answers g c = delete_refused _ _ c.args.name.now (none_named (content (g.A.Area.image c.args.area.now)) c.self.inside.names c.args.name.now (names_known c.requires.known c.self.view_is) (sym c.find.ensures.number ∙ c.in_default.is))

pub delete-requires-clause-places : goal.delete-requires-clause-places
delete-requires-clause-places g c = c.deref.ensures.value ∙ places_known c.requires.known c.self.view_is

pub delete-requires-clause-within : goal.delete-requires-clause-within
delete-requires-clause-within g c =
    let lt = number_within c.self.inside.names c.args.name.now c.in-Some.number (sym c.in-Some.ensures.number) in
    omega (arith, number_is_adr _ 0 c.self.inside.names c.args.name.now c.args.name.now (names_known c.requires.known c.self.view_is) c.requires.good c.in-Some.number lt, ap length (c.deref.ensures.value ∙ places_known c.requires.known c.self.view_is))

pub returns-clause-answers : goal.returns-clause-answers
returns-clause-answers g c =
    let a = some_named (content (g.A.Area.image c.args.area.now)) c.self.inside.names c.args.name.now c.in-Some.number (names_known c.requires.known c.self.view_is) (sym c.in-Some.ensures.number) in
    delete_done c.requires.good c.in_ok-delete.ensures.deleted c.args.name.now a.0 a.1 _ c.requires.fits (omega (arith, c.requires.fits, c.requires.limit))

pub returns-clause-known : goal.returns-clause-known
returns-clause-known g c =
    none_known _ c.remove.new.self c.remove-2.new.self.items _
    (c.remove.ensures ∙ ap (λ (xs : List (List ℕ)). remove xs c.in-Some.number) (names_known c.requires.known c.self.view_is) ∙ names_after c.requires.good c.in_ok-delete.ensures.deleted)
    (c.remove-2.ensures.items ∙ ap (λ (xs : List ℕ). remove xs c.in-Some.number) (places_known c.requires.known c.self.view_is) ∙ places_after c.requires.good c.in_ok-delete.ensures.deleted) c.clear.ensures.items

pub returns-in_err-delete-clause-stays : goal.returns-in_err-delete-clause-stays
returns-in_err-delete-clause-stays g c = on_err _ (none_known _ _ _ _ (names_known c.requires.known c.self.view_is) (places_known c.requires.known c.self.view_is) c.clear.ensures.items)
