use Rattle.cdf_vars.proofs.Common.{KnowsKind, List, [], ap, last_removed, remove, subst, sym, ℕ, ◌++◌, ◌∙◌, ◌∷◌}
use Rattle.cdf_vars.proofs.VariableFound.{kind_absent, kind_few, kind_view}
use Rattle.cdf_vars.proofs.vars.VarTable.add.Goals as goal

pub add-requires-clause-absent : goal.add-requires-clause-absent
add-requires-clause-absent g c = rw (c.new.ensures ∙ c.in_ok-to_vec.ensures.items_if_clones_equal (λ x y e. e)) (kind_absent (kind_view c.self.view_is c.requires.known) c.args.name.now c.requires.free)

pub add-requires-clause-few : goal.add-requires-clause-few
add-requires-clause-few g c = kind_few (kind_view c.self.view_is c.requires.known) c.requires.good

pub returns-in-Ok-clause-known : goal.returns-in-Ok-clause-known
returns-in-Ok-clause-known g c =
    let added = c.in_ok-add.ensures.added ∙ ap (λ (x : List ℕ). c.self.inside.names ++ x ∷ []) (c.new.ensures ∙ c.in_ok-to_vec.ensures.items_if_clones_equal (λ x y e. e)) in
    subst (λ (names : List (List ℕ)). KnowsKind (g.A.Area.image c.make.new.area) c.args.kind (record { names = names; places = c.make.new.places.items })) (sym added)
    (c.in-Ok.ensures.known c.self.inside.names (kind_view c.self.view_is c.requires.known))

pub returns-in-Err-clause-stays : goal.returns-in-Err-clause-stays
returns-in-Err-clause-stays g c =
    let before = kind_view c.self.view_is c.requires.known in
    assumption (c.remove.ensures ∙ ap (λ (xs : List (List ℕ)). remove xs c.len-last.result) c.in_ok-add.ensures.added ∙ last_removed c.self.inside.names c.new.result c.len-last.result c.len-last.ensures.count ∙ before.names_are, c.in-Err.ensures.stays ∙ before.places_are)
