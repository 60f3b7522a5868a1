use Rattle.cdf_vars.proofs.Common.{KnownKind, List, [], ap, last_to, length, slice_set, subst, sym, ℕ, ◌++◌, ◌<◌, ◌∙◌, ◌∷◌, ◌≡◌}
use Rattle.cdf_names.proofs.Moved.{last_moved}
use Rattle.cdf_vars.proofs.renaming.rename_in.Goals as goal

pub returns-in-Ok-clause-renamed : goal.returns-in-Ok-clause-renamed
returns-in-Ok-clause-renamed g c =
    let name : c.new.result ≡ c.args.to.now = c.new.ensures ∙ c.in_ok-to_vec.ensures.items_if_clones_equal (λ x y e. e) in
    let names = c.last_to.ensures ∙ ap (λ (xs : List (List ℕ)). last_to xs c.args.num) (c.in_ok-add.ensures.added ∙ ap (λ (x : List ℕ). c.table.inside.names ++ x ∷ []) name) ∙ last_moved c.table.inside.names c.args.to.now c.args.num (subst (λ (k : KnownKind). c.args.num < length k.names) (sym c.table.view_is) c.requires.may.named) in
    let view = c.table.view_is in
    (λ i. record { names = names i; places = c.table.inside.places.items }) ∙ ap (λ (k : KnownKind). record k { names = slice_set k.names c.args.num c.args.to.now }) view
