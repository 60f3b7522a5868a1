use Rattle.std.proofs.Common.{◌≡◌, ◌∙◌, ◌+◌, ◌++◌, ◌∷◌, [], ap, sym, false, length, map, arith, bytes_eq, if◌then◌else◌, length-append}
use Rattle.std.proofs.lemmas.List.{length-map, map-append}
use Rattle.std.specs.List.{list_any}
use Rattle.cdf_names.specs.Names.{has_name}
use Rattle.cdf_names.proofs.Keys.{IsDistinct-map, has_name-keys}
use Rattle.cdf_names.proofs.table.NameTable.add.Goals as goal

pub returns-clause-added : goal.returns-clause-added
returns-clause-added c =
    let keys = c.self.inside.names.keys in
    let key = c.into_vec.result in
    let absent : list_any (λ k. bytes_eq key.items k.items) keys ≡ false = has_name-keys (λ k. k.items) keys _ c.self.view_is key.items ∙ ap (has_name c.args.self.now) c.into_vec.ensures ∙ c.requires.absent in
    ap (map (λ k. k.items)) (c.in_ok-insert.ensures.keys ∙ ap (λ b. if b then keys else keys ++ key ∷ []) absent)
    ∙ map-append (λ k. k.items) keys (key ∷ []) ∙ (λ i. c.self.view_is i ++ c.into_vec.ensures i ∷ [])

pub invariant_of-self-2 : goal.invariant_of-self-2
invariant_of-self-2 c =
    let count : length c.insert.new.self.keys ≡ length c.args.self.now + 1 = sym (length-map _ (λ key. key.items)) ∙ ap length (returns-clause-added c) ∙ length-append c.args.self.now (c.args.name ∷ []) in
    (IsDistinct-map bytes_eq (λ key. key.items) _ c.insert.ensures.unique, omega (arith, count, c.requires.few))
