use Rattle.std.proofs.Common.{◌≡◌, ◌∙◌, ap, length, arith, sym, [], bytes_eq}
use Rattle.std.proofs.lemmas.List.{length-map}
use Rattle.cdf_names.specs.Names.{last_to}
use Rattle.cdf_names.proofs.Keys.{IsDistinct-map, swapped}
use Rattle.cdf_names.proofs.table.NameTable.last_to.Goals as goal

pub invariant_of-self : goal.invariant_of-self
invariant_of-self c = (IsDistinct-map bytes_eq (λ name. name.items) _ c.swap_remove_index.ensures.unique, omega (arith, c.swap_remove_index.ensures.len))

pub returns : goal.returns
returns c =
    let keys = c.self.inside.names.keys in
    let count : length c.args.self.now ≡ length keys = sym (ap length c.self.view_is) ∙ length-map keys (λ name. name.items) in
    swapped (λ name. name.items) keys _ c.args.number [] _ (omega (arith, count, c.requires)) c.swap_remove_index.ensures.key c.swap_remove_index.ensures.keys
    ∙ ap (λ names. last_to names c.args.number) c.self.view_is
