use Rattle.std.proofs.Common.{◌∙◌, ap, map, arith, bytes_eq}
use Rattle.std.specs.List.{remove}
use Rattle.indexmap.proofs.SetLemmas.{map-remove}
use Rattle.cdf_names.proofs.Keys.{IsDistinct-map}
use Rattle.cdf_names.proofs.table.NameTable.remove.Goals as goal

pub invariant_of-self : goal.invariant_of-self
invariant_of-self c = (IsDistinct-map bytes_eq (λ name. name.items) _ c.shift_remove_index.ensures.unique, omega (arith, c.shift_remove_index.ensures.len))

pub returns : goal.returns
returns c = ap (map (λ name. name.items)) c.shift_remove_index.ensures.keys ∙ map-remove (λ name. name.items) _ c.args.number ∙ ap (λ names. remove names c.args.number) c.self.view_is
