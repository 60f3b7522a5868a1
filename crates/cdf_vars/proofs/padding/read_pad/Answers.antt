use Rattle.cdf_vars.proofs.Common.{List, ap, arith, length, size_of, subst, sym, turned, whole_elements, ℕ, ◌%◌, ◌∙◌, ◌≡◌}
use Rattle.cdf_vars.proofs.PadValues.{is_value, value_long}
use Rattle.cdf_vars.proofs.padding.read_pad.Goals as goal

pub from_network-requires : goal.from_network-requires
from_network-requires c = subst (λ (xs : List ℕ). length xs % size_of c.args.t ≡ 0) (sym c.deref_mut.ensures.value) (whole_elements c.args.t c.args.elems _ (value_long c.args.t c.args.elems c.args.words.now c.in_ok-bytes.bytes.items c.requires c.in_ok-bytes.ensures.ok))

pub returns-clause-ok : goal.returns-clause-ok
returns-clause-ok c =
    is_value c.args.t c.args.encoding.little c.args.elems c.in_ok-bytes.bytes.len c.args.words.now c.in_ok-bytes.bytes.items c.from_network.new.bytes c.requires c.in_ok-bytes.ensures.ok (omega (arith, c.in_ok-bytes.bytes.ok))
    (c.from_network.ensures ∙ ap (turned c.args.t c.args.encoding.little) c.deref_mut.ensures.value)
