use Rattle.cdf_attrs.proofs.Common.{ap, turned, ◌∙◌}
use Rattle.cdf_attrs.proofs.ValueWords.{back_written}
use Rattle.cdf_attrs.proofs.value.read_value.Goals as goal

pub returns-clause-ok : goal.returns-clause-ok
returns-clause-ok c = back_written c.in_ok-value.ensures.ok c.args.encoding.little c.from_network.new.bytes c.in_ok-value.value.bytes.len (c.from_network.ensures ∙ ap (turned c.args.t c.args.encoding.little) c.deref_mut.ensures.value) c.in_ok-value.value.bytes.ok.0
