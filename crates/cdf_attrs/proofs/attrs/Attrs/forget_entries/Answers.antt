use Rattle.cdf_attrs.proofs.Common.{None}
use Rattle.cdf_attrs.proofs.attrs.Attrs.forget_entries.Goals as goal

pub returns : goal.returns
returns c = λ i. record (c.self.view_is i) { entries = c.clear.ensures.items i; order = None }
