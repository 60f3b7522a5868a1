use Rattle.cdf_puts.proofs.Common.{starts_at}
use Rattle.cdf_puts.proofs.searching.Search.node.Goals as goal

pub returns-else-self-eq0 : goal.returns-else-self-eq0
returns-else-self-eq0 c b s = (starts_at s.index s.start).top c.if-self-eq0.false
