use Rattle.cdf_check.proofs.Common.{read_done, read_more, read_once}
use Rattle.cdf_check.proofs.entries.has_value.Goals as goal

pub returns-then-bytes-le-RECORD_LIMIT-clause-area : goal.returns-then-bytes-le-RECORD_LIMIT-clause-area
returns-then-bytes-le-RECORD_LIMIT-clause-area g c = read_done (read_more (read_more (read_once c.in_ok-code.ensures.area) c.in_ok-elements.ensures.area) c.in_ok-size.ensures.area)

pub returns-else-bytes-le-RECORD_LIMIT-clause-area : goal.returns-else-bytes-le-RECORD_LIMIT-clause-area
returns-else-bytes-le-RECORD_LIMIT-clause-area g c = read_done (read_more (read_more (read_once c.in_ok-code.ensures.area) c.in_ok-elements.ensures.area) c.in_ok-size.ensures.area)
