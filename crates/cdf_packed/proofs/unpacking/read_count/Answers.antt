use Rattle.cdf_area.proofs.Calls.{read_done, read_once}
use Rattle.cdf_packed.proofs.unpacking.read_count.Goals as goal

pub returns-clause-area : goal.returns-clause-area
returns-clause-area g c = read_done (read_once c.in_ok-head.ensures.area)
