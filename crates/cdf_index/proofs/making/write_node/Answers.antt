use Rattle.cdf_index.proofs.Common.{on_ok_weaker}
use Rattle.cdf_index.proofs.Inserting.{node_written}
use Rattle.cdf_index.proofs.making.write_node.Goals as goal

pub returns-clause-written : goal.returns-clause-written
returns-clause-written g c = on_ok_weaker _ (λ w. node_written c.in_ok-write_head.ensures.written w) c.write_entries.ensures.written
