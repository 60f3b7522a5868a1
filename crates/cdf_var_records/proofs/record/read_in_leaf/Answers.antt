use Rattle.cdf_var_records.proofs.RecordReading.{leaf_has, whole}
use Rattle.cdf_var_records.proofs.record.read_in_leaf.Goals as goal

pub in_network_order-requires : goal.in_network_order-requires
in_network_order-requires g c = whole c.requires.good c.requires.form c.args.rec c.args.leaf.now c.requires.leaf c.in_ok-raw.raw.items c.in_ok-raw.ensures.bytes

pub returns-clause-record : goal.returns-clause-record
returns-clause-record g c = leaf_has c.requires.good c.requires.form c.args.rec c.args.leaf.now c.requires.leaf c.in_ok-raw.raw.items c.in_ok-raw.ensures.bytes _ c.in_network_order.ensures
