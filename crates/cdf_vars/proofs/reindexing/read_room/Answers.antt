use Rattle.cdf_vars.proofs.Common.{arith}
use Rattle.cdf_vars.proofs.RemovalAnswers.{has_index}
use Rattle.cdf_vars.proofs.ReindexAnswers.{few_counted}
use Rattle.cdf_vars.proofs.reindexing.read_room.Goals as goal

pub index_size-requires-clause-index : goal.index_size-requires-clause-index
index_size-requires-clause-index g c = has_index c.requires.good c.in_ok-head.ensures.area.image c.args.vdr c.in_ok-head.ensures.value c.requires.vdr

pub nodes_above-requires : goal.nodes_above-requires
nodes_above-requires g c = few_counted c.requires.good c.in_ok-head.ensures.area.image c.args.vdr c.in_ok-head.ensures.value c.requires.vdr c.in_ok-size.size c.in_ok-size.ensures.value

pub overflow_mul-result : goal.overflow_mul-result
overflow_mul-result g c =
    let few = few_counted c.requires.good c.in_ok-head.ensures.area.image c.args.vdr c.in_ok-head.ensures.value c.requires.vdr c.in_ok-size.size c.in_ok-size.ensures.value in
    let most = c.nodes_above.ensures.few in
    omega arith
