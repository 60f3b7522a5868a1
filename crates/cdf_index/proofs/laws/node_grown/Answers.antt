use Rattle.cdf_index.proofs.Common.{placed, redone}
use Rattle.cdf_index.proofs.NodeGrown.{grown_owed, split_owed, chained_owed}
use Rattle.cdf_index.proofs.laws.node_grown.Goals as goal

pub returns-clause-with_room : goal.returns-clause-with_room
returns-clause-with_room c = λ b now records records' at new used p levels l nodes heads used_is begins names fits ins inside has once kept blocks.
    redone b now records records' heads at (placed l new at) (grown_owed b now records records' heads at new used p l used_is begins names fits ins inside) levels nodes has once kept blocks

pub returns-clause-split : goal.returns-clause-split
returns-clause-split c = λ b now records records' at new used p levels l nodes heads used_is begins names full fresh sp behind has once kept blocks.
    redone b now records records' heads at (placed l new at) (split_owed b now records records' heads at new used p l used_is begins names full fresh sp behind) levels nodes has once kept blocks

pub returns-clause-behind : goal.returns-clause-behind
returns-clause-behind c = λ b now records records' at new used p levels l nodes heads used_is begins names full fresh ch last has once kept blocks.
    redone b now records records' heads at (placed l new at) (chained_owed b now records records' heads at new used p l used_is begins names full fresh ch last) levels nodes has once kept blocks
