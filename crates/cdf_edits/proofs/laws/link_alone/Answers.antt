use Rattle.cdf_edits.proofs.Frame.LinkWritten.{one_chain, other_chain}
use Rattle.cdf_edits.proofs.laws.link_alone.Goals as goal

pub returns-clause-own : goal.returns-clause-own
returns-clause-own c = λ b now records all upto holder place more c front rest tail tiled inside sub change placed head field spare leads good once. one_chain b now records all upto tiled inside sub holder place more change placed c front rest tail head field spare leads good once

pub returns-clause-others : goal.returns-clause-others
returns-clause-others c = λ b now records all upto holder place more c front rest other tiled inside sub change placed head field o apart spare. other_chain b now records all upto tiled inside sub holder place more change placed c front rest other head field o apart spare
