use Rattle.cdf_index.proofs.Common.{index_at, ◌∙◌}
use Rattle.cdf_index.proofs.ChainWalk.{whole_met}
use Rattle.cdf_index.proofs.Measured.{collected}
use Rattle.cdf_index.proofs.collecting.index_parts.Goals as goal

pub returns-clause-leaves : goal.returns-clause-leaves
returns-clause-leaves g c =
    (whole_met c.requires.index c.in_ok-gather_chain.ensures.grew (c.new.ensures.items, c.new-2.ensures.items)).0 ∙ (collected (index_at (g.A.Area.image c.args.area.now) c.args.head)).0

pub returns-clause-nodes : goal.returns-clause-nodes
returns-clause-nodes g c =
    (whole_met c.requires.index c.in_ok-gather_chain.ensures.grew (c.new.ensures.items, c.new-2.ensures.items)).1 ∙ (collected (index_at (g.A.Area.image c.args.area.now) c.args.head)).1
