use Rattle.cdf_attrs.proofs.KeptEntries.{others_left}
use Rattle.cdf_attrs.proofs.kept_chains.take_chain.Goals as goal

pub returns-clause-others : goal.returns-clause-others
returns-clause-others c = others_left c.args.chain _ _ _ c.take_first-taken.ensures.left c.drop_chain.ensures
