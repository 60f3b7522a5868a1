use Rattle.cdf_attrs.proofs.KeptEntries.{with_one}
use Rattle.cdf_attrs.proofs.kept_chains.keep_chain.Goals as goal

pub returns : goal.returns
returns c = with_one _ _ _ _ c.args.entries c.make_room.ensures c.push-kept.ensures.items
