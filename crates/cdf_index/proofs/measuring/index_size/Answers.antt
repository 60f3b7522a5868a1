use Rattle.cdf_index.proofs.Common.{refl}
use Rattle.cdf_index.proofs.ChainWalk.{whole_met}
use Rattle.cdf_index.proofs.Measured.{measured_is}
use Rattle.cdf_index.proofs.measuring.index_size.Goals as goal

pub returns-clause-value : goal.returns-clause-value
returns-clause-value g c =
    measured_is _ c.args.head c.requires.index c.requires.short c.gather_chain.new.gathered (whole_met c.requires.index c.in_ok-gather_chain.ensures.grew (record { leaves = refl; entries = refl; widest = refl }))
