use Rattle.cdf_puts.proofs.starts.Starts.take.Goals as goal

pub returns-clause-taken : goal.returns-clause-taken
returns-clause-taken c index is_right = c.new-in-Ok-None.ensures index
