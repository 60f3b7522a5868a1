use Rattle.cdf_writer.proofs.index.+append_levels.Given as goal

abbrev pub decreases-append_levels : goal.decreases-append_levels
decreases-append_levels g l = l.most
