use Rattle.cdf_convert_tests.proofs.full.last_cut.Given as goal

abbrev pub decreases-loop-end : goal.decreases-loop-end
decreases-loop-end l = l.end
