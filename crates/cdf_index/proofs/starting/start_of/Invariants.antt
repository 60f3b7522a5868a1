use Rattle.cdf_index.proofs.starting.start_of.Given as goal

abbrev pub ghosts-start_counted : goal.ghosts-start_counted
ghosts-start_counted g a = record { name = a.blank.name; parts = a.blank.parts }
