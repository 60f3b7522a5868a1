use Rattle.cdf_leaves.proofs.adding.find_way.Given as goal

abbrev pub ghosts-way_counted : goal.ghosts-way_counted
ghosts-way_counted g a = record { name = a.blank.name; parts = a.blank.parts }
