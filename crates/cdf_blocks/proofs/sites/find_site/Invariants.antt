use Rattle.cdf_blocks.proofs.sites.find_site.Given as goal

abbrev pub ghosts-end_counted : goal.ghosts-end_counted
ghosts-end_counted g a = record { name = a.blank.name; parts = a.blank.parts }
