-- The lines of a script that were refused, as a run counts them.
use Rattle.std.specs.Prelude.{Bool, not, ◌==◌}
use Rattle.cdf_saving.specs.declared.refusals.Refusals.{Refusals}

-- a line was refused
abbrev pub was_refused : Refusals → Bool
was_refused r = not (r.refused == 0)
