use Rattle.cdf_index.proofs.Common.{places_in, take, ◌≡◌}
use Rattle.cdf_index.proofs.collecting.places_of.Given as goal

abbrev pub invariant-loop-entry : goal.invariant-loop-entry
invariant-loop-entry l = record { read : l.places.items ≡ places_in (take l.entry-index l.entries) }
