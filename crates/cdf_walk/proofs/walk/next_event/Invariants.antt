use Rattle.std.proofs.Common.{◌≡◌}
use Rattle.cdf_model.specs.Spots.{rest}
use Rattle.cdf_walk.specs.Walks.{Within, rank}
use Rattle.cdf_walk.proofs.walk.next_event.Given as goal

abbrev pub invariant-loop-event : goal.invariant-loop-event
invariant-loop-event g l = record {
  told : g.P.Parts.told l.parts ≡ g.P.Parts.told l.fn.parts;
  under : g.P.Parts.under l.parts ≡ g.P.Parts.under l.fn.parts;
  faults : g.P.Parts.faults l.parts ≡ g.P.Parts.faults l.fn.parts;
  walk : l.walk ≡ l.fn.walk;
  within : Within l.spot;
  left : rest (g.P.Parts.told l.fn.parts) l.walk.spot ≡ rest (g.P.Parts.told l.fn.parts) l.spot;
}

abbrev pub decreases-loop-event : goal.decreases-loop-event
decreases-loop-event g l = rank l.spot
