use Rattle.std.proofs.Common.{◌≡◌, length}
use Rattle.std.specs.List.{All}
use Rattle.cdf_model.specs.Spots.{rest}
use Rattle.cdf_model.specs.Whole.{CanBeShown}
use Rattle.cdf_walk.proofs.Dumped.{Dumped}
use Rattle.cdf_walk.specs.Walks.{Stands}
use Rattle.cdf_walk.proofs.dumping.dump.Given as goal

abbrev pub invariant-loop-gathered : goal.invariant-loop-gathered
invariant-loop-gathered g l =
    let d = g.P.Parts.told l.fn.parts in
    record {
      told : g.P.Parts.told l.parts ≡ d;
      under : g.P.Parts.under l.parts ≡ g.P.Parts.under l.fn.parts;
      faults : g.P.Parts.faults l.parts ≡ g.P.Parts.faults l.fn.parts;
      sink_faults : g.O.Sink.faults l.out ≡ g.O.Sink.faults l.fn.out;
      stands : Stands d l.walk;
      shown : All CanBeShown (rest d l.walk.spot);
      dumped : Dumped d l.walk.spot (g.O.Sink.written l.fn.out) (g.O.Sink.written l.out) l.gathered;
    }

abbrev pub decreases-loop-gathered : goal.decreases-loop-gathered
decreases-loop-gathered g l = length (rest (g.P.Parts.told l.fn.parts) l.walk.spot)
