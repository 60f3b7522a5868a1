use Rattle.std.proofs.Common.{◌≡◌, length}
use Rattle.cdf_model.specs.Spots.{rest}
use Rattle.cdf_convert.proofs.TakenSoFar.{TookBefore}
use Rattle.cdf_walk.specs.Walks.{Stands}
use Rattle.cdf_writer.specs.Taken.{area_of}
use Rattle.cdf_convert.proofs.copying.put_all.Given as goal

abbrev pub invariant-loop-event : goal.invariant-loop-event
invariant-loop-event g l =
    let d = g.P.Parts.told l.fn.parts in
    record {
      told : g.P.Parts.told l.parts ≡ d;
      under : g.P.Parts.under l.parts ≡ g.P.Parts.under l.fn.parts;
      faults : g.P.Parts.faults l.parts ≡ g.P.Parts.faults l.fn.parts;
      frame : g.B.Area.frame (area_of l.writer) ≡ g.B.Area.frame (area_of l.fn.writer);
      target_faults : g.B.Area.faults (area_of l.writer) ≡ g.B.Area.faults (area_of l.fn.writer);
      stands : Stands d l.walk;
      taken : TookBefore g.B.Area.image g.B.Area.frame l.writer d l.walk.spot;
    }

abbrev pub decreases-loop-event : goal.decreases-loop-event
decreases-loop-event g l = length (rest (g.P.Parts.told l.fn.parts) l.walk.spot)
