use Rattle.cdf_structure.proofs.Common.{Err, Ok, arith, cases_lt, inl, inr, searched}
use Rattle.cdf_structure.proofs.Searches.{climbs_ascends}
use Rattle.cdf_structure.proofs.owners.place_in.Goals as goal

pub returns-in-Ok : goal.returns-in-Ok
returns-in-Ok c =
    searched c.args.tiles.now c.args.place (Ok c.in-Ok.i) c.in-Ok.ensures.position (climbs_ascends c.args.tiles.now c.requires.climbs)

pub returns-in-Err : goal.returns-in-Err
returns-in-Err c =
    let s = searched c.args.tiles.now c.args.place (Err c.in-Err.field-0) c.in-Err.ensures.position (climbs_ascends c.args.tiles.now c.requires.climbs) in
    λ i lt e. elim (cases_lt i c.in-Err.field-0) [ inl l ↦ absurd (omega (arith, s.1 i l, e)) | inr l ↦ absurd (omega (arith, s.2 i l lt, e)) ]
