use Rattle.cdf_structure.proofs.Common.{IsFor, IsToldOf, take}
use Rattle.cdf_structure.proofs.owners.Owners.add_all.Given as goal

abbrev pub invariant-loop-place : goal.invariant-loop-place
invariant-loop-place l = record {
  marks : IsFor l.tiles l.self;
  told : IsToldOf l.tiles (take l.place-index l.places) l.fn.self l.self;
}
