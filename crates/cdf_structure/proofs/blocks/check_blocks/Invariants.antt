use Rattle.cdf_structure.proofs.Common.{HaveRoom, KnowsIndexes, Stays, take}
use Rattle.cdf_structure.proofs.blocks.check_blocks.Given as goal

abbrev pub invariant-loop-block : goal.invariant-loop-block
invariant-loop-block g l = record {
  area : Stays g.A.Area.image g.A.Area.frame g.A.Area.faults g.A.Area.edited l.fn.area l.area;
  known : KnowsIndexes (g.A.Area.image l.fn.area) l.tiles l.known;
  room : HaveRoom (g.A.Area.image l.fn.area) l.tiles (take l.block-index l.blocks) l.is_compressed l.rec_bytes l.room;
}
