use Rattle.std.proofs.Common.{◌≡◌, length, take}
use Rattle.cdf_store.proofs.pieces.Pieces.truncate.Given as goal

abbrev pub invariant-loop-self : goal.invariant-loop-self
invariant-loop-self l = record {
  bytes : take l.n l.self.bytes ≡ take l.n l.fn.self.bytes;
  room : l.self.room ≡ l.fn.self.room;
}

abbrev pub decreases-loop-self : goal.decreases-loop-self
decreases-loop-self l = length l.self.bytes
