use Rattle.std.proofs.Common.{◌≡◌, ◌-◌, ◌≤◌, length}
use Rattle.cdf_store.specs.Pieces.{ArePieces, joined}
use Rattle.cdf_store.proofs.pieces.Pieces.reserve.Given as goal

abbrev pub invariant-loop-self : goal.invariant-loop-self
invariant-loop-self l = record {
  pieces : ArePieces l.self-inside.list.items;
  bytes : joined l.self-inside.list.items ≡ joined l.initial.self-inside.list.items;
  longer : length l.initial.self-inside.list.items ≤ length l.self-inside.list.items;
  size : l.self-inside.size ≡ l.initial.self-inside.size;
  room : l.self-inside.room ≡ l.initial.self-inside.room;
}

abbrev pub decreases-loop-self : goal.decreases-loop-self
decreases-loop-self l = l.count - length l.self-inside.list.items
