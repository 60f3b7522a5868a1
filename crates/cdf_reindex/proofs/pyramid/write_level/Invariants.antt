use Rattle.cdf_reindex.proofs.Common.{Entries, IsSound, Keeps, chunks_rest, chunks_size, eof, gdr_offset, length, quotient_up, shape, words_of, ◌*◌, ◌+◌, ◌≡◌, ◌≤◌}
use Rattle.cdf_reindex.proofs.LevelSteps.{Goes}
use Rattle.cdf_reindex.proofs.pyramid.write_level.Given as goal

abbrev pub invariant-loop-node : goal.invariant-loop-node
invariant-loop-node g l = record {
  next : (goal.iterator-loop-node g).can_next l.node-iterator;
  finite : (goal.iterator-loop-node g).is_finite l.node-iterator;
  size : chunks_size l.node-iterator ≡ 64;
  sound : IsSound (g.A.Area.image l.area) (shape (g.A.Area.image l.area));
  eof_is : eof (g.A.Area.image l.area) (gdr_offset (g.A.Area.image l.area)) ≡ length (g.A.Area.image l.area);
  count : length l.uppers.items + quotient_up (length (chunks_rest l.node-iterator)) 64 ≡ quotient_up (length l.fn.entries) 64;
  longest : length (g.A.Area.image l.area) ≤ length (g.A.Area.image l.fn.area) + 1052 * length l.uppers.items;
  goes : (all : Entries) → words_of all ≡ l.fn.entries → Goes (g.A.Area.image l.fn.area) (g.A.Area.image l.area) all (chunks_rest l.node-iterator) l.uppers.items;
  area : Keeps g.A.Area.frame g.A.Area.faults l.fn.area l.area;
}
