use Rattle.cdf_structure.proofs.Common.{Ok, Stays, WalksEntries, length, ◌*◌, ◌+◌, ◌-◌}
use Rattle.cdf_structure.proofs.IndexMet.{ChainMet}
use Rattle.cdf_structure.proofs.index_walk.+walking.Given as goal

abbrev pub decreases-walk_entry : goal.decreases-walk_entry
decreases-walk_entry g l = 3 * l.levels + 1

abbrev pub decreases-walk_entries : goal.decreases-walk_entries
decreases-walk_entries g l = 3 * l.levels + 2

abbrev pub decreases-walk_nodes : goal.decreases-walk_nodes
decreases-walk_nodes g l = 3 * l.levels

abbrev pub invariant-walk_entries-loop-i : goal.invariant-walk_entries-loop-i
invariant-walk_entries-loop-i g l = record {
  area : Stays g.A.Area.image g.A.Area.frame g.A.Area.faults g.A.Area.edited l.fn.area l.area;
  walk : WalksEntries (g.A.Area.image l.fn.area) l.tiles l.levels l.node.place 0 l.i l.fn.between l.fn.index l.index (Ok l.low);
}

abbrev pub invariant-walk_nodes-loop-turn : goal.invariant-walk_nodes-loop-turn
invariant-walk_nodes-loop-turn g l = record {
  area : Stays g.A.Area.image g.A.Area.frame g.A.Area.faults g.A.Area.edited l.fn.area l.area;
  met : ChainMet (g.A.Area.image l.fn.area) l.tiles l.levels l.fn.chain l.fn.between l.fn.index l.index l.rest l.low (length l.tiles - l.turn);
}
