use Rattle.cdf_index.proofs.Common.{In, Stays, entry_leaves, first_at, index_at, length, seen, top_chain, used_count, ℕ, ◌*◌, ◌+◌, ◌<◌, ◌≡◌, ◌≤◌}
use Rattle.cdf_var_records.specs.Previous.{HasLevels, entries_of, last_begun, leaves_before, leaves_until}
use Rattle.std.specs.Option.{option_map, option_or}
use Rattle.cdf_var_records.proofs.previous.+last_leaf.Given as goal

abbrev pub decreases-last_in_entry : goal.decreases-last_in_entry
decreases-last_in_entry g l = 4 * l.levels

abbrev pub decreases-last_in_node : goal.decreases-last_in_node
decreases-last_in_node g l = 4 * l.levels + 1

abbrev pub decreases-last_until : goal.decreases-last_until
decreases-last_until g l = 4 * l.levels + 2

abbrev pub decreases-last_in_chain : goal.decreases-last_in_chain
decreases-last_in_chain g l = 4 * l.levels + 3

abbrev pub invariant-last_in_node-loop-i : goal.invariant-last_in_node-loop-i
invariant-last_in_node-loop-i g l = record {
  most : l.i ≤ used_count (g.A.Area.image l.fn.area) l.at;
  begun : (j : ℕ) → j < l.i → first_at (g.A.Area.image l.fn.area) l.at j ≤ l.rec;
  rest : last_begun l.rec (entry_leaves (entries_of (index_at (g.A.Area.image l.fn.area) l.at))) ≡ last_begun l.rec (leaves_before l.i (entries_of (index_at (g.A.Area.image l.fn.area) l.at)));
  area : Stays g.A.Area.image g.A.Area.frame g.A.Area.faults g.A.Area.edited l.fn.area l.area;
}

abbrev pub decreases-last_in_node-loop-i : goal.decreases-last_in_node-loop-i
decreases-last_in_node-loop-i g l = l.i

abbrev pub invariant-last_until-loop-at : goal.invariant-last_until-loop-at
invariant-last_until-loop-at g l = record {
  index : HasLevels (g.A.Area.image l.fn.area) l.levels l.at;
  ends : In l.end (top_chain (index_at (g.A.Area.image l.fn.area) l.at));
  rest : last_begun l.rec (leaves_until l.end (index_at (g.A.Area.image l.fn.area) l.link)) ≡ option_or (last_begun l.rec (leaves_until l.end (index_at (g.A.Area.image l.fn.area) l.at))) (option_map seen l.found);
  area : Stays g.A.Area.image g.A.Area.frame g.A.Area.faults g.A.Area.edited l.fn.area l.area;
}

abbrev pub decreases-last_until-loop-at : goal.decreases-last_until-loop-at
decreases-last_until-loop-at g l = length (top_chain (index_at (g.A.Area.image l.fn.area) l.at))
