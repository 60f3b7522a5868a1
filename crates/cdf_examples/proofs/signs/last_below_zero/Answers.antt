use Rattle.cdf_examples.proofs.Common.{Bool, List, Row, [], both, chain_on, changed, entries_on, entry_leaves, eq-eqb, false, inl, inr, leaves_of, levels_on, lower_nodes, nodes_of, nodes_on, nodes_rows, not, put, refl, shape, sym, tiles_from, true, true≢false, used_rows, usual_digest, usual_image, with_field, with_name, ℕ, ◌++◌, ◌==◌, ◌||◌, ◌∷◌, ◌≡◌}
use Rattle.std.proofs.Common.{◌&&◌}
use Rattle.cdf_examples.specs.Signs.{HoldsEverywhere, index_rules, last_below_zero, last_broken}
use Rattle.cdf_examples.proofs.Digests.{usual_breaks}
use Rattle.cdf_examples.proofs.Tests.{each_breaks}
use Rattle.cdf_examples.proofs.signs.last_below_zero.Goals as goal

-- no row of this number is broken
abbrev all_hold_of : ℕ → List Row → Bool
all_hold_of rule [] = true
all_hold_of rule (r ∷ rows) = (not (r.rule == rule) || r.holds) && all_hold_of rule rows

asked_holds : (p q : Bool) → (not p || q) ≡ true → p ≡ true → q ≡ false → ⊥
asked_holds true true kept is broken = absurd (true≢false broken)
asked_holds true false kept is broken = absurd (true≢false (sym kept))
asked_holds false q kept is broken = absurd (true≢false (sym is))

none_broken : (rule : ℕ) (rows : List Row) → all_hold_of rule rows ≡ true → HoldsEverywhere rows rule
none_broken rule [] kept place broken = absurd broken
none_broken rule (r ∷ rows) kept place (inl here) = asked_holds (r.rule == rule) r.holds (both (not (r.rule == rule) || r.holds) (all_hold_of rule rows) kept).0 (eq-eqb _ _ here.0) here.2
none_broken rule (r ∷ rows) kept place (inr more) = none_broken rule rows (both (not (r.rule == rule) || r.holds) (all_hold_of rule rows) kept).1 place more

computed : each_breaks (usual_image ++ usual_digest) usual_image last_broken ≡ true
unfolding usual_image with_field with_name put tiles_from chain_on shape nodes_of lower_nodes leaves_of entry_leaves entries_on nodes_on levels_on nodes_rows used_rows
computed = refl

kept_room : all_hold_of 5 (index_rules (changed usual_image last_below_zero)) ≡ true
unfolding usual_image with_field with_name put tiles_from chain_on shape nodes_of lower_nodes leaves_of entry_leaves entries_on nodes_on levels_on nodes_rows used_rows
kept_room = refl

pub returns-clause-verdict : goal.returns-clause-verdict
returns-clause-verdict c = usual_breaks last_broken computed

pub returns-clause-room : goal.returns-clause-room
returns-clause-room c = none_broken 5 (index_rules (changed usual_image last_below_zero)) kept_room
