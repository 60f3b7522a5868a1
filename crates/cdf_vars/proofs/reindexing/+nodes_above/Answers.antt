use Rattle.cdf_vars.proofs.Common.{ap, arith, inl, inr, sym, ℕ, ◌+◌, ◌-◌, ◌/◌, ◌∙◌}
use Rattle.cdf_vars.proofs.ReindexRoom.{none_above, one_above, more_above}
use Rattle.cdf_vars.proofs.reindexing.+nodes_above.Goals.{then-levels-eq0-via-then-levels-eq0, then-levels-eq0-via-else-levels-eq0+then-entries-eq0}
use Rattle.cdf_vars.proofs.reindexing.+nodes_above.Goals as goal

pub returns-then-levels-eq0-clause-value : goal.returns-then-levels-eq0-clause-value
returns-then-levels-eq0-clause-value t c = elim c.then-levels-eq0.branch [
  | then-levels-eq0-via-then-levels-eq0 w ↦ sym (none_above c.args.levels c.args.entries (inl (omega (arith, w.if-levels-eq0.true))))
  | then-levels-eq0-via-else-levels-eq0+then-entries-eq0 w ↦ sym (none_above c.args.levels c.args.entries (inr (omega (arith, w.if-entries-eq0.true))))
]

pub returns-then-nodes-eq1-clause-value : goal.returns-then-nodes-eq1-clause-value
returns-then-nodes-eq1-clause-value t c = sym (one_above c.args.levels c.args.entries c.if-levels-eq0.false c.if-entries-eq0.false c.if-nodes-eq1.true)

pub returns-else-nodes-eq1-clause-value : goal.returns-else-nodes-eq1-clause-value
returns-else-nodes-eq1-clause-value t c =
    ap (λ (n : ℕ). (c.args.entries + 64 - 1) / 64 + n) c.nodes_above.ensures.value ∙ sym (more_above c.args.levels c.args.entries c.if-levels-eq0.false c.if-entries-eq0.false c.if-nodes-eq1.false)
