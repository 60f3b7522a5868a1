use Rattle.cdf_vars.proofs.Common.{arith, inl, inr, sym, vdr_lies, ◌∙◌}
use Rattle.cdf_vars.proofs.PutRead.{is_vdr}
use Rattle.cdf_vars.proofs.RecordsDeleted.{free_of, out_of_range}
use Rattle.cdf_vars.proofs.vars.Vars.delete_target.Goals.{then-last-first-via-then-last-first, then-last-first-via-else-last-first+then-count-last}
use Rattle.cdf_vars.proofs.vars.Vars.delete_target.Goals as goal

pub read_extent-requires : goal.read_extent-requires
read_extent-requires g c = let l = vdr_lies c.requires.good (is_vdr c.requires.good c.requires.target) in omega arith

pub read_sparse-requires : goal.read_sparse-requires
read_sparse-requires g c = let l = vdr_lies c.requires.good (is_vdr c.requires.good c.requires.target) in rw (c.read_extent.ensures.area.image) (omega arith)

pub returns-then-last-first-clause-answers : goal.returns-then-last-first-clause-answers
returns-then-last-first-clause-answers g c name named =
    rw (c.read_extent.ensures.area.image)
    (out_of_range c.requires.good c.requires.target name named c.args.first c.args.last c.in_ok-count.ensures.extent (g.A.Area.frame c.args.area.now).limit (elim c.then-last-first.branch [
      | then-last-first-via-then-last-first w ↦ inl (omega (arith, w.if-last-first.true))
      | then-last-first-via-else-last-first+then-count-last w ↦ inr (omega (arith, w.if-count-last.true))
    ]))

pub delete_under_rule-requires-clause-good : goal.delete_under_rule-requires-clause-good
delete_under_rule-requires-clause-good g c = rw (c.read_sparse.ensures.area.image, c.read_extent.ensures.area.image) c.requires.good

pub delete_under_rule-requires-clause-unpacked : goal.delete_under_rule-requires-clause-unpacked
delete_under_rule-requires-clause-unpacked g c = rw (c.read_sparse.ensures.area.image, c.read_extent.ensures.area.image) c.requires.unpacked

pub delete_under_rule-requires-clause-rule : goal.delete_under_rule-requires-clause-rule
delete_under_rule-requires-clause-rule g c = rw (c.read_sparse.ensures.area.image, ← c.in_ok-rule.ensures.sparse) (sym c.has_gaps.ensures ∙ c.if-has_gaps.true)

pub delete_without_rule-requires-clause-good : goal.delete_without_rule-requires-clause-good
delete_without_rule-requires-clause-good g c = rw (c.read_sparse.ensures.area.image, c.read_extent.ensures.area.image) c.requires.good

pub delete_without_rule-requires-clause-unpacked : goal.delete_without_rule-requires-clause-unpacked
delete_without_rule-requires-clause-unpacked g c = rw (c.read_sparse.ensures.area.image, c.read_extent.ensures.area.image) c.requires.unpacked

pub delete_without_rule-requires-clause-free : goal.delete_without_rule-requires-clause-free
delete_without_rule-requires-clause-free g c = rw (c.read_sparse.ensures.area.image, ← c.in_ok-rule.ensures.sparse) (free_of c.in_ok-rule.rule (sym c.has_gaps.ensures ∙ c.if-has_gaps.false))
