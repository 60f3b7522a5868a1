use Rattle.cdf_tool.proofs.Common.{sym, ◌∙◌}
use Rattle.cdf_tool.proofs.StoredLemmas.{saved_already, stored_same}
use Rattle.cdf_tool.proofs.saving.finish.Goals.{else-no_save, then-no_save}
use Rattle.cdf_tool.proofs.saving.finish.Goals as goal

pub returns-then-is_saved-clause-ends : goal.returns-then-is_saved-clause-ends
returns-then-is_saved-clause-ends g c =
    let disk = g.S.Store.disk c.args.ran.area.store in
    let good = rw c.in-Ok.is at c.requires.good in
    rw c.in-Ok.is
    (stored_same c.args.no_save _ disk _ c.in-Ok.refusals c.end_status.result c.into_store.ensures.disk c.end_status.ensures
    (λ saves. elim c.if-no_save.branch [
      | then-no_save w ↦ absurd (cc (saves, w.if-no_save.true))
      | else-no_save w ↦
          let is = sym w.value-is ∙ c.if-is_saved.true in
          saved_already disk _ (g.met.S.Store.whole c.args.ran.area.store) c.requires.held (rw c.in-Ok.is at (c.requires.opened (w.is_saved.ensures.opened is))) good (w.is_saved.ensures.front is)
    ]))
