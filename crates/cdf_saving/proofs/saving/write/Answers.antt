use Rattle.std.proofs.Common.{◌∙◌}
use Rattle.cdf_saving.proofs.SavedLemmas.{failed_between, rewrites, saved_done, saved_whole}
use Rattle.cdf_saving.specs.Refusing.{was_refused}
use Rattle.cdf_saving.proofs.saving.write.Goals as goal

pub returns-in-Ok-sync-clause-ends : goal.returns-in-Ok-sync-clause-ends
returns-in-Ok-sync-clause-ends g c =
    let same = c.into_store.ensures.disk ∙ c.sync.ensures.disk in
    saved_done _ c.args.seal _ _ _ c.requires.seal same (was_refused c.args.refusals) c.end_status.result c.end_status.ensures c.in-Ok.ensures.saved
    (rewrites _ c.args.seal (g.S.Store.disk c.args.area.store) _ _ c.requires.seal same _ c.requires.settled c.save.ensures.touched)

pub returns-in-Err-clause-ends : goal.returns-in-Err-clause-ends
returns-in-Err-clause-ends g c =
    let same = c.into_store-in-Err.ensures.disk ∙ c.sync.ensures.disk in (
      saved_whole _ c.args.seal _ _ _ c.requires.seal same c.in-Ok.ensures.saved,
      rewrites _ c.args.seal (g.S.Store.disk c.args.area.store) _ _ c.requires.seal same _ c.requires.settled c.save.ensures.touched,
    )

pub returns-after-kept-clause-ends : goal.returns-after-kept-clause-ends
returns-after-kept-clause-ends g c =
    let same = c.into_store-in-Err-Failed.ensures.disk in (
      failed_between _ c.args.seal _ _ _ c.requires.seal same c.in-Err-Failed.kept c.in-Err-Failed.field-0 c.in-Err-Failed.field-0-is c.in-Err-Failed.ensures.failed,
      rewrites _ c.args.seal (g.S.Store.disk c.args.area.store) _ _ c.requires.seal same _ c.requires.settled c.save.ensures.touched,
    )
