use Rattle.std.proofs.Common.{ap, inr, refl, string_bytes, subst, sym, ℕ, ◌∙◌}
use Rattle.cdf_journal.specs.Crashes.{LeavesOnly}
use Rattle.cdf_journal.specs.Log.{recovered}
use Rattle.cdf_journal.specs.Opening.{IsRecovered, Rests, sole_file}
use Rattle.cdf_journal.specs.Stages.{IsOldOrNew}
use Rattle.cdf_journal.specs.Standing.{disk_with}
use Rattle.cdf_start.specs.Running.{device}
use Rattle.cdf_start.specs.Starting.{EndsSaved}
use Rattle.cdf_start.proofs.Survived.{ran_for, survives}
use Rattle.cdf_start.proofs.logged.run_logged.Goals as goal

pub returns-in-Ok-clause-ends : goal.returns-in-Ok-clause-ends
returns-in-Ok-clause-ends g c =
    let first = c.in-Ok.journal in
    let then = c.run_over-ran.result.store in
    let last = c.into_disk.result in
    let opened = device (disk_with (string_bytes first.name) first.file.items first.is_attached first.disk) 0 0 first.is_synced first.unstored in
    let ended = device (disk_with (string_bytes then.name) then.file.items then.is_attached then.disk) 0 0 then.is_synced then.unstored in
    let ran = c.run_over-ran.result.status in
    let status = c.save_ended-status.result in
    let run = ran_for c.requires c.run_over-ran.ensures.ran in
    let saved = c.save_ended-status.ensures in
    let new = sole_file ended.disk in
    inr (record {
      opened = opened;
      ended = ended;
      ran = ran;
      one = c.in-Ok.ensures.opened.files;
      faultless = (refl, refl);
      run = run;
      ends = subst (λ (n : ℕ). EndsSaved n (g.D.Disk.faults last) ran status) (ap g.D.Disk.faults run.under ∙ c.in-Ok.ensures.faultless) (subst (λ d. EndsSaved (g.D.Disk.faults then.disk) (g.D.Disk.faults d) ran status) (sym c.into_disk.ensures) saved.ends);
      exists = c.in-Ok.ensures.there;
      journal = c.in-Ok.ensures.journal;
      file = c.in-Ok.ensures.mended;
      survives = λ parts settles.
          survives g.D.Disk.seen g.D.Disk.may_leave g.D.Disk.moment g.D.Disk.left_since c.args.disk then.disk last (recovered parts.main parts.log) (sole_file opened.disk) new ran status
          (subst (λ d. LeavesOnly g.D.Disk.moment g.D.Disk.left_since c.args.disk d (IsRecovered (recovered parts.main parts.log))) (sym run.under) (c.in-Ok.ensures.any_moment parts settles))
          (subst (λ d. Rests g.D.Disk.seen g.D.Disk.may_leave d (sole_file opened.disk)) (sym run.under) (c.in-Ok.ensures.rests parts settles))
          (c.in-Ok.ensures.mended parts settles)
          (λ not_so. c.into_disk.ensures ∙ saved.unsaved not_so)
          (λ is at rest. subst (λ d. LeavesOnly g.D.Disk.moment g.D.Disk.left_since then.disk d (IsOldOrNew at.main new)) (sym c.into_disk.ensures) (saved.any_moment is at rest))
          (λ is at rest. subst (λ d. Rests g.D.Disk.seen g.D.Disk.may_leave d new) (sym c.into_disk.ensures) (saved.saved is at rest));
    })
