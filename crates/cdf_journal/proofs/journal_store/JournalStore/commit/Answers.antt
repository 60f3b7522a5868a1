use Rattle.std.proofs.Common.{List, length, subst, true, ℕ, ◌∙◌, ◌≡◌}
use Rattle.std.proofs.lemmas.Result.{on_ok_weaker}
use Rattle.cdf_journal.specs.Crashes.{LeavesOnly, part_of}
use Rattle.cdf_journal.specs.Log.{filled, fits}
use Rattle.cdf_journal.specs.Opening.{Rests}
use Rattle.cdf_journal.specs.Ranges.{body_of, members_of}
use Rattle.cdf_journal.specs.Stages.{IsOldOrNew}
use Rattle.cdf_journal.specs.declared.disk.Part.TheVariants.{Main}
use Rattle.cdf_journal.proofs.Kept.{filled_kept, fits_kept}
use Rattle.cdf_journal.proofs.Steps.{if_some}
use Rattle.cdf_journal.proofs.journal_store.JournalStore.commit.Goals as goal

pub save-saved-requires-clause-fit : goal.save-saved-requires-clause-fit
save-saved-requires-clause-fit g c =
    let s = c.args.self.now in
    (λ i. fits (g.D.Disk.size s.disk Main) (length (c.deref.ensures.value i)) (members_of (c.deref.ensures.value i) (c.deref-2.ensures.value i))) ∙ fits_kept (g.D.Disk.size s.disk Main) s.file.items s.kept.items s.reached

pub returns-clause-any_moment : goal.returns-clause-any_moment
returns-clause-any_moment g c parts rest =
    let s = c.args.self.now in
    let S = g.D.Disk.size s.disk Main in
    let long : S ≡ length parts.main = if_some (g.D.Disk.seen s.disk) parts (λ ps. S ≡ length (part_of ps Main)) rest.settled.reads (g.met.D.Disk.sized s.disk Main) in
    let fit : fits (length parts.main) (length s.file.items) (members_of s.file.items s.kept.items) ≡ true = subst (λ (k : ℕ). fits k (length s.file.items) (members_of s.file.items s.kept.items) ≡ true) long (fits_kept S s.file.items s.kept.items s.reached) in
    let made : filled parts.main (body_of c.deref.result.now c.deref-2.result.now) ≡ s.file.items =
    (λ i. filled parts.main (body_of (c.deref.ensures.value i) (c.deref-2.ensures.value i))) ∙ filled_kept parts.main s.file.items s.kept.items fit (s.old_but parts rest.settled.reads) in
    subst (λ (file : List ℕ). LeavesOnly g.D.Disk.moment g.D.Disk.left_since s.disk c.save-saved.new.disk (IsOldOrNew parts.main file)) made (c.save-saved.ensures.any_moment parts rest)

pub returns-clause-saved : goal.returns-clause-saved
returns-clause-saved g c =
    on_ok_weaker c.save-saved.result
    (λ told parts rest.
    let s = c.args.self.now in
    let S = g.D.Disk.size s.disk Main in
    let long : S ≡ length parts.main = if_some (g.D.Disk.seen s.disk) parts (λ ps. S ≡ length (part_of ps Main)) rest.settled.reads (g.met.D.Disk.sized s.disk Main) in
    let fit : fits (length parts.main) (length s.file.items) (members_of s.file.items s.kept.items) ≡ true = subst (λ (k : ℕ). fits k (length s.file.items) (members_of s.file.items s.kept.items) ≡ true) long (fits_kept S s.file.items s.kept.items s.reached) in
    let made : filled parts.main (body_of c.deref.result.now c.deref-2.result.now) ≡ s.file.items =
    (λ i. filled parts.main (body_of (c.deref.ensures.value i) (c.deref-2.ensures.value i))) ∙ filled_kept parts.main s.file.items s.kept.items fit (s.old_but parts rest.settled.reads) in
    subst (λ (file : List ℕ). Rests g.D.Disk.seen g.D.Disk.may_leave c.save-saved.new.disk file) made (told parts rest))
    c.save-saved.ensures.saved
