use Rattle.std.proofs.Common.{List, ap, arith, length, subst, sym, ℕ, ◌≤◌}
use Rattle.std.proofs.lemmas.List.{length-take}
use Rattle.cdf_journal.specs.Ranges.{IsOldBut}
use Rattle.cdf_journal.specs.declared.disk.Part.TheVariants.{Main}
use Rattle.cdf_journal.proofs.Kept.{old_but_cut, reaches_less}
use Rattle.cdf_journal.proofs.journal_store.JournalStoreStore.set_len.Goals as goal

pub invariant_of-self-clause-reached : goal.invariant_of-self-clause-reached
invariant_of-self-clause-reached g c =
    let s = c.args.self.now in
    let less : length c.truncate.new.self.items ≤ length s.file.items = omega (arith, ap length c.truncate.ensures.items, length-take c.args.n s.file.items) in
    reaches_less (g.D.Disk.size s.disk Main) (length s.file.items) (length c.truncate.new.self.items) s.kept.items less s.reached

pub invariant_of-self-clause-old_but : goal.invariant_of-self-clause-old_but
invariant_of-self-clause-old_but g c parts e =
    let s = c.args.self.now in
    subst (λ (bytes : List ℕ). IsOldBut s.kept.items parts.main bytes) (sym c.truncate.ensures.items) (old_but_cut s.kept.items parts.main s.file.items c.args.n (s.old_but parts e))
