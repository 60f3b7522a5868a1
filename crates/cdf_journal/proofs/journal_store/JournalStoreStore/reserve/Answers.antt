use Rattle.std.proofs.Common.{List, length, subst, sym, true, ℕ, ◌∙◌, ◌≡◌}
use Rattle.cdf_journal.specs.Ranges.{IsOldBut, reaches}
use Rattle.cdf_journal.specs.declared.disk.Part.TheVariants.{Main}
use Rattle.cdf_journal.specs.declared.range.Range.{Range}
use Rattle.cdf_journal.proofs.journal_store.JournalStoreStore.reserve.Goals as goal

pub invariant_of-self-clause-reached : goal.invariant_of-self-clause-reached
invariant_of-self-clause-reached g c =
    let s = c.args.self.now in
    subst (λ (bytes : List ℕ). reaches (g.D.Disk.size s.disk Main) (length bytes) c.make_room.new.kept.items ≡ true) (sym c.make_room.ensures.file)
    (subst (λ (ks : List Range). reaches (g.D.Disk.size s.disk Main) (length s.file.items) ks ≡ true) (sym c.make_room.ensures.kept) s.reached)

pub invariant_of-self-clause-old_but : goal.invariant_of-self-clause-old_but
invariant_of-self-clause-old_but g c parts e =
    let s = c.args.self.now in
    subst (λ (bytes : List ℕ). IsOldBut c.make_room.new.kept.items parts.main bytes) (sym c.make_room.ensures.file) (subst (λ (ks : List Range). IsOldBut ks parts.main s.file.items) (sym c.make_room.ensures.kept) (s.old_but parts e))

pub invariant_of-self-clause-unchanged : goal.invariant_of-self-clause-unchanged
invariant_of-self-clause-unchanged g c holds parts e = c.args.self.now.unchanged holds parts e ∙ sym c.make_room.ensures.file

-- ---- there was no room

pub invariant_of-self-in_default-clause-reached : goal.invariant_of-self-in_default-clause-reached
invariant_of-self-in_default-clause-reached g c =
    let s = c.args.self.now in
    subst (λ (bytes : List ℕ). reaches (g.D.Disk.size s.disk Main) (length bytes) c.make_room.new.kept.items ≡ true) (sym c.make_room.ensures.file)
    (subst (λ (ks : List Range). reaches (g.D.Disk.size s.disk Main) (length s.file.items) ks ≡ true) (sym c.make_room.ensures.kept) s.reached)

pub invariant_of-self-in_default-clause-old_but : goal.invariant_of-self-in_default-clause-old_but
invariant_of-self-in_default-clause-old_but g c parts e =
    let s = c.args.self.now in
    subst (λ (bytes : List ℕ). IsOldBut c.make_room.new.kept.items parts.main bytes) (sym c.make_room.ensures.file) (subst (λ (ks : List Range). IsOldBut ks parts.main s.file.items) (sym c.make_room.ensures.kept) (s.old_but parts e))

pub invariant_of-self-in_default-clause-unchanged : goal.invariant_of-self-in_default-clause-unchanged
invariant_of-self-in_default-clause-unchanged g c holds parts e = c.args.self.now.unchanged holds parts e ∙ sym c.make_room.ensures.file
