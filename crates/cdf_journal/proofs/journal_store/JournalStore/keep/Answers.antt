use Rattle.std.proofs.Common.{Bool, List, [], ap, arith, length, max, subst, sym, true, ℕ, ◌++◌, ◌+◌, ◌∙◌, ◌∷◌, ◌≡◌}
use Rattle.std.specs.Prelude.{is_ok, if◌then◌else◌}
use Rattle.cdf_journal.specs.Ranges.{IsOldBut, reaches}
use Rattle.cdf_journal.specs.declared.disk.Part.TheVariants.{Main}
use Rattle.cdf_journal.specs.declared.range.Range.{Range}
use Rattle.cdf_journal.proofs.FilledAgain.{grown}
use Rattle.cdf_journal.proofs.Kept.{old_but_more, reaches_more}
use Rattle.cdf_journal.proofs.journal_store.JournalStore.keep.Goals as goal

pub invariant_of-self-clause-reached : goal.invariant_of-self-clause-reached
invariant_of-self-clause-reached g c =
    let s = c.args.self.now in
    let S = g.D.Disk.size s.disk Main in
    let kept : List Range = s.kept.items ++ record { place = c.args.place; count = length c.args.bytes.now } ∷ [] in
    let ok : is_ok c.push.result ≡ true = c.push.ensures.succeeds (let w = s.has_writes in let one = c.requires.writes in omega arith) in
    let items : c.push.new.self.items ≡ kept = c.push.ensures.items ∙ ap (λ (b : Bool). if b then kept else s.kept.items) ok in
    let long : length c.put_in.new.kept.items ≡ max (length s.file.items) (c.args.place + length c.args.bytes.now) = ap length c.put_in.ensures.items ∙ grown s.file.items c.args.place c.args.bytes.now c.requires.place in
    subst (λ (n : ℕ). reaches S n c.push.new.self.items ≡ true) (sym long)
    (subst (λ (ks : List Range). reaches S (max (length s.file.items) (c.args.place + length c.args.bytes.now)) ks ≡ true) (sym items) (reaches_more S (length s.file.items) c.args.place (length c.args.bytes.now) s.kept.items c.requires.place s.reached))

pub invariant_of-self-clause-old_but : goal.invariant_of-self-clause-old_but
invariant_of-self-clause-old_but g c parts e =
    let s = c.args.self.now in
    let kept : List Range = s.kept.items ++ record { place = c.args.place; count = length c.args.bytes.now } ∷ [] in
    let ok : is_ok c.push.result ≡ true = c.push.ensures.succeeds (let w = s.has_writes in let one = c.requires.writes in omega arith) in
    let items : c.push.new.self.items ≡ kept = c.push.ensures.items ∙ ap (λ (b : Bool). if b then kept else s.kept.items) ok in
    subst (λ (ks : List Range). IsOldBut ks parts.main c.put_in.new.kept.items) (sym items)
    (subst (λ (bytes : List ℕ). IsOldBut kept parts.main bytes) (sym c.put_in.ensures.items) (old_but_more s.kept.items parts.main s.file.items c.args.place c.args.bytes.now c.requires.place (s.old_but parts e)))
