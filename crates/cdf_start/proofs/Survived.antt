-- A file was opened with its log, a run went over it, and what it left was saved.
use Rattle.std.proofs.Common.{List, inl, inr, subst, sym, ⊎_elim, ℕ, ◌∙◌, ◌≡◌, ◌⊎◌}
use Rattle.std.specs.declared.option.Option.{Option}
use Rattle.cdf_journal.specs.Crashes.{LeavesOnly, Parts}
use Rattle.cdf_journal.specs.Opening.{IsRecovered, Rests}
use Rattle.cdf_journal.specs.Stages.{AtRest, IsOldOrNew}
use Rattle.cdf_journal.proofs.Moments.{chained, weaker}
use Rattle.cdf_saving.specs.Statuses.{IsDone}
use Rattle.cdf_saving.specs.declared.status.Status.TheVariants as statuses
use Rattle.cdf_saving.specs.declared.status.Status.{Status}
use Rattle.cdf_saving.specs.declared.notes.Notes.{Notes}
use Rattle.cdf_words.specs.Asking.{Asked}
use Rattle.cdf_tool.specs.Outlets.{Outlets}
use Rattle.cdf_start.specs.Running.{Device, Ran, Streams}
use Rattle.cdf_start.specs.Starting.{Survives}

done_or_not : (status : Status) → IsDone status ⊎ (IsDone status → ⊥)
done_or_not statuses.Done = inl tt
done_or_not statuses.SomeRefused = inl tt
done_or_not statuses.Usage = inr (λ is. is)
done_or_not statuses.NoFile = inr (λ is. is)
done_or_not statuses.Rejected = inr (λ is. is)
done_or_not statuses.StoreReadFault = inr (λ is. is)
done_or_not statuses.StoreWriteFault = inr (λ is. is)
done_or_not statuses.OutputFault = inr (λ is. is)
done_or_not statuses.NoMemory = inr (λ is. is)
done_or_not statuses.ScriptFault = inr (λ is. is)
done_or_not statuses.ScriptTooLong = inr (λ is. is)
done_or_not statuses.BadJournal = inr (λ is. is)

module _ {D : Type 0} (seen : D → Option Parts) (may_leave : D → Parts → Type 0) (moment : D → ℕ) (left_since : D → ℕ → Parts → Type 0) where
  pub survives : (disk mid disk' : D) (old found new : List ℕ) (ran status : Status) → LeavesOnly moment left_since disk mid (IsRecovered old) → Rests seen may_leave mid found → found ≡ old
      → ((IsDone ran → ⊥) → disk' ≡ mid)
      → (IsDone ran → (parts : Parts) → AtRest seen may_leave mid parts → LeavesOnly moment left_since mid disk' (IsOldOrNew parts.main new))
      → (IsDone status → (parts : Parts) → AtRest seen may_leave mid parts → Rests seen may_leave disk' new)
      → Survives seen may_leave moment left_since disk disk' old new ran status
  survives disk mid disk' old found new ran status opened rests same stays commit saved = record {
    moments = ⊎_elim (λ is. over_commit is) (λ not_so. weaker moment left_since disk disk' (IsRecovered old) (IsOldOrNew old new) (λ c r. inl r) (unsaved not_so)) (done_or_not ran);
    unsaved = unsaved;
    saved = λ is. saved is rests.parts rests.at_rest;
  }
    where
      unsaved : (IsDone ran → ⊥) → LeavesOnly moment left_since disk disk' (IsRecovered old)
      unsaved not_so = subst (λ (d : D). LeavesOnly moment left_since disk d (IsRecovered old)) (sym (stays not_so)) opened

      over_commit : IsDone ran → LeavesOnly moment left_since disk disk' (IsOldOrNew old new)
      over_commit is =
          chained moment left_since disk mid disk' (IsOldOrNew old new) (weaker moment left_since disk mid (IsRecovered old) (IsOldOrNew old new) (λ c r. inl r) opened)
          (subst (λ (f : List ℕ). LeavesOnly moment left_since mid disk' (IsOldOrNew f new)) (rests.has ∙ same) (commit is rests.parts rests.at_rest))

-- the same run, by what its words ask for
pub ran_for : {U : Type 0} {a b : Option Asked} {s s' : Device U} {c c' : Streams} {before left : Option (List ℕ)} {first now : Outlets} {notes : Notes} {status : Status} → a ≡ b → Ran a s s' c c' before left first now notes status → Ran b s s' c c' before left first now notes status
ran_for {U} {a} {b} {s} {s'} {c} {c'} {before} {left} {first} {now} {notes} {status} same ran = subst (λ (x : Option Asked). Ran x s s' c c' before left first now notes status) same ran
