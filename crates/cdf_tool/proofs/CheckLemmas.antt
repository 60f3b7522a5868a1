-- A file that is checked and no more.
use Rattle.cdf_tool.proofs.Common.{Asked, Attached, Bool, Checks, Counted, Disk, EndsChecked, EndsOverFile, EndsUnread, EndsWithout, Exactly, IsAnswered, IsDone, KeptBy, List, Option, SaysAccepted, SaysNoFile, SaysUsage, Some, Status, WellFormed, accepted_text, all_phases, counts, excluded, false, image_of, inl, inr, refl, shape, space_text, subst, sym, true, yes_text, ℕ, ◌++◌, ◌∙◌, ◌≡◌, ◌≢◌}
use Rattle.cdf_format.specs.Owners.{space_of}
use Rattle.cdf_model.specs.declared.space.Space.{Space}
use Rattle.cdf_saving.specs.declared.status.Status.TheVariants as statuses
use Rattle.cdf_tool.proofs.Headline.{unread_not_done}
use Rattle.cdf_tool.proofs.RunStore.{kept_attached}

some_same : (x y : List ℕ) → Some x ≡ Some y → x ≡ y
some_same x y is = cc

-- ---- when status 0 comes

-- a file that broke a rule, or of which that is not known
unread_exactly : (new : Bool) (file : List ℕ) (first now : Option (List ℕ)) (status : Status) → EndsUnread new file first now status → Exactly statuses.Done status (WellFormed file)
unread_exactly new file first now statuses.Rejected (old, (r, says)) = record { only = λ be. absurd (cc be); always = λ well. absurd (excluded (all_phases file) r.phase r.rule r.place well r.broken) }
unread_exactly new file first now statuses.OutputFault ends = record { only = λ be. absurd (cc be); always = λ well. inr tt }
unread_exactly new file first now statuses.StoreReadFault ends = record { only = λ be. absurd (cc be); always = λ well. inr tt }
unread_exactly new file first now statuses.NoMemory ends = record { only = λ be. absurd (cc be); always = λ well. inr tt }
unread_exactly new file first now statuses.Done ends = absurd ends
unread_exactly new file first now statuses.SomeRefused ends = absurd ends
unread_exactly new file first now statuses.Usage ends = absurd ends
unread_exactly new file first now statuses.BadJournal ends = absurd ends
unread_exactly new file first now statuses.NoFile ends = absurd ends
unread_exactly new file first now statuses.StoreWriteFault ends = absurd ends
unread_exactly new file first now statuses.ScriptFault ends = absurd ends
unread_exactly new file first now statuses.ScriptTooLong ends = absurd ends

accepted_exactly : (text file : List ℕ) (first now : Option (List ℕ)) (status : Status) → WellFormed file → SaysAccepted text first now status → Exactly statuses.Done status (WellFormed file)
accepted_exactly text file first now statuses.Done good says = record { only = λ be. good; always = λ well. inl refl }
accepted_exactly text file first now statuses.OutputFault good says = record { only = λ be. absurd (cc be); always = λ well. inr tt }
accepted_exactly text file first now statuses.StoreReadFault good says = record { only = λ be. absurd (cc be); always = λ well. inr tt }
accepted_exactly text file first now statuses.NoMemory good says = record { only = λ be. absurd (cc be); always = λ well. inr tt }
accepted_exactly text file first now statuses.SomeRefused good says = absurd says
accepted_exactly text file first now statuses.Usage good says = absurd says
accepted_exactly text file first now statuses.BadJournal good says = absurd says
accepted_exactly text file first now statuses.NoFile good says = absurd says
accepted_exactly text file first now statuses.Rejected good says = absurd says
accepted_exactly text file first now statuses.StoreWriteFault good says = absurd says
accepted_exactly text file first now statuses.ScriptFault good says = absurd says
accepted_exactly text file first now statuses.ScriptTooLong good says = absurd says

module _ {U : Type 0} (a : Asked) (d d' : Disk U) (before left first now : Option (List ℕ)) (status : Status) where
  of_held : (file : List ℕ) → d'.held ≡ Some file → Exactly statuses.Done status (WellFormed file) → (other : List ℕ) → d'.held ≡ Some other → Exactly statuses.Done status (WellFormed other)
  of_held file held exactly other is = subst (λ (f : List ℕ). Exactly statuses.Done status (WellFormed f)) (some_same file other (sym held ∙ is)) exactly

  pub checks : a.new ≡ false → EndsChecked a d d' before left first now status → Checks a.space d'.held first now status
  checks old (inl w) = record {
    done = λ file is. absurd (cc (sym w.unattached.held ∙ is));
    says = λ be. absurd (subst (λ (s : Status). EndsWithout a d.files first now s) be w.ends);
  }
  checks old (inr (inl u)) =
      let at = kept_attached a u.file d d' a.new a.no_save old u.kept in
      record { done = of_held u.file at.held (unread_exactly a.new u.file first now status u.ends); says = λ be. absurd (subst (λ (s : Status). EndsUnread a.new u.file first now s) be u.ends) }
  checks old (inr (inr c)) = record {
    done = of_held c.file c.attached.held (accepted_exactly (accepted_text a.space (image_of c.file)) c.file first now status c.accepted.0 c.accepted.1);
    says = λ be. subst (λ (h : Option (List ℕ)). IsAnswered a.space h first now) (sym c.attached.held) (subst (λ (s : Status). SaysAccepted (accepted_text a.space (image_of c.file)) first now s) be c.accepted.1);
  }

-- ---- a file that was attached

-- what a check over its area comes to
pub over_attached : {U : Type 0} (a : Asked) (file : List ℕ) (d d' : Disk U) (left first now : Option (List ℕ)) (status : Status) → a.new ≡ false → Attached a file d d' → EndsOverFile a.space file first now status → EndsChecked a d d' left left first now status
over_attached a file d d' left first now status old at (inl ends) =
    inr (inl (record { file = file; kept = kept_by a.new a.no_save old; none_read = refl; ends = subst (λ (n : Bool). EndsUnread n file first now status) (sym old) ends }))
  where
    kept_by : (new no_save : Bool) → new ≡ false → KeptBy new no_save a file d d'
    kept_by true no_save is = absurd (cc is)
    kept_by false no_save is = at
over_attached a file d d' left first now status old at (inr accepted) = inr (inr (record { file = file; attached = at; none_read = refl; accepted = accepted }))

-- no check blames a write
pub never_six : (space : Bool) (file : List ℕ) (first now : Option (List ℕ)) (status : Status) → EndsOverFile space file first now status → status ≡ statuses.StoreWriteFault → ⊥
never_six space file first now status ends is = by_six (subst (λ (s : Status). EndsOverFile space file first now s) is ends)
  where
    by_six : EndsOverFile space file first now statuses.StoreWriteFault → ⊥
    by_six (inl unread) = unread
    by_six (inr accepted) = accepted.1

-- ---- what is said

-- with the line on space
pub says_space : (space : Bool) (image : List ℕ) (taken : Space) (first now : Option (List ℕ)) (status : Status) → space ≡ true → taken ≡ space_of image (shape image) → SaysAccepted (yes_text ++ space_text taken) first now status → SaysAccepted (accepted_text space image) first now status
says_space true image taken first now status asked is says = subst (λ (s : Space). SaysAccepted (yes_text ++ space_text s) first now status) is says
says_space false image taken first now status asked is says = absurd (cc asked)

-- no read failed before it
pub said_counted : (status : Status) (r o s r' o' : ℕ) → r' ≡ r → Counted (counts r 0 o s) (counts r 0 o' s) status → Counted (counts r 0 o s) (counts r' 0 o' s) status
said_counted status r o s r' o' same counted = subst (λ (n : ℕ). Counted (counts r 0 o s) (counts n 0 o' s) status) (sym same) counted

-- a check that succeeded refused no line
accepted_done : (text : List ℕ) (first now : Option (List ℕ)) (status : Status) → SaysAccepted text first now status → IsDone status → status ≡ statuses.Done
accepted_done text first now statuses.Done says done = refl
accepted_done text first now statuses.SomeRefused says done = absurd says
accepted_done text first now statuses.Usage says done = absurd done
accepted_done text first now statuses.BadJournal says done = absurd done
accepted_done text first now statuses.NoFile says done = absurd done
accepted_done text first now statuses.Rejected says done = absurd done
accepted_done text first now statuses.StoreReadFault says done = absurd done
accepted_done text first now statuses.StoreWriteFault says done = absurd done
accepted_done text first now statuses.OutputFault says done = absurd done
accepted_done text first now statuses.NoMemory says done = absurd done
accepted_done text first now statuses.ScriptFault says done = absurd done
accepted_done text first now statuses.ScriptTooLong says done = absurd done

pub checked_done : (space : Bool) (file : List ℕ) (first now : Option (List ℕ)) (status : Status) → EndsOverFile space file first now status → IsDone status → status ≡ statuses.Done
checked_done space file first now status (inl ends) done = absurd (unread_not_done false file first now status ends done)
checked_done space file first now status (inr accepted) done = accepted_done (accepted_text space (image_of file)) first now status accepted.1 done

-- nor did a run that found no file
pub no_file_not_done : (first now : Option (List ℕ)) (status : Status) → SaysNoFile first now status → IsDone status → ⊥
no_file_not_done first now statuses.Done says done = says
no_file_not_done first now statuses.SomeRefused says done = says
no_file_not_done first now statuses.Usage says done = done
no_file_not_done first now statuses.BadJournal says done = done
no_file_not_done first now statuses.NoFile says done = done
no_file_not_done first now statuses.Rejected says done = done
no_file_not_done first now statuses.StoreReadFault says done = done
no_file_not_done first now statuses.StoreWriteFault says done = done
no_file_not_done first now statuses.OutputFault says done = done
no_file_not_done first now statuses.NoMemory says done = done
no_file_not_done first now statuses.ScriptFault says done = done
no_file_not_done first now statuses.ScriptTooLong says done = done

pub no_file_no_six : (first now : Option (List ℕ)) (status : Status) → SaysNoFile first now status → status ≢ statuses.StoreWriteFault
no_file_no_six first now status says is = subst (λ (s : Status). SaysNoFile first now s) is says

pub usage_not_done : (first now : Option (List ℕ)) (status : Status) → SaysUsage first now status → IsDone status → ⊥
usage_not_done first now statuses.Done says done = says
usage_not_done first now statuses.SomeRefused says done = says
usage_not_done first now statuses.Usage says done = done
usage_not_done first now statuses.BadJournal says done = done
usage_not_done first now statuses.NoFile says done = done
usage_not_done first now statuses.Rejected says done = done
usage_not_done first now statuses.StoreReadFault says done = done
usage_not_done first now statuses.StoreWriteFault says done = done
usage_not_done first now statuses.OutputFault says done = done
usage_not_done first now statuses.NoMemory says done = done
usage_not_done first now statuses.ScriptFault says done = done
usage_not_done first now statuses.ScriptTooLong says done = done
