-- What follows from how a run ends.
use Rattle.cdf_tool.proofs.Common.{Accepted, Asked, Attached, Bool, CanBegin, Completes, Consumes, Consumes-nil, Disk, EndsChecked, EndsNamed, EndsUnread, EndsWithout, Exactly, Finishes, IfSome, IsDone, IsFailure, IsGood, Kept, List, None, Opens, Option, Outlets, Rejects, Runs, SaysUsage, Some, Status, StoredBy, WellFormed, Without, [], all_phases, ap, arith, excluded, false, image_limit, inl, inr, length, length-append, lookup, refl, script_limit, subst, sym, true, ℕ, ◌+◌, ◌-◌, ◌<◌, ◌∙◌, ◌≡◌, ◌≤◌, ◌⊎◌}
use Rattle.cdf_saving.specs.declared.status.Status.TheVariants as statuses
use Rattle.cdf_tool.proofs.RunStore.{found_lookup_in, kept_attached}

-- ---- statuses

pub done_or_failed : (status : Status) → IsDone status → IsFailure status → ⊥
done_or_failed statuses.Done is fails = fails
done_or_failed statuses.SomeRefused is fails = fails
done_or_failed statuses.Usage is fails = is
done_or_failed statuses.BadJournal is fails = is
done_or_failed statuses.NoFile is fails = is
done_or_failed statuses.Rejected is fails = is
done_or_failed statuses.StoreReadFault is fails = is
done_or_failed statuses.StoreWriteFault is fails = is
done_or_failed statuses.OutputFault is fails = is
done_or_failed statuses.NoMemory is fails = is
done_or_failed statuses.ScriptFault is fails = is
done_or_failed statuses.ScriptTooLong is fails = is

unasked_status : (first now : Option (List ℕ)) (status : Status) → SaysUsage first now status → (status ≡ statuses.Usage) ⊎ IsFailure status
unasked_status first now statuses.Usage ends = inl refl
unasked_status first now statuses.BadJournal ends = absurd ends
unasked_status first now statuses.OutputFault ends = inr tt
unasked_status first now statuses.Done ends = absurd ends
unasked_status first now statuses.SomeRefused ends = absurd ends
unasked_status first now statuses.NoFile ends = absurd ends
unasked_status first now statuses.Rejected ends = absurd ends
unasked_status first now statuses.StoreReadFault ends = absurd ends
unasked_status first now statuses.StoreWriteFault ends = absurd ends
unasked_status first now statuses.NoMemory ends = inr tt
unasked_status first now statuses.ScriptFault ends = absurd ends
unasked_status first now statuses.ScriptTooLong ends = absurd ends

-- ---- in few words

-- it is no new file, and over a store that tells its files this is the one under the name
pub record IsOld (a : Asked) (files : Option (List (List ℕ × List ℕ))) (under : Option (List ℕ)) : Type 0 where
  pub old : a.new ≡ false
  pub found : IfSome files (λ fs. lookup a.name fs ≡ under)

-- no file, a rejected one, a script that was run, or a failure
pub data Came {U : Type 0} (a : Asked) (d d' : Disk U) (before left : Option (List ℕ)) (status : Status) : Type 0 where
  without : IsOld a d.files None → d'.held ≡ None → left ≡ before → status ≡ statuses.NoFile → Came a d d' before left status
  rejected : (file : List ℕ) (r : Rejects file) → IsOld a d.files (Some file) → d'.held ≡ Some file → left ≡ before → status ≡ statuses.Rejected → Came a d d' before left status
  ran : (file taken : List ℕ) → (a.new ≡ false → WellFormed file × IsOld a d.files (Some file)) → (a.new ≡ false → (held : List ℕ) → d'.held ≡ Some held → WellFormed held) → Consumes before left taken
      → ((length taken ≤ script_limit) × IsDone status) ⊎ ((script_limit < length taken) × (status ≡ statuses.ScriptTooLong)) → Came a d d' before left status
  failed : IsFailure status → (left ≡ before) ⊎ ((taken : List ℕ) × Consumes before left taken × (length taken ≤ script_limit)) → Came a d d' before left status

some_same : {A : Type 0} (x y : A) → Some x ≡ Some y → x ≡ y
some_same x y e = cc

module _ {U : Type 0} (a : Asked) (d d' : Disk U) (before left : Option (List ℕ)) where
  kept_old : (file : List ℕ) → Kept a file d d' → a.new ≡ false → IsOld a d.files (Some file) × (d'.held ≡ Some file)
  kept_old file k old =
      let at = kept_attached a file d d' a.new a.no_save old k in
      (record { old = old; found = found_lookup_in a.new a.name file d.files old at.found }, at.held)

  opened_well : (new : Bool) (file image : List ℕ) → new ≡ false → Opens new file image → WellFormed file
  opened_well true file image old opens = absurd (cc old)
  opened_well false file image old opens = opens.0

  kept_ran : (file image : List ℕ) → Opens a.new file image → Kept a file d d' → a.new ≡ false → WellFormed file × IsOld a d.files (Some file)
  kept_ran file image opens k old = (opened_well a.new file image old opens, (kept_old file k old).0)

  kept_well : (file image : List ℕ) → Opens a.new file image → Kept a file d d' → a.new ≡ false → (held : List ℕ) → d'.held ≡ Some held → WellFormed held
  kept_well file image opens k old held is =
      subst (λ (f : List ℕ). WellFormed f) (some_same file held (sym (kept_old file k old).1 ∙ is)) (opened_well a.new file image old opens)

  stored_ran : (file image end : List ℕ) (no_save : Bool) → Opens a.new file image → StoredBy no_save a file end d d' → a.new ≡ false → WellFormed file × IsOld a d.files (Some file)
  stored_ran file image end true opens k old = kept_ran file image opens k old
  stored_ran file image end false opens (good, r, written) old = (opened_well a.new file image old opens, record { old = old; found = found_lookup_in a.new a.name file d.files old r.found })

  stored_well : (file image end : List ℕ) (no_save : Bool) → Opens a.new file image → StoredBy no_save a file end d d' → a.new ≡ false → (held : List ℕ) → d'.held ≡ Some held → WellFormed held
  stored_well file image end true opens k old held is = kept_well file image opens k old held is
  stored_well file image end false opens (good, r, written) old held is = subst (λ (f : List ℕ). WellFormed f) (some_same _ held (sym r.held ∙ is)) good

  -- a file that is no new one
  attached_old : (file : List ℕ) → a.new ≡ false → Attached a file d d' → IsOld a d.files (Some file)
  attached_old file old at = record { old = old; found = found_lookup_in a.new a.name file d.files old at.found }

  module _ (first now : Option (List ℕ)) where
    without_came : (status : Status) → Without a d d' before left first now status → EndsWithout a d.files first now status → Came a d d' before left status
    without_came statuses.NoFile w ends = without (record { old = ends.0; found = ends.1 }) w.unattached.held w.none_read refl
    without_came statuses.OutputFault w ends = failed tt (inl w.none_read)
    without_came statuses.StoreReadFault w ends = failed tt (inl w.none_read)
    without_came statuses.NoMemory w ends = failed tt (inl w.none_read)
    without_came statuses.Done w ends = absurd ends
    without_came statuses.SomeRefused w ends = absurd ends
    without_came statuses.Usage w ends = absurd ends
    without_came statuses.BadJournal w ends = absurd ends
    without_came statuses.Rejected w ends = absurd ends
    without_came statuses.StoreWriteFault w ends = absurd ends
    without_came statuses.ScriptFault w ends = absurd ends
    without_came statuses.ScriptTooLong w ends = absurd ends

    unread_came : (file : List ℕ) (status : Status) → Kept a file d d' → left ≡ before → EndsUnread a.new file first now status → Came a d d' before left status
    unread_came file statuses.Rejected k none ends = let old = kept_old file k ends.0 in rejected file ends.1.0 old.0 old.1 none refl
    unread_came file statuses.OutputFault k none ends = failed tt (inl none)
    unread_came file statuses.StoreReadFault k none ends = failed tt (inl none)
    unread_came file statuses.NoMemory k none ends = failed tt (inl none)
    unread_came file statuses.Done k none ends = absurd ends
    unread_came file statuses.SomeRefused k none ends = absurd ends
    unread_came file statuses.Usage k none ends = absurd ends
    unread_came file statuses.BadJournal k none ends = absurd ends
    unread_came file statuses.NoFile k none ends = absurd ends
    unread_came file statuses.StoreWriteFault k none ends = absurd ends
    unread_came file statuses.ScriptFault k none ends = absurd ends
    unread_came file statuses.ScriptTooLong k none ends = absurd ends

    accepted_came : (file : List ℕ) (status : Status) → a.new ≡ false → Attached a file d d' → left ≡ before → Accepted a.space file first now status → Came a d d' before left status
    accepted_came file statuses.Done old at none (good, says) =
        ran file [] (λ _. (good, attached_old file old at)) (λ _ held is. subst (λ (f : List ℕ). WellFormed f) (some_same file held (sym at.held ∙ is)) good)
        (subst (λ (l : Option (List ℕ)). Consumes before l []) (sym none) (Consumes-nil before)) (inl (omega arith, tt))
    accepted_came file statuses.OutputFault old at none (good, says) = failed tt (inl none)
    accepted_came file statuses.StoreReadFault old at none (good, says) = failed tt (inl none)
    accepted_came file statuses.NoMemory old at none (good, says) = failed tt (inl none)
    accepted_came file statuses.SomeRefused old at none (good, says) = absurd says
    accepted_came file statuses.Usage old at none (good, says) = absurd says
    accepted_came file statuses.BadJournal old at none (good, says) = absurd says
    accepted_came file statuses.NoFile old at none (good, says) = absurd says
    accepted_came file statuses.Rejected old at none (good, says) = absurd says
    accepted_came file statuses.StoreWriteFault old at none (good, says) = absurd says
    accepted_came file statuses.ScriptFault old at none (good, says) = absurd says
    accepted_came file statuses.ScriptTooLong old at none (good, says) = absurd says

    pub checked_came : (status : Status) → a.new ≡ false → EndsChecked a d d' before left first now status → Came a d d' before left status
    checked_came status old (inl w) = without_came status w w.ends
    checked_came status old (inr (inl u)) = unread_came u.file status u.kept u.none_read u.ends
    checked_came status old (inr (inr c)) = accepted_came c.file status old c.attached c.none_read c.accepted

  module _ (first now : Outlets) where
    completes_came : (file image : List ℕ) (refused : Bool) (status : Status) → IsDone status → Opens a.new file image → Completes a file image d d' before left first now refused → Came a d d' before left status
    completes_came file image refused status is opens c =
        ran file c.finishes.finishes.taken (stored_ran file image c.end a.no_save opens c.stored) (stored_well file image c.end a.no_save opens c.stored) c.finishes.finishes.consumed (inl (c.finishes.finishes.short, is))

    -- its script was read to its end
    read_whole : {end : List ℕ} {refused : Bool} {image : List ℕ} {then : Outlets} → Finishes image_limit image before left first end refused then → (left ≡ before) ⊎ ((taken : List ℕ) × Consumes before left taken × (length taken ≤ script_limit))
    read_whole f = inr (f.taken, f.consumed, f.short)

    runs_came : (file image : List ℕ) (status : Status) → Opens a.new file image → Runs a file image d d' before left first now status → Came a d d' before left status
    runs_came file image statuses.Done opens r = completes_came file image false statuses.Done tt opens r
    runs_came file image statuses.SomeRefused opens r = completes_came file image true statuses.SomeRefused tt opens r
    runs_came file image statuses.StoreWriteFault opens r = failed tt (read_whole r.finishes.finishes)
    runs_came file image statuses.StoreReadFault opens (k, inl h) = failed tt (inr (h.taken, h.consumed, h.how.0))
    runs_came file image statuses.StoreReadFault opens (k, inr (inl l)) = failed tt (read_whole l.finishes)
    runs_came file image statuses.StoreReadFault opens (k, inr (inr l)) = failed tt (read_whole l.finishes.finishes)
    runs_came file image statuses.OutputFault opens (k, inl h) = failed tt (inr (h.taken, h.consumed, h.how.0))
    runs_came file image statuses.OutputFault opens (k, inr (inl l)) = failed tt (read_whole l.finishes)
    runs_came file image statuses.OutputFault opens (k, inr (inr l)) = absurd l.stops
    runs_came file image statuses.NoMemory opens (k, inl h) = failed tt (inr (h.taken, h.consumed, h.how.0))
    runs_came file image statuses.NoMemory opens (k, inr (inl l)) = failed tt (read_whole l.finishes)
    runs_came file image statuses.NoMemory opens (k, inr (inr l)) = failed tt (read_whole l.finishes.finishes)
    runs_came file image statuses.ScriptFault opens (k, inl h) = failed tt (inr (h.taken, h.consumed, h.how.0))
    runs_came file image statuses.ScriptFault opens (k, inr (inl l)) = absurd l.stops
    runs_came file image statuses.ScriptFault opens (k, inr (inr l)) = absurd l.stops
    runs_came file image statuses.ScriptTooLong opens (k, inl h) = ran file h.taken (kept_ran file image opens k) (kept_well file image opens k) h.consumed (inr (h.how.long, refl))
    runs_came file image statuses.ScriptTooLong opens (k, inr (inl l)) = absurd l.stops
    runs_came file image statuses.ScriptTooLong opens (k, inr (inr l)) = absurd l.stops
    runs_came file image statuses.Usage opens (k, inl h) = absurd h.how
    runs_came file image statuses.Usage opens (k, inr (inl l)) = absurd l.stops
    runs_came file image statuses.Usage opens (k, inr (inr l)) = absurd l.stops
    runs_came file image statuses.BadJournal opens (k, inl h) = absurd h.how
    runs_came file image statuses.BadJournal opens (k, inr (inl l)) = absurd l.stops
    runs_came file image statuses.BadJournal opens (k, inr (inr l)) = absurd l.stops
    runs_came file image statuses.NoFile opens (k, inl h) = absurd h.how
    runs_came file image statuses.NoFile opens (k, inr (inl l)) = absurd l.stops
    runs_came file image statuses.NoFile opens (k, inr (inr l)) = absurd l.stops
    runs_came file image statuses.Rejected opens (k, inl h) = absurd h.how
    runs_came file image statuses.Rejected opens (k, inr (inl l)) = absurd l.stops
    runs_came file image statuses.Rejected opens (k, inr (inr l)) = absurd l.stops

    pub came : (status : Status) → EndsNamed a d d' before left first now status → Came a d d' before left status
    came status (inl (same, w)) = without_came first.written now.written status w w.ends
    came status (inr (inl (same, u))) = unread_came first.written now.written u.file status u.kept u.none_read u.ends
    came status (inr (inr r)) = runs_came r.file r.image status r.opens r.runs

-- ---- statuses that come exactly where they are due

module _ {U : Type 0} (a : Asked) (d d' : Disk U) (before left : Option (List ℕ)) (status : Status) where
  ran_is : (taken : List ℕ) → ((length taken ≤ script_limit) × IsDone status) ⊎ ((script_limit < length taken) × (status ≡ statuses.ScriptTooLong)) → (IsDone status) ⊎ (status ≡ statuses.ScriptTooLong)
  ran_is taken (inl (le, is)) = inl is
  ran_is taken (inr (long, is)) = inr is

  not_ran : (other : Status) → (IsDone other → ⊥) → ((statuses.ScriptTooLong ≡ other) → ⊥) → (IsDone status) ⊎ (status ≡ statuses.ScriptTooLong) → status ≡ other → ⊥
  not_ran other no_done no_long (inl is) same = no_done (subst (λ (s : Status). IsDone s) same is)
  not_ran other no_done no_long (inr is) same = no_long (sym is ∙ same)

  -- no file named and asked for
  pub never_usage : Came a d d' before left status → status ≡ statuses.Usage → ⊥
  never_usage (without o held none is) same = cc (sym is ∙ same)
  never_usage (rejected file r o held none is) same = cc (sym is ∙ same)
  never_usage (ran file taken well held took how) same = not_ran statuses.Usage (λ x. x) (λ e. cc e) (ran_is taken how) same
  never_usage (failed fails read) same = subst (λ (s : Status). IsFailure s) same fails

  no_file_of : (fs : List (List ℕ × List ℕ)) → d.files ≡ Some fs → Came a d d' before left status → Exactly statuses.NoFile status ((a.new ≡ false) × (lookup a.name fs ≡ None))
  no_file_of fs told (without o held none is) = record { only = λ be. (o.old, subst (λ (x : Option (List (List ℕ × List ℕ))). IfSome x (λ l. lookup a.name l ≡ None)) told o.found); always = λ due. inl is }
  no_file_of fs told (rejected file r o held none is) =
      let found : lookup a.name fs ≡ Some file = subst (λ (x : Option (List (List ℕ × List ℕ))). IfSome x (λ l. lookup a.name l ≡ Some file)) told o.found in
      record { only = λ be. absurd (cc (is, be)); always = λ due. absurd (cc (sym found ∙ due.1)) }
  no_file_of fs told (ran file taken well held took how) = record {
    only = λ be. absurd (not_ran statuses.NoFile (λ x. x) (λ e. cc e) (ran_is taken how) be);
    always = λ due.
        let o = (well due.0).1 in
        let found : lookup a.name fs ≡ Some file = subst (λ (x : Option (List (List ℕ × List ℕ))). IfSome x (λ l. lookup a.name l ≡ Some file)) told o.found in
        absurd (cc (sym found ∙ due.1));
  }
  no_file_of fs told (failed fails read) = record { only = λ be. absurd (subst (λ (s : Status). IsFailure s) be fails); always = λ due. inr fails }

  no_file_in : (files : Option (List (List ℕ × List ℕ))) → d.files ≡ files → Came a d d' before left status → IfSome files (λ fs. Exactly statuses.NoFile status ((a.new ≡ false) × (lookup a.name fs ≡ None)))
  no_file_in None told c = tt
  no_file_in (Some fs) told c = no_file_of fs told c

  pub no_file_exactly : Came a d d' before left status → IfSome d.files (λ fs. Exactly statuses.NoFile status ((a.new ≡ false) × (lookup a.name fs ≡ None)))
  no_file_exactly c = no_file_in d.files refl c

  pub no_file_held : Came a d d' before left status → status ≡ statuses.NoFile → d'.held ≡ None
  no_file_held (without o held none is) same = held
  no_file_held (rejected file r o held none is) same = absurd (cc (sym is ∙ same))
  no_file_held (ran file taken well held took how) same = absurd (not_ran statuses.NoFile (λ x. x) (λ e. cc e) (ran_is taken how) same)
  no_file_held (failed fails read) same = absurd (subst (λ (s : Status). IsFailure s) same fails)

  broken_not : (file : List ℕ) → Rejects file → WellFormed file → ⊥
  broken_not file r well = excluded (all_phases file) r.phase r.rule r.place well r.broken

  rejected_of : (file : List ℕ) → d'.held ≡ Some file → Came a d d' before left status → Exactly statuses.Rejected status ((a.new ≡ false) × (WellFormed file → ⊥))
  rejected_of file there (without o held none is) = record { only = λ be. absurd (cc (sym is ∙ be)); always = λ due. absurd (cc (sym held ∙ there)) }
  rejected_of file there (rejected own r o held none is) = record {
    only = λ be. (o.old, λ well. broken_not own r (subst (λ (f : List ℕ). WellFormed f) (some_same file own (sym there ∙ held)) well));
    always = λ due. inl is;
  }
  rejected_of file there (ran own taken well held took how) = record {
    only = λ be. absurd (not_ran statuses.Rejected (λ x. x) (λ e. cc e) (ran_is taken how) be);
    always = λ due. absurd (due.1 (held due.0 file there));
  }
  rejected_of file there (failed fails read) = record { only = λ be. absurd (subst (λ (s : Status). IsFailure s) be fails); always = λ due. inr fails }

  rejected_in : (held : Option (List ℕ)) → d'.held ≡ held → Came a d d' before left status → IfSome held (λ file. Exactly statuses.Rejected status ((a.new ≡ false) × (WellFormed file → ⊥)))
  rejected_in None is c = tt
  rejected_in (Some file) is c = rejected_of file is c

  pub rejected_exactly : Came a d d' before left status → IfSome d'.held (λ file. Exactly statuses.Rejected status ((a.new ≡ false) × (WellFormed file → ⊥)))
  rejected_exactly c = rejected_in d'.held refl c

-- what was taken of a script that is known
taken_length : (script taken : List ℕ) (left : List ℕ) → Consumes (Some script) (Some left) taken → length script ≡ length taken + length left
taken_length script taken left took = ap (λ (l : List ℕ). length l) took ∙ length-append taken left

taken_most : (script taken : List ℕ) (left : Option (List ℕ)) → Consumes (Some script) left taken → length taken ≤ length script
taken_most script taken None took = absurd took
taken_most script taken (Some left) took = omega (arith, taken_length script taken left took)

same_length : (script left : List ℕ) → Some left ≡ Some script → length left ≡ length script
same_length script left same = ap (λ (xs : List ℕ). length xs) (some_same left script same)

pub unread_too_long : (script left : List ℕ) (status : Status) → (status ≡ statuses.ScriptTooLong → ⊥) → Some left ≡ Some script → Exactly statuses.ScriptTooLong status (script_limit < length script - length left)
unread_too_long script left status not_so same = record { only = λ be. absurd (not_so be); always = λ long. absurd (omega (arith, same_length script left same, long)) }

too_long_of : {U : Type 0} (a : Asked) (d d' : Disk U) (script left : List ℕ) (status : Status) → Came a d d' (Some script) (Some left) status → Exactly statuses.ScriptTooLong status (script_limit < length script - length left)
too_long_of a d d' script left status (without o held none is) = unread_too_long script left status (λ be. cc (sym is ∙ be)) none
too_long_of a d d' script left status (rejected file r o held none is) = unread_too_long script left status (λ be. cc (sym is ∙ be)) none
too_long_of a d d' script left status (ran file taken well held took (inl (le, is))) =
    let l = taken_length script taken left took in
    record { only = λ be. absurd (subst (λ (s : Status). IsDone s) be is); always = λ long. absurd (omega (arith, l, le, long)) }
too_long_of a d d' script left status (ran file taken well held took (inr (long, is))) =
    let l = taken_length script taken left took in
    record { only = λ be. omega (arith, l, long); always = λ longer. inl is }
too_long_of a d d' script left status (failed fails read) =
    record { only = λ be. absurd (subst (λ (s : Status). IsFailure s) be fails); always = λ long. inr fails }

pub too_long_exactly : {U : Type 0} (a : Asked) (d d' : Disk U) (before left : Option (List ℕ)) (status : Status) → Came a d d' before left status
    → IfSome before (λ script. IfSome left (λ rest. Exactly statuses.ScriptTooLong status (script_limit < length script - length rest)))
too_long_exactly a d d' None left status c = tt
too_long_exactly a d d' (Some script) None status c = tt
too_long_exactly a d d' (Some script) (Some left) status c = too_long_of a d d' script left status c

-- ---- completeness

cannot : (new : Bool) (name : List ℕ) (files : Option (List (List ℕ × List ℕ))) (under : Option (List ℕ)) → new ≡ false → IfSome files (λ fs. lookup name fs ≡ under) → CanBegin new name files → IsGood under
cannot true name files under old found can = absurd (cc old)
cannot false name None under old found can = absurd can
cannot false name (Some fs) under old found can = subst IsGood found can

complete_of : {U : Type 0} (a : Asked) (d d' : Disk U) (script : List ℕ) (left : Option (List ℕ)) (status : Status) → Came a d d' (Some script) left status → CanBegin a.new a.name d.files → length script ≤ script_limit → IsDone status ⊎ IsFailure status
complete_of a d d' script left status (without o held none is) can le = absurd (cannot a.new a.name d.files None o.old o.found can)
complete_of a d d' script left status (rejected file r o held none is) can le =
    absurd (excluded (all_phases file) r.phase r.rule r.place (cannot a.new a.name d.files (Some file) o.old o.found can) r.broken)
complete_of a d d' script left status (ran file taken well held took (inl (short, is))) can le = inl is
complete_of a d d' script left status (ran file taken well held took (inr (long, is))) can le = absurd (omega (arith, taken_most script taken left took, le, long))
complete_of a d d' script left status (failed fails read) can le = inr fails

pub completes : {U : Type 0} (a : Asked) (d d' : Disk U) (before left : Option (List ℕ)) (status : Status) → Came a d d' before left status
    → CanBegin a.new a.name d.files → IfSome before (λ script. length script ≤ script_limit → IsDone status ⊎ IsFailure status)
completes a d d' None left status c can = tt
completes a d d' (Some script) left status c can = λ le. complete_of a d d' script left status c can le
