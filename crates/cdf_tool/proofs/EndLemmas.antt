-- How a run of a named file ends.
use Rattle.cdf_tool.proofs.Common.{Asked, Attached, Bool, Disk, EndsAttached, EndsInMemory, EndsNamed, EndsOver, EndsSaving, EndsStored, Err, FinishesWith, HaltsWith, IfIdle, IfOk, IsDone, IsLeft, IsUnmoved, Kept, Left, List, Ok, OnOk, Opens, Option, Outlets, Refusals, Result, Runs, SpoilsTo, Status, StoredBy, TellsLeft, [], ap, false, file_in, file_of, image_limit, image_of, inl, inr, line_idles, refl, sealed, status_from, status_of, subst, sym, transport, true, was_refused, ℕ, ◌∙◌, ◌≡◌, ◌≢◌, WellFormed}
use Rattle.cdf_saving.specs.declared.status.Status.TheVariants as statuses
use Rattle.std.specs.Prelude.{IfErr}
use Rattle.cdf_tool.proofs.AreaLemmas.{over_file}
use Rattle.cdf_tool.proofs.Headline.{unread_not_done}
use Rattle.cdf_tool.proofs.OnlyReads.{attached_pass, files_stay, if_all_map}
use Rattle.cdf_tool.proofs.StoredLemmas.{kept, replaced, rewritten, spoiled}

halts_no_six : (space : Bool) (image : List ℕ) (before left : Option (List ℕ)) (first now : Outlets) → HaltsWith space image_limit image before left first now statuses.StoreWriteFault → ⊥
halts_no_six space image before left first now (inl h) = h.how
halts_no_six space image before left first now (inr (inl l)) = l.stops
halts_no_six space image before left first now (inr (inr l)) = l.stops

over_no_six : (new space : Bool) (file : List ℕ) (before left : Option (List ℕ)) (first now : Outlets) (end : List ℕ) → EndsOver new space file before left first now end (Err statuses.StoreWriteFault) → ⊥
over_no_six new space file before left first now end (inl (none, same, ends)) = ends
over_no_six new space file before left first now end (inr h) = halts_no_six space h.image before left first now h.halts

module _ {U : Type 0} (new check no_save space : Bool) (name file : List ℕ) (d d' : Disk U) (before left : Option (List ℕ)) (first now : Outlets) where
  abbrev asked : Asked
  asked = record { new = new; check = check; no_save = no_save; space = space; name = name }

  halted_runs : (image : List ℕ) (status : Status) → Kept asked file d d' → HaltsWith space image_limit image before left first now status → Runs asked file image d d' before left first now status
  halted_runs image statuses.Done same (inl h) = absurd h.how
  halted_runs image statuses.Done same (inr (inl l)) = absurd l.stops
  halted_runs image statuses.Done same (inr (inr l)) = absurd l.stops
  halted_runs image statuses.SomeRefused same (inl h) = absurd h.how
  halted_runs image statuses.SomeRefused same (inr (inl l)) = absurd l.stops
  halted_runs image statuses.SomeRefused same (inr (inr l)) = absurd l.stops
  halted_runs image statuses.StoreWriteFault same (inl h) = absurd h.how
  halted_runs image statuses.StoreWriteFault same (inr (inl l)) = absurd l.stops
  halted_runs image statuses.StoreWriteFault same (inr (inr l)) = absurd l.stops
  halted_runs image statuses.Usage same h = (same, h)
  halted_runs image statuses.BadJournal same h = (same, h)
  halted_runs image statuses.NoFile same h = (same, h)
  halted_runs image statuses.Rejected same h = (same, h)
  halted_runs image statuses.StoreReadFault same h = (same, h)
  halted_runs image statuses.OutputFault same h = (same, h)
  halted_runs image statuses.NoMemory same h = (same, h)
  halted_runs image statuses.ScriptFault same h = (same, h)
  halted_runs image statuses.ScriptTooLong same h = (same, h)

  -- a run over idle lines wrote nothing
  abbrev Idles : Status → Type 0
  Idles status = (image : List ℕ) → Opens new file image → new ≡ false → IfIdle image_limit image before (IsUnmoved d d' status)

  -- a run that stopped, where nothing was written
  stopped_ends : (end : List ℕ) (status : Status) → Kept asked file d d' → Idles status → EndsOver new space file before left first now end (Err status) → EndsNamed asked d d' before left first now status
  stopped_ends end status same idle (inl (none, taps, ends)) = inr (inl (taps, record { file = file; kept = same; none_read = none; ends = ends }))
  stopped_ends end status same idle (inr h) = inr (inr (record { file = file; image = h.image; opens = h.opens; runs = halted_runs h.image status same h.halts; idle = idle h.image h.opens }))

  completed_runs : (image end : List ℕ) (refused : Bool) → WellFormed (sealed end) → FinishesWith space image_limit image before left first end refused now → StoredBy no_save asked file end d d' → Runs asked file image d d' before left first now (status_of refused)
  completed_runs image end true good f stored = record { end = end; finishes = f; well_formed = good; stored = stored }
  completed_runs image end false good f stored = record { end = end; finishes = f; well_formed = good; stored = stored }

  unsaved_ends : (end : List ℕ) (refusals : Refusals) (status : Status) → no_save ≡ true → Kept asked file d d' → Idles status → WellFormed (sealed end) → EndsOver new space file before left first now end (Ok refusals) → status ≡ status_of (was_refused refusals) → EndsNamed asked d d' before left first now status
  unsaved_ends end refusals status asks same idle good f is =
      let stored : StoredBy no_save asked file end d d' = subst (λ (s : Bool). StoredBy s asked file end d d') (sym asks) same in
      inr (inr (record { file = file; image = f.image; opens = f.opens; runs = subst (λ (s : Status). Runs asked file f.image d d' before left first now s) (sym is) (completed_runs f.image end (was_refused refusals) good f.finishes stored); idle = idle f.image f.opens }))

  module _ (at : Disk U) (attached : Attached asked file d at) (saves : new ≡ true → no_save ≡ false) where
    saved_runs : (image end : List ℕ) (refused : Bool) (status : Status) → no_save ≡ false → WellFormed (sealed end) → FinishesWith space image_limit image before left first end refused now → EndsSaving refused end at d' status → Runs asked file image d d' before left first now status
    saved_runs image end refused statuses.Done asks good f (is, holds, written) =
        record { end = end; finishes = subst (λ (r : Bool). FinishesWith space image_limit image before left first end r now) is f; well_formed = good; stored = subst (λ (s : Bool). StoredBy s asked file end d d') (sym asks) (good, replaced new check no_save space name file d at d' _ attached holds, rewritten new check no_save space name file d at d' end attached written) }
    saved_runs image end refused statuses.SomeRefused asks good f (is, holds, written) =
        record { end = end; finishes = subst (λ (r : Bool). FinishesWith space image_limit image before left first end r now) is f; well_formed = good; stored = subst (λ (s : Bool). StoredBy s asked file end d d') (sym asks) (good, replaced new check no_save space name file d at d' _ attached holds, rewritten new check no_save space name file d at d' end attached written) }
    saved_runs image end refused statuses.StoreWriteFault asks good f (holds, written) =
        record { end = end; refused = refused; finishes = f; spoiled = spoiled new check no_save space name file d at d' end asks attached holds written }
    saved_runs image end refused statuses.NoMemory asks good f same = (kept new check no_save space name file d at d' saves attached same, inr (inr (record { end = end; refused = refused; finishes = f; stops = tt })))
    saved_runs image end refused statuses.StoreReadFault asks good f same = (kept new check no_save space name file d at d' saves attached same, inr (inr (record { end = end; refused = refused; finishes = f; stops = tt })))
    saved_runs image end refused statuses.Usage asks good f ends = absurd ends
    saved_runs image end refused statuses.BadJournal asks good f ends = absurd ends
    saved_runs image end refused statuses.NoFile asks good f ends = absurd ends
    saved_runs image end refused statuses.Rejected asks good f ends = absurd ends
    saved_runs image end refused statuses.OutputFault asks good f ends = absurd ends
    saved_runs image end refused statuses.ScriptFault asks good f ends = absurd ends
    saved_runs image end refused statuses.ScriptTooLong asks good f ends = absurd ends

    stored_ends : (end : List ℕ) (outcome : Result Refusals Status) (status : Status) (save : Bool) → no_save ≡ save → Idles status → IfOk outcome (λ _. WellFormed (sealed end)) → EndsOver new space file before left first now end outcome → EndsStored save end at d' outcome status → EndsNamed asked d d' before left first now status
    stored_ends end (Err stopped) status save asks idle good over (is, same) =
        subst (λ (s : Status). EndsNamed asked d d' before left first now s) (sym is)
        (stopped_ends end stopped (kept new check no_save space name file d at d' saves attached same) (subst (λ (s : Status). Idles s) is idle) over)
    stored_ends end (Ok refusals) status true asks idle good over (is, same) = unsaved_ends end refusals status asks (kept new check no_save space name file d at d' saves attached same) idle good over is
    stored_ends end (Ok refusals) status false asks idle good over ends =
        inr (inr (record { file = file; image = over.image; opens = over.opens; runs = saved_runs over.image end (was_refused refusals) status asks good over.finishes ends; idle = idle over.image over.opens }))

    opened_image : (is_new : Bool) (image : List ℕ) → is_new ≡ false → Opens is_new file image → image ≡ image_of file
    opened_image true image is opens = absurd (cc is)
    opened_image false image is opens = opens.1

    unmoved : (status : Status) → new ≡ false → (d' ≡ at) × (status ≢ statuses.StoreWriteFault) → IsUnmoved d d' status
    unmoved status old none = record {
      files = ap (λ (x : Disk U). x.files) none.0 ∙ attached.files ∙ files_stay new name d.files old;
      touched = ap (λ (x : Disk U). x.touched) none.0 ∙ attached.touched;
      saved = none.1;
    }

    idles : (status : Status) → (new ≡ false → IfIdle image_limit (image_of file) before ((d' ≡ at) × (status ≢ statuses.StoreWriteFault))) → Idles status
    idles status idle image opens old =
        subst (λ (b : List ℕ). IfIdle image_limit b before (IsUnmoved d d' status)) (sym (opened_image new image old opens))
        (if_all_map (line_idles image_limit (image_of file)) before ((d' ≡ at) × (status ≢ statuses.StoreWriteFault)) (IsUnmoved d d' status) (unmoved status old) (idle old))

    -- a run over the file that is attached
    pub attached_ends : (what : Option Left) (status : Status) → EndsAttached new no_save space file at d' before left first now what status → EndsNamed asked d d' before left first now status
    attached_ends what status e = stored_ends e.end e.outcome status no_save refl (idles status e.idle) e.well_formed e.over e.stored

    -- the saving failed
    done_no_six : (refused : Bool) → statuses.StoreWriteFault ≡ status_of refused → ⊥
    done_no_six true is = cc
    done_no_six false is = cc

    spoils_by : (what : Option Left) (end : List ℕ) (outcome : Result Refusals Status) (save : Bool) → no_save ≡ save → EndsOver new space file before left first now end outcome → EndsStored save end at d' outcome statuses.StoreWriteFault
        → IsLeft what (file_of at) (sealed end) (file_of d') → SpoilsTo asked d d' before left first now what
    spoils_by what end (Err stopped) save asks over ends leaves = absurd (over_no_six new space file before left first now end (subst (λ (s : Status). EndsOver new space file before left first now end (Err s)) (sym ends.0) over))
    spoils_by what end (Ok refusals) true asks over ends leaves = absurd (done_no_six (was_refused refusals) ends.0)
    spoils_by what end (Ok refusals) false asks over ends leaves = record {
      file = file;
      image = over.image;
      opens = over.opens;
      spoils = record { end = end; refused = was_refused refusals; finishes = over.finishes; spoiled = spoiled new check no_save space name file d at d' end asks attached ends.0 ends.1 };
      leaves = transport (λ i. IsLeft what (file_in (attached.held i)) (sealed end) (file_in (ends.0.holds.held_is i))) leaves;
    }

    pub attached_spoils : (what : Option Left) (status : Status) → EndsAttached new no_save space file at d' before left first now what status → status ≡ statuses.StoreWriteFault → SpoilsTo asked d d' before left first now what
    attached_spoils what status e is =
        spoils_by what e.end e.outcome no_save refl e.over (subst (λ (s : Status). EndsStored no_save e.end at d' e.outcome s) is e.stored)
        (subst (λ (s : Status). TellsLeft what (file_of at) (sealed e.end) (file_of d') s) is e.leaves)

in_memory : {U : Type 0} (check space : Bool) (name : List ℕ) (d : Disk U) (before left : Option (List ℕ)) (first now : Outlets) (end : List ℕ) (outcome : Result Refusals Status) (status : Status) → EndsOver true space [] before left first now end outcome → IfOk outcome (λ _. WellFormed (sealed end)) → status ≡ status_from outcome
    → EndsNamed (record { new = true; check = check; no_save = true; space = space; name = name }) d d before left first now status
in_memory check space name d before left first now end (Ok refusals) status over good is =
    unsaved_ends true check true space name [] d d before left first now end refusals status refl refl (λ image opens old. absurd (cc old)) good over is
in_memory {U} check space name d before left first now end (Err stopped) status over good is =
    let a : Asked = record { new = true; check = check; no_save = true; space = space; name = name } in
    subst (λ (s : Status). EndsNamed a d d before left first now s) (sym is) (stopped_ends true check true space name [] d d before left first now end stopped refl (λ image opens old. absurd (cc old)) over)

-- a run over a new file that is not saved
pub in_memory_ends : {U : Type 0} (new check no_save space : Bool) (name : List ℕ) (d : Disk U) (before left : Option (List ℕ)) (first now : Outlets) (status : Status) → new ≡ true → no_save ≡ true → EndsInMemory space before left first now status
    → EndsNamed (record { new = new; check = check; no_save = no_save; space = space; name = name }) d d before left first now status
in_memory_ends new check no_save space name d before left first now status n s e =
    let made = in_memory check space name d before left first now e.end e.outcome status e.over e.well_formed e.status_is in
    transport (λ i. EndsNamed (record { new = sym n i; check = check; no_save = sym s i; space = space; name = name }) d d before left first now status) made

-- what a run over an area and a saving come to
pub attached_all : {U : Type 0} (new no_save space : Bool) (file held : List ℕ) (d at d' : Disk U) (before left : Option (List ℕ)) (first now : Outlets) (end : List ℕ) (outcome : Result Refusals Status) (what : Option Left) (status : Status)
    → (new ≡ false → held ≡ file) → EndsOver new space held before left first now end outcome → IfOk outcome (λ _. WellFormed (sealed end)) → at ≡ d → EndsStored no_save end at d' outcome status → TellsLeft what (file_of at) (sealed end) (file_of d') status
    → (P S : Type 0) → (new ≡ false → P → S) → (new ≡ false → OnOk outcome (IfIdle image_limit (image_of held) before P)) → (new ≡ false → OnOk outcome S → (d' ≡ at) × (status ≢ statuses.StoreWriteFault)) → EndsAttached new no_save space file d d' before left first now what status
attached_all {U} new no_save space file held d at d' before left first now end outcome what status same over good is stored leaves P S kept idle unmoved = record {
  end = end;
  outcome = outcome;
  over = over_file space before left first now end new held file outcome same over;
  well_formed = good;
  stored = subst (λ (x : Disk U). EndsStored no_save end x d' outcome status) is stored;
  leaves = subst (λ (x : Disk U). TellsLeft what (file_of x) (sealed end) (file_of d') status) is leaves;
  idle = λ old. transport (λ i. IfIdle image_limit (image_of (same old i)) before ((d' ≡ is i) × (status ≢ statuses.StoreWriteFault)))
      (attached_pass (line_idles image_limit (image_of held)) outcome before P S ((d' ≡ at) × (status ≢ statuses.StoreWriteFault)) (kept old) (idle old) (unmoved old));
}

-- a run over an area that stopped has no status of one that came to its end, and failed no saving
halts_not_done : (space : Bool) (limit : ℕ) (image : List ℕ) (before left : Option (List ℕ)) (first now : Outlets) (status : Status) → HaltsWith space limit image before left first now status → IsDone status → ⊥
halts_not_done space limit image before left first now statuses.Done (inl h) is = h.how
halts_not_done space limit image before left first now statuses.Done (inr (inl l)) is = l.stops
halts_not_done space limit image before left first now statuses.Done (inr (inr l)) is = l.stops
halts_not_done space limit image before left first now statuses.SomeRefused (inl h) is = h.how
halts_not_done space limit image before left first now statuses.SomeRefused (inr (inl l)) is = l.stops
halts_not_done space limit image before left first now statuses.SomeRefused (inr (inr l)) is = l.stops
halts_not_done space limit image before left first now statuses.Usage h is = is
halts_not_done space limit image before left first now statuses.BadJournal h is = is
halts_not_done space limit image before left first now statuses.NoFile h is = is
halts_not_done space limit image before left first now statuses.Rejected h is = is
halts_not_done space limit image before left first now statuses.StoreReadFault h is = is
halts_not_done space limit image before left first now statuses.StoreWriteFault h is = is
halts_not_done space limit image before left first now statuses.OutputFault h is = is
halts_not_done space limit image before left first now statuses.NoMemory h is = is
halts_not_done space limit image before left first now statuses.ScriptFault h is = is
halts_not_done space limit image before left first now statuses.ScriptTooLong h is = is

pub over_not_done : (new space : Bool) (file : List ℕ) (before left : Option (List ℕ)) (first now : Outlets) (end : List ℕ) (outcome : Result Refusals Status) → EndsOver new space file before left first now end outcome → IfErr outcome (λ status. IsDone status → ⊥)
over_not_done new space file before left first now end (Ok refusals) over = tt
over_not_done new space file before left first now end (Err status) (inl (none, same, ends)) = unread_not_done new file first.written now.written status ends
over_not_done new space file before left first now end (Err status) (inr h) = halts_not_done space image_limit h.image before left first now status h.halts
