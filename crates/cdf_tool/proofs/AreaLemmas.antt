-- How a run over an area ends.
use Rattle.cdf_tool.proofs.Common.{AdoptError, AreaError, Bool, Broken, Disk, EndsOver, EndsUnread, Err, IfOk, List, Ok, Option, Outlets, Refusals, Refuses, Rejects, Result, SaysRejected, Status, WellFormed, ap, false, file_of, inl, inr, refl, rejected_text, rejection, status_of_area, subst, sym, true, ℕ, ◌∙◌, ◌≡◌}
use Rattle.cdf_area.specs.declared.area.AreaError.TheVariants as areas
use Rattle.cdf_session.specs.declared.refusal.AdoptError.TheVariants as errors
use Rattle.cdf_saving.specs.declared.status.Status.TheVariants as statuses

-- a rejection ends a run
rejected_ends : (file : List ℕ) (first now : Option (List ℕ)) (r : Rejects file) (status : Status) → SaysRejected (rejection r) first now status → EndsUnread false file first now status
rejected_ends file first now r statuses.Rejected says = (refl, (r, says))
rejected_ends file first now r statuses.OutputFault says = (refl, (r, says))
rejected_ends file first now r statuses.NoMemory says = says
rejected_ends file first now r statuses.Done says = says
rejected_ends file first now r statuses.SomeRefused says = says
rejected_ends file first now r statuses.Usage says = says
rejected_ends file first now r statuses.BadJournal says = says
rejected_ends file first now r statuses.NoFile says = says
rejected_ends file first now r statuses.StoreReadFault says = absurd says
rejected_ends file first now r statuses.StoreWriteFault says = says
rejected_ends file first now r statuses.ScriptFault says = says
rejected_ends file first now r statuses.ScriptTooLong says = says

refused_by : (new : Bool) (file : List ℕ) (broken : Broken) (first now : Option (List ℕ)) (status : Status) → Refuses new file (errors.Rejected broken) → SaysRejected (rejected_text broken.phase broken.rule broken.at) first now status → EndsUnread new file first now status
refused_by true file broken first now status refuses says = absurd refuses
refused_by false file broken first now status refuses says =
    rejected_ends file first now (record { phase = broken.phase; rule = broken.rule; place = broken.at; broken = refuses }) status says

pub refused_ends : (new : Bool) (file : List ℕ) (broken : Broken) (first now : Option (List ℕ)) (status : Status) (why : AdoptError) → why ≡ errors.Rejected broken → Refuses new file why → SaysRejected (rejected_text broken.phase broken.rule broken.at) first now status → EndsUnread new file first now status
refused_ends new file broken first now status why is refuses says =
    refused_by new file broken first now status (subst (λ (w : AdoptError). Refuses new file w) is refuses) says

-- an area failed, or there was no memory
failed_by : (new : Bool) (file : List ℕ) (now : Option (List ℕ)) (error : AreaError) → EndsUnread new file now now (status_of_area error)
failed_by new file now areas.Fault = refl
failed_by new file now areas.NoMemory = refl

pub failed_ends : (new : Bool) (file : List ℕ) (now : Option (List ℕ)) (error : AreaError) (status : Status) → status ≡ status_of_area error → EndsUnread new file now now status
failed_ends new file now error status is = subst (λ (s : Status). EndsUnread new file now now s) (sym is) (failed_by new file now error)

-- no session is begun over a new file for a reason of the file
unread_new : (file other : List ℕ) (first now : Option (List ℕ)) (status : Status) → EndsUnread true file first now status → EndsUnread true other first now status
unread_new file other first now statuses.Rejected ends = absurd (cc ends.0)
unread_new file other first now statuses.OutputFault ends = absurd (cc ends.0)
unread_new file other first now statuses.StoreReadFault ends = ends
unread_new file other first now statuses.NoMemory ends = ends
unread_new file other first now statuses.Done ends = ends
unread_new file other first now statuses.SomeRefused ends = ends
unread_new file other first now statuses.Usage ends = ends
unread_new file other first now statuses.BadJournal ends = ends
unread_new file other first now statuses.NoFile ends = ends
unread_new file other first now statuses.StoreWriteFault ends = ends
unread_new file other first now statuses.ScriptFault ends = ends
unread_new file other first now statuses.ScriptTooLong ends = ends

module _ (space : Bool) (before left : Option (List ℕ)) (first now : Outlets) (end : List ℕ) where
  over_new : (file other : List ℕ) (outcome : Result Refusals Status) → EndsOver true space file before left first now end outcome → EndsOver true space other before left first now end outcome
  over_new file other (Ok refusals) f = record { image = f.image; opens = f.opens; finishes = f.finishes }
  over_new file other (Err status) (inl (none, same, ends)) = inl (none, same, unread_new file other first.written now.written status ends)
  over_new file other (Err status) (inr h) = inr (record { image = h.image; opens = h.opens; halts = h.halts })

  -- what the area held is the file, or does not count
  pub over_file : (new : Bool) (held file : List ℕ) (outcome : Result Refusals Status) → (new ≡ false → held ≡ file) → EndsOver new space held before left first now end outcome → EndsOver new space file before left first now end outcome
  over_file true held file outcome same ends = over_new held file outcome ends
  over_file false held file outcome same ends = subst (λ (f : List ℕ). EndsOver false space f before left first now end outcome) (same refl) ends

-- the file that is opened, and not made, is well formed
opened_holds : (new space : Bool) (file : List ℕ) (before left : Option (List ℕ)) (first now : Outlets) (end : List ℕ) (outcome : Result Refusals Status) → new ≡ false → EndsOver new space file before left first now end outcome → IfOk outcome (λ _. WellFormed file)
opened_holds true space file before left first now end outcome is ends = absurd (cc is)
opened_holds false space file before left first now end (Ok refusals) is f = f.opens.0
opened_holds false space file before left first now end (Err status) is ends = tt

-- and so is the one that is still attached once the script is answered
pub attached_holds : {U : Type 0} (new space : Bool) (held : List ℕ) (d at : Disk U) (before left : Option (List ℕ)) (first now : Outlets) (end : List ℕ) (outcome : Result Refusals Status) → (new ≡ false → held ≡ file_of d) → at ≡ d → EndsOver new space held before left first now end outcome
    → new ≡ false → IfOk outcome (λ _. WellFormed (file_of at))
attached_holds new space held d at before left first now end outcome same is over old =
    subst (λ (f : List ℕ). IfOk outcome (λ _. WellFormed f)) (same old ∙ sym (ap (λ (x : Disk _). file_of x) is)) (opened_holds new space held before left first now end outcome old over)
