-- What the counts of faults say of the status.
use Rattle.cdf_tool.proofs.Common.{AdoptError, AreaError, Asked, Bool, Broken, Counted, CountedIn, Counts, Disk, EndsNamed, EndsSaving, EndsStored, Err, Explains, IsUnsaved, List, Ok, Option, Outlets, ReadsCounted, ReadsCountedBehind, Refusals, Result, Status, WritesCounted, ap, arith, counts, false, inl, inr, not, refl, status_of, status_of_area, subst, sym, transport, true, was_refused, ℕ, ◌<◌, ◌∙◌, ◌≡◌, ◌≤◌}
use Rattle.cdf_area.specs.declared.area.AreaError.TheVariants as areas
use Rattle.cdf_base.specs.Causes.{HasCauseOf, Rose}
use Rattle.cdf_session.specs.declared.refusal.AdoptError.TheVariants as errors
use Rattle.cdf_saving.specs.declared.status.Status.TheVariants as statuses

-- no count rose
pub counts_stay : (r w o s r' w' o' s' : ℕ) → r' ≡ r → w' ≡ w → o' ≡ o → s' ≡ s → counts r' w' o' s' ≡ counts r w o s
counts_stay r w o s r' w' o' s' reads writes output source = λ i. counts (reads i) (writes i) (output i) (source i)

-- no status but 6 blames a write of an area
pub never_writes : (r o s r' o' s' : ℕ) → Counted (counts r 0 o s) (counts r' 0 o' s') statuses.StoreWriteFault → ⊥
never_writes r o s r' o' s' (same, rose) = omega (arith, rose)

-- the sink failed, and the area may have failed before
pub output_counted : (r w o s r' w' o' s' : ℕ) → r ≤ r' → w' ≡ w → s' ≡ s → Rose o o' → Counted (counts r w o s) (counts r' w' o' s') statuses.OutputFault
output_counted r w o s r' w' o' s' later writes source rose = (λ i. counts r' (writes i) o' (source i), later, rose)

pub sink_counted : (r w o s o' : ℕ) → Rose o o' → Counted (counts r w o s) (counts r w o' s) statuses.OutputFault
sink_counted r w o s o' rose = output_counted r w o s r w o' s (omega arith) refl refl rose

-- the source failed
pub source_counted : (r w o s r' w' o' s' : ℕ) → r' ≡ r → w' ≡ w → o' ≡ o → Rose s s' → Counted (counts r w o s) (counts r' w' o' s') statuses.ScriptFault
source_counted r w o s r' w' o' s' reads writes output rose = (λ i. counts (reads i) (writes i) (output i) s', rose)

-- the area failed, or there was no memory
by_error : {T : Type 0} (error : AreaError) (r w o s r' w' o' s' : ℕ) → HasCauseOf {T = T} areas.Fault r r' (Err error) → w' ≡ w → o' ≡ o → s' ≡ s → Counted (counts r w o s) (counts r' w' o' s') (status_of_area error)
by_error areas.Fault r w o s r' w' o' s' cause writes output source = (λ i. counts r' (writes i) (output i) (source i), cause.failed refl)
by_error areas.NoMemory r w o s r' w' o' s' cause writes output source =
    let later : r ≤ r' = cause.later in
    let not_less : r < r' → ⊥ = λ less. cc (cause.counted less) in
    counts_stay r w o s r' w' o' s' (omega (arith, later, not_less)) writes output source

pub area_counted : {T : Type 0} (error : AreaError) (status : Status) (r w o s r' w' o' s' : ℕ) → status ≡ status_of_area error → HasCauseOf {T = T} areas.Fault r r' (Err error) → w' ≡ w → o' ≡ o → s' ≡ s → Counted (counts r w o s) (counts r' w' o' s') status
area_counted error status r w o s r' w' o' s' is cause writes output source =
    subst (λ (x : Status). Counted (counts r w o s) (counts r' w' o' s') x) (sym is) (by_error error r w o s r' w' o' s' cause writes output source)

-- no count rose before
pub counted_on : (c c' now : Counts) (status : Status) → c' ≡ c → Counted c' now status → Counted c now status
counted_on c c' now status same counted = subst (λ (x : Counts). Counted x now status) same counted

-- the same where another device keeps its count
pub with_source : (r w o r' w' o' source : ℕ) → counts r' w' o' 0 ≡ counts r w o 0 → counts r' w' o' source ≡ counts r w o source
with_source r w o r' w' o' source same = λ i. record (same i) { source = source }

-- no session began
by_reason : (error : AreaError) (r o s r' : ℕ) → Explains (errors.Failed error) r r' → Counted (counts r 0 o s) (counts r' 0 o s) (status_of_area error)
by_reason areas.Fault r o s r' rose = (refl, rose)
by_reason areas.NoMemory r o s r' same = counts_stay r 0 o s r' 0 o s same refl refl refl

pub refused_counted : (error : AreaError) (why : AdoptError) (status : Status) (r o s r' : ℕ) → why ≡ errors.Failed error → status ≡ status_of_area error → Explains why r r' → Counted (counts r 0 o s) (counts r' 0 o s) status
refused_counted error why status r o s r' reason is explains =
    subst (λ (x : Status). Counted (counts r 0 o s) (counts r' 0 o s) x) (sym is) (by_reason error r o s r' (subst (λ (w : AdoptError). Explains w r r') reason explains))

pub rejected_counted : (broken : Broken) (why : AdoptError) (status : Status) (r o s r' o' : ℕ) → why ≡ errors.Rejected broken → Explains why r r' → Counted (counts r 0 o s) (counts r 0 o' s) status → Counted (counts r 0 o s) (counts r' 0 o' s) status
rejected_counted broken why status r o s r' o' reason explains counted =
    let same : r' ≡ r = subst (λ (w : AdoptError). Explains w r r') reason explains in
    subst (λ (n : ℕ). Counted (counts r 0 o s) (counts n 0 o' s) status) (sym same) counted

-- ---- with the writes of a store

counts_reads : (r w o s r' w' o' s' : ℕ) → counts r' w' o' s' ≡ counts r w o s → r' ≡ r
counts_reads r w o s r' w' o' s' same = ap (λ (c : Counts). c.reads) same

-- a run over an area that stopped, and wrote nothing to the store
pub stopped_counted : (status : Status) (r w o s r' w' o' s' : ℕ) → Counted (counts r 0 o s) (counts r' 0 o' s') status → w' ≡ w → Counted (counts r w o s) (counts r' w' o' s') status
stopped_counted statuses.StoreReadFault r w o s r' w' o' s' (same, rose) writes = (λ i. counts r' (writes i) (same i).output (same i).source, rose)
stopped_counted statuses.OutputFault r w o s r' w' o' s' (same, later, rose) writes = (λ i. counts r' (writes i) o' (same i).source, later, rose)
stopped_counted statuses.ScriptFault r w o s r' w' o' s' (same, rose) writes = (λ i. counts (same i).reads (writes i) (same i).output s', rose)
stopped_counted statuses.StoreWriteFault r w o s r' w' o' s' (same, rose) writes = absurd (omega (arith, rose))
stopped_counted statuses.Done r w o s r' w' o' s' same writes = λ i. record (same i) { writes = writes i }
stopped_counted statuses.SomeRefused r w o s r' w' o' s' same writes = λ i. record (same i) { writes = writes i }
stopped_counted statuses.Usage r w o s r' w' o' s' same writes = λ i. record (same i) { writes = writes i }
stopped_counted statuses.BadJournal r w o s r' w' o' s' same writes = λ i. record (same i) { writes = writes i }
stopped_counted statuses.NoFile r w o s r' w' o' s' same writes = λ i. record (same i) { writes = writes i }
stopped_counted statuses.Rejected r w o s r' w' o' s' same writes = λ i. record (same i) { writes = writes i }
stopped_counted statuses.NoMemory r w o s r' w' o' s' same writes = λ i. record (same i) { writes = writes i }
stopped_counted statuses.ScriptTooLong r w o s r' w' o' s' same writes = λ i. record (same i) { writes = writes i }

-- a run whose script was answered, and what was saved
saved_stays : (r w o s r' w' o' s' now : ℕ) → counts now 0 o' s' ≡ counts r 0 o s → r' ≡ now → w' ≡ w → counts r' w' o' s' ≡ counts r w o s
saved_stays r w o s r' w' o' s' now same reads writes = λ i. record (same i) { reads = (reads ∙ counts_reads r 0 o s now 0 o' s' same) i; writes = writes i }

saved_counted : {U : Type 0} (refused : Bool) (end : List ℕ) (d d' : Disk U) (status : Status) (r w o s r' w' o' s' now : ℕ) → EndsSaving refused end d d' status → counts now 0 o' s' ≡ counts r 0 o s → ReadsCounted now r' status → WritesCounted w w' status → Counted (counts r w o s) (counts r' w' o' s') status
saved_counted refused end d d' statuses.Done r w o s r' w' o' s' now ends same reads writes = saved_stays r w o s r' w' o' s' now same reads writes
saved_counted refused end d d' statuses.SomeRefused r w o s r' w' o' s' now ends same reads writes = saved_stays r w o s r' w' o' s' now same reads writes
saved_counted refused end d d' statuses.NoMemory r w o s r' w' o' s' now ends same reads writes = saved_stays r w o s r' w' o' s' now same reads writes
saved_counted refused end d d' statuses.StoreWriteFault r w o s r' w' o' s' now ends same reads rose = (saved_stays r w' o s r' w' o' s' now same reads refl, rose)
saved_counted refused end d d' statuses.StoreReadFault r w o s r' w' o' s' now ends same rose writes =
    (λ i. record (same i) { reads = r'; writes = writes i }, subst (λ (n : ℕ). Rose n r') (counts_reads r 0 o s now 0 o' s' same) rose)
saved_counted refused end d d' statuses.Usage r w o s r' w' o' s' now ends same reads writes = absurd ends
saved_counted refused end d d' statuses.BadJournal r w o s r' w' o' s' now ends same reads writes = absurd ends
saved_counted refused end d d' statuses.NoFile r w o s r' w' o' s' now ends same reads writes = absurd ends
saved_counted refused end d d' statuses.Rejected r w o s r' w' o' s' now ends same reads writes = absurd ends
saved_counted refused end d d' statuses.OutputFault r w o s r' w' o' s' now ends same reads writes = absurd ends
saved_counted refused end d d' statuses.ScriptFault r w o s r' w' o' s' now ends same reads writes = absurd ends
saved_counted refused end d d' statuses.ScriptTooLong r w o s r' w' o' s' now ends same reads writes = absurd ends

writes_of : (status : Status) (w w' : ℕ) → (status ≡ statuses.StoreWriteFault → ⊥) → WritesCounted w w' status → w' ≡ w
writes_of statuses.StoreWriteFault w w' not_so writes = absurd (not_so refl)
writes_of statuses.Done w w' not_so writes = writes
writes_of statuses.SomeRefused w w' not_so writes = writes
writes_of statuses.Usage w w' not_so writes = writes
writes_of statuses.BadJournal w w' not_so writes = writes
writes_of statuses.NoFile w w' not_so writes = writes
writes_of statuses.Rejected w w' not_so writes = writes
writes_of statuses.StoreReadFault w w' not_so writes = writes
writes_of statuses.OutputFault w w' not_so writes = writes
writes_of statuses.NoMemory w w' not_so writes = writes
writes_of statuses.ScriptFault w w' not_so writes = writes
writes_of statuses.ScriptTooLong w w' not_so writes = writes

unsaved_counted : (refused : Bool) (r w o s r' w' o' s' now : ℕ) → counts now 0 o' s' ≡ counts r 0 o s → ReadsCounted now r' (status_of refused) → WritesCounted w w' (status_of refused) → Counted (counts r w o s) (counts r' w' o' s') (status_of refused)
unsaved_counted true r w o s r' w' o' s' now same reads writes = saved_stays r w o s r' w' o' s' now same reads writes
unsaved_counted false r w o s r' w' o' s' now same reads writes = saved_stays r w o s r' w' o' s' now same reads writes

-- a run over the file that is attached
attached_counted : {U : Type 0} (no_save : Bool) (end : List ℕ) (d d' : Disk U) (outcome : Result Refusals Status) (status : Status) (r w o s r' w' o' s' now : ℕ) → EndsStored no_save end d d' outcome status → CountedIn (counts r 0 o s) (counts now 0 o' s') outcome
    → ReadsCountedBehind outcome now r' status → WritesCounted w w' status → Counted (counts r w o s) (counts r' w' o' s') status
attached_counted no_save end d d' (Err stopped) status r w o s r' w' o' s' now (is, same) counted reads writes =
    let here : Counted (counts r 0 o s) (counts r' 0 o' s') status = transport (λ i. Counted (counts r 0 o s) (counts (sym reads i) 0 o' s') (sym is i)) counted in
    let not_so : status ≡ statuses.StoreWriteFault → ⊥ = λ so. never_writes r o s r' o' s' (subst (λ (x : Status). Counted (counts r 0 o s) (counts r' 0 o' s') x) so here) in
    stopped_counted status r w o s r' w' o' s' here (writes_of status w w' not_so writes)
attached_counted true end d d' (Ok refusals) status r w o s r' w' o' s' now (is, same) counted reads writes =
    subst (λ (x : Status). Counted (counts r w o s) (counts r' w' o' s') x) (sym is)
    (unsaved_counted (was_refused refusals) r w o s r' w' o' s' now counted (subst (λ (x : Status). ReadsCounted now r' x) is reads) (subst (λ (x : Status). WritesCounted w w' x) is writes))
attached_counted false end d d' (Ok refusals) status r w o s r' w' o' s' now ends counted reads writes = saved_counted (was_refused refusals) end d d' status r w o s r' w' o' s' now ends counted reads writes

-- a run over a new file in memory
pub in_memory_counted : (refused : Bool) (status : Status) (c now : Counts) → status ≡ status_of refused → now ≡ c → Counted c now status
in_memory_counted refused status c now is same = subst (λ (x : Status). Counted c now x) (sym is) (by_refused refused)
  where
    by_refused : (r : Bool) → Counted c now (status_of r)
    by_refused true = same
    by_refused false = same

-- the same, where the counts of the area are those of the store
pub counted_attached : {U : Type 0} (no_save : Bool) (end : List ℕ) (d d' : Disk U) (outcome : Result Refusals Status) (status : Status) (r w o s r' w' o' s' before now writes : ℕ) → before ≡ r → writes ≡ w → EndsStored no_save end d d' outcome status
    → CountedIn (counts before 0 o s) (counts now 0 o' s') outcome → ReadsCountedBehind outcome now r' status → WritesCounted writes w' status → Counted (counts r w o s) (counts r' w' o' s') status
counted_attached no_save end d d' outcome status r w o s r' w' o' s' before now writes first same ends counted reads wrote =
    attached_counted no_save end d d' outcome status r w o s r' w' o' s' now ends
    (subst (λ (n : ℕ). CountedIn (counts n 0 o s) (counts now 0 o' s') outcome) first counted) reads
    (subst (λ (n : ℕ). WritesCounted n w' status) same wrote)

-- a run over the file that was attached without a fault
pub counted_from : (r w o s : ℕ) (now : Counts) (before writes : ℕ) (status : Status) → before ≡ r → writes ≡ w → Counted (counts before writes o s) now status → Counted (counts r w o s) now status
counted_from r w o s now before writes status first same counted = transport (λ i. Counted (counts (first i) (same i) o s) now status) counted

-- no run over an area blames a write
pub no_write : (c now : ℕ) (o s o' s' : ℕ) (outcome : Result Refusals Status) → CountedIn (counts c 0 o s) (counts now 0 o' s') outcome → outcome ≡ Err statuses.StoreWriteFault → ⊥
no_write c now o s o' s' outcome counted is = never_writes c o s now o' s' (subst (λ (r : Result Refusals Status). CountedIn (counts c 0 o s) (counts now 0 o' s') r) is counted)

-- ---- a whole run

-- only a saving that fails counts a write
pub writes_stay : (status : Status) (c now : Counts) → (status ≡ statuses.StoreWriteFault → ⊥) → Counted c now status → now.writes ≡ c.writes
writes_stay statuses.StoreWriteFault c now not_so counted = absurd (not_so refl)
writes_stay statuses.StoreReadFault c now not_so counted = ap (λ (k : Counts). k.writes) counted.0
writes_stay statuses.OutputFault c now not_so counted = ap (λ (k : Counts). k.writes) counted.0
writes_stay statuses.ScriptFault c now not_so counted = ap (λ (k : Counts). k.writes) counted.0
writes_stay statuses.Done c now not_so counted = ap (λ (k : Counts). k.writes) counted
writes_stay statuses.SomeRefused c now not_so counted = ap (λ (k : Counts). k.writes) counted
writes_stay statuses.Usage c now not_so counted = ap (λ (k : Counts). k.writes) counted
writes_stay statuses.BadJournal c now not_so counted = ap (λ (k : Counts). k.writes) counted
writes_stay statuses.NoFile c now not_so counted = ap (λ (k : Counts). k.writes) counted
writes_stay statuses.Rejected c now not_so counted = ap (λ (k : Counts). k.writes) counted
writes_stay statuses.NoMemory c now not_so counted = ap (λ (k : Counts). k.writes) counted
writes_stay statuses.ScriptTooLong c now not_so counted = ap (λ (k : Counts). k.writes) counted

six_saves : {U : Type 0} (a : Asked) (d d' : Disk U) (before left : Option (List ℕ)) (first now : Outlets) → EndsNamed a d d' before left first now statuses.StoreWriteFault → a.no_save ≡ false
six_saves a d d' before left first now (inl (same, w)) = absurd w.ends
six_saves a d d' before left first now (inr (inl (same, u))) = absurd u.ends
six_saves a d d' before left first now (inr (inr r)) = r.runs.spoiled.saves

not_unsaved : (no_save : Bool) → IsUnsaved no_save statuses.StoreWriteFault → no_save ≡ false → ⊥
not_unsaved true unsaved is = cc
not_unsaved false unsaved is = unsaved

-- what is not saved counts no write
pub unwritten : {U : Type 0} (a : Asked) (d d' : Disk U) (before left : Option (List ℕ)) (first now : Outlets) (status : Status) (c c' : Counts) → EndsNamed a d d' before left first now status → Counted c c' status → IsUnsaved a.no_save status → c'.writes ≡ c.writes
unwritten a d d' before left first now status c c' ends counted unsaved =
    writes_stay status c c' (λ so. not_unsaved a.no_save (subst (λ (s : Status). IsUnsaved a.no_save s) so unsaved) (six_saves a d d' before left first now (subst (λ (s : Status). EndsNamed a d d' before left first now s) so ends))) counted

pub not_false : (b : Bool) → not b ≡ false → b ≡ true
not_false true is = refl
not_false false is = absurd (cc is)
