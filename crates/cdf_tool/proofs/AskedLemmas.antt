-- What follows of a run by whether a check was asked for.
use Rattle.cdf_tool.proofs.Common.{Accepts, Asked, Attached, Bool, Disk, EndsAsked, EndsChecked, EndsNamed, EndsWithout, FilesStay, IfSome, IsUnsaved, Kept, List, Looked, None, Option, Outlets, Runs, Some, Status, StoredBy, Untouched, ap, false, inl, inr, lookup, not, option_map, sym, true, ℕ, ◌&&◌, ◌||◌, ◌∙◌, ◌≡◌}
use Rattle.cdf_saving.specs.declared.status.Status.TheVariants as statuses
use Rattle.cdf_tool.proofs.RunStore.{found_lookup_in, kept_attached}

module _ {U : Type 0} (a : Asked) (d d' : Disk U) (before left : Option (List ℕ)) (first now : Outlets) (status : Status) where
  pub run_ends : (check : Bool) → check ≡ false → EndsNamed a d d' before left first now status → EndsAsked check a d d' before left first now status
  run_ends true is ends = absurd (cc is)
  run_ends false is ends = ends

  pub check_ends : (check : Bool) → check ≡ true → now.taps ≡ first.taps → EndsChecked a d d' before left first.written now.written status → EndsAsked check a d d' before left first now status
  check_ends true is same ends = (same, ends)
  check_ends false is same ends = absurd (cc is)

-- a run that checks nothing saves nothing only where that is asked for
pub unsaved_run : (check no_save : Bool) (status : Status) → check ≡ false → IsUnsaved (check || no_save) status → IsUnsaved no_save status
unsaved_run true no_save status is unsaved = absurd (cc is)
unsaved_run false no_save status is unsaved = unsaved

pub if_some : {A : Type 0} (o : Option A) (P : A → Type 0) → ((a : A) → P a) → IfSome o P
if_some None P all = tt
if_some (Some a) P all = all a

-- ---- a check

pub accepts_checked : {U : Type 0} (a : Asked) (d d' : Disk U) (before left : Option (List ℕ)) (first now : Outlets) (status : Status) → a.check ≡ true → Accepts (Some a) d d' before left first now status
accepts_checked a d d' None left first now status is = tt
accepts_checked a d d' (Some script) left first now status is = if_some first.written _ (λ written unchecked. absurd (cc (is, unchecked)))

-- the store is called for a file that is no new one
pub old_called : (new no_save : Bool) → new ≡ false → not (new && no_save) ≡ false → ⊥
old_called true no_save old calls = cc old
old_called false no_save old calls = cc calls

files_stay : (new : Bool) (name : List ℕ) (files files' : Option (List (List ℕ × List ℕ))) → new ≡ false → files' ≡ files → FilesStay new name files files'
files_stay true name files files' old same = absurd (cc old)
files_stay false name files files' old same = same

pub untouched_old : {U : Type 0} (a : Asked) (d d' : Disk U) → a.new ≡ false → d'.files ≡ d.files → d'.touched ≡ d.touched → Untouched a d d'
untouched_old a d d' old files touched = record { files = files_stay a.new a.name d.files d'.files old files; touched = touched }

looked_same : (status : Status) (held under : Option (List ℕ)) → held ≡ under → Looked held under status
looked_same statuses.StoreReadFault held under same = inr same
looked_same statuses.NoMemory held under same = inr same
looked_same statuses.Done held under same = same
looked_same statuses.SomeRefused held under same = same
looked_same statuses.Usage held under same = same
looked_same statuses.BadJournal held under same = same
looked_same statuses.NoFile held under same = same
looked_same statuses.Rejected held under same = same
looked_same statuses.StoreWriteFault held under same = same
looked_same statuses.OutputFault held under same = same
looked_same statuses.ScriptFault held under same = same
looked_same statuses.ScriptTooLong held under same = same

looked_in : (files : Option (List (List ℕ × List ℕ))) (name : List ℕ) (held file : Option (List ℕ)) (status : Status) → held ≡ file → IfSome files (λ fs. lookup name fs ≡ file) → IfSome files (λ fs. Looked held (lookup name fs) status)
looked_in None name held file status is found = tt
looked_in (Some fs) name held file status is found = looked_same status held (lookup name fs) (is ∙ sym found)

not_looked : (status : Status) (a : Asked) (files : Option (List (List ℕ × List ℕ))) (first now held : Option (List ℕ)) → held ≡ None → EndsWithout a files first now status → IfSome files (λ fs. Looked held (lookup a.name fs) status)
not_looked statuses.NoFile a files first now held is ends = looked_in files a.name held None statuses.NoFile is ends.1
not_looked statuses.OutputFault a files first now held is ends = looked_in files a.name held None statuses.OutputFault is ends.1
not_looked statuses.StoreReadFault a files first now held is ends = if_some files _ (λ fs. inl is)
not_looked statuses.NoMemory a files first now held is ends = if_some files _ (λ fs. inl is)
not_looked statuses.Done a files first now held is ends = absurd ends
not_looked statuses.SomeRefused a files first now held is ends = absurd ends
not_looked statuses.Usage a files first now held is ends = absurd ends
not_looked statuses.BadJournal a files first now held is ends = absurd ends
not_looked statuses.Rejected a files first now held is ends = absurd ends
not_looked statuses.StoreWriteFault a files first now held is ends = absurd ends
not_looked statuses.ScriptFault a files first now held is ends = absurd ends
not_looked statuses.ScriptTooLong a files first now held is ends = absurd ends

module _ {U : Type 0} (a : Asked) (d d' : Disk U) (before left first now : Option (List ℕ)) (status : Status) (old : a.new ≡ false) where
  -- what a check leaves of the store
  pub record Leaves : Type 0 where
    pub name : d'.name ≡ option_map (λ _. a.name) d'.held
    pub looked : IfSome d.files (λ files. Looked d'.held (lookup a.name files) status)
    pub only : d'.only ≡ d.only
    pub under : d'.under ≡ d.under

  of_attached : (file : List ℕ) → Attached a file d d' → Leaves
  of_attached file at = record {
    name = at.name ∙ sym (ap (λ o. option_map (λ _. a.name) o) at.held);
    looked = looked_in d.files a.name d'.held (Some file) status at.held (found_lookup_in a.new a.name file d.files old at.found);
    only = at.only;
    under = at.under;
  }

  pub check_leaves : EndsChecked a d d' before left first now status → Leaves
  check_leaves (inl w) = record {
    name = w.unattached.name ∙ sym (ap (λ o. option_map (λ _. a.name) o) w.unattached.held);
    looked = not_looked status a d.files first now d'.held w.unattached.held w.ends;
    only = w.unattached.only;
    under = w.unattached.under;
  }
  check_leaves (inr (inl u)) = of_attached u.file (kept_attached a u.file d d' a.new a.no_save old u.kept)
  check_leaves (inr (inr c)) = of_attached c.file c.attached

-- ---- a run that saves nothing

module _ {U : Type 0} (a : Asked) (d d' : Disk U) (before left : Option (List ℕ)) (first now : Outlets) (old : a.new ≡ false) where
  kept_looked : (file : List ℕ) (status : Status) → Kept a file d d' → IfSome d.files (λ files. Looked d'.held (lookup a.name files) status)
  kept_looked file status k =
      let at = kept_attached a file d d' a.new a.no_save old k in
      looked_in d.files a.name d'.held (Some file) status at.held (found_lookup_in a.new a.name file d.files old at.found)

  done_kept : (no_save : Bool) (file end : List ℕ) → IsUnsaved no_save statuses.Done → StoredBy no_save a file end d d' → Kept a file d d'
  done_kept true file end unsaved k = k
  done_kept false file end unsaved k = absurd unsaved

  refused_kept : (no_save : Bool) (file end : List ℕ) → IsUnsaved no_save statuses.SomeRefused → StoredBy no_save a file end d d' → Kept a file d d'
  refused_kept true file end unsaved k = k
  refused_kept false file end unsaved k = absurd unsaved

  not_failed : (no_save : Bool) → IsUnsaved no_save statuses.StoreWriteFault → no_save ≡ false → ⊥
  not_failed true unsaved is = cc
  not_failed false unsaved is = unsaved

  runs_looked : (file image : List ℕ) (status : Status) → IsUnsaved a.no_save status → Runs a file image d d' before left first now status → IfSome d.files (λ files. Looked d'.held (lookup a.name files) status)
  runs_looked file image statuses.Done unsaved r = kept_looked file statuses.Done (done_kept a.no_save file r.end unsaved r.stored)
  runs_looked file image statuses.SomeRefused unsaved r = kept_looked file statuses.SomeRefused (refused_kept a.no_save file r.end unsaved r.stored)
  runs_looked file image statuses.StoreWriteFault unsaved r = absurd (not_failed a.no_save unsaved r.spoiled.saves)
  runs_looked file image statuses.Usage unsaved (k, h) = kept_looked file statuses.Usage k
  runs_looked file image statuses.BadJournal unsaved (k, h) = kept_looked file statuses.BadJournal k
  runs_looked file image statuses.NoFile unsaved (k, h) = kept_looked file statuses.NoFile k
  runs_looked file image statuses.Rejected unsaved (k, h) = kept_looked file statuses.Rejected k
  runs_looked file image statuses.StoreReadFault unsaved (k, h) = kept_looked file statuses.StoreReadFault k
  runs_looked file image statuses.OutputFault unsaved (k, h) = kept_looked file statuses.OutputFault k
  runs_looked file image statuses.NoMemory unsaved (k, h) = kept_looked file statuses.NoMemory k
  runs_looked file image statuses.ScriptFault unsaved (k, h) = kept_looked file statuses.ScriptFault k
  runs_looked file image statuses.ScriptTooLong unsaved (k, h) = kept_looked file statuses.ScriptTooLong k

  -- the file that was read is the one under the name
  pub named_looked : (status : Status) → IsUnsaved a.no_save status → EndsNamed a d d' before left first now status → IfSome d.files (λ files. Looked d'.held (lookup a.name files) status)
  named_looked status unsaved (inl (same, w)) = not_looked status a d.files first.written now.written d'.held w.unattached.held w.ends
  named_looked status unsaved (inr (inl (same, u))) = kept_looked u.file status u.kept
  named_looked status unsaved (inr (inr r)) = runs_looked r.file r.image status unsaved r.runs
