-- A run over lines that change nothing.
use Rattle.cdf_tool.proofs.Common.{Asked, Bool, Counted, Counts, Disk, EndsNamed, EndsUnread, EndsWithout, IfIdle, IfReads, IfSome, IsDone, IsUnmoved, Kept, List, None, Opens, Option, Outlets, Refusals, Runs, Some, Status, StoredBy, Unattached, WritesNothing, [], ap, eq_of, false, file_in, found_or_made, image_limit, image_of, inl, inr, length, line_idles, line_reads, lookup, not, option_map, refl, status_of, subst, sym, true, was_refused, ℕ, ◌&&◌, ◌==◌, ◌↔◌, ◌∙◌, ◌≡◌, ◌≤◌}
use Rattle.std.proofs.Common.{arith}
use Rattle.std.proofs.lemmas.Bool.{eqb-false}
use Rattle.cdf_saving.specs.declared.status.Status.TheVariants as statuses
use Rattle.cdf_saving.specs.Statuses.{replaced_by}
use Rattle.cdf_tool.proofs.CountLemmas.{writes_stay}
use Rattle.cdf_tool.proofs.IdleLemmas.{if_idle_reads}
use Rattle.cdf_tool.proofs.OnlyReads.{files_stay, if_all, if_all_map}
use Rattle.cdf_tool.proofs.RunStore.{found_lookup_in, kept_attached}

module _ {U : Type 0} (a : Asked) (d d' : Disk U) (before left : Option (List ℕ)) (first now : Outlets) (old : a.new ≡ false) where
  unattached : (status : Status) → Unattached a d d' → EndsWithout a d.files first.written now.written status → IsUnmoved d d' status
  unattached status u ends = record {
    files = elim u.files [ inl same ↦ same | inr made ↦ made ∙ files_stay a.new a.name d.files old ];
    touched = u.touched;
    saved = λ is. subst (λ (s : Status). EndsWithout a d.files first.written now.written s) is ends;
  }

  kept : (file : List ℕ) (status : Status) → Kept a file d d' → EndsUnread a.new file first.written now.written status → IsUnmoved d d' status
  kept file status k ends =
      let at = kept_attached a file d d' a.new a.no_save old k in
      record {
        files = at.files ∙ files_stay a.new a.name d.files old;
        touched = at.touched;
        saved = λ is. subst (λ (s : Status). EndsUnread a.new file first.written now.written s) is ends;
      }

  abbrev Under : List ℕ → Type 0
  Under file = IfSome d.files (λ fs. lookup a.name fs ≡ Some file)

  kept_under : (file : List ℕ) → Kept a file d d' → Under file
  kept_under file k = found_lookup_in a.new a.name file d.files old (kept_attached a file d d' a.new a.no_save old k).found

  stored_under : (no_save : Bool) (file end : List ℕ) → StoredBy no_save a file end d d' → Under file
  stored_under true file end k = kept_under file k
  stored_under false file end (good, r, written) = found_lookup_in a.new a.name file d.files old r.found

  -- the file that a script was run over is the one under the name
  runs_under : (file image : List ℕ) (status : Status) → Runs a file image d d' before left first now status → Under file
  runs_under file image statuses.Done r = stored_under a.no_save file r.end r.stored
  runs_under file image statuses.SomeRefused r = stored_under a.no_save file r.end r.stored
  runs_under file image statuses.StoreWriteFault r = found_lookup_in a.new a.name file d.files old r.spoiled.replaced.found
  runs_under file image statuses.Usage (k, h) = kept_under file k
  runs_under file image statuses.BadJournal (k, h) = kept_under file k
  runs_under file image statuses.NoFile (k, h) = kept_under file k
  runs_under file image statuses.Rejected (k, h) = kept_under file k
  runs_under file image statuses.StoreReadFault (k, h) = kept_under file k
  runs_under file image statuses.OutputFault (k, h) = kept_under file k
  runs_under file image statuses.NoMemory (k, h) = kept_under file k
  runs_under file image statuses.ScriptFault (k, h) = kept_under file k
  runs_under file image statuses.ScriptTooLong (k, h) = kept_under file k

  opened_image : (new : Bool) (file image : List ℕ) → new ≡ false → Opens new file image → image ≡ image_of file
  opened_image true file image is opens = absurd (cc is)
  opened_image false file image is opens = opens.1

  some_same : (x y : List ℕ) → Some x ≡ Some y → x ≡ y
  some_same x y e = cc e

  module _ (status : Status) (c c' : Counts) (counted : Counted c c' status) where
    abbrev Nothing : Type 0
    Nothing = WritesNothing d d' c.writes c'.writes status

    nothing : IsUnmoved d d' status → Nothing
    nothing u = record { files = u.files; touched = u.touched; writes = writes_stay status c c' u.saved counted; saved = u.saved }

    -- where each line only reads
    pub named_reads : EndsNamed a d d' before left first now status → IfReads before Nothing
    named_reads (inl (taps, w)) = if_all line_reads before Nothing (nothing (unattached status w.unattached w.ends))
    named_reads (inr (inl (taps, u))) = if_all line_reads before Nothing (nothing (kept u.file status u.kept u.ends))
    named_reads (inr (inr r)) = if_idle_reads image_limit r.image before Nothing (if_all_map (line_idles image_limit r.image) before (IsUnmoved d d' status) Nothing nothing (r.idle old))

    under_idle : (file : List ℕ) → Under file → EndsNamed a d d' before left first now status → (fs : List (List ℕ × List ℕ)) → d.files ≡ Some fs → lookup a.name fs ≡ Some file → IfIdle image_limit (image_of file) before Nothing
    under_idle file under ends fs told is = named ends
      where
        same : (other : List ℕ) → Under other → other ≡ file
        same other there = some_same other file (sym (subst (λ (o : Option (List (List ℕ × List ℕ))). IfSome o (λ l. lookup a.name l ≡ Some other)) told there) ∙ is)

        named : EndsNamed a d d' before left first now status → IfIdle image_limit (image_of file) before Nothing
        named (inl (taps, w)) = if_all (line_idles image_limit (image_of file)) before Nothing (nothing (unattached status w.unattached w.ends))
        named (inr (inl (taps, u))) = if_all (line_idles image_limit (image_of file)) before Nothing (nothing (kept u.file status u.kept u.ends))
        named (inr (inr r)) =
            subst (λ (b : List ℕ). IfIdle image_limit b before Nothing) (opened_image a.new r.file r.image old r.opens ∙ ap image_of (same r.file (runs_under r.file r.image status r.runs)))
            (if_all_map (line_idles image_limit r.image) before (IsUnmoved d d' status) Nothing nothing (r.idle old))

    -- where each line is idle over the file of the name
    pub named_idle : EndsNamed a d d' before left first now status → IfSome d.files (λ fs. IfSome (lookup a.name fs) (λ file. IfIdle image_limit (image_of file) before Nothing))
    named_idle ends = in_files d.files refl
      where
        in_file : (fs : List (List ℕ × List ℕ)) → d.files ≡ Some fs → (found : Option (List ℕ)) → lookup a.name fs ≡ found → IfSome found (λ file. IfIdle image_limit (image_of file) before Nothing)
        in_file fs told None is = tt
        in_file fs told (Some file) is = under_idle file (subst (λ (o : Option (List (List ℕ × List ℕ))). IfSome o (λ l. lookup a.name l ≡ Some file)) (sym told) is) ends fs told is

        in_files : (files : Option (List (List ℕ × List ℕ))) → d.files ≡ files → IfSome files (λ fs. IfSome (lookup a.name fs) (λ file. IfIdle image_limit (image_of file) before Nothing))
        in_files None told = tt
        in_files (Some fs) told = in_file fs told (lookup a.name fs) refl

-- ---- the lines that were refused

by_count : (n : ℕ) (none : Bool) (status : Status) → (n == 0) ≡ none → status ≡ status_of (not none) → (1 ≤ n) ↔ (status ≡ statuses.SomeRefused)
by_count n true status is ends = (λ le. absurd (let zero : n ≡ 0 = eq_of n 0 is in omega (arith, zero, le)), λ some. absurd (cc (ends, some)))
by_count n false status is ends = (λ le. ends, λ some. let apart : n ≡ 0 → ⊥ = eqb-false n 0 is in omega (arith, apart))

pub refusals_counted : (r : Refusals) (status : Status) → status ≡ status_of (was_refused r) → (1 ≤ r.refused) ↔ (status ≡ statuses.SomeRefused)
refusals_counted r status ends = by_count r.refused (r.refused == 0) status refl ends

-- ---- what a new file took the place of

pub replaced_done : (new : Bool) (size : ℕ) (status : Status) → new ≡ true → IsDone status → size ≡ replaced_by new size status
replaced_done true size statuses.Done is done = refl
replaced_done true size statuses.SomeRefused is done = refl
replaced_done true size statuses.Usage is done = absurd done
replaced_done true size statuses.BadJournal is done = absurd done
replaced_done true size statuses.NoFile is done = absurd done
replaced_done true size statuses.Rejected is done = absurd done
replaced_done true size statuses.StoreReadFault is done = absurd done
replaced_done true size statuses.StoreWriteFault is done = absurd done
replaced_done true size statuses.OutputFault is done = absurd done
replaced_done true size statuses.NoMemory is done = absurd done
replaced_done true size statuses.ScriptFault is done = absurd done
replaced_done true size statuses.ScriptTooLong is done = absurd done
replaced_done false size status is done = absurd (cc is)

replaced_old_by : (size : ℕ) (status : Status) → replaced_by false size status ≡ 0
replaced_old_by size statuses.Done = refl
replaced_old_by size statuses.SomeRefused = refl
replaced_old_by size statuses.Usage = refl
replaced_old_by size statuses.BadJournal = refl
replaced_old_by size statuses.NoFile = refl
replaced_old_by size statuses.Rejected = refl
replaced_old_by size statuses.StoreReadFault = refl
replaced_old_by size statuses.StoreWriteFault = refl
replaced_old_by size statuses.OutputFault = refl
replaced_old_by size statuses.NoMemory = refl
replaced_old_by size statuses.ScriptFault = refl
replaced_old_by size statuses.ScriptTooLong = refl

pub replaced_old : (new : Bool) (size : ℕ) (status : Status) → new ≡ false → replaced_by new size status ≡ 0
replaced_old true size status is = absurd (cc is)
replaced_old false size status is = replaced_old_by size status

pub replaced_not_done : (new : Bool) (size : ℕ) (status : Status) → (IsDone status → ⊥) → replaced_by new size status ≡ 0
replaced_not_done new size statuses.Done not_so = absurd (not_so tt)
replaced_not_done new size statuses.SomeRefused not_so = absurd (not_so tt)
replaced_not_done true size statuses.Usage not_so = refl
replaced_not_done true size statuses.BadJournal not_so = refl
replaced_not_done true size statuses.NoFile not_so = refl
replaced_not_done true size statuses.Rejected not_so = refl
replaced_not_done true size statuses.StoreReadFault not_so = refl
replaced_not_done true size statuses.StoreWriteFault not_so = refl
replaced_not_done true size statuses.OutputFault not_so = refl
replaced_not_done true size statuses.NoMemory not_so = refl
replaced_not_done true size statuses.ScriptFault not_so = refl
replaced_not_done true size statuses.ScriptTooLong not_so = refl
replaced_not_done false size status not_so = replaced_old_by size status

-- the file that was found or made has as many bytes as the one under the name
found_size : (under held : Option (List ℕ)) (size : ℕ) → held ≡ found_or_made true under → Some size ≡ option_map (λ (l : List ℕ). length l) held → size ≡ length (file_in under)
found_size under None size is found = absurd (cc found)
found_size None (Some bytes) size is found =
    let empty : bytes ≡ [] = cc is in
    let long : size ≡ length bytes = cc found in
    long ∙ ap (λ (l : List ℕ). length l) empty
found_size (Some old) (Some bytes) size is found =
    let same : bytes ≡ old = cc is in
    let long : size ≡ length bytes = cc found in
    long ∙ ap (λ (l : List ℕ). length l) same

replaced_in : (new no_save : Bool) (under held : Option (List ℕ)) (size : ℕ) (status : Status) → (new ≡ true → no_save ≡ false) → held ≡ found_or_made new under → Some size ≡ option_map (λ (l : List ℕ). length l) held
    → replaced_by new size status ≡ replaced_by (new && not no_save) (length (file_in under)) status
replaced_in true no_save under held size status saves is found =
    (λ i. replaced_by true (found_size under held size is found i) status) ∙ (λ i. replaced_by (not (sym (saves refl) i)) (length (file_in under)) status)
replaced_in false no_save under held size status saves is found = replaced_old_by size status ∙ sym (replaced_old_by (length (file_in under)) status)

pub replaced_found : (new no_save : Bool) (name : List ℕ) (files : Option (List (List ℕ × List ℕ))) (held : Option (List ℕ)) (size : ℕ) (status : Status) → (new ≡ true → no_save ≡ false) → IfSome files (λ fs. held ≡ found_or_made new (lookup name fs))
    → Some size ≡ option_map (λ (l : List ℕ). length l) held → IfSome files (λ fs. replaced_by new size status ≡ replaced_by (new && not no_save) (length (file_in (lookup name fs))) status)
replaced_found new no_save name None held size status saves known found = tt
replaced_found new no_save name (Some fs) held size status saves known found = replaced_in new no_save (lookup name fs) held size status saves known found

-- where nothing is noted
pub none_replaced : (files : Option (List (List ℕ × List ℕ))) (name : List ℕ) (new : Bool) (replaced : ℕ) (status : Status) → replaced ≡ 0 → ((size : ℕ) → replaced_by new size status ≡ 0) → IfSome files (λ fs. replaced ≡ replaced_by new (length (file_in (lookup name fs))) status)
none_replaced None name new replaced status is none = tt
none_replaced (Some fs) name new replaced status is none = is ∙ sym (none (length (file_in (lookup name fs))))
