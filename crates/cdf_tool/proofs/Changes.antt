-- What a run wrote of the file under the name.
use Rattle.cdf_tool.proofs.Common.{Asked, Bool, Differs, Disk, EndsNamed, IfSome, IsChanged, IsDone, IsRewritten, KeptBy, List, None, Option, Outlets, Runs, Some, Status, StoredBy, Touches, ap, arith, false, file_in, found_or_made, image_of, inl, inr, length, length-append, lookup, refl, sealed, subst, sym, touches_none, touches_weaker, trailer, true, ℕ, ◌<◌, ◌∙◌, ◌≡◌, ◌≤◌, WellFormed}
use Rattle.std.proofs.Math.ListN.{get_or-append}
use Rattle.std.proofs.Math.Seq.{take-append_seam}
use Rattle.cdf_saving.specs.declared.status.Status.TheVariants as statuses
use Rattle.cdf_tool.proofs.AskedLemmas.{if_some}
use Rattle.cdf_tool.proofs.Headline.{unread_not_done, without_not_done}
use Rattle.cdf_tool.proofs.StoredLemmas.{front_is_image}
use Rattle.cdf_format.proofs.FormatKept.{keeps}

-- ---- an image as it is saved

-- a page that differs still does with a checksum behind it
differs_sealed : (file end : List ℕ) (number : ℕ) → Differs file end number → Differs file (sealed end) number
differs_sealed file end number x =
    let inside : x.at < length end = x.inside in
    record {
      at = x.at;
      here = x.here;
      inside = omega (arith, length-append end (trailer end));
      other = λ short same. x.other short (same ∙ get_or-append end (trailer end) 0 x.at inside);
    }

image_is : (end : List ℕ) → WellFormed (sealed end) → end ≡ image_of (sealed end)
image_is end good = front_is_image (sealed end) end good (keeps (sealed end) good) (sym (take-append_seam end (trailer end)))

is_changed : (file end : List ℕ) → WellFormed (sealed end) → (range : ℕ × ℕ) → IsRewritten file end range → IsChanged file (sealed end) range
is_changed file end good range (inl page) = inl (page.0, differs_sealed file end page.0 page.1, page.2)
is_changed file end good range (inr tail) = inr (subst (λ (l : List ℕ). length l ≤ range.0) (image_is end good) tail.0, tail.1)

-- ---- a run

some_same : {A : Type 0} (x y : A) → Some x ≡ Some y → x ≡ y
some_same x y e = cc e

-- the file that was found or made is the one under the name, or an empty one
found_bytes : (make : Bool) (under : Option (List ℕ)) (file : List ℕ) → found_or_made make under ≡ Some file → file ≡ file_in under
found_bytes make (Some bytes) file is = cc is
found_bytes true None file is = cc is
found_bytes false None file is = absurd (cc is)

module _ {U : Type 0} (a : Asked) (d d' : Disk U) where
  -- only such ranges were written, if those files stood there at first and this is attached by now
  abbrev pub Changes : List (List ℕ × List ℕ) → List ℕ → Type 0
  Changes fs now = Touches (IsChanged (file_in (lookup a.name fs)) now) d.touched d'.touched

  none_changed : (fs : List (List ℕ × List ℕ)) (now : List ℕ) → d'.touched ≡ d.touched → Changes fs now
  none_changed fs now same = touches_none (IsChanged (file_in (lookup a.name fs)) now) d.touched d'.touched same

  kept_changes : (new no_save : Bool) (file : List ℕ) (fs : List (List ℕ × List ℕ)) (now : List ℕ) → KeptBy new no_save a file d d' → Changes fs now
  kept_changes true true file fs now same = none_changed fs now (ap (λ (x : Disk U). x.touched) same)
  kept_changes true false file fs now k = none_changed fs now k.touched
  kept_changes false no_save file fs now k = none_changed fs now k.touched

  stored_changes : (no_save : Bool) (file end : List ℕ) (fs : List (List ℕ × List ℕ)) (now : List ℕ) → d.files ≡ Some fs → d'.held ≡ Some now → StoredBy no_save a file end d d' → Changes fs now
  stored_changes true file end fs now told held k = kept_changes a.new a.no_save file fs now k
  stored_changes false file end fs now told held (good, r, written) =
      let found : found_or_made a.new (lookup a.name fs) ≡ Some file = subst (λ (x : Option (List (List ℕ × List ℕ))). IfSome x (λ l. found_or_made a.new (lookup a.name l) ≡ Some file)) told r.found in
      let old : file ≡ file_in (lookup a.name fs) = found_bytes a.new (lookup a.name fs) file found in
      let same : sealed end ≡ now = some_same (sealed end) now (sym r.held ∙ held) in
      let over : Touches (IsChanged file (sealed end)) d.touched d'.touched = touches_weaker (IsRewritten file end) (IsChanged file (sealed end)) d.touched d'.touched (is_changed file end good) written in
      subst (λ (l : List ℕ). Touches (IsChanged (file_in (lookup a.name fs)) l) d.touched d'.touched) same
      (subst (λ (l : List ℕ). Touches (IsChanged l (sealed end)) d.touched d'.touched) old over)

  runs_changes : (file image : List ℕ) (before left : Option (List ℕ)) (first out : Outlets) (fs : List (List ℕ × List ℕ)) (now : List ℕ) → d.files ≡ Some fs → d'.held ≡ Some now → (status : Status) → IsDone status → Runs a file image d d' before left first out status → Changes fs now
  runs_changes file image before left first out fs now told held statuses.Done is r = stored_changes a.no_save file r.end fs now told held r.stored
  runs_changes file image before left first out fs now told held statuses.SomeRefused is r = stored_changes a.no_save file r.end fs now told held r.stored
  runs_changes file image before left first out fs now told held other is r = absurd is

  named_changes : (before left : Option (List ℕ)) (first out : Outlets) (status : Status) (fs : List (List ℕ × List ℕ)) (now : List ℕ) → d.files ≡ Some fs → d'.held ≡ Some now → EndsNamed a d d' before left first out status → IsDone status → Changes fs now
  named_changes before left first out status fs now told held (inl (same, w)) is = absurd (without_not_done a d.files first.written out.written status w.ends is)
  named_changes before left first out status fs now told held (inr (inl (same, u))) is = absurd (unread_not_done a.new u.file first.written out.written status u.ends is)
  named_changes before left first out status fs now told held (inr (inr r)) is = runs_changes r.file r.image before left first out fs now told held status is r.runs

  -- a run of a script
  pub run_changes : (before left : Option (List ℕ)) (first out : Outlets) (status : Status) → EndsNamed a d d' before left first out status → IfSome d.files (λ fs. IfSome d'.held (λ now. IsDone status → Changes fs now))
  run_changes before left first out status ends = in_files d.files refl
    where
      in_held : (fs : List (List ℕ × List ℕ)) → d.files ≡ Some fs → (held : Option (List ℕ)) → d'.held ≡ held → IfSome held (λ now. IsDone status → Changes fs now)
      in_held fs told None is = tt
      in_held fs told (Some now) is = named_changes before left first out status fs now told is ends

      in_files : (files : Option (List (List ℕ × List ℕ))) → d.files ≡ files → IfSome files (λ fs. IfSome d'.held (λ now. IsDone status → Changes fs now))
      in_files None told = tt
      in_files (Some fs) told = in_held fs told d'.held refl

  -- a run that wrote nothing
  pub unwritten_changes : (status : Status) → d'.touched ≡ d.touched → IfSome d.files (λ fs. IfSome d'.held (λ now. IsDone status → Changes fs now))
  unwritten_changes status same = if_some d.files (λ fs. IfSome d'.held (λ now. IsDone status → Changes fs now)) (λ fs. if_some d'.held (λ now. IsDone status → Changes fs now) (λ now is. none_changed fs now same))

-- a run that had no memory to read its words
pub unstarted_changes : {U : Type 0} (d : Disk U) (asked : Option Asked) (status : Status) → IfSome asked (λ a. IfSome d.files (λ fs. IfSome d.held (λ now. IsDone status → Changes a d d fs now)))
unstarted_changes d None status = tt
unstarted_changes d (Some a) status = unwritten_changes a d d status refl
