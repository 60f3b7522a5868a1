-- A run over a file that is no new one.
use Rattle.cdf_tool.proofs.Common.{Asked, Attached, Bool, Disk, FilesStay, IfSome, KeptBy, List, None, Option, Some, Untouched, ap, false, files_attached, found_or_made, inr, lookup, option_map, refl, true, ℕ, ◌∙◌, ◌≡◌}
use Rattle.cdf_store.specs.Named.{with_made}

-- it is the one under the name
found_lookup : (new : Bool) (under : Option (List ℕ)) (file : List ℕ) → new ≡ false → found_or_made new under ≡ Some file → under ≡ Some file
found_lookup true under file is found = absurd (cc is)
found_lookup false None file is found = absurd (cc found)
found_lookup false (Some bytes) file is found = found

pub found_lookup_in : (new : Bool) (name file : List ℕ) (files : Option (List (List ℕ × List ℕ))) → new ≡ false → IfSome files (λ fs. found_or_made new (lookup name fs) ≡ Some file) → IfSome files (λ fs. lookup name fs ≡ Some file)
found_lookup_in new name file None is found = tt
found_lookup_in new name file (Some fs) is found = found_lookup new (lookup name fs) file is found

-- the store was called
pub kept_attached : {U : Type 0} (a : Asked) (file : List ℕ) (d d' : Disk U) (new no_save : Bool) → new ≡ false → KeptBy new no_save a file d d' → Attached a file d d'
kept_attached a file d d' true no_save is k = absurd (cc is)
kept_attached a file d d' false no_save is k = k

-- nothing was written to the file that was attached
files_found : (new : Bool) (name : List ℕ) (files files' : Option (List (List ℕ × List ℕ))) → files' ≡ files_attached new name files → FilesStay new name files files'
files_found true name files files' is = inr (is ∙ with_made_is files)
  where
    with_made_is : (fs : Option (List (List ℕ × List ℕ))) → files_attached true name fs ≡ option_map (with_made name) fs
    with_made_is None = refl
    with_made_is (Some l) = refl
files_found false name None files' is = is
files_found false name (Some fs) files' is = is

pub attached_untouched : {U : Type 0} (a : Asked) (file : List ℕ) (d at d' : Disk U) → Attached a file d at → d' ≡ at → Untouched a d d'
attached_untouched a file d at d' attached same = record {
  files = files_found a.new a.name d.files d'.files (ap (λ (x : Disk _). x.files) same ∙ attached.files);
  touched = ap (λ (x : Disk _). x.touched) same ∙ attached.touched;
}
