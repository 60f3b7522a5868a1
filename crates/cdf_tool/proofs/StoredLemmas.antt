-- What becomes of the store.
use Rattle.cdf_tool.proofs.Common.{Asked, Attached, Bool, Disk, EndsSaving, EndsStored, Good, Holds, HoldsBetween, IfSome, IsBetween, IsRewritten, IsSome, IsWhole, KeptBy, List, None, Ok, Option, Refusals, Replaced, Rewrites, Some, Spoiled, Status, Touches, WellFormed, [], ap, arith, bytes_eq, eq_of, false, file_in, file_of, files_attached, files_with, found_or_made, has_checksum, if◌then◌else◌, image_of, is_some, length, lookup, option_map, refl, sealed, shape, status_of, subst, sym, tail_bytes, take, touches_none, trailer_length, transport, true, was_refused, with_file, ℕ, ◌&&◌, ◌+◌, ◌-◌, ◌∙◌, ◌∷◌, ◌≡◌, ◌≤◌, trailer}
use Rattle.cdf_format.proofs.FormatKept.{keeps}
use Rattle.std.proofs.lemmas.Slice.Eq.{bytes_eq-Decides}
use Rattle.cdf_pages.proofs.Disks.{holds_first}
use Rattle.cdf_format.specs.Fields.{eof, gdr_offset, word}
use Rattle.cdf_format.proofs.FileRecords.{gdr_holds}
use Rattle.cdf_format.proofs.GoodHead.{gdr_fits}
use Rattle.cdf_format.proofs.GoodSound.{good_by_its_shape, good_eof}
use Rattle.cdf_format.proofs.ImageOf.{sealed_is_file}
use Rattle.cdf_format.proofs.Pieces.{word-piece}
use Rattle.cdf_format.proofs.SealedRules.{good_long}
use Rattle.md5.specs.Md5.{md5}
use Rattle.cdf_session.specs.Seals.{seal_of}

-- ---- files by name

bytes_eq-refl : (name : List ℕ) → bytes_eq name name ≡ true
bytes_eq-refl name = (bytes_eq-Decides name name).1 refl

with_file-twice : (name first bytes : List ℕ) (files : List (List ℕ × List ℕ)) → with_file name bytes (with_file name first files) ≡ with_file name bytes files
with_file-twice name first bytes [] = rw (bytes_eq-refl name) refl
with_file-twice name first bytes (file ∷ files) =
    let P : Bool → Type 0 = λ b. bytes_eq file.0 name ≡ b → with_file name bytes (if b then (file.0, first) ∷ files else file ∷ with_file name first files) ≡ (if b then (file.0, bytes) ∷ files else file ∷ with_file name bytes files) in
    let at : (b : Bool) → P b = λ b. elim b as P
    [ true ↦ λ same. rw same refl | false ↦ λ other. rw other (ap (λ l. file ∷ l) (with_file-twice name first bytes files)) ] in
    at (bytes_eq file.0 name) refl

-- a file that was made first is replaced all the same
with_made_file : (name bytes : List ℕ) (files : List (List ℕ × List ℕ)) (b : Bool) → with_file name bytes (if b then files else with_file name [] files) ≡ with_file name bytes files
with_made_file name bytes files true = refl
with_made_file name bytes files false = with_file-twice name [] bytes files

replaced_in : (make : Bool) (name bytes : List ℕ) (files : Option (List (List ℕ × List ℕ))) → option_map (with_file name bytes) (files_attached make name files) ≡ option_map (with_file name bytes) files
replaced_in make name bytes None = refl
replaced_in true name bytes (Some files) = ap Some (with_made_file name bytes files (is_some (lookup name files)))
replaced_in false name bytes (Some files) = refl

-- ---- the file that was attached

pub held_file : (held : Option (List ℕ)) (n : ℕ) (found : Option ℕ) → found ≡ Some n → found ≡ option_map (λ (l : List ℕ). length l) held → held ≡ Some (file_in held)
held_file None n found some is = absurd (cc (some, is))
held_file (Some bytes) n found some is = refl

pub found_file : (make : Bool) (name : List ℕ) (held : Option (List ℕ)) (file : List ℕ) (files : Option (List (List ℕ × List ℕ))) → held ≡ Some file → IfSome files (λ fs. held ≡ found_or_made make (lookup name fs)) → IfSome files (λ fs. found_or_made make (lookup name fs) ≡ Some file)
found_file make name held file None is known = tt
found_file make name held file (Some fs) is known = sym known ∙ is

module _ {U : Type 0} (new check no_save space : Bool) (name file : List ℕ) (d at d' : Disk U) where
  abbrev asked : Asked
  asked = record { new = new; check = check; no_save = no_save; space = space; name = name }

  -- nothing was written
  pub kept : (new ≡ true → no_save ≡ false) → Attached asked file d at → d' ≡ at → KeptBy new no_save asked file d d'
  kept saves attached same = kept_by new no_save saves (subst (λ (x : Disk U). Attached asked file d x) (sym same) attached)
    where
      kept_by : (n s : Bool) → (n ≡ true → s ≡ false) → Attached asked file d d' → KeptBy n s asked file d d'
      kept_by true true saves attached = absurd (cc (saves refl))
      kept_by true false saves attached = attached
      kept_by false s saves attached = attached

  -- these bytes were written over the file
  pub replaced : (bytes : List ℕ) → Attached asked file d at → Holds at bytes d' → Replaced asked file bytes d d'
  replaced bytes attached holds = record {
    found = attached.found;
    held = holds.held_is;
    name = holds.name_stays ∙ attached.name;
    files = holds.files_are ∙ (λ i. files_with (attached.name i) bytes (attached.files i)) ∙ replaced_in new name bytes d.files;
    only = holds.only_stays ∙ attached.only;
    under = holds.under_stays ∙ attached.under;
  }

  -- where only these ranges were
  pub rewritten : (end : List ℕ) → Attached asked file d at → Rewrites (file_of at) end at d' → Rewrites file end d d'
  rewritten end attached written = transport (λ i. Touches (IsRewritten (file_in (attached.held i)) end) (attached.touched i) d'.touched) written

  abbrev pub spoiled : (end : List ℕ) → no_save ≡ false → Attached asked file d at → HoldsBetween at (sealed end) d' → Rewrites (file_of at) end at d' → Spoiled asked file end d d'
  spoiled end saves attached holds written = record {
    saves = saves;
    now = holds.bytes;
    between = subst (λ (f : List ℕ). IsBetween f (sealed end) holds.bytes) (ap file_in attached.held) holds.between;
    replaced = replaced holds.bytes attached holds.holds;
    touched = rewritten end attached written;
  }

-- ---- an image as it is saved

-- its checksum stands behind it where it has one
pub seal_is : (b : List ℕ) (seal : Option (List ℕ)) → seal ≡ seal_of b → tail_bytes seal ≡ trailer b
seal_is b seal is = ap tail_bytes is ∙ bytes (has_checksum b)
  where
    bytes : (used : Bool) → tail_bytes (if used then Some (md5 b) else None) ≡ (if used then md5 b else [])
    bytes true = refl
    bytes false = refl

-- the front of a well-formed file that is good is its image
pub front_is_image : (f b : List ℕ) → WellFormed f → Good b → b ≡ take (length b) f → b ≡ image_of f
front_is_image f b holds good front =
    let n = length b in
    let long : 44 ≤ n = good_long b (shape b) (good_by_its_shape b good) in
    let fits = gdr_fits b good in
    let place : gdr_offset b ≡ gdr_offset f = ap gdr_offset front ∙ word-piece f 0 20 8 n (omega arith) in
    let from : 0 + (gdr_offset b + 36) ≡ gdr_offset b + 36 = omega arith in
    let here : eof b (gdr_offset b) ≡ eof f (gdr_offset b) = ap (λ (x : List ℕ). eof x (gdr_offset b)) front ∙ word-piece f 0 (gdr_offset b + 36) 8 n (omega arith) ∙ ap (λ (k : ℕ). word f k 8) from in
    let end : eof f (gdr_offset f) ≡ length f - trailer_length f = eq_of (eof f (gdr_offset f)) (length f - trailer_length f) (gdr_holds f (keeps f holds)).1.1.0 in
    let size : n ≡ length f - trailer_length f = sym (good_eof b good) ∙ here ∙ ap (eof f) place ∙ end in
    front ∙ ap (λ (k : ℕ). take k f) size

-- so an image that is the front of such a file is saved already
pub saved_already : {U : Type 0} (d : Disk U) (b : List ℕ) → IsWhole d → IsSome d.held → WellFormed (file_of d) → Good b → b ≡ take (length b) (file_of d) → Holds d (sealed b) d
saved_already d b whole held holds good front =
    let f = file_of d in
    let bytes : f ≡ sealed b = sym (sealed_is_file f (keeps f holds)) ∙ sym (ap sealed (front_is_image f b holds good front)) in
    subst (λ (file : List ℕ). Holds d file d) bytes (holds_first d whole held)

-- ---- an image that is saved already

none_written : {U : Type 0} (file end : List ℕ) (d d' : Disk U) → d' ≡ d → Rewrites file end d d'
none_written file end d d' same = touches_none (IsRewritten file end) d.touched d'.touched (ap (λ (x : Disk _). x.touched) same)

-- nothing was written, since that is not asked for, or the file is the image already
same_saved : {U : Type 0} (end : List ℕ) (d d' : Disk U) (refused : Bool) (status : Status) → d' ≡ d → status ≡ status_of refused → Holds d (sealed end) d → EndsSaving refused end d d' status
same_saved end d d' true status same is already = subst (λ (s : Status). EndsSaving true end d d' s) (sym is) (refl, subst (Holds d (sealed end)) (sym same) already, none_written (file_of d) end d d' same)
same_saved end d d' false status same is already = subst (λ (s : Status). EndsSaving false end d d' s) (sym is) (refl, subst (Holds d (sealed end)) (sym same) already, none_written (file_of d) end d d' same)

pub stored_same : {U : Type 0} (no_save : Bool) (end : List ℕ) (d d' : Disk U) (refusals : Refusals) (status : Status) → d' ≡ d → status ≡ status_of (was_refused refusals) → (no_save ≡ false → Holds d (sealed end) d) → EndsStored no_save end d d' (Ok refusals) status
stored_same true end d d' refusals status same is already = (is, same)
stored_same false end d d' refusals status same is already = same_saved end d d' (was_refused refusals) status same is (already refl)

-- ---- what is asked for

pub both_are : (new no_save : Bool) → (new && no_save) ≡ true → (new ≡ true) × (no_save ≡ true)
both_are true true is = (refl, refl)
both_are true false is = absurd (cc is)
both_are false no_save is = absurd (cc is)

pub saves : (new no_save : Bool) → (new && no_save) ≡ false → new ≡ true → no_save ≡ false
saves true no_save is asks = is
saves false no_save is asks = absurd (cc asks)
