-- What a save leaves of an area.
use Rattle.cdf_pages.proofs.Common.{AllServe, Backed, Bool, Disk, HasNothingToSave, Holds, IsSavedAlready, IsSome, IsWhole, List, None, Option, Serves, Some, [], ap, append-nil, arith, byte_from, byte_of, false, file_of, get_or, image_of, is_in, is_some, length, option_map, refl, slice_index, subst, sym, take_all, ℕ, ◌*◌, ◌++◌, ◌+◌, ◌/◌, ◌<◌, ◌∙◌, ◌≡◌, ◌≤◌}
use Rattle.cdf_pages.proofs.Disks.{holds_first}
use Rattle.cdf_pages.proofs.Filling.{none_is}
use Rattle.cdf_pages.proofs.Images.{byte-image, image_file, image_size}
use Rattle.cdf_pages.proofs.SavedPage.{all_backed}

-- what is kept of a page that is no changed one serves for the saved file too
module _ (lends : Bool) (p p' : ℕ → Option (List ℕ)) (file file' : List ℕ) (n n' : ℕ) (len : n' ≡ n) (same : image_of p' file' n ≡ image_of p file n) where
  saved_page : (q : ℕ) (kept : Option (List ℕ)) → p q ≡ None → p' q ≡ None → Serves lends file n q kept → Serves lends file' n' q kept
  saved_page q kept was now serves = (
    serves.0,
    λ page is j lt low.
        let i = q * 65536 + j in
        let here : i / 65536 ≡ q = omega (arith, lt) in
        let within : i < n = omega (arith, low, len) in
        let before : byte_of p file i ≡ slice_index file i = ap (λ m. byte_from (p m) file i) here ∙ ap (λ o. byte_from o file i) was in
        let after : byte_of p' file' i ≡ slice_index file' i = ap (λ m. byte_from (p' m) file' i) here ∙ ap (λ o. byte_from o file' i) now in
        serves.1 page is j lt within ∙ sym before ∙ sym (byte-image p file n i 0 within) ∙ sym (ap (λ (l : List ℕ). get_or l i 0) same) ∙ byte-image p' file' n i 0 within ∙ after,
  )

  pub saved_serves : (clean : List (ℕ × Option (List ℕ))) → ((q : ℕ) → p q ≡ None → p' q ≡ None) → AllServe lends p file n clean → AllServe lends p' file' n' clean
  saved_serves clean less serves q kept e =
      let old = serves q kept e in
      let gone = less q old.0 in
      (gone, saved_page q kept old.0 gone old.1)

-- nothing was to be written
pub saved_whole : {U : Type 0} (d : Disk U) (p : ℕ → Option (List ℕ)) (n : ℕ) → IsWhole d → IsSome d.held → ((q : ℕ) → is_in p q ≡ false) → Backed p (length (file_of d)) n → length (file_of d) ≤ length (image_of p (file_of d) n)
    → Holds d (image_of p (file_of d) n ++ []) d
saved_whole d p n whole is unchanged backed short =
    let none : (q : ℕ) → p q ≡ None = λ q. none_is (p q) (unchanged q) in
    let long = all_backed p (length (file_of d)) n none backed in
    let same : file_of d ≡ image_of p (file_of d) n ++ [] = sym (append-nil (image_of p (file_of d) n) ∙ image_file p (file_of d) n none long ∙ take_all n (file_of d) (omega (arith, short, image_size p (file_of d) n))) in
    subst (λ (l : List ℕ). Holds d l d) same (holds_first d whole is)

-- a file that is the image needs no save
pub saved_already : (p : ℕ → Option (List ℕ)) (edited : Bool) (file image : List ℕ) (tail : Option (List ℕ)) → (edited ≡ false → (q : ℕ) → p q ≡ None) → IsSavedAlready edited file image tail → HasNothingToSave (is_in p) file image tail
saved_already p edited file image tail none h = record { unchanged = λ q. ap is_some (none h.unedited q); short = h.short; no_tail = h.no_tail }

pub no_mark : {A B : Type 0} (f : A → B) (o : Option A) → option_map f o ≡ None → o ≡ None
no_mark f None e = refl
no_mark f (Some x) e = cc
