-- What writes and cuts leave of the disk.
use Rattle.cdf_pages.proofs.Common.{Disk, Holds, IfSome, IsSome, IsWhole, List, Option, [], ap, bytes_eq, cases_Bool, cut, file_in, file_of, files_with, inl, inr, put, refl, subst, sym, take, true, written, ℕ, ◌∙◌, ◌∷◌, ◌≡◌}
use Rattle.std.proofs.Common.{eq-eqb}
use Rattle.std.specs.Prelude.{Some, None}
use Rattle.cdf_store.specs.Named.{lookup, lookup_in, with_file}

file_stays : (name bytes : List ℕ) (files : List (List ℕ × List ℕ)) → lookup name files ≡ Some bytes → with_file name bytes files ≡ files
file_stays name bytes [] e = cc e
file_stays name bytes ((other, old) ∷ files) e = elim (cases_Bool (bytes_eq other name)) [
  | inl same ↦ let is : Some old ≡ Some bytes = rw same at e in rw same (ap (λ (l : List ℕ). (other, l) ∷ files) (sym (some_is old bytes is)))
  | inr apart ↦ let rest : lookup name files ≡ Some bytes = rw apart at e in rw apart (ap (λ (l : List (List ℕ × List ℕ)). (other, old) ∷ l) (file_stays name bytes files rest))
]
  where
    some_is : (x y : List ℕ) → Some x ≡ Some y → x ≡ y
    some_is x y e = cc e

same_bytes : (xs : List ℕ) → bytes_eq xs xs ≡ true
same_bytes [] = refl
same_bytes (x ∷ xs) = rw (eq-eqb x x refl, same_bytes xs) refl

file_twice : (name one two : List ℕ) (files : List (List ℕ × List ℕ)) → with_file name two (with_file name one files) ≡ with_file name two files
file_twice name one two [] = rw (same_bytes name) refl
file_twice name one two ((other, old) ∷ files) = elim (cases_Bool (bytes_eq other name)) [
  | inl same ↦ rw (same, same) refl
  | inr apart ↦ rw (apart, apart) (ap (λ (l : List (List ℕ × List ℕ)). (other, old) ∷ l) (file_twice name one two files))
]

pub files_again : (name : Option (List ℕ)) (one two : List ℕ) (files : Option (List (List ℕ × List ℕ))) → files_with name two (files_with name one files) ≡ files_with name two files
files_again None one two files = refl
files_again (Some name) one two None = refl
files_again (Some name) one two (Some files) = ap Some (file_twice name one two files)

files_stay : (name : Option (List ℕ)) (bytes : List ℕ) (files : Option (List (List ℕ × List ℕ))) → IfSome files (λ fs. Some bytes ≡ lookup_in name fs) → files ≡ files_with name bytes files
files_stay None bytes files e = refl
files_stay (Some name) bytes None e = refl
files_stay (Some name) bytes (Some files) e = ap Some (sym (file_stays name bytes files (sym e)))

held_is : {U : Type 0} (d : Disk U) → IsSome d.held → d.held ≡ Some (file_of d)
held_is d is = some_of d.held is
  where
    some_of : (o : Option (List ℕ)) → IsSome o → o ≡ Some (file_in o)
    some_of None h = cc h
    some_of (Some bytes) h = refl

-- nothing was written yet
pub holds_first : {U : Type 0} (d : Disk U) → IsWhole d → IsSome d.held → Holds d (file_of d) d
holds_first d whole is =
    let held = held_is d is in
    record {
      held_is = held;
      files_are = files_stay d.name (file_of d) d.files (subst (λ (h : Option (List ℕ)). IfSome d.files (λ fs. h ≡ lookup_in d.name fs)) held whole.listed);
      name_stays = refl;
      only_stays = refl;
      under_stays = refl;
    }

-- one more write
pub holds_next : {U : Type 0} (d now next : Disk U) (bytes : List ℕ) (place : ℕ) (xs : List ℕ) → Holds d bytes now → next ≡ written now place xs → Holds d (put bytes place xs) next
holds_next {U = U} d now next bytes place xs h e =
    let file : file_of now ≡ bytes = ap file_in h.held_is in
    subst (λ (x : Disk U). Holds d (put bytes place xs) x) (sym e) (record {
      held_is = ap (λ (b : List ℕ). Some (put b place xs)) file;
      files_are = (λ i. files_with (h.name_stays i) (put (file i) place xs) (h.files_are i)) ∙ files_again d.name bytes (put bytes place xs) d.files;
      name_stays = h.name_stays;
      only_stays = h.only_stays;
      under_stays = h.under_stays;
    })

pub file_held : {U : Type 0} (d now : Disk U) (bytes : List ℕ) → Holds d bytes now → file_of now ≡ bytes
file_held d now bytes h = ap file_in h.held_is

pub is_held : {U : Type 0} (d now : Disk U) (bytes : List ℕ) → Holds d bytes now → IsSome now.held
is_held {U = U} d now bytes h = subst (λ (o : Option (List ℕ)). IsSome o) (sym h.held_is) refl

-- the file was cut
pub holds_cut : {U : Type 0} (d now next : Disk U) (bytes : List ℕ) (n : ℕ) → Holds d bytes now → next ≡ cut now n → Holds d (take n bytes) next
holds_cut {U = U} d now next bytes n h e =
    let file : file_of now ≡ bytes = file_held d now bytes h in
    subst (λ (x : Disk U). Holds d (take n bytes) x) (sym e) (record {
      held_is = ap (λ (l : List ℕ). Some (take n l)) file;
      files_are = (λ i. files_with (h.name_stays i) (take n (file i)) (h.files_are i)) ∙ files_again d.name bytes (take n bytes) d.files;
      name_stays = h.name_stays;
      only_stays = h.only_stays;
      under_stays = h.under_stays;
    })
