-- A device with one file, over another one beneath (own).
use Rattle.std.proofs.Common.{sym}
use Rattle.std.proofs.lemmas.Slice.Eq.{bytes_eq-Decides}
use Rattle.std.specs.Prelude.{◌≡◌, ℕ, List, [], ◌∷◌, Bool, true, false, bytes_eq, refl, None, Some}
use Rattle.std.specs.List.{IsDistinct}
use Rattle.std.specs.declared.option.Option.{Option}
use Rattle.cdf_store.specs.Disk.{Disk, IsWhole}
use Rattle.cdf_store.specs.Named.{lookup, names, with_file}

abbrev pub where_attached : {A : Type 0} → Bool → A → Option A
where_attached true value = Some value
where_attached false value = None

abbrev pub disk_with : {U : Type 0} → List ℕ → List ℕ → Bool → U → Disk U
disk_with name file attached under = record {
  held = where_attached attached file;
  name = where_attached attached name;
  files = Some ((name, file) ∷ []);
  only = Some name;
  touched = None;
  under = under;
}

same_name : (name : List ℕ) → bytes_eq name name ≡ true
same_name name = (bytes_eq-Decides name name).1 refl

one_distinct : (name file : List ℕ) → IsDistinct bytes_eq (names ((name, file) ∷ []))
unfolding IsDistinct
one_distinct name file = (tt, tt)

-- the one file is the one of its name
pub one_found : (name file : List ℕ) → lookup name ((name, file) ∷ []) ≡ Some file
one_found name file = rw (same_name name) refl

-- it gets other bytes
pub one_written : (name file bytes : List ℕ) → with_file name bytes ((name, file) ∷ []) ≡ (name, bytes) ∷ []
one_written name file bytes = rw (same_name name) refl

pub is_whole : {U : Type 0} (name file : List ℕ) (attached : Bool) (under : U) → IsWhole (disk_with name file attached under)
is_whole name file true under = record { named = refl; distinct = one_distinct name file; listed = sym (one_found name file) }
is_whole name file false under = record { named = refl; distinct = one_distinct name file; listed = refl }
