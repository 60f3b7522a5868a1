-- Named files as a list of pairs, and as a store in memory keeps them.
use Rattle.std.proofs.Common.{◌≡◌, ℕ, zero, suc, ◌<◌, Bool, true, false, List, [], ◌∷◌, ◌++◌, length, get_or, Option, Some, None, refl, sym, ◌∙◌, ap, ap₂, subst, arith}
use Rattle.std.proofs.Math.ListN.{set, length-set}
use Rattle.std.proofs.Math.Seq.{map-set_same}
use Rattle.std.proofs.lemmas.Slice.Eq.{bytes_eq-Decides}
use Rattle.std.proofs.lemmas.Option.{slice_get_read}
use Rattle.std.proofs.lemmas.List.{map-append}
use Rattle.std.specs.Prelude.{bytes_eq, slice_get, string_bytes, vec_capacity, is_some, if◌then◌else◌}
use Rattle.std.specs.Option.{option_map, option_map_or}
use Rattle.std.specs.List.{IsDistinct, AllByRecursion}
use Rattle.cdf_store.specs.declared.mem_files.MemFile.{MemFile}
use Rattle.cdf_store.specs.Named.{found_or_made, lookup, lookup_in, names, with_file, with_made}
use Rattle.cdf_store.specs.Disk.{file_in, files_with}
use Rattle.cdf_store.specs.MemFile.{entry, entries, file_at, held_at, name_at, room_at}

bytes_eq-refl : (name : List ℕ) → bytes_eq name name ≡ true
bytes_eq-refl name = (bytes_eq-Decides name name).1 refl

-- ---- named files

-- a name that is apart from those of the files and from one more
apart-with_file : (key name bytes : List ℕ) (files : List (List ℕ × List ℕ)) → AllByRecursion (λ y. bytes_eq key y ≡ false) (names files) → bytes_eq key name ≡ false
    → AllByRecursion (λ y. bytes_eq key y ≡ false) (names (with_file name bytes files))
apart-with_file key name bytes [] all one = (one, tt)
apart-with_file key name bytes (file ∷ files) all one =
    elim (bytes_eq file.0 name) as (λ b. AllByRecursion (λ y. bytes_eq key y ≡ false) (names (if b then (file.0, bytes) ∷ files else file ∷ with_file name bytes files)))
    [ true ↦ all | false ↦ (all.0, apart-with_file key name bytes files all.1 one) ]

pub IsDistinct-with_file : (name bytes : List ℕ) (files : List (List ℕ × List ℕ)) → IsDistinct bytes_eq (names files) → IsDistinct bytes_eq (names (with_file name bytes files))
unfolding IsDistinct
IsDistinct-with_file name bytes [] d = (tt, tt)
IsDistinct-with_file name bytes (file ∷ files) d =
    let P : Bool → Type 0 = λ b. bytes_eq file.0 name ≡ b → IsDistinct bytes_eq (names (if b then (file.0, bytes) ∷ files else file ∷ with_file name bytes files)) in
    let at : (b : Bool) → P b = λ b. elim b as P
    [ true ↦ λ _. d | false ↦ λ other. (apart-with_file file.0 name bytes files d.0 other, IsDistinct-with_file name bytes files d.1) ] in
    at (bytes_eq file.0 name) refl

-- a new file stands at the end
pub with_file-new : (name bytes : List ℕ) (files : List (List ℕ × List ℕ)) → lookup name files ≡ None → with_file name bytes files ≡ files ++ (name, bytes) ∷ []
with_file-new name bytes [] none = refl
with_file-new name bytes (file ∷ files) none =
    let P : Bool → Type 0 = λ b. (if b then Some file.1 else lookup name files) ≡ None → (if b then (file.0, bytes) ∷ files else file ∷ with_file name bytes files) ≡ file ∷ (files ++ (name, bytes) ∷ []) in
    let at : (b : Bool) → P b = λ b. elim b as P [ true ↦ λ found. cc | false ↦ λ rest. ap (λ l. file ∷ l) (with_file-new name bytes files rest) ] in
    at (bytes_eq file.0 name) none

-- what is found after an absent file was made
pub lookup-with_file : (name bytes : List ℕ) (files : List (List ℕ × List ℕ)) → lookup name (with_file name bytes files) ≡ Some bytes
lookup-with_file name bytes [] = rw (bytes_eq-refl name) refl
lookup-with_file name bytes (file ∷ files) =
    let P : Bool → Type 0 = λ b. bytes_eq file.0 name ≡ b → lookup name (if b then (file.0, bytes) ∷ files else file ∷ with_file name bytes files) ≡ Some bytes in
    let at : (b : Bool) → P b = λ b. elim b as P
    [ true ↦ λ same. rw same refl | false ↦ λ other. rw other (lookup-with_file name bytes files) ] in
    at (bytes_eq file.0 name) refl

made_or_found : (name : List ℕ) (files : List (List ℕ × List ℕ)) (found : Option (List ℕ)) → lookup name files ≡ found
    → lookup name (if is_some found then files else with_file name [] files) ≡ found_or_made true found
made_or_found name files None none = lookup-with_file name [] files
made_or_found name files (Some bytes) some = some

pub lookup_made : (name : List ℕ) (files : List (List ℕ × List ℕ)) (make : Bool) → lookup name (if make then with_made name files else files) ≡ found_or_made make (lookup name files)
lookup_made name files true = made_or_found name files (lookup name files) refl
lookup_made name files false = elim (lookup name files) as (λ found. found ≡ found_or_made false found) [ None ↦ refl | Some bytes ↦ refl ]

-- something is found where it may be made
pub made_some : (make : Bool) (found held : Option (List ℕ)) → make ≡ true → held ≡ found_or_made make found → is_some (option_map length held) ≡ true
made_some make None held asked is = rw (is, asked) refl
made_some make (Some bytes) held asked is = rw is refl

-- ---- the files of a store in memory

-- a name that differs from all differs from the one at an index
apart_at : (key name : List ℕ) (files : List MemFile) (i : ℕ) → AllByRecursion (λ y. bytes_eq key y ≡ false) (names (entries files)) → name_at files (Some i) ≡ Some name → bytes_eq key name ≡ false
apart_at key name [] i all is = cc
apart_at key name (file ∷ files) zero all is = cc
apart_at key name (file ∷ files) (suc i) all is = apart_at key name files i all.1 is

-- the file at an index is the one of its name
pub lookup_at : (files : List MemFile) (i : ℕ) (name : List ℕ) → IsDistinct bytes_eq (names (entries files)) → name_at files (Some i) ≡ Some name → lookup name (entries files) ≡ held_at files (Some i)
unfolding IsDistinct
lookup_at [] i name d is = cc
lookup_at (file ∷ files) zero name d is =
    let same : string_bytes file.name ≡ name = cc in
    let equal : bytes_eq (string_bytes file.name) name ≡ true = (bytes_eq-Decides (string_bytes file.name) name).1 same in
    rw equal refl
lookup_at (file ∷ files) (suc i) name d is =
    let other : bytes_eq (string_bytes file.name) name ≡ false = apart_at (string_bytes file.name) name files i d.0 is in
    rw other (lookup_at files i name d.1 is)

pub listed_at : (files : List MemFile) (i : ℕ) (name : List ℕ) → IsDistinct bytes_eq (names (entries files)) → name_at files (Some i) ≡ Some name → held_at files (Some i) ≡ lookup_in (name_at files (Some i)) (entries files)
listed_at files i name d named = sym (ap (λ n. lookup_in n (entries files)) named ∙ lookup_at files i name d named)

-- the file at an index gets other bytes
pub entries-set : (files : List MemFile) (i : ℕ) (name : List ℕ) (file : MemFile) → IsDistinct bytes_eq (names (entries files)) → name_at files (Some i) ≡ Some name → string_bytes file.name ≡ name
    → entries (set files i file) ≡ with_file name file.bytes.items (entries files)
unfolding IsDistinct
entries-set [] i name new d is named = cc
entries-set (file ∷ files) zero name new d is named =
    let same : string_bytes file.name ≡ name = cc in
    let equal : bytes_eq (string_bytes file.name) name ≡ true = (bytes_eq-Decides (string_bytes file.name) name).1 same in
    rw equal (ap (λ n. (n, new.bytes.items) ∷ entries files) (named ∙ sym same))
entries-set (file ∷ files) (suc i) name new d is named =
    let other : bytes_eq (string_bytes file.name) name ≡ false = apart_at (string_bytes file.name) name files i d.0 is in
    rw other (ap (λ l. entry file ∷ l) (entries-set files i name new d.1 is named))

-- ---- the attached file gets other bytes

at_set : (files : List MemFile) (i : ℕ) (file : MemFile) → i < length files → slice_get (set files i file) i ≡ Some file
at_set [] i file lt = absurd (omega arith)
at_set (x ∷ files) zero file lt = refl
at_set (x ∷ files) (suc i) file lt = at_set files i file (omega arith)

-- the attached file got others bytes, under its name
pub record Renewed (old new : List MemFile) (attached : Option ℕ) (before file : MemFile) : Type 0 where
  pub held_before : held_at old attached ≡ Some before.bytes.items
  pub held : held_at new attached ≡ Some file.bytes.items
  pub room_before : room_at old attached ≡ vec_capacity before.bytes
  pub room : room_at new attached ≡ vec_capacity file.bytes
  pub name : name_at new attached ≡ name_at old attached
  pub files : Some (entries new) ≡ files_with (name_at old attached) (file_in (held_at new attached)) (Some (entries old))
  pub in_range : (x : ℕ) → attached ≡ Some x → x < length new
  pub distinct : IsDistinct bytes_eq (names (entries new))
  pub listed : held_at new attached ≡ lookup_in (name_at new attached) (entries new)

pub renewed : (files : List MemFile) (attached : Option ℕ) (i : ℕ) (before file : MemFile) → IsDistinct bytes_eq (names (entries files)) → attached ≡ Some i → i < length files → before ≡ get_or files i before
    → string_bytes file.name ≡ string_bytes before.name → Renewed files (set files i file) attached before file
renewed files attached i before file d some lt is same =
    let new = set files i file in
    let key = string_bytes before.name in
    let was : file_at files attached ≡ Some before = rw some (slice_get_read files (length files) i before refl lt is) in
    let now : file_at new attached ≡ Some file = rw some (at_set files i file lt) in
    let was_named : name_at files attached ≡ Some key = ap (option_map (λ f. string_bytes f.name)) was in
    let named : name_at new attached ≡ Some key = ap (option_map (λ f. string_bytes f.name)) now ∙ ap Some same in
    let all : entries new ≡ with_file key file.bytes.items (entries files) = entries-set files i key file d (rw some at was_named) same in
    let apart : IsDistinct bytes_eq (names (entries new)) = subst (λ (l : List (List ℕ × List ℕ)). IsDistinct bytes_eq (names l)) (sym all) (IsDistinct-with_file key file.bytes.items (entries files) d) in
    let held_now : held_at new attached ≡ Some file.bytes.items = ap (option_map (λ f. f.bytes.items)) now in
    record {
      held_before = ap (option_map (λ f. f.bytes.items)) was;
      held = held_now;
      room_before = ap (λ o. option_map_or (λ f. vec_capacity f.bytes) o 0) was;
      room = ap (λ o. option_map_or (λ f. vec_capacity f.bytes) o 0) now;
      name = named ∙ sym was_named;
      files = ap Some all ∙ sym (ap₂ (λ (n o : Option (List ℕ)). files_with n (file_in o) (Some (entries files))) was_named held_now);
      in_range = λ x e. let it : x ≡ i = cc in rw (it, length-set) lt;
      distinct = apart;
      listed = rw some (listed_at new i key apart (rw some at named));
    }

-- a file stands at its index as it was
pub entries_same : (files : List MemFile) (i : ℕ) (before file : MemFile) → before ≡ get_or files i before → string_bytes file.name ≡ string_bytes before.name → file.bytes.items ≡ before.bytes.items
    → entries (set files i file) ≡ entries files
entries_same files i before file is same bytes = map-set_same entry files i file before (ap₂ (λ (n b : List ℕ). (n, b)) same bytes ∙ ap entry is)

-- ---- the file that was found by its name

pub found_at : (files : List MemFile) (i : ℕ) (file : MemFile) (name : List ℕ) → i < length files → file ≡ get_or files i file → bytes_eq (string_bytes file.name) name ≡ true → name_at files (Some i) ≡ Some name
found_at files i file name lt is same =
    ap (option_map (λ f. string_bytes f.name)) (slice_get_read files (length files) i file refl lt is) ∙ ap Some ((bytes_eq-Decides (string_bytes file.name) name).0 same)

-- the file at an index has these bytes
pub held_read : (files : List MemFile) (i : ℕ) (file : MemFile) → i < length files → file ≡ get_or files i file → held_at files (Some i) ≡ Some file.bytes.items
held_read files i file lt is = ap (option_map (λ f. f.bytes.items)) (slice_get_read files (length files) i file refl lt is)

pub lookup_read : (files : List MemFile) (i : ℕ) (file : MemFile) (name : List ℕ) → IsDistinct bytes_eq (names (entries files)) → name_at files (Some i) ≡ Some name → i < length files → file ≡ get_or files i file
    → lookup name (entries files) ≡ Some file.bytes.items
lookup_read files i file name d named lt is = lookup_at files i name d named ∙ held_read files i file lt is

some_held : (file : Option MemFile) (name : List ℕ) → option_map (λ f. string_bytes f.name) file ≡ Some name → is_some (option_map (λ f. f.bytes.items) file) ≡ true
some_held None name named = cc
some_held (Some file) name named = refl

-- no file is made where there is one
pub made_found : (files : List MemFile) (i : ℕ) (name : List ℕ) (make : Bool) → IsDistinct bytes_eq (names (entries files)) → name_at files (Some i) ≡ Some name
    → entries files ≡ (if make then with_made name (entries files) else entries files)
made_found files i name false d named = refl
made_found files i name true d named =
    let found : is_some (lookup name (entries files)) ≡ true = ap is_some (lookup_at files i name d named) ∙ some_held (slice_get files i) name named in
    rw found refl

-- it gets other bytes
pub put_at : (files : List MemFile) (i : ℕ) (before file : MemFile) (name : List ℕ) → IsDistinct bytes_eq (names (entries files)) → name_at files (Some i) ≡ Some name → i < length files → before ≡ get_or files i before
    → string_bytes file.name ≡ string_bytes before.name → entries (set files i file) ≡ with_file name file.bytes.items (entries files)
put_at files i before file name d named lt is same =
    let was : Some (string_bytes before.name) ≡ Some name = sym (ap (option_map (λ f. string_bytes f.name)) (slice_get_read files (length files) i before refl lt is)) ∙ named in
    let key : string_bytes before.name ≡ name = cc in
    entries-set files i name file d named (same ∙ key)

-- a file of a new name stands after the others
pub put_new : (files : List MemFile) (file : MemFile) (name : List ℕ) → lookup name (entries files) ≡ None → string_bytes file.name ≡ name → entries (files ++ file ∷ []) ≡ with_file name file.bytes.items (entries files)
put_new files file name none named =
    map-append entry files (file ∷ []) ∙ ap (λ n. entries files ++ (n, file.bytes.items) ∷ []) named ∙ sym (with_file-new name file.bytes.items (entries files) none)

-- names stay distinct where a file is added or replaced
pub distinct_put : (name bytes : List ℕ) (old new : List (List ℕ × List ℕ)) → IsDistinct bytes_eq (names old) → new ≡ with_file name bytes old → IsDistinct bytes_eq (names new)
distinct_put name bytes old new d is = subst (λ (l : List (List ℕ × List ℕ)). IsDistinct bytes_eq (names l)) (sym is) (IsDistinct-with_file name bytes old d)
