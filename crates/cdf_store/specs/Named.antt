-- Named files: a finite map from names to bytes, as a list of pairs in which no name stands twice.
use Rattle.std.specs.Prelude.{◌≡◌, ◌⊎◌, ℕ, List, [], ◌∷◌, Bool, if◌then◌else◌, bytes_eq, is_some, map, Some, None, Ok, Err}
use Rattle.std.specs.Option.{option_map}
use Rattle.std.specs.declared.option.Option.{Option}
use Rattle.std.specs.declared.result.Result.{Result}

-- the bytes under a name
abbrev pub lookup : List ℕ → List (List ℕ × List ℕ) → Option (List ℕ)
lookup name [] = None
lookup name (file ∷ files) = if bytes_eq file.0 name then Some file.1 else lookup name files

-- the bytes under a name, where there is one
abbrev pub lookup_in : Option (List ℕ) → List (List ℕ × List ℕ) → Option (List ℕ)
lookup_in None files = None
lookup_in (Some name) files = lookup name files

-- the names
abbrev pub names : List (List ℕ × List ℕ) → List (List ℕ)
names files = map (λ file. file.0) files

-- the files with these bytes under a name, in place of those that stand there, or at the end
abbrev pub with_file : List ℕ → List ℕ → List (List ℕ × List ℕ) → List (List ℕ × List ℕ)
with_file name bytes [] = (name, bytes) ∷ []
with_file name bytes (file ∷ files) = if bytes_eq file.0 name then (file.0, bytes) ∷ files else file ∷ with_file name bytes files

-- the files with an empty file of the name, where there is none
abbrev pub with_made : List ℕ → List (List ℕ × List ℕ) → List (List ℕ × List ℕ)
with_made name files = if is_some (lookup name files) then files else with_file name [] files

-- what was looked up; where nothing was and it is to be made, an empty file
abbrev pub found_or_made : Bool → Option (List ℕ) → Option (List ℕ)
found_or_made make (Some bytes) = Some bytes
found_or_made make None = if make then Some [] else None

-- no name is fixed, or this one
abbrev pub Allows : Option (List ℕ) → List ℕ → Type 0
Allows None name = Unit {0}
Allows (Some only) name = only ≡ name

-- the files after an attaching that went well, where the device tells them
abbrev pub files_attached : Bool → List ℕ → Option (List (List ℕ × List ℕ)) → Option (List (List ℕ × List ℕ))
files_attached make name files = option_map (λ fs. if make then with_made name fs else fs) files

-- what attaching leaves of the files: after an error an absent file may have been made, or not
abbrev pub AttachesIn : {T E : Type 0} → Bool → List ℕ → Option (List (List ℕ × List ℕ)) → Option (List (List ℕ × List ℕ)) → Result T E → Type 0
AttachesIn make name old new (Ok found) = new ≡ files_attached make name old
AttachesIn make name old new (Err e) = (new ≡ old) ⊎ (new ≡ files_attached make name old)
