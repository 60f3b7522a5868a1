-- The attached file of the real files, as it stands in memory.
use Rattle.std.specs.Prelude.{◌≡◌, ℕ, is_some, refl, List, Some, None, string_bytes}
use Rattle.std.specs.Option.{option_map, option_map_or}
use Rattle.std.specs.declared.option.Option.{Option}
use Rattle.cdf_store.specs.declared.file_store.held_file.HeldFile.{HeldFile}

-- its bytes and its name, where there is one, and the bytes for which it has room
abbrev pub bytes_in : Option HeldFile → Option (List ℕ)
bytes_in file = option_map (λ f. f.pieces.bytes) file

abbrev pub name_in : Option HeldFile → Option (List ℕ)
name_in file = option_map (λ f. string_bytes f.name) file

abbrev pub room_in : Option HeldFile → ℕ
room_in file = option_map_or (λ f. f.pieces.room) file 0

-- a file has a name and bytes, or there is none
pub same_is_some : (file : Option HeldFile) → is_some (name_in file) ≡ is_some (bytes_in file)
same_is_some None = refl
same_is_some (Some file) = refl
