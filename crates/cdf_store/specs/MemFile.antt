-- The files of a store in memory, by their index.
use Rattle.std.specs.Prelude.{◌≡◌, ℕ, is_some, refl, List, map, Some, None, slice_get, string_bytes, vec_capacity}
use Rattle.std.specs.Option.{option_map, option_map_or}
use Rattle.std.specs.declared.option.Option.{Option}
use Rattle.cdf_store.specs.declared.mem_files.MemFile.{MemFile}

-- a file by its name and its bytes
abbrev pub entry : MemFile → List ℕ × List ℕ
entry file = (string_bytes file.name, file.bytes.items)

abbrev pub entries : List MemFile → List (List ℕ × List ℕ)
entries files = map entry files

-- the file at an index
abbrev pub file_at : List MemFile → Option ℕ → Option MemFile
file_at files None = None
file_at files (Some i) = slice_get files i

-- the bytes and the name of a file, where there is one, and the bytes for which it has room
abbrev pub bytes_in : Option MemFile → Option (List ℕ)
bytes_in file = option_map (λ f. f.bytes.items) file

abbrev pub name_in : Option MemFile → Option (List ℕ)
name_in file = option_map (λ f. string_bytes f.name) file

abbrev pub room_in : Option MemFile → ℕ
room_in file = option_map_or (λ f. vec_capacity f.bytes) file 0

-- the same of the file at an index
abbrev pub held_at : List MemFile → Option ℕ → Option (List ℕ)
held_at files index = bytes_in (file_at files index)

abbrev pub name_at : List MemFile → Option ℕ → Option (List ℕ)
name_at files index = name_in (file_at files index)

abbrev pub room_at : List MemFile → Option ℕ → ℕ
room_at files index = room_in (file_at files index)

-- a file has a name and bytes, or there is none
pub same_is_some : (file : Option MemFile) → is_some (name_in file) ≡ is_some (bytes_in file)
same_is_some None = refl
same_is_some (Some file) = refl
