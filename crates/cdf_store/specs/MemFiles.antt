-- What a store in memory holds.
use Rattle.std.specs.Prelude.{ℕ, List}
use Rattle.std.specs.declared.option.Option.{Option}
use Rattle.cdf_store.specs.declared.mem_files.MemFiles.{MemFiles}
use Rattle.cdf_store.specs.MemFile.{entries, held_at, name_at, room_at}

-- its files, the bytes and the name of the attached one, and the bytes for which that one has room
abbrev pub entries_of : MemFiles → List (List ℕ × List ℕ)
entries_of files = entries files.list.items

abbrev pub held_of : MemFiles → Option (List ℕ)
held_of files = held_at files.list.items files.attached

abbrev pub name_of : MemFiles → Option (List ℕ)
name_of files = name_at files.list.items files.attached

abbrev pub room_of : MemFiles → ℕ
room_of files = room_at files.list.items files.attached
