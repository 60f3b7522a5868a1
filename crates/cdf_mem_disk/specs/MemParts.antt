-- The parts of a disk in memory, and its name (own).
use Rattle.std.specs.Prelude.{ℕ, List, Bool, false, bytes_eq, string_bytes, vec_capacity, Some, None}
use Rattle.std.specs.declared.option.Option.{Option}
use Rattle.std.specs.declared.string.String.{String}
use Rattle.std.specs.declared.alloc.Global.{Global}
use Rattle.cdf_journal.specs.declared.disk.Part.{Part}
use Rattle.cdf_journal.specs.declared.disk.Part.TheVariants.{Main, Log}
use Rattle.cdf_mem_disk.specs.declared.mem_parts.MemParts.{MemParts}
use Rattle.cdf_journal.specs.Crashes.{Parts}

-- the parts, and for how many bytes one has room
abbrev pub parts_in : MemParts → Parts
parts_in parts = record { main = parts.main.items; log = parts.log.items }

abbrev pub room_in : MemParts → Part → ℕ
room_in parts Main = vec_capacity parts.main
room_in parts Log = vec_capacity parts.log

-- whether the one file has this name
abbrev pub is_named : Option (String Global) → List ℕ → Bool
is_named None name = false
is_named (Some own) name = bytes_eq (string_bytes own) name
