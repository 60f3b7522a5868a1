-- The lengths of the real files that are a disk.
use Rattle.std.specs.Prelude.{ℕ}
use Rattle.std.specs.Option.{option_map_or}
use Rattle.std.specs.declared.option.Option.{Option}
use Rattle.cdf_journal.specs.declared.disk.Part.{Part}
use Rattle.cdf_journal.specs.declared.disk.Part.TheVariants.{Main, Log}
use Rattle.cdf_journal.specs.declared.disk_file.DiskFile.{DiskFile}

-- where there is none, it has no bytes
abbrev pub length_in : {F : Type 0} → Option (DiskFile F) → ℕ
length_in file = option_map_or (λ f. f.length) file 0

abbrev pub size_in : Part → ℕ → ℕ → ℕ
size_in Main main log = main
size_in Log main log = log
