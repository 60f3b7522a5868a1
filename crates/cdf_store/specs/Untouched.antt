-- When the attached file may be written.
use Rattle.std.specs.Prelude.{◌≡◌, ◌≢◌, None}
use Rattle.cdf_store.specs.declared.file_store.comparison.Comparison.TheVariants.{Same, Changed}
use Rattle.cdf_store.specs.declared.file_store.system_file.SystemFile.{SystemFile}

-- it was opened for writing, and was not found to be changed
abbrev pub IsWritable : {F : Type 0} → SystemFile F → Type 0
IsWritable file = (file.refusal ≡ None) × (file.comparison ≢ Changed)

-- it was opened for writing, and was found to be as it stood
abbrev pub MayBeWritten : {F : Type 0} → SystemFile F → Type 0
MayBeWritten file = (file.refusal ≡ None) × (file.comparison ≡ Same)
