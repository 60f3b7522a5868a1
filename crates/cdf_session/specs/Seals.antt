-- The checksum that is to stand behind an image (CDF Internal Format Description, "CDF Descriptor Record": Flags).
use Rattle.std.specs.Prelude.{ℕ, List, if◌then◌else◌, Some, None}
use Rattle.std.specs.declared.option.Option.{Option}
use Rattle.md5.specs.Md5.{md5}
use Rattle.cdf_format.specs.Sealed.{has_checksum}

-- its MD5 where Flags say that a checksum is in use, else none
abbrev pub seal_of : List ℕ → Option (List ℕ)
seal_of b = if has_checksum b then Some (md5 b) else None
