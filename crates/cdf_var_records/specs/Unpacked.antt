-- The plain bytes that are kept of the packed block that was read last (own).
use Rattle.std.specs.Prelude.{◌≡◌, ℕ, List, IfSome}
use Rattle.cdf_format.specs.Stored.{packed_bytes}
use Rattle.cdf_model.specs.RunLengths.{plain_of}
use Rattle.cdf_var_records.specs.declared.unpacked.Unpacked.{Unpacked}

-- what is kept are the plain bytes of that block of an image
abbrev pub IsUnpacked : List ℕ → Unpacked → Type 0
IsUnpacked b unpacked = IfSome unpacked.block (λ block. block.plain.items ≡ plain_of (packed_bytes b block.at))
