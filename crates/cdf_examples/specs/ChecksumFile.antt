-- The new file with a checksum in use.
use Rattle.std.specs.Prelude.{ℕ, List, [], ◌∷◌, true}
use Rattle.cdf_model.specs.DataSet.{DataSet}
use Rattle.cdf_examples.specs.Building.{◌⧺◌, magic, new_cdr, cdr, new_gdr, gdr}
use Rattle.cdf_examples.specs.NewFile.{new_data_set}

unfoldable pub checksum_image : List ℕ
checksum_image = magic ⧺ cdr (record new_cdr { flags = 15 }) ⧺ gdr new_gdr

abbrev pub checksum_data_set : DataSet
checksum_data_set = record new_data_set { md5 = true }

-- the MD5 of its 404 bytes
abbrev pub checksum_digest : List ℕ
checksum_digest = 0xcb ∷ 0x34 ∷ 0x28 ∷ 0x6b ∷ 0xea ∷ 0xd2 ∷ 0x73 ∷ 0x98 ∷ 0x21 ∷ 0xd5 ∷ 0x43 ∷ 0x10 ∷ 0x5d ∷ 0xce ∷ 0xbc ∷ 0x18 ∷ []
