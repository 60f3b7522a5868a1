-- What `setup` and `checksum` do (CDF Internal Format Description, "CDF Descriptor Record": Flags, "Global Descriptor Record").
use Rattle.std.specs.Prelude.{◌≡◌, ◌≢◌, ℕ, List, [], ◌∷◌, length, Bool, if◌then◌else◌}
use Rattle.cdf_model.specs.declared.head.Majority.{Majority}
use Rattle.cdf_model.specs.declared.head.Majority.TheVariants.{Row, Column}
use Rattle.cdf_edits.specs.Commands.Allowances.{FreedStay, StaysOrSays, Allowances, Anything, Only, stays_all, space_fields}
use Rattle.cdf_edits.specs.Commands.NewRecords.{with_bits, AreSameFields, MovesForRoom, moved_for_room}
use Rattle.cdf_edits.specs.Space.Acts.{Act}
use Rattle.cdf_format.specs.Chains.{next_of}
use Rattle.cdf_format.specs.Fields.{flags, gdr_offset}
use Rattle.cdf_format.specs.Records.{Field, cdr_encoding, cdr_flags, cdr_majority_bit, cdr_checksum_bit, gdr_bytes, cdr_gdr_offset, gdr_eof, gdr_uir_head, gdr_r_max_rec, gdr_rfu_c, gdr_leap_second_last_updated, gdr_rfu_e}

-- ---- `setup`: the GDR may move; the record for the new one is taken while the old one is still in use

abbrev pub setup_changes : Allowances
setup_changes = record stays_all { cdr = Only (cdr_encoding ∷ cdr_flags ∷ cdr_gdr_offset ∷ []); gdr = Anything }

-- what the bit of Flags is for the majority
abbrev pub majority_bit : Majority → ℕ
majority_bit Row = 1
majority_bit Column = 0

abbrev pub gdr_end : List ℕ → ℕ
gdr_end dims = gdr_bytes (length dims)

-- while the old one is in use, the taking writes its UIRhead and eof: the first record of the list then is the one behind it in the end
abbrev pub space_taken : List ℕ → ℕ → List (Field × ℕ)
space_taken now gdr = (gdr_uir_head, next_of now gdr) ∷ (gdr_eof, length now) ∷ []

pub record SetsUp (b now : List ℕ) (majority : Majority) (dims : List ℕ) (acts : List Act) : Type 0 where
  pub acts_are : acts ≡ moved_for_room b (gdr_offset b) (gdr_offset now) (gdr_end dims)
  pub flags_are : flags now ≡ with_bits (flags b) cdr_majority_bit 1 (majority_bit majority)
  pub fields_stay : AreSameFields b (gdr_offset b) now (gdr_offset now) (gdr_r_max_rec ∷ gdr_rfu_c ∷ gdr_leap_second_last_updated ∷ gdr_rfu_e ∷ [])
  pub room : MovesForRoom b now (gdr_offset b) (gdr_offset now) (gdr_end dims)
  pub freed : FreedStay b now (λ type. space_fields) acts
  pub emptied : gdr_offset now ≢ gdr_offset b → StaysOrSays b now (gdr_offset b) (space_taken now (gdr_offset b))

-- ---- `checksum`: two bits of Flags, one after the other, say that there is one, and that it is MD5

abbrev pub checksum_changes : Allowances
checksum_changes = record stays_all { cdr = Only (cdr_flags ∷ []) }

pub record SetsChecksum (b now : List ℕ) (md5 : Bool) (acts : List Act) : Type 0 where
  pub acts_are : acts ≡ []
  pub flags_are : flags now ≡ with_bits (flags b) cdr_checksum_bit 2 (if md5 then 3 else 0)
