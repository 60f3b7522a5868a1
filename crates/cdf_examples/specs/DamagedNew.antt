-- Changes of the new file, and small files that break a rule.
use Rattle.std.specs.Prelude.{ℕ, List, [], ◌∷◌, codes}
use Rattle.cdf_format.specs.Records.{Field, field, cdr_flags, gdr_eof}
use Rattle.cdf_examples.specs.Building.{◌⧺◌, magic, new_cdr, cdr, new_gdr, gdr, new_adr, adr, vvr}
use Rattle.cdf_examples.specs.Damage.{Change, Number, Verdict, verdict}

abbrev pub second_magic : Field
second_magic = field 4 4

abbrev pub damaged_new : List (Change × Verdict)
damaged_new =
    (Number 0 second_magic 0xcccc0001, verdict 1 2 4)
    ∷ (Number 8 cdr_flags 1, verdict 2 5 8)
    ∷ (Number 320 gdr_eof 403, verdict 3 4 320)
    ∷ []

-- a block of no records that no index names
unfoldable pub not_owned_file : List ℕ
not_owned_file = magic ⧺ cdr new_cdr ⧺ gdr (record new_gdr { eof = 416 }) ⧺ vvr []

-- the second attribute leads back to the first
unfoldable pub circle_file : List ℕ
circle_file =
    magic ⧺ cdr new_cdr ⧺ gdr (record new_gdr { adr_head = 404; eof = 1052; num_attr = 2 })
    ⧺ adr (record (new_adr 1 (codes "A")) { next = 728 }) ⧺ adr (record (new_adr 1 (codes "B")) { num = 1; next = 404 })
