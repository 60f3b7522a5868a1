-- The types of internal records (CDF Internal Format Description, "Internal Records", RecordType), as numbers without a sign.
use Rattle.std.specs.Prelude.{ℕ, List, [], ◌∷◌, Bool, ◌&&◌, ◌||◌, ◌==◌, nat_le, if◌then◌else◌}

abbrev pub cdr_type : ℕ
cdr_type = 1

abbrev pub gdr_type : ℕ
gdr_type = 2

abbrev pub r_vdr_type : ℕ
r_vdr_type = 3

abbrev pub adr_type : ℕ
adr_type = 4

abbrev pub agr_edr_type : ℕ
agr_edr_type = 5

abbrev pub vxr_type : ℕ
vxr_type = 6

abbrev pub vvr_type : ℕ
vvr_type = 7

abbrev pub z_vdr_type : ℕ
z_vdr_type = 8

abbrev pub az_edr_type : ℕ
az_edr_type = 9

abbrev pub ccr_type : ℕ
ccr_type = 10

abbrev pub cpr_type : ℕ
cpr_type = 11

abbrev pub spr_type : ℕ
spr_type = 12

abbrev pub cvvr_type : ℕ
cvvr_type = 13

-- -1
abbrev pub uir_type : ℕ
uir_type = 0xffffffff

abbrev pub is_record_type : ℕ → Bool
is_record_type type = (nat_le 1 type && nat_le type 13) || (type == uir_type)

-- each type, and the bytes of the fixed part of its records. A CCR and an SPR count as 12: no owner has such a record, so rule 9.1 refuses it.
abbrev pub fixed_sizes : List (ℕ × ℕ)
fixed_sizes =
    (cdr_type, 312)
    ∷ (gdr_type, 84)
    ∷ (r_vdr_type, 340)
    ∷ (adr_type, 324)
    ∷ (agr_edr_type, 56)
    ∷ (vxr_type, 28)
    ∷ (vvr_type, 12)
    ∷ (z_vdr_type, 344)
    ∷ (az_edr_type, 56)
    ∷ (ccr_type, 12)
    ∷ (cpr_type, 24)
    ∷ (spr_type, 12)
    ∷ (cvvr_type, 24)
    ∷ (uir_type, 12)
    ∷ []

-- the size beside a number, 0 where the number is none of these
abbrev pub size_beside : ℕ → List (ℕ × ℕ) → ℕ
size_beside n [] = 0
size_beside n (pair ∷ more) = if n == pair.0 then pair.1 else size_beside n more

abbrev pub fixed_size : ℕ → ℕ
fixed_size type = size_beside type fixed_sizes
