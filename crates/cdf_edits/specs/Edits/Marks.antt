-- Which bytes an edit may have changed, by the types of the records that have them (own).
use Rattle.std.specs.Prelude.{◌≡◌, ◌⊎◌, ◌≤◌, ℕ, ◌+◌, List, [], ◌∷◌, ◌++◌, Bool, true, false, not, ◌&&◌, ◌||◌, ◌==◌, nat_le}
use Rattle.cdf_edits.specs.Frame.Changed.{Touch}
use Rattle.cdf_format.specs.Chains.{is_in, next_field}
use Rattle.cdf_format.specs.Records.{Field, field, past, record_size, record_type, gdr_r_vdr_head, gdr_z_vdr_head, gdr_eof, gdr_nr_vars, gdr_r_num_dims, gdr_nz_vars, gdr_uir_head, gdr_r_dim_size, uir_next_uir, uir_prev_uir}
use Rattle.cdf_format.specs.RecordTypes.{cdr_type, gdr_type, adr_type, agr_edr_type, az_edr_type, r_vdr_type, z_vdr_type, vxr_type, vvr_type, cvvr_type, cpr_type, uir_type}
use Rattle.cdf_format.specs.Fields.{type_at, size_at}
use Rattle.cdf_format.specs.Tiles.{In}

-- all records, or some
pub data Where : Type 0 where
  Anywhere : Where
  Among : List ℕ → Where

abbrev pub Lies : Where → ℕ → Type 0
Lies Anywhere m = Unit {0}
Lies (Among ms) m = In m ms

-- bytes of records of a type
pub record Mark : Type 0 where
  pub type : ℕ
  pub tiles : Where
  pub place : ℕ
  pub width : ℕ

abbrev pub mark : ℕ → Where → Field → Mark
mark type tiles f = record { type = type; tiles = tiles; place = f.place; width = f.width }

-- of a record whose size or type may be another: nothing is said of it
abbrev pub whole : ℕ → ℕ → ℕ → Mark
whole type place size = mark type (Among (place ∷ [])) (field 0 size)

-- the bytes of a record of a type, from one place within it to another, meet no mark
abbrev pub Avoids : List Mark → ℕ → ℕ → ℕ → ℕ → Type 0
Avoids [] type m lo hi = Unit {0}
Avoids (k ∷ more) type m lo hi = (type ≡ k.type → Lies k.tiles m → (hi ≤ k.place) ⊎ (k.place + k.width ≤ lo)) × Avoids more type m lo hi

-- no mark is in this record
abbrev pub Away : List Mark → ℕ → ℕ → Type 0
Away [] type m = Unit {0}
Away (k ∷ more) type m = (type ≡ k.type → Lies k.tiles m → ⊥) × Away more type m

-- one of the fields has the bytes of a mark
abbrev pub has_mark : List Field → Mark → Bool
has_mark [] k = false
has_mark (f ∷ more) k = (nat_le f.place k.place && nat_le (k.place + k.width) (f.place + f.width)) || has_mark more k

-- the marks in this record lie in these fields
abbrev pub Within : List Mark → ℕ → ℕ → List Field → Type 0
Within [] type m fields = Unit {0}
Within (k ∷ more) type m fields = (type ≡ k.type → Lies k.tiles m → has_mark fields k ≡ true) × Within more type m fields

-- ---- decided by the types alone

abbrev pub avoided : List Mark → ℕ → ℕ → ℕ → Bool
avoided [] type lo hi = true
avoided (k ∷ more) type lo hi = (not (type == k.type) || (nat_le (k.place + k.width) lo || nat_le hi k.place)) && avoided more type lo hi

-- no mark has a byte of a field of the records of a type, or of what stands in them from one field to another
abbrev pub spared : List Mark → ℕ → Field → Bool
spared marks type f = avoided marks type f.place (past f)

abbrev pub all_spared : List Mark → ℕ → Field → Field → Bool
all_spared marks type first last = avoided marks type first.place (past last)

abbrev pub ended : List Mark → ℕ → ℕ → Bool
ended [] type lo = true
ended (k ∷ more) type lo = (not (type == k.type) || nat_le (k.place + k.width) lo) && ended more type lo

abbrev pub unmarked : List Mark → ℕ → Bool
unmarked [] type = true
unmarked (k ∷ more) type = not (type == k.type) && unmarked more type

abbrev pub within : List Mark → ℕ → List Field → Bool
within [] type fields = true
within (k ∷ more) type fields = (not (type == k.type) || has_mark fields k) && within more type fields

-- no mark is of these types
abbrev pub all_unmarked : List Mark → List ℕ → Bool
all_unmarked marks [] = true
all_unmarked marks (type ∷ more) = unmarked marks type && all_unmarked marks more

-- marks of these types are in these records alone
abbrev pub Confined : List Mark → List ℕ → List ℕ → Type 0
Confined [] types own = Unit {0}
Confined (k ∷ more) types own = ((is_in k.type types ≡ false) ⊎ ((m : ℕ) → Lies k.tiles m → In m own)) × Confined more types own

abbrev pub attribute_types : List ℕ
attribute_types = adr_type ∷ agr_edr_type ∷ az_edr_type ∷ []

abbrev pub variable_types : List ℕ
variable_types = r_vdr_type ∷ z_vdr_type ∷ vxr_type ∷ vvr_type ∷ cvvr_type ∷ cpr_type ∷ []

abbrev pub index_types : List ℕ
index_types = vxr_type ∷ vvr_type ∷ cvvr_type ∷ cpr_type ∷ []

-- all variables, but for the links from one to the next
abbrev pub keeps_index_records : List Mark → Bool
keeps_index_records marks = all_unmarked marks index_types && ((all_spared marks r_vdr_type record_size record_type && ended marks r_vdr_type (past next_field)) && (all_spared marks z_vdr_type record_size record_type && ended marks z_vdr_type (past next_field)))

-- what others are read by in the CDR and the GDR
abbrev pub keeps_file : List Mark → Bool
keeps_file marks = unmarked marks cdr_type && (all_spared marks gdr_type record_size record_type && (spared marks gdr_type gdr_r_num_dims && ended marks gdr_type (gdr_r_dim_size 0).place))

-- all variables, their chains and their counts
abbrev pub keeps_variables : List Mark → Bool
keeps_variables marks = all_unmarked marks variable_types && ((spared marks gdr_type gdr_r_vdr_head && spared marks gdr_type gdr_z_vdr_head) && (spared marks gdr_type gdr_nr_vars && spared marks gdr_type gdr_nz_vars))

-- all attributes, but for the links from one to the next
abbrev pub keeps_attributes : List Mark → Bool
keeps_attributes marks = all_unmarked marks (agr_edr_type ∷ az_edr_type ∷ []) && (all_spared marks adr_type record_size record_type && ended marks adr_type (past next_field))

-- ---- touches

-- a mark has the bytes of a touch
pub record Covers (b : List ℕ) (k : Mark) (t : Touch) : Type 0 where
  pub typed : type_at b t.tile ≡ k.type
  pub lies : Lies k.tiles t.tile
  pub low : k.place ≤ t.place
  pub high : t.place + t.width ≤ k.place + k.width

abbrev pub Covered : List ℕ → List Mark → Touch → Type 0
Covered b [] t = ⊥
Covered b (k ∷ more) t = Covers b k t ⊎ Covered b more t

-- it lies in a record that stays one, which may have another type where it is reborn
pub record Marked (b old : List ℕ) (marks : List Mark) (reborn : List ℕ) (t : Touch) : Type 0 where
  pub inside : In t.tile old
  pub fits : t.place + t.width ≤ size_at b t.tile
  pub behind_size : past record_size ≤ t.place
  pub behind_type : (past record_type ≤ t.place) ⊎ In t.tile reborn
  pub covered : Covered b marks t

-- ---- the marks of the steps of a command

-- a field of one record
abbrev pub field_marks : ℕ → ℕ → Field → List Mark
field_marks type place f = mark type (Among (place ∷ [])) f ∷ []

-- a record of a list is taken, or one at the end
abbrev pub taking_marks : List ℕ → ℕ → ℕ → List Mark
taking_marks unused place need =
    mark gdr_type Anywhere gdr_eof
    ∷ mark gdr_type Anywhere gdr_uir_head
    ∷ mark uir_type (Among unused) uir_next_uir
    ∷ mark uir_type (Among unused) uir_prev_uir
    ∷ whole uir_type place need
    ∷ []

-- a record of this type and size is freed
abbrev pub giving_marks : List ℕ → ℕ → ℕ → ℕ → List Mark
giving_marks unused type place size =
    mark gdr_type Anywhere gdr_uir_head
    ∷ mark uir_type (Among unused) uir_prev_uir
    ∷ whole type place size
    ∷ []

-- a record is linked behind the last one of a chain whose head a record of a type has
abbrev pub append_marks : ℕ → ℕ → Field → ℕ → ℕ → List ℕ → List Mark
append_marks holder_type holder head type place members = mark holder_type (Among (holder ∷ [])) head ∷ mark type (Among (place ∷ members)) next_field ∷ []

-- a member of a chain goes
abbrev pub removing_marks : ℕ → ℕ → Field → ℕ → List ℕ → List Mark
removing_marks holder_type holder head type members = mark holder_type (Among (holder ∷ [])) head ∷ mark type (Among members) next_field ∷ []

-- another record takes the place of a member of a chain
abbrev pub replacing_marks : ℕ → ℕ → Field → ℕ → ℕ → List ℕ → List Mark
replacing_marks holder_type holder head type by members = removing_marks holder_type holder head type (by ∷ members)

-- a record of this size is taken and written anew, and then come other marks
abbrev pub making_marks : List ℕ → ℕ → ℕ → List Mark → List Mark
making_marks unused place need late = (taking_marks unused place need ++ whole uir_type place need ∷ []) ++ late

-- marks that leave the unused list, the end of the image, and the sizes and types of the GDR and of records of a type
abbrev pub is_late : List Mark → ℕ → Bool
is_late late type = (unmarked late uir_type && all_spared late type record_size record_type) && (all_spared late gdr_type record_size record_type && (spared late gdr_type gdr_eof && spared late gdr_type gdr_uir_head))
