-- The rows that clap finds: one for each argument that was used, and at the end one for each flag that was not.
use Rattle.cdf_words.proofs.Common.{List, None, Option, Row, Rule, Some, Text, [], ap, bytes_eq, bytes_eq-same, cases_Bool, codes, false, filled, find, flag_rule, fold, has_row, inl, inr, is_some, map, or_parts, reading_by, refl, same_of_bytes_eq, sym, true, with_default, with_values, without, ◌∙◌, ◌∷◌, ◌≡◌}
use Rattle.std.proofs.Common.{if◌then◌else◌}
use Rattle.clap.specs.declared.parser.matches.ValueSource.TheVariants.{CommandLine, DefaultValue}
use Rattle.clap.specs.declared.parser.matches.ValueSource.{ValueSource}
use Rattle.clap.specs.declared.builder.value_parser.Reading.{Reading}

abbrev pub flag_arg : Text → Rule
flag_arg name = filled (flag_rule name)

abbrev pub yes : List Text
yes = codes "true" ∷ []

-- the row of an argument
abbrev pub at : Text → List Row → Option Row
at id rows = find (λ r. bytes_eq r.id id) rows

pub has_at : (id : Text) (rows : List Row) → has_row id rows ≡ is_some (at id rows)
has_at id [] = refl
has_at id (r ∷ rs) = elim (cases_Bool (bytes_eq r.id id)) [
  | inl same ↦ rw same refl
  | inr other ↦ rw other (has_at id rs)
]

pub has_none : (id : Text) (rows : List Row) → at id rows ≡ None → has_row id rows ≡ false
has_none id rows none = has_at id rows ∙ ap is_some none

pub has_some : (id : Text) (rows : List Row) (r : Row) → at id rows ≡ Some r → has_row id rows ≡ true
has_some id rows r some = has_at id rows ∙ ap is_some some

-- ---- one more row

-- the row that values add where there was none
abbrev row_with : Text → Reading → ValueSource → List Text → Row
row_with id how from values = record { id = id; values = values; count = None; source = Some from; reading = how }

at_values_same : (id : Text) (how : Reading) (from : ValueSource) (values : List Text) (rows : List Row) → has_row id rows ≡ false → at id (with_values id how from values rows) ≡ Some (row_with id how from values)
at_values_same id how from values [] none = rw (bytes_eq-same id) refl
at_values_same id how from values (r ∷ rs) none =
    let parts = or_parts (bytes_eq r.id id) (has_row id rs) none in
    rw parts.0 (rw parts.0 (at_values_same id how from values rs parts.1))

at_values_other : (id other : Text) (how : Reading) (from : ValueSource) (values : List Text) (rows : List Row) → bytes_eq id other ≡ false → has_row id rows ≡ false → at other (with_values id how from values rows) ≡ at other rows
at_values_other id other how from values [] apart none = rw apart refl
at_values_other id other how from values (r ∷ rs) apart none =
    let parts = or_parts (bytes_eq r.id id) (has_row id rs) none in
    rw parts.0 (ap (λ o. if bytes_eq r.id other then Some r else o) (at_values_other id other how from values rs apart parts.1))

-- the row of an argument that was used
abbrev pub added : Rule → List Text → Row
added a values = row_with a.id (reading_by a) CommandLine values

abbrev pub add : Rule → List Text → List Row → List Row
add a values rows = with_values a.id (reading_by a) CommandLine values (without a.id rows)

without_none : (id : Text) (rows : List Row) → has_row id rows ≡ false → without id rows ≡ rows
without_none id [] none = refl
without_none id (r ∷ rs) none =
    let parts = or_parts (bytes_eq r.id id) (has_row id rs) none in
    rw parts.0 (ap (λ l. r ∷ l) (without_none id rs parts.1))

pub at_add_same : (a : Rule) (values : List Text) (rows : List Row) → has_row a.id rows ≡ false → at a.id (add a values rows) ≡ Some (added a values)
at_add_same a values rows none = ap (λ l. at a.id (with_values a.id (reading_by a) CommandLine values l)) (without_none a.id rows none) ∙ at_values_same a.id (reading_by a) CommandLine values rows none

pub at_add_other : (a : Rule) (values : List Text) (other : Text) (rows : List Row) → bytes_eq a.id other ≡ false → has_row a.id rows ≡ false → at other (add a values rows) ≡ at other rows
at_add_other a values other rows apart none =
    ap (λ l. at other (with_values a.id (reading_by a) CommandLine values l)) (without_none a.id rows none) ∙ at_values_other a.id other (reading_by a) CommandLine values rows apart none

-- ---- the rows at the end

-- the row of a flag that was not used
abbrev pub by_default : Rule → Row
by_default a = row_with a.id (reading_by a) DefaultValue (codes "false" ∷ [])

-- a flag gets its default only where it has no row
abbrev pub default_at : Text → Option Row → Text → Option Row
default_at id (Some r) name = Some r
default_at id None name = if bytes_eq name id then Some (by_default (flag_arg id)) else None

at_default : (id name : Text) (rows : List Row) (o : Option Row) → at id rows ≡ o → at id (with_default rows (flag_arg name)) ≡ default_at id o name
at_default id name rows (Some r) is = elim (cases_Bool (has_row name rows)) [
  | inl has ↦ rw has is
  | inr none ↦ elim (cases_Bool (bytes_eq name id)) [
    | inl same ↦ absurd (cc (sym none ∙ ap (λ n. has_row n rows) (same_of_bytes_eq name id same) ∙ has_some id rows r is))
    | inr apart ↦ rw none (at_values_other name id (reading_by (flag_arg name)) DefaultValue (codes "false" ∷ []) rows apart none ∙ is)
  ]
]
at_default id name rows None is = elim (cases_Bool (bytes_eq name id)) [
  | inl same ↦
      let is_id : name ≡ id = same_of_bytes_eq name id same in
      let none : has_row id rows ≡ false = has_none id rows is in
      ap (λ n. at id (with_default rows (flag_arg n))) is_id
      ∙ rw (none, same) (at_values_same id (reading_by (flag_arg id)) DefaultValue (codes "false" ∷ []) rows none)
  | inr apart ↦ elim (cases_Bool (has_row name rows)) [
    | inl has ↦ rw (has, apart) is
    | inr none ↦ rw (none, apart) (at_values_other name id (reading_by (flag_arg name)) DefaultValue (codes "false" ∷ []) rows apart none ∙ is)
  ]
]

-- the rows once these flags have their defaults
abbrev pub with_defaults : List Row → List Text → List Row
with_defaults rows names = fold with_default rows (map flag_arg names)

pub at_defaults : (id : Text) (names : List Text) (rows : List Row) (o : Option Row) → at id rows ≡ o → at id (with_defaults rows names) ≡ fold (default_at id) o names
at_defaults id [] rows o is = is
at_defaults id (name ∷ names) rows o is = at_defaults id names (with_default rows (flag_arg name)) (default_at id o name) (at_default id name rows o is)
