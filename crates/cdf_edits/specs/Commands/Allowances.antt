-- What a command may change of the records that an image has, by their owners (own). The page of each family of commands says it with these words.
use Rattle.std.specs.Prelude.{◌≡◌, ◌⊎◌, ◌<◌, ◌≤◌, ℕ, ◌+◌, List, [], ◌∷◌, Bool, true, false, ◌&&◌, ◌==◌, nat_lt, nat_le, find, if◌then◌else◌, Some, None}
use Rattle.std.specs.declared.option.Option.{Option}
use Rattle.std.specs.List.{list_any, slice_get}
use Rattle.cdf_model.specs.declared.kinds.Kind.{Kind}
use Rattle.cdf_model.specs.declared.kinds.Kind.TheVariants as kinds
use Rattle.cdf_model.specs.DataSet.{DataSet}
use Rattle.cdf_model.specs.Names.{Found, variable_named}
use Rattle.cdf_edits.specs.Index.Blocks.{Range, range}
use Rattle.cdf_edits.specs.Space.Acts.{Act, Took, Gave, taken, links_end, lies_in_taken}
use Rattle.cdf_format.specs.Bytes.{byte}
use Rattle.cdf_format.specs.Chains.{is_in}
use Rattle.cdf_format.specs.Fields.{number, size_at, type_at}
use Rattle.cdf_format.specs.Index.{leaves_of}
use Rattle.cdf_format.specs.Owners.{Owner, File, OneAttribute, OneVariable, Unused, unused_records}
use Rattle.cdf_format.specs.Records.{Field, cdr_place, gdr_eof, gdr_r_max_rec, gdr_uir_head, uir_next_uir, uir_prev_uir}
use Rattle.cdf_format.specs.RecordTypes.{r_vdr_type, z_vdr_type, vxr_type}
use Rattle.cdf_format.specs.Shape.{Shape, VariableShape, Each, shape}
use Rattle.cdf_format.specs.Tiles.{In}

-- ---- of one record

-- the record may go, or it stays in its place but for these fields
pub data Allowance : Type 0 where
  Anything : Allowance
  Only : List Field → Allowance

abbrev pub OutsideFields : List Field → ℕ → Type 0
OutsideFields [] i = Unit {0}
OutsideFields (f ∷ more) i = ((i < f.place) ⊎ (f.place + f.width ≤ i)) × OutsideFields more i

-- a record stays in its place but for these fields
pub record Stays (b now : List ℕ) (place : ℕ) (fields : List Field) : Type 0 where
  pub stands : In place (shape now).records
  pub size_is : size_at now place ≡ size_at b place
  pub same : (i : ℕ) → i < size_at b place → OutsideFields fields i → byte now (place + i) ≡ byte b (place + i)

abbrev pub Keeps : List ℕ → List ℕ → ℕ → Allowance → Type 0
Keeps b now place Anything = Unit {0}
Keeps b now place (Only fields) = Stays b now place fields

-- only a record of this type has these fields
abbrev pub only_of : List ℕ → ℕ → ℕ → List Field → Allowance
only_of b place type fields = if type_at b place == type then Only fields else Only []

-- ---- of the records of each owner

-- of the CDR and the GDR; of the record at a place that an attribute has, by its number; and of one that a variable has, by its kind and number
pub record Allowances : Type 0 where
  pub cdr : Allowance
  pub gdr : Allowance
  pub attributes : ℕ → ℕ → Allowance
  pub variables : Kind → ℕ → ℕ → Allowance

-- everything stays
abbrev pub stays_all : Allowances
stays_all = record { cdr = Only []; gdr = Only []; attributes = λ n place. Only []; variables = λ kind n place. Only [] }

-- where a command takes or frees a record: the head of the unused list and eof
abbrev pub space_fields : List Field
space_fields = gdr_uir_head ∷ gdr_eof ∷ []

-- one of these places lies in a record
abbrev pub is_taken : List ℕ → List Act → ℕ → Bool
is_taken b acts place = list_any (λ take. nat_le place take.0 && nat_lt take.0 (place + size_at b place)) (taken acts)

-- A listed unused record that was not taken changes at most its links, and an unlisted one stays.
abbrev pub unused_allowance : List ℕ → Shape → List Act → ℕ → Allowance
unused_allowance b s acts place = if is_in place s.unused then (if is_taken b acts place then Anything else Only (uir_next_uir ∷ uir_prev_uir ∷ [])) else Only []

-- of the record at a place, which this owner has
abbrev pub allowance : List ℕ → Shape → Allowances → List Act → ℕ → Owner → Allowance
allowance b s allowances acts place File = if place == cdr_place then allowances.cdr else allowances.gdr
allowance b s allowances acts place (OneAttribute n) = allowances.attributes n place
allowance b s allowances acts place (OneVariable kind n) = allowances.variables kind n place
allowance b s allowances acts place Unused = unused_allowance b s acts place

-- all records that an image has keep what they have to
abbrev pub AllKeep : List ℕ → List ℕ → Allowances → List Act → List (ℕ × Owner) → Type 0
AllKeep b now allowances acts [] = Unit {0}
AllKeep b now allowances acts ((place, owner) ∷ more) = Keeps b now place (allowance b (shape b) allowances acts place owner) × AllKeep b now allowances acts more

-- a listed record that is not taken changes in its links alone
abbrev pub ListedStay : List ℕ → List ℕ → List Act → Type 0
ListedStay b now acts = (m : ℕ) → In m (shape b).unused → is_taken b acts m ≡ false → Stays b now m (uir_next_uir ∷ uir_prev_uir ∷ [])

-- ---- of a record that is freed

-- the part of an unused record behind its links that lies in the record of this place and size, and in none that acts took, but for these fields of that
abbrev pub FreedStays : List ℕ → List ℕ → List Act → ℕ → ℕ → List Field → ℕ → Type 0
FreedStays b now acts place size fields uir =
    (i : ℕ) → i < size → uir + links_end (size_at now uir) ≤ place + i → place + i < uir + size_at now uir → OutsideFields fields i → lies_in_taken acts (place + i) ≡ false → byte now (place + i) ≡ byte b (place + i)

-- What some of these acts free, and none of them takes, keeps its bytes behind the links of an unused record, but for these fields of a record of its type.
abbrev pub GivenStay : List ℕ → List ℕ → (ℕ → List Field) → List Act → List Act → Type 0
GivenStay b now but acts [] = Unit {0}
GivenStay b now but acts (Took place need ∷ more) = GivenStay b now but acts more
GivenStay b now but acts (Gave place size ∷ more) = Each (FreedStays b now acts place size (but (type_at b place))) (unused_records now (shape now)) × GivenStay b now but acts more

-- likewise of all that acts free
abbrev pub FreedStay : List ℕ → List ℕ → (ℕ → List Field) → List Act → Type 0
FreedStay b now but acts = GivenStay b now but acts acts

-- a command may empty a record before it is freed: these fields are as they were, or hold these numbers
abbrev pub StaysOrSays : List ℕ → List ℕ → ℕ → List (Field × ℕ) → Type 0
StaysOrSays b now place [] = Unit {0}
StaysOrSays b now place ((f, n) ∷ more) = ((number now place f ≡ number b place f) ⊎ (number now place f ≡ n)) × StaysOrSays b now place more

abbrev pub no_fields : ℕ → List Field
no_fields type = []

-- ---- of variables

abbrev pub vdr_type : Kind → ℕ
vdr_type kinds.R = r_vdr_type
vdr_type kinds.Z = z_vdr_type

abbrev pub same_kind : Kind → Kind → Bool
same_kind kinds.R kinds.R = true
same_kind kinds.Z kinds.Z = true
same_kind kind other = false

abbrev pub shapes_of : Shape → Kind → List VariableShape
shapes_of s kinds.R = s.r_variables
shapes_of s kinds.Z = s.z_variables

-- rMaxRec speaks of r variables
abbrev pub r_max_rec_field : Kind → List Field
r_max_rec_field kinds.R = gdr_r_max_rec ∷ []
r_max_rec_field kinds.Z = []

-- of the records of one variable: its VDR, the nodes of its index, a block by the records that it holds, and its CPR
pub record OwnAllowances : Type 0 where
  pub vdr : Allowance
  pub nodes : Allowance
  pub blocks : Range → Allowance
  pub cpr : Allowance

abbrev pub stays_own : OwnAllowances
stays_own = record { vdr = Only []; nodes = Only []; blocks = λ r. Only []; cpr = Only [] }

-- a block of which a command writes or cuts a record may go
abbrev pub anything_if : Bool → Allowance
anything_if true = Anything
anything_if false = Only []

-- the records that a block of the variable holds, if one stands there
abbrev pub range_at : Shape → Found → ℕ → Option Range
range_at s found place = elim (slice_get (shapes_of s found.kind) found.number) [
  | None ↦ None
  | Some v ↦ elim (find (λ leaf. leaf.place == place) (leaves_of v.index)) [ None ↦ None | Some leaf ↦ Some (range leaf.first leaf.last) ]
]

abbrev pub own_allowance : List ℕ → Shape → Found → OwnAllowances → ℕ → Allowance
own_allowance b s found own place = elim (range_at s found place) [
  | Some r ↦ own.blocks r
  | None ↦ if type_at b place == vdr_type found.kind then own.vdr else (if type_at b place == vxr_type then own.nodes else own.cpr)
]

-- of the variable that is found, and of the VDRs of the others of its kind
abbrev pub of_variable : List ℕ → Shape → Found → OwnAllowances → List Field → Kind → ℕ → ℕ → Allowance
of_variable b s found own others kind n place =
    if same_kind found.kind kind then (if found.number == n then own_allowance b s found own place else only_of b place (vdr_type kind) others) else Only []

-- of a command that names a variable
abbrev pub of_named : DataSet → List ℕ → (Found → Allowances) → Allowances
of_named d name allowances = elim (variable_named d name) [ None ↦ stays_all | Some found ↦ allowances found ]
