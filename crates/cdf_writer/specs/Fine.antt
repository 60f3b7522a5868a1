-- What a data set is that a content may be (own).
use Rattle.std.specs.Prelude.{◌≡◌, ◌<◌, ◌≤◌, ◌⊎◌, ℕ, ℤ, pos, negsuc, suc, ◌*◌, List, [], ◌∷◌, ◌++◌, bytes_eq, false, length, map, true, is_some, FitsSigned, IfSome, ◌||◌, ◌==◌}
use Rattle.std.specs.Int.{w32}
use Rattle.std.specs.List.{list_any}
use Rattle.cdf_model.specs.DataSet.{Attribute, DataSet, Entry, Variable, extent}
use Rattle.cdf_model.specs.Encodings.{encoding_at}
use Rattle.cdf_model.specs.Limits.{dimension_limit, image_limit, record_number_limit, signed_limit}
use Rattle.cdf_model.specs.Names.{is_bad_name, variable_names}
use Rattle.cdf_model.specs.Place.{record_limit}
use Rattle.cdf_model.specs.Types.{size_of}
use Rattle.cdf_model.specs.Values.{notation_of}
use Rattle.cdf_model.specs.VariableSteps.{is_characters}
use Rattle.cdf_edits.specs.Index.Blocks.{record_length}
use Rattle.cdf_format.specs.Shape.{Each}
use Rattle.cdf_writer.specs.Compact.{compact}

-- the numbers rise, from a least one on
abbrev pub Rise : {A : Type 0} → ℕ → List (ℕ × A) → Type 0
Rise low [] = Unit {0}
Rise low ((n, a) ∷ more) = (low ≤ n) × Rise (suc n) more

-- no name is one of those before it
abbrev pub Differ : List (List ℕ) → List (List ℕ) → Type 0
Differ before [] = Unit {0}
Differ before (name ∷ more) = (list_any (bytes_eq name) before ≡ false) × Differ (before ++ name ∷ []) more

pub record FineEntry (num : ℕ) (entry : Entry) : Type 0 where
  pub numbered : num ≤ record_number_limit
  pub some : 1 ≤ entry.elems
  pub few : entry.elems ≤ signed_limit
  pub whole : length entry.bytes ≡ size_of entry.type * entry.elems
  pub short : length entry.bytes ≤ record_limit

abbrev pub FineEntries : List (ℕ × Entry) → Type 0
FineEntries items = Rise 0 items × Each (λ item. FineEntry item.0 item.1) items

pub record FineAttribute (a : Attribute) : Type 0 where
  pub named : is_bad_name a.name ≡ false
  pub g_fine : FineEntries a.g
  pub z_fine : FineEntries a.z

pub record FineHead (d : DataSet) : Type 0 where
  pub encoded : is_some (encoding_at d.encoding) ≡ true
  pub release_fits : FitsSigned w32 d.release
  pub increment_fits : FitsSigned w32 d.increment
  pub few_dims : length d.rdims ≤ dimension_limit
  pub sizes : Each (λ n. (1 ≤ n) × (n ≤ signed_limit)) d.rdims

pub record FineFile (d : DataSet) : Type 0 where
  pub head : FineHead d
  pub short : length (compact d) ≤ image_limit

pub record FineAttributes (d : DataSet) : Type 0 where
  pub each : Each FineAttribute d.attributes
  pub differ : Differ [] (map (λ a. a.name) d.attributes)
  pub few : length d.attributes ≤ signed_limit

-- not below 0
abbrev pub IsPos : ℤ → Type 0
IsPos (pos n) = Unit {0}
IsPos (negsuc n) = ⊥

-- a stored record of a variable has a number up to MaxRec and the bytes of its shape
pub record FineRecord (v : Variable) (num : ℕ) (bytes : List ℕ) : Type 0 where
  pub numbered : num < extent v.max_rec
  pub whole : length bytes ≡ record_length v

pub record FineVariable (v : Variable) : Type 0 where
  pub named : is_bad_name v.name ≡ false
  pub some : 1 ≤ v.elems
  pub few : v.elems ≤ signed_limit
  pub single : ((v.elems == 1) || is_characters (notation_of v.type)) ≡ true
  pub few_dims : length v.dims ≤ dimension_limit
  pub sizes : Each (λ n. (1 ≤ n) × (n ≤ signed_limit)) v.dims
  pub one_each : length v.varys ≡ length v.dims
  pub short : record_length v ≤ record_limit
  pub max_fits : FitsSigned w32 v.max_rec
  pub extent_fits : extent v.max_rec ≤ signed_limit
  pub max_low : (v.max_rec ≡ negsuc 0) ⊎ IsPos v.max_rec
  pub blocking_fits : FitsSigned w32 v.blocking
  pub padded : IfSome v.pad (λ bytes. length bytes ≡ size_of v.type * v.elems)
  pub rises : Rise 0 v.recs
  pub records : Each (λ pair. FineRecord v pair.0 pair.1) v.recs

pub record FineVariables (d : DataSet) : Type 0 where
  pub r_fine : Each FineVariable d.r_variables
  pub z_fine : Each FineVariable d.z_variables
  pub r_dims : Each (λ v. v.dims ≡ d.rdims) d.r_variables
  pub differ : Differ [] (variable_names d)
  pub r_few : length d.r_variables ≤ signed_limit
  pub z_few : length d.z_variables ≤ signed_limit

-- all of it, but how long the file is
pub record Fine (d : DataSet) : Type 0 where
  pub head : FineHead d
  pub attributes : FineAttributes d
  pub variables : FineVariables d

-- a variable that is not packed
pub record Plain (v : Variable) : Type 0 where
  pub unpacked : v.rle ≡ false

pub record PlainVariables (d : DataSet) : Type 0 where
  pub r_plain : Each Plain d.r_variables
  pub z_plain : Each Plain d.z_variables
