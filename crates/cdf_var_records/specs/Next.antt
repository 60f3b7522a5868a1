-- The next record that is stored, from a number on (own).
use Rattle.std.specs.Prelude.{◌≡◌, ◌≤◌, ◌<◌, ◌+◌, ℕ, List, [], ◌∷◌, Some, None, IfSome}
use Rattle.std.specs.declared.option.Option.{Option}
use Rattle.cdf_format.specs.Fields.{number}
use Rattle.cdf_format.specs.Index.{Leaf, leaves_of}
use Rattle.cdf_format.specs.Records.{vdr_vxr_head}
use Rattle.cdf_format.specs.VariableFields.{max_rec_at}
use Rattle.cdf_index.specs.Finding.{index_at}
use Rattle.cdf_index.specs.Order.{leaf_of}
use Rattle.cdf_index.specs.Sight.{seen}
use Rattle.cdf_index.specs.declared.nodes.Leaf.{Leaf as ReadLeaf}
use Rattle.cdf_model.specs.DataSet.{extent}
use Rattle.cdf_model.specs.Spots.{from_number}
use Rattle.cdf_var_records.specs.Records.{IsForm}
use Rattle.cdf_var_records.specs.declared.next.Located.{Located}
use Rattle.cdf_var_records.specs.declared.next.RecordReader.{RecordReader}
use Rattle.cdf_var_records.specs.declared.next.Stored.{Stored}
use Rattle.cdf_var_records.specs.Unpacked.{IsUnpacked}

-- the records from a number on begin with this one; or there is none
abbrev pub NextIs : ℕ → List (ℕ × List ℕ) → Option Stored → Type 0
NextIs from recs (Some next) = from_number from recs ≡ (next.num, next.bytes.items) ∷ from_number (next.num + 1) recs
NextIs from recs None = from_number from recs ≡ []

-- no leaf has a record from a number on and before an end
abbrev pub NoneIn : List Leaf → ℕ → ℕ → Type 0
NoneIn leaves from end = (k : ℕ) → from ≤ k → k < end → leaf_of k leaves ≡ None

-- the first record from a number on and before an end that a leaf has
pub record IsFirst (leaves : List Leaf) (from end : ℕ) (found : Located) : Type 0 where
  pub least : from ≤ found.num
  pub inside : found.num < end
  pub none : NoneIn leaves from found.num
  pub has : leaf_of found.num leaves ≡ Some (seen found.leaf)

abbrev pub Finds : List Leaf → ℕ → ℕ → Option Located → Type 0
Finds leaves from end (Some found) = IsFirst leaves from end found
Finds leaves from end None = NoneIn leaves from end

-- the leaves of the variable whose VDR stands at a place
abbrev pub leaves_at : List ℕ → ℕ → List Leaf
leaves_at b vdr = leaves_of (index_at b (number b vdr vdr_vxr_head))

-- a leaf that has a record
abbrev pub HasLeaf : List Leaf → ReadLeaf → Type 0
HasLeaf leaves leaf = (rec : ℕ) × (leaf_of rec leaves ≡ Some (seen leaf))

-- what a reader keeps is right of an image
pub record IsReader (b : List ℕ) (reader : RecordReader) : Type 0 where
  pub is_form : IsForm b reader.form
  pub extent_is : reader.extent ≡ extent (max_rec_at b reader.form.place.vdr)
  pub leaf_is : IfSome reader.leaf (HasLeaf (leaves_at b reader.form.place.vdr))
  pub kept : IsUnpacked b reader.unpacked
