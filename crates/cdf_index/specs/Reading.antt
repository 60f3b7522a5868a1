-- The records in blocks: those of a block that is not packed, as code reads them, and the one of a number as the variable has it.
use Rattle.std.specs.Prelude.{◌≡◌, ◌≤◌, ℕ, ◌+◌, ◌-◌, ◌*◌, List, length, take, drop, false, nat_lt, if◌then◌else◌, None}
use Rattle.std.specs.declared.option.Option.{Option}
use Rattle.std.specs.Option.{option_map}
use Rattle.cdf_model.specs.ByteOrder.{turned}
use Rattle.cdf_model.specs.DataSet.{extent}
use Rattle.cdf_model.specs.Limits.{record_number_limit}
use Rattle.cdf_format.specs.Content.{plain_bytes}
use Rattle.cdf_format.specs.Index.{Leaf as TreeLeaf}
use Rattle.cdf_format.specs.Stored.{is_little}
use Rattle.cdf_format.specs.VariableFields.{max_rec_at, record_bytes, type_of_variable}
use Rattle.cdf_format.specs.Records.{vvr_bytes}
use Rattle.cdf_index.specs.declared.nodes.Leaf.{Leaf}

-- one of the records of a block, each of so many bytes, by its number in the block from 0
abbrev pub record_in : List ℕ → ℕ → ℕ → List ℕ
record_in plain size i = take size (drop (i * size) plain)

-- a block that is not packed lies in the image with all its records, each of so many bytes
pub record HoldsRecords (b : List ℕ) (leaf : Leaf) (size : ℕ) : Type 0 where
  pub plain : leaf.packed ≡ false
  pub ordered : leaf.first ≤ leaf.last
  pub small : leaf.last ≤ record_number_limit
  pub inside : leaf.at + vvr_bytes ((leaf.last + 1 - leaf.first) * size) ≤ length b

-- a record of a leaf, in network order
abbrev pub record_of_leaf : List ℕ → ℕ → ℕ → TreeLeaf → List ℕ
record_of_leaf b vdr rec leaf = turned (type_of_variable b vdr) (is_little b) (record_in (plain_bytes b vdr leaf) (record_bytes b vdr) (rec - leaf.first))

-- that of the leaf that has the record, and none past MaxRec
abbrev pub stored_in : List ℕ → ℕ → ℕ → Option TreeLeaf → Option (List ℕ)
stored_in b vdr rec leaf = if nat_lt rec (extent (max_rec_at b vdr)) then option_map (record_of_leaf b vdr rec) leaf else None
