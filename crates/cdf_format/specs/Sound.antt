-- An image whose records are long enough for what is read of them, and none of which is owned twice (own).
use Rattle.std.specs.Prelude.{◌≡◌, ◌≤◌, ℕ, List, Bool, true, false}
use Rattle.cdf_format.specs.AttributeRules.{entry_bytes}
use Rattle.cdf_format.specs.Chains.{is_a}
use Rattle.cdf_format.specs.Fields.{number, size_at, r_num_dims, Holds}
use Rattle.cdf_format.specs.Index.{Leaf, nodes_of, leaves_of, room_at, used_count}
use Rattle.cdf_format.specs.IndexRules.{is_block}
use Rattle.cdf_format.specs.Owners.{times, owned_records}
use Rattle.cdf_format.specs.Records.{gdr_r_dim_sizes, aedr_value, vxr_entries, vvr_records, cvvr_c_size, cvvr_packed}
use Rattle.cdf_format.specs.RecordTypes.{cpr_type}
use Rattle.cdf_format.specs.Shape.{AttributeShape, VariableShape, Shape, variables, Each, HasShape}
use Rattle.cdf_format.specs.VariableFields.{plain_size}
use Rattle.cdf_format.specs.VariableRules.{vdr_end}

abbrev pub EntryFits : List ℕ → ℕ → Type 0
EntryFits b aedr = Holds b aedr (aedr_value (entry_bytes b aedr))

abbrev pub AttributeFits : List ℕ → AttributeShape → Type 0
AttributeFits b a = Each (EntryFits b) a.gr_entries × Each (EntryFits b) a.z_entries

-- a node has its used entries, and room for all entries
abbrev pub NodeFits : List ℕ → ℕ → Type 0
NodeFits b vxr = Holds b vxr (vxr_entries (room_at b vxr)) × (used_count b vxr ≤ room_at b vxr)

abbrev pub BlockFits : List ℕ → ℕ → Leaf → Bool → Type 0
BlockFits b vdr leaf true = Holds b leaf.place (cvvr_packed (number b leaf.place cvvr_c_size))
BlockFits b vdr leaf false = Holds b leaf.place (vvr_records (plain_size b vdr leaf))

abbrev pub LeafFits : List ℕ → List ℕ → ℕ → Leaf → Type 0
LeafFits b records vdr leaf = (is_block b records leaf.place ≡ true) × BlockFits b vdr leaf leaf.packed

abbrev pub VariableFits : List ℕ → List ℕ → VariableShape → Type 0
VariableFits b records v =
    (vdr_end b v.vdr ≤ size_at b v.vdr) × Each (NodeFits b) (nodes_of v.index) × Each (LeafFits b records v.vdr) (leaves_of v.index) × Each (λ cpr. is_a b records cpr_type cpr ≡ true) v.cpr

-- It has a shape, its records are long enough, and none is owned twice. Counts and numbers may be wrong, and records may be owned by nobody.
pub record IsSound (b : List ℕ) (s : Shape) : Type 0 where
  pub has_shape : HasShape b s
  pub gdr_fits : Holds b s.gdr (gdr_r_dim_sizes (r_num_dims b s.gdr))
  pub attributes_fit : Each (AttributeFits b) s.attributes
  pub variables_fit : Each (VariableFits b s.records) (variables s)
  pub not_twice : (place : ℕ) → times place (owned_records b s) ≤ 1
