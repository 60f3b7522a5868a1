-- The data set that an image means (CDF Internal Format Description, "Internal Records").
use Rattle.std.specs.Prelude.{ℕ, ◌*◌, List, [], ◌∷◌, map, Bool, true, false, nat_lt, ◌==◌, if◌then◌else◌, pos}
use Rattle.std.specs.List.{enumerate_from, filter, flat_map}
use Rattle.cdf_model.specs.declared.head.Majority.{Majority}
use Rattle.cdf_model.specs.declared.head.Majority.TheVariants.{Row, Column}
use Rattle.cdf_model.specs.declared.kinds.Scope.{Scope}
use Rattle.cdf_model.specs.declared.kinds.Scope.TheVariants as scopes
use Rattle.cdf_model.specs.ByteOrder.{parts, turned}
use Rattle.cdf_model.specs.DataSet.{Attribute, DataSet, Entry, Variable, extent}
use Rattle.cdf_model.specs.Numbered.{with_item}
use Rattle.cdf_model.specs.RunLengths.{plain_of}
use Rattle.cdf_model.specs.Types.{size_of}
use Rattle.cdf_format.specs.Fields.{number, integer4, has_bit, name_in, release, encoding, flags, increment, r_sizes, num_attr, nr_vars, nz_vars, gdr_offset}
use Rattle.cdf_format.specs.Records.{cdr_majority_bit, adr_name, adr_scope, aedr_data_type, aedr_num, aedr_num_elems, aedr_value, vdr_blocking_factor, vdr_name, vvr_records}
use Rattle.cdf_format.specs.Sealed.{has_checksum}
use Rattle.cdf_format.specs.Stored.{field_bytes, packed_bytes, is_little, data_type_in, network_bytes}
use Rattle.cdf_format.specs.Index.{Leaf, leaves_of}
use Rattle.cdf_format.specs.Shape.{AttributeShape, VariableShape, Shape, is_compressed, shape}
use Rattle.cdf_format.specs.VariableFields.{counted4, dims_at, varys_at, type_of_variable, elems_at, record_bytes, records_vary, pad_at, sparse_at, max_rec_at, records_of_leaf, plain_size}
use Rattle.cdf_model.specs.declared.head.Head.{Head}

abbrev pub majority_of : Bool → Majority
majority_of true = Row
majority_of false = Column

-- Scope: 1 global, 2 variable, 3 global assumed, 4 variable assumed; rule 6.3 refuses each other number, which counts as 4 here
abbrev pub scope_of : ℕ → Scope
scope_of n = if n == 1 then scopes.Global else (if n == 2 then scopes.Variable else (if n == 3 then scopes.GlobalAssumed else scopes.VariableAssumed))

-- ---- attributes

abbrev pub entry_of : List ℕ → ℕ → Entry
entry_of b aedr = record {
  type = data_type_in b aedr aedr_data_type;
  elems = number b aedr aedr_num_elems;
  bytes = network_bytes b aedr (aedr_value (size_of (data_type_in b aedr aedr_data_type) * number b aedr aedr_num_elems)) (data_type_in b aedr aedr_data_type);
}

-- by their numbers
abbrev pub entries_of : List ℕ → List ℕ → List (ℕ × Entry)
entries_of b [] = []
entries_of b (aedr ∷ more) = with_item (number b aedr aedr_num) (entry_of b aedr) (entries_of b more)

abbrev pub attribute_of : List ℕ → AttributeShape → Attribute
attribute_of b a = record {
  name = name_in b a.adr adr_name;
  scope = scope_of (number b a.adr adr_scope);
  g = entries_of b a.gr_entries;
  z = entries_of b a.z_entries;
}

-- ---- variables

-- the records of a block, unpacked
abbrev pub plain_bytes : List ℕ → ℕ → Leaf → List ℕ
plain_bytes b vdr leaf = if leaf.packed then plain_of (packed_bytes b leaf.place) else field_bytes b leaf.place (vvr_records (plain_size b vdr leaf))

-- each record of a leaf, by its number
abbrev pub leaf_records : List ℕ → ℕ → Leaf → List (ℕ × List ℕ)
leaf_records b vdr leaf = enumerate_from (counted4 leaf.first) (map (turned (type_of_variable b vdr) (is_little b)) (parts (record_bytes b vdr) (records_of_leaf leaf) (plain_bytes b vdr leaf)))

-- A leaf may cover records past MaxRec, which are not written.
abbrev pub records_in : List ℕ → ℕ → List Leaf → List (ℕ × List ℕ)
records_in b vdr leaves = filter (λ pair. nat_lt pair.0 (extent (max_rec_at b vdr))) (flat_map (leaf_records b vdr) leaves)

abbrev pub variable_of : List ℕ → VariableShape → Variable
variable_of b v = record {
  name = name_in b v.vdr vdr_name;
  type = type_of_variable b v.vdr;
  elems = elems_at b v.vdr;
  dims = dims_at b v.vdr;
  varys = varys_at b v.vdr;
  vary = records_vary b v.vdr;
  sparse = sparse_at b v.vdr;
  rle = is_compressed b v.vdr;
  blocking = integer4 b v.vdr vdr_blocking_factor;
  max_rec = max_rec_at b v.vdr;
  pad = pad_at b v.vdr;
  recs = records_in b v.vdr (leaves_of v.index);
}

-- ---- the whole

-- of an image with this shape
abbrev pub content_of : List ℕ → Shape → DataSet
content_of b s = record {
  release = release b;
  increment = increment b;
  encoding = encoding b;
  majority = majority_of (has_bit (flags b) cdr_majority_bit);
  md5 = has_checksum b;
  rdims = r_sizes b s.gdr;
  attributes = map (attribute_of b) s.attributes;
  r_variables = map (variable_of b) s.r_variables;
  z_variables = map (variable_of b) s.z_variables;
}

unfoldable pub content : List ℕ → DataSet
content b = content_of b (shape b)

-- its head by the fields of the CDR and the GDR
abbrev pub head_by_fields : List ℕ → Head
head_by_fields b = record {
  version = pos 3;
  release = release b;
  increment = increment b;
  encoding = encoding b;
  majority = majority_of (has_bit (flags b) cdr_majority_bit);
  md5 = has_checksum b;
  rdims = r_sizes b (gdr_offset b);
  attrs = num_attr b (gdr_offset b);
  rvars = nr_vars b (gdr_offset b);
  zvars = nz_vars b (gdr_offset b);
}
