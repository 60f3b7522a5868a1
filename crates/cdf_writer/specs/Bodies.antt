-- What new records hold (CDF Internal Format Description, "Internal Records").
use Rattle.std.specs.Prelude.{ℕ, ℤ, ◌+◌, ◌-◌, List, [], ◌∷◌, ◌++◌, length, map, replicate, Bool, if◌then◌else◌, Some, None}
use Rattle.std.specs.declared.option.Option.{Option}
use Rattle.std.specs.Int.{cast_unsigned, w32}
use Rattle.std.specs.List.{flat_map}
use Rattle.byteorder.specs.Endian.{big_bytes}
use Rattle.cdf_model.specs.declared.data_type.DataType.{DataType}
use Rattle.cdf_model.specs.declared.head.Head.{Head}
use Rattle.cdf_model.specs.declared.head.Majority.{Majority}
use Rattle.cdf_model.specs.declared.head.Majority.TheVariants.{Row, Column}
use Rattle.cdf_model.specs.declared.kinds.Kind.{Kind}
use Rattle.cdf_model.specs.declared.kinds.Kind.TheVariants.{R, Z}
use Rattle.cdf_model.specs.declared.kinds.Scope.{Scope}
use Rattle.cdf_model.specs.declared.kinds.Scope.TheVariants.{Global, Variable, GlobalAssumed, VariableAssumed}
use Rattle.cdf_model.specs.declared.kinds.Sparse.{Sparse}
use Rattle.cdf_model.specs.declared.kinds.Sparse.TheVariants.{NoRule, Pad, Previous}
use Rattle.cdf_model.specs.ByteOrder.{turned}
use Rattle.cdf_model.specs.DataSet as model
use Rattle.cdf_model.specs.DataSet.{head_of}
use Rattle.cdf_model.specs.Numbered.{greatest}
use Rattle.cdf_model.specs.Types.{code_of}
use Rattle.cdf_format.specs.NewFile.{copyright}
use Rattle.cdf_format.specs.Records.{Field, past, linked_size, record_size, record_type, adr_name, vdr_name, cdr_gdr_offset, cdr_version, cdr_release, cdr_encoding, cdr_flags, cdr_rfu_a, cdr_rfu_b, cdr_increment, cdr_identifier, cdr_rfu_e, gdr_r_vdr_head, gdr_z_vdr_head, gdr_adr_head, gdr_eof, gdr_nr_vars, gdr_num_attr, gdr_r_max_rec, gdr_r_num_dims, gdr_nz_vars, gdr_uir_head, gdr_rfu_c, gdr_leap_second_last_updated, gdr_rfu_e, adr_adr_next, adr_agr_edr_head, adr_scope, adr_num, adr_ngr_entries, adr_max_gr_entry, adr_rfu_a, adr_az_edr_head, adr_nz_entries, adr_max_z_entry, adr_rfu_e, aedr_aedr_next, aedr_attr_num, aedr_data_type, aedr_num, aedr_num_elems, aedr_num_strings, aedr_rfu_b, aedr_rfu_c, aedr_rfu_d, aedr_rfu_e, vdr_vdr_next, vdr_data_type, vdr_max_rec, vdr_vxr_head, vdr_vxr_tail, vdr_flags, vdr_s_records, vdr_rfu_b, vdr_rfu_c, vdr_rfu_f, vdr_num_elems, vdr_num, vdr_cpr_or_spr_offset, vdr_blocking_factor, vxr_vxr_next, vxr_n_entries, vxr_n_used_entries, cvvr_rfu_a, cvvr_c_size, cpr_c_type, cpr_rfu_a, cpr_p_count, cpr_parameter}
use Rattle.cdf_format.specs.RecordTypes.{cdr_type, gdr_type, adr_type, vxr_type, vvr_type, cpr_type, cvvr_type, r_vdr_type, z_vdr_type}
use Rattle.cdf_edits.specs.Space.Placing.{laid_out}
use Rattle.cdf_writer.specs.declared.bodies.Counts.{Counts}
use Rattle.cdf_writer.specs.declared.bodies.Descriptor.{Descriptor}
use Rattle.cdf_writer.specs.declared.bodies.EntryChain.{EntryChain}
use Rattle.cdf_writer.specs.declared.bodies.Heads.{Heads}
use Rattle.cdf_writer.specs.declared.bodies.NodeEntry.{NodeEntry}

-- RecordSize, which counts itself, and what follows it: the body of a record
abbrev pub whole_record : List ℕ → List ℕ
whole_record body = big_bytes record_size.width (past record_size + length body) ++ body

-- a body with bytes 0 behind it where it would make a record of fewer than 28 bytes
abbrev pub spared : List ℕ → List ℕ
spared body = body ++ replicate (linked_size - past record_size - length body) 0

-- a number of 4 bytes with a sign
abbrev pub code4 : ℤ → ℕ
code4 n = cast_unsigned w32 n

-- a number or -1
abbrev pub or_minus_one : Option ℕ → ℕ
or_minus_one None = 0xffffffff
or_minus_one (Some n) = n

-- a Name, filled with bytes 0
abbrev pub name_bytes : Field → List ℕ → List ℕ
name_bytes f name = name ++ replicate (f.width - length name) 0

-- ---- the file

abbrev pub file_flags : Majority → Bool → ℕ
file_flags Row md5 = if md5 then 15 else 3
file_flags Column md5 = if md5 then 14 else 2

unfoldable pub cdr_bytes : Head → ℕ → List ℕ
cdr_bytes head gdr =
    laid_out (
    (record_type, cdr_type)
    ∷ (cdr_gdr_offset, gdr)
    ∷ (cdr_version, 3)
    ∷ (cdr_release, code4 head.release)
    ∷ (cdr_encoding, head.encoding)
    ∷ (cdr_flags, file_flags head.majority head.md5)
    ∷ (cdr_rfu_a, 0)
    ∷ (cdr_rfu_b, 0)
    ∷ (cdr_increment, code4 head.increment)
    ∷ (cdr_identifier, 2)
    ∷ (cdr_rfu_e, 0xffffffff)
    ∷ [])
    ++ copyright

unfoldable pub cdr_body : model.DataSet → ℕ → List ℕ
cdr_body d gdr = cdr_bytes (head_of d) gdr

-- the table of a GDR up to rDimSizes
unfoldable pub gdr_front : Counts → Heads → List ℕ
gdr_front counts heads =
    laid_out (
    (record_type, gdr_type)
    ∷ (gdr_r_vdr_head, heads.r)
    ∷ (gdr_z_vdr_head, heads.z)
    ∷ (gdr_adr_head, heads.attributes)
    ∷ (gdr_eof, heads.end)
    ∷ (gdr_nr_vars, counts.r)
    ∷ (gdr_num_attr, counts.attributes)
    ∷ (gdr_r_max_rec, heads.r_max_rec)
    ∷ (gdr_r_num_dims, counts.dims)
    ∷ (gdr_nz_vars, counts.z)
    ∷ (gdr_uir_head, 0)
    ∷ (gdr_rfu_c, 0)
    ∷ (gdr_leap_second_last_updated, 0xffffffff)
    ∷ (gdr_rfu_e, 0xffffffff)
    ∷ [])

abbrev pub counts_of : model.DataSet → Counts
counts_of d = record { attributes = length d.attributes; r = length d.r_variables; z = length d.z_variables; dims = length d.rdims }

unfoldable pub gdr_body : model.DataSet → Heads → List ℕ
gdr_body d heads = gdr_front (counts_of d) heads ++ flat_map (big_bytes 4) d.rdims

-- ---- attributes

abbrev pub scope_code : Scope → ℕ
scope_code Global = 1
scope_code Variable = 2
scope_code GlobalAssumed = 3
scope_code VariableAssumed = 4

abbrev pub chain_of : ℕ → List (ℕ × model.Entry) → EntryChain
chain_of head items = record { head = head; count = length items; greatest = greatest items }

-- the table of an ADR up to its Name: the number n, with the next one at a place
unfoldable pub adr_front : ℕ → ℕ → Scope → EntryChain → EntryChain → List ℕ
adr_front n next scope g z =
    laid_out (
    (record_type, adr_type)
    ∷ (adr_adr_next, next)
    ∷ (adr_agr_edr_head, g.head)
    ∷ (adr_scope, scope_code scope)
    ∷ (adr_num, n)
    ∷ (adr_ngr_entries, g.count)
    ∷ (adr_max_gr_entry, or_minus_one g.greatest)
    ∷ (adr_rfu_a, 0)
    ∷ (adr_az_edr_head, z.head)
    ∷ (adr_nz_entries, z.count)
    ∷ (adr_max_z_entry, or_minus_one z.greatest)
    ∷ (adr_rfu_e, 0xffffffff)
    ∷ [])

-- with the next one at a place, and its chains of entries at two others
unfoldable pub adr_body : ℕ → ℕ → ℕ → ℕ → model.Attribute → List ℕ
adr_body n next g z a = adr_front n next a.scope (chain_of g a.g) (chain_of z a.z) ++ name_bytes adr_name a.name

-- the table of an entry up to its Value: one of the attribute n, of one of the two types, with the next one at a place
unfoldable pub entry_front : ℕ → ℕ → ℕ → ℕ → DataType → ℕ → List ℕ
entry_front type n next num t elems =
    laid_out (
    (record_type, type)
    ∷ (aedr_aedr_next, next)
    ∷ (aedr_attr_num, n)
    ∷ (aedr_data_type, code_of t)
    ∷ (aedr_num, num)
    ∷ (aedr_num_elems, elems)
    ∷ (aedr_num_strings, 0)
    ∷ (aedr_rfu_b, 0)
    ∷ (aedr_rfu_c, 0)
    ∷ (aedr_rfu_d, 0xffffffff)
    ∷ (aedr_rfu_e, 0xffffffff)
    ∷ [])

unfoldable pub entry_body : ℕ → Bool → ℕ → ℕ → ℕ × model.Entry → List ℕ
entry_body type little n next (num, entry) = entry_front type n next num entry.type entry.elems ++ turned entry.type little entry.bytes

-- ---- variables

abbrev pub sparse_code : Sparse → ℕ
sparse_code NoRule = 0
sparse_code Pad = 1
sparse_code Previous = 2

-- bits 0, 1 and 2: records vary, there is a pad value, records are packed
abbrev pub variable_flags : Bool → Option (List ℕ) → Bool → ℕ
variable_flags vary pad rle = (if vary then 1 else 0) + elim pad [ None ↦ 0 | Some bytes ↦ 2 ] + (if rle then 4 else 0)

abbrev pub pad_bytes : Bool → model.Variable → List ℕ
pad_bytes little v = elim v.pad [ None ↦ [] | Some bytes ↦ turned v.type little bytes ]

abbrev pub vdr_type : Kind → ℕ
vdr_type R = r_vdr_type
vdr_type Z = z_vdr_type

-- zNumDims and zDimSizes, which a z variable has
abbrev pub own_dims : Kind → List ℕ → List ℕ
own_dims R dims = []
own_dims Z dims = length dims ∷ dims

-- DimVarys: -1 where a dimension varies
abbrev pub vary_code : Bool → ℕ
vary_code vary = if vary then 0xffffffff else 0

-- the table of a VDR up to its Name, with the next one at a place, its index at another one, and its CPR
unfoldable pub vdr_front : Descriptor → ℕ → ℕ → ℕ → List ℕ
vdr_front own next root cpr =
    laid_out (
    (record_type, vdr_type own.kind)
    ∷ (vdr_vdr_next, next)
    ∷ (vdr_data_type, code_of own.t)
    ∷ (vdr_max_rec, code4 own.max_rec)
    ∷ (vdr_vxr_head, root)
    ∷ (vdr_vxr_tail, root)
    ∷ (vdr_flags, own.flags)
    ∷ (vdr_s_records, sparse_code own.sparse)
    ∷ (vdr_rfu_b, 0)
    ∷ (vdr_rfu_c, 0xffffffff)
    ∷ (vdr_rfu_f, 0xffffffff)
    ∷ (vdr_num_elems, own.elems)
    ∷ (vdr_num, own.num)
    ∷ (vdr_cpr_or_spr_offset, cpr)
    ∷ (vdr_blocking_factor, code4 own.blocking)
    ∷ [])

-- the number n of its kind
abbrev pub descriptor_of : Kind → ℕ → model.Variable → Descriptor
descriptor_of kind n v = record {
  kind = kind;
  num = n;
  t = v.type;
  elems = v.elems;
  flags = variable_flags v.vary v.pad v.rle;
  sparse = v.sparse;
  blocking = v.blocking;
  max_rec = v.max_rec;
}

unfoldable pub vdr_body : Kind → Bool → ℕ → ℕ → ℕ → ℕ → model.Variable → List ℕ
vdr_body kind little n next root cpr v =
    vdr_front (descriptor_of kind n v) next root cpr
    ++ name_bytes vdr_name v.name
    ++ flat_map (big_bytes 4) (own_dims kind v.dims ++ map vary_code v.varys)
    ++ pad_bytes little v

-- run lengths of zeros
unfoldable pub cpr_body : List ℕ
cpr_body = laid_out ((record_type, cpr_type) ∷ (cpr_c_type, 1) ∷ (cpr_rfu_a, 0) ∷ (cpr_p_count, 1) ∷ (cpr_parameter 0, 0) ∷ [])

unfoldable pub vvr_body : List ℕ → List ℕ
vvr_body plain = spared (laid_out ((record_type, vvr_type) ∷ []) ++ plain)

unfoldable pub cvvr_body : List ℕ → List ℕ
cvvr_body packed = spared (laid_out ((record_type, cvvr_type) ∷ (cvvr_rfu_a, 0) ∷ (cvvr_c_size, length packed) ∷ []) ++ packed)

-- a node with these entries, and no other one behind it
unfoldable pub vxr_body : List NodeEntry → List ℕ
vxr_body entries =
    laid_out ((record_type, vxr_type) ∷ (vxr_vxr_next, 0) ∷ (vxr_n_entries, length entries) ∷ (vxr_n_used_entries, length entries) ∷ [])
    ++ flat_map (λ entry. big_bytes 4 entry.first) entries
    ++ flat_map (λ entry. big_bytes 4 entry.last) entries
    ++ flat_map (λ entry. big_bytes 8 entry.place) entries
