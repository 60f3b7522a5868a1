-- What a VDR means that stands at another place, or that has another name, blocking factor, flags or pad value where it is.
use Rattle.cdf_edits.proofs.Common.{BlockFits, Bool, Each, In, Leaf, LeafFits, List, VariableShape, ap, arith, cast_signed, dims_at, field_bytes, has_pad, integer4, is_compressed, is_z, leaves_of, map, name_in, number, pad_at, pad_field, plain_size, record_bytes, records_in, records_vary, true, type_at, type_of_variable, value_bytes, variable_of, vdr_blocking_factor, vdr_cpr_or_spr_offset, vdr_data_type, vdr_flags, vdr_max_rec, vdr_name, vdr_num_elems, vdr_s_records, vdr_vxr_head, w32, ℕ, ◌∙◌, ◌≡◌}
use Rattle.cdf_edits.proofs.Frame.Meaning.{FileSame, Kept}
use Rattle.cdf_edits.proofs.Frame.VdrAlike.{Copied, word_copied, copied_part, VdrAlike, plain_alike, z_alike, dims_alike, raw_type_alike, type_alike, raw_elems_alike, value_alike, record_alike, pad_field_alike, raw_sparse_alike, cpr_link_alike, index_link_alike, pad_alike, records_alike, block_fits_alike, variable_alike}
pub use Rattle.cdf_edits.proofs.Frame.VdrAlike.{Copied, copied_in_place, copied_part, piece_copied, word_copied, words_copied}

-- ---- a VDR

-- Of a VDR stand its fields before Flags, those from SRecords to NumElems, CPRorSPRoffset, and those between Name and its pad value.
pub record VdrCopied (b now : List ℕ) (v v' : ℕ) : Type 0 where
  pub typed : type_at now v' ≡ type_at b v
  pub first : Copied b now v v' 20 44
  pub second : Copied b now v v' 48 68
  pub third : Copied b now v v' 72 80
  pub behind : Copied b now v v' 340 (pad_field b v).place

-- MaxRec among them
pub alike : {b now : List ℕ} {v v' : ℕ} → VdrCopied b now v v' → VdrAlike b now v v'
alike k = record { typed = k.typed; type = copied_part k.first 20 24 (omega arith) (omega arith); second = k.second; third = k.third; behind = k.behind }

module _ {b now : List ℕ} (file : FileSame b now) {v v' : ℕ} (k : VdrCopied b now v v') where
  pub raw_max_copied : number now v' vdr_max_rec ≡ number b v vdr_max_rec
  raw_max_copied = word_copied k.first 24 4 (omega arith) (omega arith)

  pub z_copied : is_z now v' ≡ is_z b v
  z_copied = z_alike file (alike k)

  pub dims_copied : dims_at now v' ≡ dims_at b v
  dims_copied = dims_alike file (alike k)

  pub raw_type_copied : integer4 now v' vdr_data_type ≡ integer4 b v vdr_data_type
  raw_type_copied = raw_type_alike file (alike k)

  pub type_copied : type_of_variable now v' ≡ type_of_variable b v
  type_copied = type_alike file (alike k)

  pub raw_elems_copied : number now v' vdr_num_elems ≡ number b v vdr_num_elems
  raw_elems_copied = raw_elems_alike file (alike k)

  pub value_copied : value_bytes now v' ≡ value_bytes b v
  value_copied = value_alike file (alike k)

  pub record_copied : record_bytes now v' ≡ record_bytes b v
  record_copied = record_alike file (alike k)

  pub pad_field_copied : pad_field now v' ≡ pad_field b v
  pad_field_copied = pad_field_alike file (alike k)

  pub raw_sparse_copied : number now v' vdr_s_records ≡ number b v vdr_s_records
  raw_sparse_copied = raw_sparse_alike file (alike k)

  pub cpr_link_copied : number now v' vdr_cpr_or_spr_offset ≡ number b v vdr_cpr_or_spr_offset
  cpr_link_copied = cpr_link_alike file (alike k)

  pub index_link_copied : number now v' vdr_vxr_head ≡ number b v vdr_vxr_head
  index_link_copied = index_link_alike file (alike k) (copied_part k.first 28 44 (omega arith) (omega arith))

  pub pad_copied : number now v' vdr_flags ≡ number b v vdr_flags → (has_pad b v ≡ true → field_bytes now v' (pad_field b v) ≡ field_bytes b v (pad_field b v)) → pad_at now v' ≡ pad_at b v
  pad_copied = pad_alike file (alike k)

  -- ---- its records

  pub plain_copied : (leaf : Leaf) → plain_size now v' leaf ≡ plain_size b v leaf
  plain_copied = plain_alike file (alike k)

  pub block_fits_copied : (leaf : Leaf) (packed : Bool) → Kept b now leaf.place → BlockFits b v leaf packed → BlockFits now v' leaf packed
  block_fits_copied = block_fits_alike file (alike k)

-- the variable, whose blocks stay
pub variable_copied : {b now : List ℕ} (file : FileSame b now) (own own' : VariableShape) (records : List ℕ) → VdrCopied b now own.vdr own'.vdr → own'.index ≡ own.index → ((m : ℕ) → In m (map (λ (leaf : Leaf). leaf.place) (leaves_of own.index)) → Kept b now m) → Each (LeafFits b records own.vdr) (leaves_of own.index)
    → variable_of now own' ≡ record (variable_of b own) { name = name_in now own'.vdr vdr_name; vary = records_vary now own'.vdr; rle = is_compressed now own'.vdr; blocking = integer4 now own'.vdr vdr_blocking_factor; pad = pad_at now own'.vdr }
variable_copied {b = b} {now = now} file own own' records k index kept room =
    let m = raw_max_copied file k in
    let rs : records_in now own'.vdr (leaves_of own'.index) ≡ records_in b own.vdr (leaves_of own.index) = ap (λ x. records_in now own'.vdr (leaves_of x)) index ∙ records_alike file (alike k) m (leaves_of own.index) records kept room in
    variable_alike file own own' (alike k) ∙ (λ i. record (variable_of b own) { name = name_in now own'.vdr vdr_name; vary = records_vary now own'.vdr; rle = is_compressed now own'.vdr; blocking = integer4 now own'.vdr vdr_blocking_factor; max_rec = cast_signed w32 (m i); pad = pad_at now own'.vdr; recs = rs i })
