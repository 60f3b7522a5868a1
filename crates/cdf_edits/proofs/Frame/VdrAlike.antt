-- What a VDR means that stands at another place, or that has another name, blocking factor, flags, pad value or MaxRec where it is.
use Rattle.cdf_edits.proofs.Common.{BlockFits, Bool, Byte, Each, Field, In, Leaf, LeafFits, List, NoRule, Pad, Previous, Same, Some, VariableShape, [], ap, ap₂, arith, byte, bytes_kept, cast_signed, counted, counted4, cvvr_c_size, dimensions_at, dims_at, drop, elems_at, enumerate_from, ext_get_or, extent, false, field_bytes, filter, flat_map, get_or-drop, get_or-take, has_bit, has_pad, if◌then◌else◌, inl, inr, integer4, is_compressed, is_little, is_z, leaf_records, leaves_of, length, length-drop, length-take, map, max_rec_at, name_in, nat_lt, network_bytes, number, number_kept, pad_at, pad_field, parts, plain_bytes, plain_size, record_bytes, records_in, records_of_leaf, records_vary, refl, size_at, size_kept, size_of, sparse_at, subst, suc, sym, take, true, turned, type_at, type_of, type_of_variable, unwrap_or, value_bytes, variable_of, vary_field, varys_at, vdr_blocking_factor, vdr_cpr_or_spr_offset, vdr_data_type, vdr_flags, vdr_max_rec, vdr_name, vdr_num_elems, vdr_r_dim_vary, vdr_r_pad_value, vdr_s_records, vdr_vxr_head, vdr_z_dim_vary, vdr_z_num_dims, vdr_z_pad_value, vvr_records, w32, word, words, z_vdr_type, zero, ℕ, ℤ, ◌*◌, ◌++◌, ◌+◌, ◌<◌, ◌==◌, ◌^◌, ◌∙◌, ◌∷◌, ◌≡◌, ◌≤◌}
use Rattle.std.proofs.Common.{not}
use Rattle.cdf_model.specs.Place.{record_size}
use Rattle.cdf_model.specs.RunLengths.{plain_of}
use Rattle.cdf_edits.proofs.Frame.Meaning.{FileSame, Kept, if_same, pad_place, vary_fits, packed_same}

-- ---- bytes that stand at another place too

-- those of a record from one place within it to another
pub record Copied (b now : List ℕ) (v v' lo hi : ℕ) : Type 0 where
  pub each : (i : ℕ) → lo ≤ i → i < hi → byte now (v' + i) ≡ byte b (v + i)

pub copied_in_place : (b now : List ℕ) (v lo hi : ℕ) → Same b now (v + lo) (v + hi) → Copied b now v v lo hi
copied_in_place b now v lo hi s = record { each = λ i l h. s.each (v + i) (omega arith) (omega arith) }

pub copied_part : {b now : List ℕ} {v v' lo hi : ℕ} → Copied b now v v' lo hi → (lo' hi' : ℕ) → lo ≤ lo' → hi' ≤ hi → Copied b now v v' lo' hi'
copied_part c lo' hi' l h = record { each = λ i low up. c.each i (omega arith) (omega arith) }

word_alike : (b now : List ℕ) (at at' n : ℕ) → ((i x x' : ℕ) → x ≡ at + i → x' ≡ at' + i → i < n → byte now x' ≡ byte b x) → word now at' n ≡ word b at n
word_alike b now at at' zero s = refl
word_alike b now at at' (suc n) s =
    let here : byte now at' ≡ byte b at = s 0 at at' (omega arith) (omega arith) (omega arith) in
    let rest = word_alike b now (suc at) (suc at') n (λ i x x' p q lt. s (suc i) x x' (omega arith) (omega arith) (omega arith)) in
    ap₂ (λ (x y : ℕ). x * 256 ^ n + y) here rest

words_alike : (b now : List ℕ) (at at' n : ℕ) → ((i x x' : ℕ) → x ≡ at + i → x' ≡ at' + i → i < 4 * n → byte now x' ≡ byte b x) → words now at' n ≡ words b at n
words_alike b now at at' zero s = refl
words_alike b now at at' (suc n) s =
    let here = word_alike b now at at' 4 (λ i x x' p q lt. s i x x' p q (omega arith)) in
    let rest = words_alike b now (at + 4) (at' + 4) n (λ i x x' p q lt. s (i + 4) x x' (omega arith) (omega arith) (omega arith)) in
    ap₂ (λ (x : ℕ) (xs : List ℕ). x ∷ xs) here rest

module _ {b now : List ℕ} {v v' lo hi : ℕ} (c : Copied b now v v' lo hi) where
  at_once : (p n : ℕ) → lo ≤ p → p + n ≤ hi → (i x x' : ℕ) → x ≡ v + p + i → x' ≡ v' + p + i → i < n → byte now x' ≡ byte b x
  at_once p n l h i x x' e e' lt =
      let to : x' ≡ v' + (p + i) = omega arith in
      let from : v + (p + i) ≡ x = omega arith in
      ap (λ (y : ℕ). byte now y) to ∙ c.each (p + i) (omega arith) (omega arith) ∙ ap (λ (y : ℕ). byte b y) from

  pub word_copied : (p n : ℕ) → lo ≤ p → p + n ≤ hi → word now (v' + p) n ≡ word b (v + p) n
  word_copied p n l h = word_alike b now (v + p) (v' + p) n (at_once p n l h)

  pub words_copied : (p n : ℕ) → lo ≤ p → p + 4 * n ≤ hi → words now (v' + p) n ≡ words b (v + p) n
  words_copied p n l h = words_alike b now (v + p) (v' + p) n (at_once p (4 * n) l h)

  pub piece_copied : (p n : ℕ) → lo ≤ p → p + n ≤ hi → v + p + n ≤ length b → v' + p + n ≤ length now → take n (drop (v' + p) now) ≡ take n (drop (v + p) b)
  piece_copied p n l h inside there =
      let e : length (take n (drop (v' + p) now)) ≡ n = simp (length-take, length-drop) (omega arith) in
      let f : length (take n (drop (v + p) b)) ≡ n = simp (length-take, length-drop) (omega arith) in
      ext_get_or 0 (take n (drop (v' + p) now)) (take n (drop (v + p) b)) (e ∙ sym f) (λ i lt.
      let within : i < n = omega (arith, lt, e) in
      get_or-take n (drop (v' + p) now) i 0 within ∙ get_or-drop (v' + p) now i 0 ∙ at_once p n l h i _ _ refl refl within ∙ sym (get_or-drop (v + p) b i 0) ∙ sym (get_or-take n (drop (v + p) b) i 0 within))

-- ---- a VDR

-- Of a VDR stand DataType, its fields from SRecords to CPRorSPRoffset, and those between Name and its pad value.
pub record VdrAlike (b now : List ℕ) (v v' : ℕ) : Type 0 where
  pub typed : type_at now v' ≡ type_at b v
  pub type : Copied b now v v' 20 24
  pub second : Copied b now v v' 48 68
  pub third : Copied b now v v' 72 80
  pub behind : Copied b now v v' 340 (pad_field b v).place

vary_behind : (p : Bool) (d : ℕ) → 340 ≤ (if p then vdr_z_dim_vary d 0 else vdr_r_dim_vary 0).place
vary_behind true d = omega arith
vary_behind false d = omega arith

module _ {b now : List ℕ} (file : FileSame b now) {v v' : ℕ} (k : VdrAlike b now v v') where
  pub second_same : (f : Field) → 48 ≤ f.place → f.place + f.width ≤ 68 → number now v' f ≡ number b v f
  second_same f late h = word_copied k.second f.place f.width late h

  pub z_alike : is_z now v' ≡ is_z b v
  z_alike = ap (λ (t : ℕ). t == z_vdr_type) k.typed

  pad_behind : is_z b v ≡ true → (pad_field b v).place ≡ 344 + 8 * dimensions_at b v
  pad_behind e = pad_place (is_z b v) (dimensions_at b v) (value_bytes b v) e

  pub count_alike : is_z b v ≡ true → number now v' vdr_z_num_dims ≡ number b v vdr_z_num_dims
  count_alike e = word_copied k.behind 340 4 (omega arith) (some (pad_field b v).place (dimensions_at b v) (pad_behind e))
    where
      some : (p d : ℕ) → p ≡ 344 + 8 * d → 340 + 4 ≤ p
      some p d q = omega arith

  pub dimensions_alike : dimensions_at now v' ≡ dimensions_at b v
  dimensions_alike = if_same (is_z now v') (is_z b v) _ _ _ _ z_alike (λ e. ap (λ (n : ℕ). counted (cast_signed w32 n)) (count_alike e)) (λ e. file.dimensions)

  pub dims_alike : dims_at now v' ≡ dims_at b v
  dims_alike = if_same (is_z now v') (is_z b v) _ _ _ _ z_alike
      (λ e. ap (map counted4) (ap (words now (v' + 344)) dimensions_alike ∙ words_copied k.behind 344 (dimensions_at b v) (omega arith) (room (pad_field b v).place (dimensions_at b v) (pad_behind e))))
      (λ e. file.sizes)
    where
      room : (p d : ℕ) → p ≡ 344 + 8 * d → 344 + 4 * d ≤ p
      room p d q = omega arith

  pub vary_alike : (vary_field now v').place ≡ (vary_field b v).place
  vary_alike = let z = z_alike in let d = dimensions_alike in λ i. (if z i then vdr_z_dim_vary (d i) 0 else vdr_r_dim_vary 0).place

  pub varys_alike : varys_at now v' ≡ varys_at b v
  varys_alike =
      let p = vary_alike in
      let d = dimensions_alike in
      let moved : words now (v' + (vary_field now v').place) (dimensions_at now v') ≡ words now (v' + (vary_field b v).place) (dimensions_at b v) = λ i. words now (v' + p i) (d i) in
      let kept = words_copied k.behind (vary_field b v).place (dimensions_at b v) (vary_behind (is_z b v) (dimensions_at b v)) (vary_fits (is_z b v) (dimensions_at b v) (value_bytes b v)) in
      ap (λ (ws : List ℕ). map (λ n. not (n == 0)) ws) (moved ∙ kept)

  pub raw_type_alike : integer4 now v' vdr_data_type ≡ integer4 b v vdr_data_type
  raw_type_alike = ap (cast_signed w32) (word_copied k.type 20 4 (omega arith) (omega arith))

  pub type_alike : type_of_variable now v' ≡ type_of_variable b v
  type_alike = ap (λ (z : ℤ). unwrap_or (type_of z) Byte) raw_type_alike

  pub raw_elems_alike : number now v' vdr_num_elems ≡ number b v vdr_num_elems
  raw_elems_alike = second_same vdr_num_elems (omega arith) (omega arith)

  pub elems_alike : elems_at now v' ≡ elems_at b v
  elems_alike = ap (λ (n : ℕ). counted (cast_signed w32 n)) raw_elems_alike

  pub value_alike : value_bytes now v' ≡ value_bytes b v
  value_alike = let t = type_alike in let n = elems_alike in λ i. size_of (t i) * n i

  pub record_alike : record_bytes now v' ≡ record_bytes b v
  record_alike = let t = type_alike in let n = elems_alike in let d = dims_alike in let w = varys_alike in λ i. record_size (t i) (n i) (d i) (w i)

  pub pad_field_alike : pad_field now v' ≡ pad_field b v
  pad_field_alike = let z = z_alike in let d = dimensions_alike in let w = value_alike in λ i. if z i then vdr_z_pad_value (d i) (w i) else vdr_r_pad_value (d i) (w i)

  pub raw_sparse_alike : number now v' vdr_s_records ≡ number b v vdr_s_records
  raw_sparse_alike = second_same vdr_s_records (omega arith) (omega arith)

  pub sparse_alike : sparse_at now v' ≡ sparse_at b v
  sparse_alike = let s = raw_sparse_alike in λ i. if s i == 0 then NoRule else (if s i == 1 then Pad else Previous)

  pub cpr_link_alike : number now v' vdr_cpr_or_spr_offset ≡ number b v vdr_cpr_or_spr_offset
  cpr_link_alike = word_copied k.third 72 8 (omega arith) (omega arith)

  -- where VXRhead and VXRtail stand too
  pub index_link_alike : Copied b now v v' 28 44 → number now v' vdr_vxr_head ≡ number b v vdr_vxr_head
  index_link_alike links = word_copied links 28 8 (omega arith) (omega arith)

  -- the pad value, where it is the same
  pub pad_alike : number now v' vdr_flags ≡ number b v vdr_flags → (has_pad b v ≡ true → field_bytes now v' (pad_field b v) ≡ field_bytes b v (pad_field b v)) → pad_at now v' ≡ pad_at b v
  pad_alike flags bytes = if_same (has_pad now v') (has_pad b v) _ _ _ _ (ap (λ (x : ℕ). has_bit x 1) flags)
      (λ e.
      let t = type_alike in
      let f = pad_field_alike in
      let first : network_bytes now v' (pad_field now v') (type_of_variable now v') ≡ turned (type_of_variable b v) (is_little b) (field_bytes now v' (pad_field b v)) = λ i. turned (t i) (file.little i) (field_bytes now v' (f i)) in
      ap Some (first ∙ ap (turned (type_of_variable b v) (is_little b)) (bytes e)))
      (λ e. refl)

  pub plain_alike : (leaf : Leaf) → plain_size now v' leaf ≡ plain_size b v leaf
  plain_alike leaf = let r = record_alike in λ i. records_of_leaf leaf * r i

  -- ---- its records

  bytes_alike : (leaf : Leaf) → Kept b now leaf.place → BlockFits b v leaf leaf.packed → plain_bytes now v' leaf ≡ plain_bytes b v leaf
  bytes_alike leaf kept room = if_same leaf.packed leaf.packed _ _ _ _ refl
      (λ e.
      let fit : 24 + number b leaf.place cvvr_c_size ≤ size_at b leaf.place = subst (BlockFits b v leaf) e room in
      ap plain_of (packed_same b now file leaf.place kept fit))
      (λ e.
      let fit : 12 + plain_size b v leaf ≤ size_at b leaf.place = subst (BlockFits b v leaf) e room in
      ap (λ (n : ℕ). field_bytes now leaf.place (vvr_records n)) (plain_alike leaf) ∙ bytes_kept b now leaf.place kept.same (vvr_records (plain_size b v leaf)) fit kept.inside file.longer)

  leaf_alike : (leaf : Leaf) → Kept b now leaf.place → BlockFits b v leaf leaf.packed → leaf_records now v' leaf ≡ leaf_records b v leaf
  leaf_alike leaf kept room =
      let t = type_alike in
      let r = record_alike in
      let p = bytes_alike leaf kept room in
      λ i. enumerate_from (counted4 leaf.first) (map (turned (t i) (file.little i)) (parts (r i) (records_of_leaf leaf) (p i)))

  leaves_alike : (leaves : List Leaf) (records : List ℕ) → ((m : ℕ) → In m (map (λ (leaf : Leaf). leaf.place) leaves) → Kept b now m) → Each (LeafFits b records v) leaves → flat_map (leaf_records now v') leaves ≡ flat_map (leaf_records b v) leaves
  leaves_alike [] records kept room = refl
  leaves_alike (leaf ∷ more) records kept room =
      let here = leaf_alike leaf (kept leaf.place (inl refl)) room.0.1 in
      let rest = leaves_alike more records (λ m i. kept m (inr i)) room.1 in
      λ i. here i ++ rest i

  -- where its blocks stay, and MaxRec too
  pub records_alike : number now v' vdr_max_rec ≡ number b v vdr_max_rec → (leaves : List Leaf) (records : List ℕ) → ((m : ℕ) → In m (map (λ (leaf : Leaf). leaf.place) leaves) → Kept b now m) → Each (LeafFits b records v) leaves → records_in now v' leaves ≡ records_in b v leaves
  records_alike max leaves records kept room = let all = leaves_alike leaves records kept room in λ i. filter (λ pair. nat_lt pair.0 (extent (cast_signed w32 (max i)))) (all i)

  -- a block has room as it had
  pub block_fits_alike : (leaf : Leaf) (packed : Bool) → Kept b now leaf.place → BlockFits b v leaf packed → BlockFits now v' leaf packed
  block_fits_alike leaf true kept room =
      let c = number_kept b now leaf.place kept.same cvvr_c_size (short (number b leaf.place cvvr_c_size) (size_at b leaf.place) room) in
      let size = size_kept b now leaf.place kept.same (let l = kept.long in omega arith) in
      subst (λ (x : ℕ). 24 + number now leaf.place cvvr_c_size ≤ x) (sym size) (subst (λ (x : ℕ). 24 + x ≤ size_at b leaf.place) (sym c) room)
    where
      short : (p n : ℕ) → 24 + p ≤ n → 24 ≤ n
      short p n l = omega arith
  block_fits_alike leaf false kept room =
      let size = size_kept b now leaf.place kept.same (let l = kept.long in omega arith) in
      subst (λ (x : ℕ). 12 + plain_size now v' leaf ≤ x) (sym size) (subst (λ (x : ℕ). 12 + x ≤ size_at b leaf.place) (sym (plain_alike leaf)) room)

-- the variable, whose name, flags, blocking factor, MaxRec, pad value and records may be others
pub variable_alike : {b now : List ℕ} (file : FileSame b now) (own own' : VariableShape) → VdrAlike b now own.vdr own'.vdr
    → variable_of now own' ≡ record (variable_of b own) { name = name_in now own'.vdr vdr_name; vary = records_vary now own'.vdr; rle = is_compressed now own'.vdr; blocking = integer4 now own'.vdr vdr_blocking_factor; max_rec = max_rec_at now own'.vdr; pad = pad_at now own'.vdr; recs = records_in now own'.vdr (leaves_of own'.index) }
variable_alike {b = b} {now = now} file own own' k =
    let t = type_alike file k in
    let n = elems_alike file k in
    let d = dims_alike file k in
    let w = varys_alike file k in
    let s = sparse_alike file k in
    λ i. record (variable_of now own') { type = t i; elems = n i; dims = d i; varys = w i; sparse = s i }
