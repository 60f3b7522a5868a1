-- What a descriptor says of which no byte changes but those of Flags and of CPRorSPRoffset, and of Flags only the bit of packing: all that its variable is but whether it is packed.
use Rattle.cdf_edits.proofs.Common.{Bool, Byte, Field, List, Same, Some, VariableShape, ap, arith, before_first, cast_signed, counted, counted4, dimensions_at, dims_at, elems_at, false, field_bytes, has_bit, has_pad, if◌then◌else◌, is_compressed, is_little, is_z, leaves_of, length, map, max_rec_at, name_in, network_bytes, number, pad_at, pad_field, piece_kept, records_in, refl, size_at, size_of, sparse_at, subst, sym, true, turned, type_at, type_of, type_of_variable, unwrap_or, value_bytes, variable_of, vary_field, varys_at, vdr_blocking_factor, vdr_data_type, vdr_end, vdr_flags, vdr_max_rec, vdr_name, vdr_num_elems, vdr_r_dim_vary, vdr_r_pad_value, vdr_s_records, vdr_z_dim_vary, vdr_z_pad_value, w32, words, z_vdr_type, ℕ, ◌*◌, ◌+◌, ◌==◌, ◌∙◌, ◌≡◌, ◌≤◌}
use Rattle.std.proofs.Common.{not}
use Rattle.cdf_edits.proofs.Frame.Meaning.{FileSame, end_fits, if_same, pad_long, pad_place, pad_width, vary_fits}
use Rattle.cdf_edits.proofs.Frame.VdrAlike.{Copied, copied_in_place, word_copied, words_copied}
use Rattle.cdf_edits.proofs.Frame.VdrStays.{long, place_fits}
use Rattle.cdf_format.specs.Index.{Nodes, no_node}
use Rattle.cdf_model.specs.declared.kinds.Sparse.TheVariants.{NoRule, Pad, Previous}

-- each byte beside Flags and CPRorSPRoffset stays, and so do the other bits
pub record RepackedVdr (b now : List ℕ) (v : ℕ) : Type 0 where
  pub front : Same b now (v + 0) (v + 44)
  pub middle : Same b now (v + 48) (v + 72)
  pub back : Same b now (v + 80) (v + size_at b v)
  pub vary : has_bit (number now v vdr_flags) 0 ≡ has_bit (number b v vdr_flags) 0
  pub padded : has_bit (number now v vdr_flags) 1 ≡ has_bit (number b v vdr_flags) 1
  pub inside : v + size_at b v ≤ length b
  pub end : vdr_end b v ≤ size_at b v

vary_behind : (p : Bool) (d : ℕ) → 340 ≤ (if p then vdr_z_dim_vary d 0 else vdr_r_dim_vary 0).place
vary_behind true d = omega arith
vary_behind false d = omega arith

module _ {b now : List ℕ} (file : FileSame b now) {v : ℕ} (k : RepackedVdr b now v) where
  front : Copied b now v v 0 44
  front = copied_in_place b now v 0 44 k.front

  middle : Copied b now v v 48 72
  middle = copied_in_place b now v 48 72 k.middle

  back : Copied b now v v 80 (size_at b v)
  back = copied_in_place b now v 80 (size_at b v) k.back

  pub early_same : (f : Field) → f.place + f.width ≤ 44 → number now v f ≡ number b v f
  early_same f l = word_copied front f.place f.width (omega arith) l

  pub middle_same : (f : Field) → 48 ≤ f.place → f.place + f.width ≤ 72 → number now v f ≡ number b v f
  middle_same f l h = word_copied middle f.place f.width l h

  pub late_same : (f : Field) → 80 ≤ f.place → f.place + f.width ≤ 340 → number now v f ≡ number b v f
  late_same f l h = word_copied back f.place f.width l (let n = long b v k.end in omega arith)

  typed_same : type_at now v ≡ type_at b v
  typed_same = word_copied front 8 4 (omega arith) (omega arith)

  z_same : is_z now v ≡ is_z b v
  z_same = ap (λ (t : ℕ). t == z_vdr_type) typed_same

  pad_upto : (pad_field b v).place ≤ size_at b v
  pad_upto = place_fits b v k.end

  pad_behind : is_z b v ≡ true → (pad_field b v).place ≡ 344 + 8 * dimensions_at b v
  pad_behind e = pad_place (is_z b v) (dimensions_at b v) (value_bytes b v) e

  dimensions_same : dimensions_at now v ≡ dimensions_at b v
  dimensions_same = if_same (is_z now v) (is_z b v) _ _ _ _ z_same
      (λ e. ap (λ (n : ℕ). counted (cast_signed w32 n)) (word_copied back 340 4 (omega arith) (some (pad_field b v).place (dimensions_at b v) (size_at b v) (pad_behind e) pad_upto))) (λ e. file.dimensions)
    where
      some : (p d n : ℕ) → p ≡ 344 + 8 * d → p ≤ n → 340 + 4 ≤ n
      some p d n q l = omega arith

  dims_same : dims_at now v ≡ dims_at b v
  dims_same = if_same (is_z now v) (is_z b v) _ _ _ _ z_same
      (λ e. ap (map counted4) (ap (words now (v + 344)) dimensions_same ∙ words_copied back 344 (dimensions_at b v) (omega arith) (room (pad_field b v).place (dimensions_at b v) (size_at b v) (pad_behind e) pad_upto)))
      (λ e. file.sizes)
    where
      room : (p d n : ℕ) → p ≡ 344 + 8 * d → p ≤ n → 344 + 4 * d ≤ n
      room p d n q l = omega arith

  vary_same : (vary_field now v).place ≡ (vary_field b v).place
  vary_same = let z = z_same in let d = dimensions_same in λ i. (if z i then vdr_z_dim_vary (d i) 0 else vdr_r_dim_vary 0).place

  varys_same : varys_at now v ≡ varys_at b v
  varys_same =
      let p = vary_same in
      let d = dimensions_same in
      let moved : words now (v + (vary_field now v).place) (dimensions_at now v) ≡ words now (v + (vary_field b v).place) (dimensions_at b v) = λ i. words now (v + p i) (d i) in
      let kept = words_copied back (vary_field b v).place (dimensions_at b v) (from (vary_field b v).place (vary_behind (is_z b v) (dimensions_at b v))) (upto _ (pad_field b v).place (size_at b v) (vary_fits (is_z b v) (dimensions_at b v) (value_bytes b v)) pad_upto) in
      ap (λ (ws : List ℕ). map (λ n. not (n == 0)) ws) (moved ∙ kept)
    where
      from : (p : ℕ) → 340 ≤ p → 80 ≤ p
      from p l = omega arith

      upto : (x p n : ℕ) → x ≤ p → p ≤ n → x ≤ n
      upto x p n l h = omega arith

  kind_same : type_of_variable now v ≡ type_of_variable b v
  kind_same = ap (λ (n : ℕ). unwrap_or (type_of (cast_signed w32 n)) Byte) (early_same vdr_data_type (omega arith))

  elems_same : elems_at now v ≡ elems_at b v
  elems_same = ap (λ (n : ℕ). counted (cast_signed w32 n)) (middle_same vdr_num_elems (omega arith) (omega arith))

  value_same : value_bytes now v ≡ value_bytes b v
  value_same = let t = kind_same in let n = elems_same in λ i. size_of (t i) * n i

  pad_field_same : pad_field now v ≡ pad_field b v
  pad_field_same = let z = z_same in let d = dimensions_same in let w = value_same in λ i. if z i then vdr_z_pad_value (d i) (w i) else vdr_r_pad_value (d i) (w i)

  pub name_same : name_in now v vdr_name ≡ name_in b v vdr_name
  name_same = ap (before_first (λ (x : ℕ). x == 0)) (piece_kept b now (v + 80) (v + size_at b v) k.back (v + 84) 256 (omega arith) (let n = long b v k.end in omega arith) k.inside file.longer)

  pad_bytes : has_pad b v ≡ true → field_bytes now v (pad_field b v) ≡ field_bytes b v (pad_field b v)
  pad_bytes e =
      let ends = end_fits (has_pad b v) (pad_field b v).place (value_bytes b v) (size_at b v) k.end e in
      let room : (pad_field b v).place + (pad_field b v).width ≤ size_at b v = subst (λ (w : ℕ). (pad_field b v).place + w ≤ size_at b v) (sym (pad_width (is_z b v) (dimensions_at b v) (value_bytes b v))) ends in
      piece_kept b now (v + 80) (v + size_at b v) k.back (v + (pad_field b v).place) (pad_field b v).width (from (pad_field b v).place (pad_long (is_z b v) (dimensions_at b v) (value_bytes b v))) (upto (pad_field b v).place (pad_field b v).width room) k.inside file.longer
    where
      from : (p : ℕ) → 340 ≤ p → v + 80 ≤ v + p
      from p l = omega arith

      upto : (p n : ℕ) → p + n ≤ size_at b v → v + p + n ≤ v + size_at b v
      upto p n l = omega arith

  pad_same : pad_at now v ≡ pad_at b v
  pad_same = if_same (has_pad now v) (has_pad b v) _ _ _ _ k.padded
      (λ e.
      let t = kind_same in
      let f = pad_field_same in
      let first : network_bytes now v (pad_field now v) (type_of_variable now v) ≡ turned (type_of_variable b v) (is_little b) (field_bytes now v (pad_field b v)) = λ i. turned (t i) (file.little i) (field_bytes now v (f i)) in
      ap Some (first ∙ ap (turned (type_of_variable b v) (is_little b)) (pad_bytes e)))
      (λ e. refl)

  pub sparse_same : sparse_at now v ≡ sparse_at b v
  sparse_same = ap (λ (n : ℕ). if n == 0 then NoRule else (if n == 1 then Pad else Previous)) (middle_same vdr_s_records (omega arith) (omega arith))

  pub max_rec_same : max_rec_at now v ≡ max_rec_at b v
  max_rec_same = ap (cast_signed w32) (early_same vdr_max_rec (omega arith))

-- without a node no record is stored
pub none_recorded : (b now : List ℕ) (v : ℕ) → records_in now v (leaves_of no_node) ≡ records_in b v (leaves_of no_node)
unfolding leaves_of
none_recorded b now v = refl

-- the variable, where its index has no node
pub variable_repacked : {b now : List ℕ} (file : FileSame b now) (own : VariableShape) → RepackedVdr b now own.vdr → own.index ≡ no_node → variable_of now own ≡ record (variable_of b own) { rle = is_compressed now own.vdr }
variable_repacked {b = b} {now = now} file own k none =
    let name = name_same file k in
    let t = kind_same file k in
    let n = elems_same file k in
    let d = dims_same file k in
    let w = varys_same file k in
    let vary = k.vary in
    let sparse = sparse_same file k in
    let blocking = late_same file k vdr_blocking_factor (omega arith) (omega arith) in
    let m = max_rec_same file k in
    let p = pad_same file k in
    let recs : records_in now own.vdr (leaves_of own.index) ≡ records_in b own.vdr (leaves_of own.index) = ap (λ (x : Nodes). records_in now own.vdr (leaves_of x)) none ∙ none_recorded b now own.vdr ∙ sym (ap (λ (x : Nodes). records_in b own.vdr (leaves_of x)) none) in
    λ i. record (variable_of b own) { name = name i; type = t i; elems = n i; dims = d i; varys = w i; vary = vary i; sparse = sparse i; rle = is_compressed now own.vdr; blocking = cast_signed w32 (blocking i); max_rec = m i; pad = p i; recs = recs i }
