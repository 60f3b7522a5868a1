-- What a record of a variable of a good image reads as, and how long it is.
use Rattle.cdf_var_records.proofs.Common.{Bool, DataType, Good, HoldsRecords, IsVdr, Kind, Leaf, List, NoRule, None, Option, Pad, Previous, Some, Sparse, Variable, ap, arith, default_element, default_value, dimensions_at, dims_at, drop, elems_at, extent, false, field_bytes, good_block, good_is_sound, has_pad, if◌then◌else◌, index_at, inl, inr, is_little, is_z, item_at, le-ltb, lt-ltb, leaf_in, leaf_of, leaves_of, length, length-repeat, max_rec_at, missing, mul-le-mul_right, nat_lt, network_bytes, number, number_read, option_map, pad_field, pad_record, pad_value, pad_width, plain_bytes, read, read_at, record_bytes, record_in, record_limit, record_of_leaf, refl, seen, shape, size_of, size_stays, sym, take, true, type_of_variable, unwrap_or, value_bytes, value_count, variable_at, varys_at, vdr_vxr_head, whole_elements, ℕ, ◌%◌, ◌*◌, ◌+◌, ◌-◌, ◌<◌, ◌∙◌, ◌≡◌, ◌≤◌}
use Rattle.cdf_edits.proofs.Common.{cvvr_c_size, unpacks_to}
use Rattle.cdf_edits.proofs.Edits.LeafPieces.{IsOneOf}
use Rattle.cdf_format.specs.Stored.{packed_bytes}
use Rattle.cdf_var_records.proofs.LeafBytes.{block_long, packed_fits, packed_inside, packed_small, piece_long}
use Rattle.cdf_var_records.proofs.LeafItems.{by_leaf, in_index}
use Rattle.cdf_puts.proofs.PutBytes.{found_covering}
use Rattle.cdf_var_records.proofs.PreviousRecord.{last_stored, none_stored}
use Rattle.cdf_var_records.proofs.RecordForms.{among, image, pad_lies}
use Rattle.cdf_var_records.proofs.PadSites.{own}
use Rattle.cdf_edits.proofs.Common.{cases_lt}
use Rattle.cdf_format.specs.Index.{Leaf as TreeLeaf}
use Rattle.cdf_model.specs.Numbered.{item_before}
use Rattle.cdf_var_records.specs.Next.{leaves_at}
use Rattle.cdf_var_records.specs.Previous.{last_begun}

-- ---- any variable

element_long : (t : DataType) → length (default_element t) ≡ size_of t
element_long t = grind arith

default_long : (t : DataType) (elems : ℕ) → length (default_value t elems) ≡ size_of t * elems
default_long t elems = length-repeat elems (default_element t) ∙ (let e = element_long t in ap (λ (n : ℕ). elems * n) e ∙ omega arith)

pub pad_by : (p : Bool) (bytes other : List ℕ) → p ≡ true → unwrap_or (if p then Some bytes else None) other ≡ bytes
pad_by p bytes other e = rw e refl

pub pad_none : (p : Bool) (bytes other : List ℕ) → p ≡ false → unwrap_or (if p then Some bytes else None) other ≡ other
pad_none p bytes other e = rw e refl

some_if : {A : Type 0} (p : Bool) (o : Option A) (a : A) → (if p then o else None) ≡ Some a → o ≡ Some a
some_if true o a e = e
some_if false o a e = absurd (cc e)

-- ---- a variable of a good image

module _ {b : List ℕ} {kind : Kind} {vdr : ℕ} (good : Good b) (v : IsVdr b kind vdr) where
  abbrev variable : Variable
  variable = variable_at b vdr

  module _ (rec : ℕ) (leaf : Leaf) (found : leaf_in b vdr rec ≡ Some (seen leaf)) where
    -- it is one of the index
    named : leaf_of rec (leaves_of (index_at b (number b vdr vdr_vxr_head))) ≡ Some (seen leaf)
    named = some_if (nat_lt rec (extent (max_rec_at b vdr))) (leaf_of rec (leaves_of (index_at b (number b vdr vdr_vxr_head)))) (seen leaf) found

    here : leaf_of rec (leaves_of (own good v).index) ≡ Some (seen leaf)
    here = in_index good v rec ∙ named

    own_leaf : IsOneOf (leaves_of (own good v).index) (seen leaf) × ((leaf.first ≤ rec) × (rec ≤ leaf.last))
    own_leaf = found_covering rec (leaves_of (own good v).index) (seen leaf) here

    pub between : (leaf.first ≤ rec) × (rec ≤ leaf.last)
    between = own_leaf.1

    pub holding : leaf.packed ≡ false → HoldsRecords b leaf (record_bytes b vdr)
    holding plain = let g = among good v in (good_block b (shape b) g.front (own good v) g.rest (image good v) (good_is_sound b good) g.all rec leaf here plain).0

    -- where its block is packed
    module _ (packed : leaf.packed ≡ true) where
      pub held_inside : leaf.at + 24 + number b leaf.at cvvr_c_size ≤ length b
      held_inside = packed_inside good v (seen leaf) own_leaf.0 packed

      pub held_fits : unpacks_to (packed_bytes b leaf.at) ((leaf.last + 1 - leaf.first) * record_bytes b vdr) ≡ true
      held_fits = packed_fits good v (seen leaf) own_leaf.0 packed

      pub held_small : (leaf.last + 1 - leaf.first) * record_bytes b vdr ≤ record_limit
      held_small = packed_small good v (seen leaf) own_leaf.0 packed

    -- it is one of those of the block
    pub among_others : (rec - leaf.first) * record_bytes b vdr + record_bytes b vdr ≤ (leaf.last + 1 - leaf.first) * record_bytes b vdr
    among_others = let there : (rec - leaf.first) + 1 ≤ leaf.last + 1 - leaf.first = omega (arith, between.0, between.1) in omega (arith, mul-le-mul_right (record_bytes b vdr) there)

    -- the bytes of the record, as they are stored
    abbrev pub stored : List ℕ
    stored = record_in (plain_bytes b vdr (seen leaf)) (record_bytes b vdr) (rec - leaf.first)

    pub stored_long : length stored ≡ record_bytes b vdr
    stored_long =
        let size = record_bytes b vdr in
        let k = rec - leaf.first in
        piece_long (plain_bytes b vdr (seen leaf)) (k * size) size (omega (arith, among_others, block_long good v (seen leaf) own_leaf.0))

    pub stored_whole : length stored % size_of (type_of_variable b vdr) ≡ 0
    stored_whole =
        let t = type_of_variable b vdr in
        let n = value_count (dims_at b vdr) (varys_at b vdr) in
        whole_elements t (elems_at b vdr * n) (length stored) (stored_long ∙ product (size_of t) (elems_at b vdr) n)
      where
        product : (x y z : ℕ) → x * y * z ≡ x * (y * z)
        product x y z = omega arith

  -- ---- a record as it reads

  pub read_past : (rec n : ℕ) → n ≡ number_read variable rec → extent (max_rec_at b vdr) ≤ n → read variable rec ≡ pad_record variable
  read_past rec n is le = ap (read_at variable) (sym is) ∙ rw (le-ltb n (extent (max_rec_at b vdr)) le) refl

  pub read_within : (rec n : ℕ) → n ≡ number_read variable rec → n < extent (max_rec_at b vdr) → read variable rec ≡ unwrap_or (item_at n variable.recs) (missing variable.sparse variable n)
  read_within rec n is lt = ap (read_at variable) (sym is) ∙ rw (lt-ltb n (extent (max_rec_at b vdr)) lt) refl

  -- ---- how long it is

  pub value_long : length (pad_value variable) ≡ value_bytes b vdr
  value_long = by (has_pad b vdr) refl
    where
      field : List ℕ
      field = field_bytes b vdr (pad_field b vdr)

      by : (p : Bool) → has_pad b vdr ≡ p → length (pad_value variable) ≡ value_bytes b vdr
      by true e =
          let t = type_of_variable b vdr in
          let wide = pad_width (is_z b vdr) (dimensions_at b vdr) (value_bytes b vdr) in
          let long : length field ≡ value_bytes b vdr = ap (λ (n : ℕ). length (take n (drop (vdr + (pad_field b vdr).place) b))) wide ∙ piece_long b (vdr + (pad_field b vdr).place) (value_bytes b vdr) (pad_lies good v e) in
          let whole = whole_elements t (elems_at b vdr) (length field) long in
          ap length (pad_by (has_pad b vdr) (network_bytes b vdr (pad_field b vdr) t) (default_value t (elems_at b vdr)) e) ∙ size_stays t (is_little b) field whole ∙ long
      by false e = ap length (pad_none (has_pad b vdr) (network_bytes b vdr (pad_field b vdr) (type_of_variable b vdr)) (default_value (type_of_variable b vdr) (elems_at b vdr)) e) ∙ default_long (type_of_variable b vdr) (elems_at b vdr)

  pub pad_long : length (pad_record variable) ≡ record_bytes b vdr
  pad_long = length-repeat (value_count variable.dims variable.varys) (pad_value variable) ∙ ap (λ (n : ℕ). value_count variable.dims variable.varys * n) value_long ∙ turn (value_count variable.dims variable.varys) (value_bytes b vdr)
    where
      turn : (x y : ℕ) → x * y ≡ y * x
      turn x y = omega arith

  leaf_long : (rec : ℕ) (l : Option TreeLeaf) → leaf_in b vdr rec ≡ l → length (unwrap_or (option_map (record_of_leaf b vdr rec) l) (pad_record variable)) ≡ record_bytes b vdr
  leaf_long rec None e = pad_long
  leaf_long rec (Some l) e =
      let leaf : Leaf = record { first = l.first; last = l.last; at = l.place; packed = l.packed } in
      size_stays (type_of_variable b vdr) (is_little b) (stored rec leaf e) (stored_whole rec leaf e) ∙ stored_long rec leaf e

  pub item_long : (rec : ℕ) → length (unwrap_or (item_at rec variable.recs) (pad_record variable)) ≡ record_bytes b vdr
  item_long rec = ap (λ (o : Option (List ℕ)). length (unwrap_or o (pad_record variable))) (by_leaf good v rec) ∙ leaf_long rec (leaf_in b vdr rec) refl

  missing_long : (rule : Sparse) (n : ℕ) → n < extent (max_rec_at b vdr) → None ≡ item_at n variable.recs → length (missing rule variable n) ≡ record_bytes b vdr
  missing_long NoRule n lt gone = pad_long
  missing_long Pad n lt gone = pad_long
  missing_long Previous n lt gone = by (last_begun n (leaves_at b vdr)) refl
    where
      by : (found : Option TreeLeaf) → last_begun n (leaves_at b vdr) ≡ found → length (unwrap_or (item_before n variable.recs) (pad_record variable)) ≡ record_bytes b vdr
      by None is = ap (λ (o : Option (List ℕ)). length (unwrap_or o (pad_record variable))) (none_stored good v n lt gone is) ∙ pad_long
      by (Some l) is = ap (λ (o : Option (List ℕ)). length (unwrap_or o (pad_record variable))) (last_stored good v n lt gone l is) ∙ item_long l.last

  pub read_long : (rec : ℕ) → length (read variable rec) ≡ record_bytes b vdr
  read_long rec = elim (cases_lt (number_read variable rec) (extent (max_rec_at b vdr))) [
    | inl lt ↦ ap length (read_within rec (number_read variable rec) refl lt) ∙ by lt (item_at (number_read variable rec) variable.recs) refl
    | inr le ↦ ap length (read_past rec (number_read variable rec) refl le) ∙ pad_long
  ]
    where
      n : ℕ
      n = number_read variable rec

      by : n < extent (max_rec_at b vdr) → (o : Option (List ℕ)) → item_at n variable.recs ≡ o → length (unwrap_or (item_at n variable.recs) (missing variable.sparse variable n)) ≡ record_bytes b vdr
      by lt None e = ap (λ (o : Option (List ℕ)). length (unwrap_or o (missing variable.sparse variable n))) e ∙ missing_long variable.sparse n lt (sym e)
      by lt (Some bytes) e = ap (λ (o : Option (List ℕ)). length (unwrap_or o (missing variable.sparse variable n))) e ∙ sym (ap (λ (o : Option (List ℕ)). length (unwrap_or o (pad_record variable))) e) ∙ item_long n
