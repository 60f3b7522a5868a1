-- What a record of a variable reads as, by what was read of its VDR.
use Rattle.cdf_var_records.proofs.Common.{Bool, DataType, Form, Good, HasIndex, HoldsRecords, IsForm, IsRecordShape, Leaf, List, None, Option, Previous, Shape, Some, Variable, ap, ap₂, arith, drop, elems_at, extent, false, field_bytes, has_bit, has_pad, if◌then◌else◌, item_at, leaf_in, length, max_rec_at, missing, mul-div_cancel_left, mul-le-mul_right, number, number_read, option_map, pad_record, plain_bytes, read, record_bytes, record_in, record_limit, record_of_leaf, record_size, seen, size_of, subst, sym, take, true, turned, type_of_variable, unwrap_or, value_bytes, value_count, variable_at, vdr_vxr_head, whole_elements, ℕ, ◌%◌, ◌*◌, ◌+◌, ◌-◌, ◌/◌, ◌<◌, ◌∙◌, ◌≡◌, ◌≤◌}
use Rattle.cdf_var_records.proofs.PadSites.{vdr_lies}
use Rattle.cdf_var_records.proofs.PreviousRecord.{last_leaf, last_stored, none_stored}
use Rattle.cdf_var_records.proofs.RecordForms.{has_index, pad_lies}
use Rattle.cdf_var_records.proofs.LeafItems.{by_leaf}
use Rattle.cdf_var_records.proofs.LeafBytes.{piece_long}
use Rattle.cdf_var_records.proofs.RecordsRead.{among_others, between, held_fits, held_inside, held_small, holding, read_past, read_within, stored_whole}
use Rattle.cdf_var_records.specs.Next.{leaves_at}
use Rattle.cdf_var_records.specs.Previous.{last_begun}
use Rattle.cdf_edits.proofs.Common.{cvvr_c_size, unpacks_to}
use Rattle.cdf_format.specs.Records.{vvr_records}
use Rattle.cdf_format.specs.Stored.{packed_bytes}
use Rattle.cdf_format.specs.VariableFields.{plain_size}
use Rattle.cdf_model.specs.RunLengths.{plain_of}

-- a record has no more values than bytes
pub values_fit : (shape : Shape) → IsRecordShape shape → value_count shape.dims shape.varys ≤ record_limit
values_fit shape is = omega (arith, mul-le-mul_right (value_count shape.dims shape.varys) is.some, is.fits)

module _ {b : List ℕ} {form : Form} (good : Good b) (f : IsForm b form) where
  abbrev pub vdr : ℕ
  vdr = form.place.vdr

  abbrev pub variable : Variable
  variable = variable_at b vdr

  t_here : form.shape.t ≡ type_of_variable b vdr
  t_here = f.t_is ∙ f.place.t_is

  elems_here : form.shape.elems ≡ elems_at b vdr
  elems_here = f.elems_are ∙ f.place.elems_are

  pub value_size_is : size_of form.shape.t * form.shape.elems ≡ value_bytes b vdr
  value_size_is = ap₂ (λ (t : DataType) (n : ℕ). size_of t * n) t_here elems_here

  pub record_size_is : record_size form.shape.t form.shape.elems form.shape.dims form.shape.varys ≡ record_bytes b vdr
  record_size_is = λ i. record_size (t_here i) (elems_here i) (f.dims_are i) (f.varys_are i)

  -- ---- the pad value

  module _ (has : has_bit form.place.flags 1 ≡ true) where
    some : has_pad b vdr ≡ true
    some = ap (λ (n : ℕ). has_bit n 1) (sym f.place.flags_are) ∙ has

    pub pad_is_inside : vdr + form.place.at + size_of form.shape.t * form.shape.elems ≤ length b
    pad_is_inside = omega (arith, pad_lies good f.is_vdr some, value_size_is, f.place.at_is)

    -- it has whole elements
    pub pad_whole : (bytes : List ℕ) → bytes ≡ take (size_of form.shape.t * form.shape.elems) (drop (vdr + form.place.at) b) → length bytes % size_of form.place.t ≡ 0
    pad_whole bytes e =
        let long : length bytes ≡ size_of form.shape.t * form.shape.elems = ap length e ∙ piece_long b (vdr + form.place.at) (size_of form.shape.t * form.shape.elems) pad_is_inside in
        whole_elements form.place.t form.shape.elems (length bytes) (long ∙ ap (λ (t : DataType). size_of t * form.shape.elems) f.t_is)

  pub count_is : (size value : ℕ) → size ≡ record_size form.shape.t form.shape.elems form.shape.dims form.shape.varys → value ≡ size_of form.shape.t * form.shape.elems → size / value ≡ value_count variable.dims variable.varys
  count_is size value s w =
      let n = value_count form.shape.dims form.shape.varys in
      let some = f.shaped.some in
      ap₂ (λ (x y : ℕ). x / y) s w ∙ mul-div_cancel_left n (omega arith) ∙ ap₂ (λ (d : List ℕ) (w : List Bool). value_count d w) f.dims_are f.varys_are

  -- ---- records that are stored

  pub lies : vdr + 340 ≤ length b
  lies = vdr_lies good f.is_vdr

  pub index : HasIndex b (number b vdr vdr_vxr_head)
  index = has_index good f.is_vdr

  pub no_record : (rec : ℕ) → None ≡ leaf_in b vdr rec → None ≡ item_at rec variable.recs
  no_record rec e = ap (option_map (record_of_leaf b vdr rec)) e ∙ sym (by_leaf good f.is_vdr rec)

  module _ (rec : ℕ) (leaf : Leaf) (found : Some (seen leaf) ≡ leaf_in b vdr rec) where
    abbrev stored : List ℕ
    stored = record_in (plain_bytes b vdr (seen leaf)) (record_bytes b vdr) (rec - leaf.first)

    pub among_leaf : (leaf.first ≤ rec) × (rec ≤ leaf.last)
    among_leaf = between good f.is_vdr rec leaf (sym found)

    module _ (size : ℕ) (as_read : size ≡ record_size form.shape.t form.shape.elems form.shape.dims form.shape.varys) where
      sized : record_bytes b vdr ≡ size
      sized = sym (as_read ∙ record_size_is)

      -- where its block is not packed
      module _ (plain : leaf.packed ≡ false) where
        pub holds : HoldsRecords b leaf size
        holds = subst (HoldsRecords b leaf) sized (holding good f.is_vdr rec leaf (sym found) plain)

      pub reads_plain : (bytes : List ℕ) → ((at : ℕ) → record_bytes b at ≡ size → bytes ≡ record_in (plain_bytes b at (seen leaf)) size (rec - leaf.first)) → bytes ≡ stored
      reads_plain bytes is = is vdr sized ∙ ap (λ (n : ℕ). record_in (plain_bytes b vdr (seen leaf)) n (rec - leaf.first)) (sym sized)

      -- where it is packed
      module _ (packed : leaf.packed ≡ true) where
        pub unpacks_inside : leaf.at + 24 + number b leaf.at cvvr_c_size ≤ length b
        unpacks_inside = held_inside good f.is_vdr rec leaf (sym found) packed

        pub unpacks_whole : unpacks_to (packed_bytes b leaf.at) ((leaf.last + 1 - leaf.first) * size) ≡ true
        unpacks_whole = ap (λ (n : ℕ). unpacks_to (packed_bytes b leaf.at) ((leaf.last + 1 - leaf.first) * n)) (sym sized) ∙ held_fits good f.is_vdr rec leaf (sym found) packed

        pub unpacks_small : (leaf.last + 1 - leaf.first) * size ≤ record_limit
        unpacks_small = subst (λ (n : ℕ). (leaf.last + 1 - leaf.first) * n ≤ record_limit) sized (held_small good f.is_vdr rec leaf (sym found) packed)

        pub reads_packed : (bytes : List ℕ) → bytes ≡ take size (drop ((rec - leaf.first) * size) (plain_of (packed_bytes b leaf.at))) → bytes ≡ stored
        reads_packed bytes is =
            is ∙ ap (λ (n : ℕ). record_in (plain_of (packed_bytes b leaf.at)) n (rec - leaf.first)) (sym sized)
            ∙ ap (λ (p : Bool). record_in (if p then plain_of (packed_bytes b leaf.at) else field_bytes b leaf.at (vvr_records (plain_size b vdr (seen leaf)))) (record_bytes b vdr) (rec - leaf.first)) (sym packed)

      pub within_block : (rec - leaf.first) * size + size ≤ (leaf.last + 1 - leaf.first) * size
      within_block = subst (λ (n : ℕ). (rec - leaf.first) * n + n ≤ (leaf.last + 1 - leaf.first) * n) sized (among_others good f.is_vdr rec leaf (sym found))

    module _ (bytes : List ℕ) (is : bytes ≡ stored) where
      pub whole : length bytes % size_of form.place.t ≡ 0
      whole = subst (λ (t : DataType). length bytes % size_of t ≡ 0) (sym f.place.t_is) (ap (λ (xs : List ℕ). length xs % size_of (type_of_variable b vdr)) is ∙ stored_whole good f.is_vdr rec leaf (sym found))

      pub leaf_has : (now : List ℕ) → now ≡ turned form.place.t form.encoding.little bytes → Some now ≡ item_at rec variable.recs
      leaf_has now turns = ap Some turns ∙ (λ i. Some (turned (f.place.t_is i) (f.order i) (is i))) ∙ ap (option_map (record_of_leaf b vdr rec)) found ∙ sym (by_leaf good f.is_vdr rec)

  -- ---- a record that is missing, where the one stored before it is read

  module _ (rec : ℕ) (lt : rec < extent (max_rec_at b vdr)) (gone : None ≡ item_at rec variable.recs) where
    pub reads_none : (bytes : List ℕ) → last_begun rec (leaves_at b vdr) ≡ None → bytes ≡ pad_record variable → bytes ≡ missing Previous variable rec
    reads_none bytes found pad = pad ∙ sym (ap (λ (o : Option (List ℕ)). unwrap_or o (pad_record variable)) (none_stored good f.is_vdr rec lt gone found))

    module _ (leaf : Leaf) (found : last_begun rec (leaves_at b vdr) ≡ Some (seen leaf)) where
      pub last_there : Some (seen leaf) ≡ leaf_in b vdr leaf.last
      last_there = sym (last_leaf good f.is_vdr rec lt gone (seen leaf) found)

      pub reads_last : (bytes : List ℕ) → Some bytes ≡ item_at leaf.last variable.recs → bytes ≡ missing Previous variable rec
      reads_last bytes e = ap (λ (o : Option (List ℕ)). unwrap_or o (pad_record variable)) (e ∙ sym (last_stored good f.is_vdr rec lt gone (seen leaf) found))

  -- ---- a record as it reads

  number_is : (rec n : ℕ) → n ≡ (if has_bit form.place.flags 0 then rec else 0) → n ≡ number_read variable rec
  number_is rec n is = is ∙ ap (λ (flags : ℕ). if has_bit flags 0 then rec else 0) f.place.flags_are

  pub reads_past : (rec n : ℕ) (bytes : List ℕ) → n ≡ (if has_bit form.place.flags 0 then rec else 0) → extent (max_rec_at b vdr) ≤ n → bytes ≡ pad_record variable → bytes ≡ read variable rec
  reads_past rec n bytes is le pad = pad ∙ sym (read_past good f.is_vdr rec n (number_is rec n is) le)

  pub reads_stored : (rec n : ℕ) (bytes : List ℕ) → n ≡ (if has_bit form.place.flags 0 then rec else 0) → n < extent (max_rec_at b vdr) → Some bytes ≡ item_at n variable.recs → bytes ≡ read variable rec
  reads_stored rec n bytes is lt e = ap (λ (o : Option (List ℕ)). unwrap_or o (missing variable.sparse variable n)) e ∙ sym (read_within good f.is_vdr rec n (number_is rec n is) lt)

  pub reads_missing : (rec n : ℕ) (bytes : List ℕ) → n ≡ (if has_bit form.place.flags 0 then rec else 0) → n < extent (max_rec_at b vdr) → None ≡ item_at n variable.recs → bytes ≡ missing variable.sparse variable n → bytes ≡ read variable rec
  reads_missing rec n bytes is lt e read = read ∙ ap (λ (o : Option (List ℕ)). unwrap_or o (missing variable.sparse variable n)) e ∙ sym (read_within good f.is_vdr rec n (number_is rec n is) lt)
