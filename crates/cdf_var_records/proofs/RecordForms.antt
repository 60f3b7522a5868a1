-- What the VDR of a variable of a good image says of its records, and what its index is.
use Rattle.cdf_var_records.proofs.Common.{AmongAll, Bool, DataSet, DataType, Form, Good, HasIndex, IsForm, IsGoodImage, IsPlace, IsVdr, Kind, List, Nodes, PadPlace, R, Z, [], among_all, ap, ap₂, arith, both, content, content_is, counted, counted4, dimensions_at, dims_at, either, elems_at, false, few_dimensions, fits, gdr_offset, gdr_r_num_dims, good_by_its_shape, good_image, good_index, good_is_sound, has_bit, has_dimensions, has_pad, if◌then◌else◌, index_at, inl, inr, is_little, is_positive, is_z, le_of, length, length-map, list_all, ltb, majority_of, map, mul-le-mul_right, nat_le, negsuc, not, number, pad_field, pos, r_sizes, record_bytes, record_limit, record_size, refl, rules, shape, size_at, size_of, size_some, sound, subst, suc, sym, tile, tile_lies, true, type_of_variable, value_bytes, variable_at, variable_of, variables, vary_field, varys_at, vdr_num_elems, vdr_r_dim_vary, vdr_r_pad_value, vdr_vxr_head, vdr_z_dim_vary, vdr_z_num_dims, vdr_z_pad_value, with_sign, word, words, ℕ, ℤ, ◌*◌, ◌+◌, ◌-◌, ◌==◌, ◌^◌, ◌||◌, ◌∙◌, ◌∷◌, ◌≡◌, ◌≤◌, ◌⊎◌}
use Rattle.cdf_var_records.proofs.PadSites.{at, at_is, dims_long, inside, own, positive, r_count, r_typed, ruled, small_signed, words_long, z_count, z_few, z_typed}

-- ---- sizes as they are read

sign_of : (n : ℕ) → (with_sign n ≡ pos n) ⊎ (with_sign n ≡ negsuc (2 ^ 32 - suc n))
sign_of n = elim (either (ltb n (2 ^ 31))) [ inl t ↦ inl (rw t refl) | inr t ↦ inr (rw t refl) ]

as_read : (ns : List ℕ) → list_all is_positive (map counted4 ns) ≡ true → map counted4 ns ≡ ns
as_read [] e = refl
as_read (n ∷ ns) e =
    let p = both (is_positive (counted4 n)) (list_all is_positive (map counted4 ns)) e in
    ap₂ (λ (x : ℕ) (xs : List ℕ). x ∷ xs) (elim (sign_of n) [ inl s ↦ ap counted s | inr s ↦ none n s p.0 ]) (as_read ns p.1)
  where
    none : (n : ℕ) → with_sign n ≡ negsuc (2 ^ 32 - suc n) → is_positive (counted4 n) ≡ true → counted4 n ≡ n
    none n s p = let no : is_positive (counted4 n) ≡ false = ap (λ (z : ℤ). is_positive (counted z)) s in absurd (let q = sym p ∙ no in cc q)

-- where DimVarys ends the pad value stands
vary_ends : (p : Bool) (d n : ℕ) → (if p then vdr_z_dim_vary d 0 else vdr_r_dim_vary 0).place + 4 * d ≡ (if p then vdr_z_pad_value d n else vdr_r_pad_value d n).place
vary_ends true d n = omega arith
vary_ends false d n = omega arith

module _ {b : List ℕ} {kind : Kind} {vdr : ℕ} (good : Good b) (v : IsVdr b kind vdr) where
  pub image : IsGoodImage b (shape b)
  image = good_image b (shape b) (good_by_its_shape b good)

  pub among : AmongAll (variables (shape b)) (own good v)
  among = among_all b kind v.before (own good v) v.after v.was

  index : HasIndex b (number b vdr vdr_vxr_head) × (index_at b (number b vdr vdr_vxr_head) ≡ (own good v).index)
  index = good_index b (shape b) among.front (own good v) among.rest image (good_is_sound b good) among.all

  -- it can be searched
  pub has_index : HasIndex b (number b vdr vdr_vxr_head)
  has_index = index.0

  pub index_is : index_at b (number b vdr vdr_vxr_head) ≡ (own good v).index
  index_is = index.1

  -- the variable is the one that the data set has
  pub variable_is : variable_at b vdr ≡ variable_of b (own good v)
  variable_is = ap (λ (nodes : Nodes). variable_of b (record { vdr = vdr; index = nodes; cpr = [] })) index_is

  -- ---- its rules

  pub small_record : record_bytes b vdr ≤ record_limit
  small_record = le_of (record_bytes b vdr) record_limit (ruled good v).0.1.1.1.1.1.1.0

  pub some_elements : 1 ≤ elems_at b vdr
  some_elements = let p = positive good v in subst (λ (n : ℕ). 1 ≤ n) (sym (small_signed (number b vdr vdr_num_elems) p.1)) p.0

  pub some_bytes : 1 ≤ value_bytes b vdr
  some_bytes = omega (arith, mul-le-mul_right (elems_at b vdr) (size_some (type_of_variable b vdr)), some_elements)

  -- ---- its dimensions

  pub one_each : length (varys_at b vdr) ≡ length (dims_at b vdr)
  one_each = length-map (words b _ (dimensions_at b vdr)) (λ n. not (n == 0)) ∙ words_long b _ (dimensions_at b vdr) ∙ sym (dims_long b vdr)

  pub varys_end : (vary_field b vdr).place + 4 * dimensions_at b vdr ≡ (pad_field b vdr).place
  varys_end = vary_ends (is_z b vdr) (dimensions_at b vdr) (value_bytes b vdr)

  pub varys_lie : vdr + (pad_field b vdr).place ≤ length b
  varys_lie = inside good v

  -- the pad value lies in the image
  pub pad_lies : has_pad b vdr ≡ true → vdr + (pad_field b vdr).place + value_bytes b vdr ≤ length b
  pad_lies has =
      let high = (tile_lies b 8 (length b) (shape b).records vdr (sound good (at good v)).has_shape.tiled (tile good (at good v))).high in
      let room : (pad_field b vdr).place + value_bytes b vdr ≤ size_at b vdr = rw has at (fits good (at good v)).0 in
      omega arith

-- ---- of a z variable

module _ {b : List ℕ} {vdr : ℕ} (good : Good b) (v : IsVdr b Z vdr) where
  few_z : dimensions_at b vdr ≤ 10
  few_z = subst (λ (n : ℕ). n ≤ 10) (z_count good v (number b vdr vdr_z_num_dims) refl) (z_few good v)

  pub z_sizes_lie : vdr + 344 + 4 * dimensions_at b vdr ≤ length b
  z_sizes_lie = let place : (pad_field b vdr).place ≡ 344 + 8 * dimensions_at b vdr = at_is good v in let l = varys_lie good v in omega arith

  pub z_sizes_are : words b (vdr + 344) (dimensions_at b vdr) ≡ dims_at b vdr
  z_sizes_are =
      let z = z_typed good v in
      let row : (not (is_z b vdr) || has_dimensions b vdr) ≡ true = (ruled good v).0.1.1.1.1.0 in
      let has : has_dimensions b vdr ≡ true = subst (λ (p : Bool). (not p || has_dimensions b vdr) ≡ true) z row in
      let positive : list_all is_positive (dims_at b vdr) ≡ true = (both _ (list_all is_positive (dims_at b vdr)) (both (nat_le (number b vdr vdr_z_num_dims) 10) _ has).1).1 in
      let plain : dims_at b vdr ≡ map counted4 (words b (vdr + 344) (dimensions_at b vdr)) = rw z refl in
      sym (as_read (words b (vdr + 344) (dimensions_at b vdr)) (subst (λ (ns : List ℕ). list_all is_positive ns ≡ true) plain positive)) ∙ sym plain

-- ---- of an r variable

module _ {b : List ℕ} {vdr : ℕ} (good : Good b) (v : IsVdr b R vdr) where
  few_r : dimensions_at b vdr ≤ 10
  few_r = let few = few_dimensions b good in subst (λ (n : ℕ). n ≤ 10) (sym (r_count good v ∙ small_signed (number b (gdr_offset b) gdr_r_num_dims) (omega arith))) few

  pub r_sizes_are : (content b).rdims ≡ dims_at b vdr
  r_sizes_are =
      let h = (good_is_sound b good).has_shape in
      let z = r_typed good v in
      let plain : dims_at b vdr ≡ r_sizes b (gdr_offset b) = rw z refl in
      ap (λ (d : DataSet). d.rdims) (content_is b (shape b) h) ∙ ap (r_sizes b) (sym h.gdr_is) ∙ sym plain

-- of each kind there are few dimensions
pub few : {b : List ℕ} {vdr : ℕ} (kind : Kind) → Good b → IsVdr b kind vdr → dimensions_at b vdr ≤ 10
few R good v = few_r good v
few Z good v = few_z good v

-- ---- the majority of the file

pub majority_is : (b : List ℕ) → Good b → (flags_word : ℕ) → flags_word ≡ word b 40 4 → majority_of (has_bit flags_word 0) ≡ (content b).majority
majority_is b good n e = ap (λ (k : ℕ). majority_of (has_bit k 0)) e ∙ sym (ap (λ (d : DataSet). d.majority) (content_is b (shape b) (good_is_sound b good).has_shape))

-- ---- DimVarys, by what was read before

module _ {b : List ℕ} {kind : Kind} {vdr : ℕ} (good : Good b) (v : IsVdr b kind vdr) {p : PadPlace} (place : IsPlace b vdr p) {count : ℕ} (is : count ≡ length (dims_at b vdr)) where
  counted_is : count ≡ dimensions_at b vdr
  counted_is = is ∙ dims_long b vdr

  pub count_few : count ≤ 10
  count_few = subst (λ (n : ℕ). n ≤ 10) (sym counted_is) (few kind good v)

  ends : (vary_field b vdr).place + 4 * count ≡ p.at
  ends = ap (λ (n : ℕ). (vary_field b vdr).place + 4 * n) counted_is ∙ varys_end good v ∙ sym place.at_is

  pub varys_before : 4 * count ≤ p.at
  varys_before = let e = ends in omega arith

  pub varys_inside : vdr + (p.at - 4 * count) + 4 * count ≤ length b
  varys_inside = omega (arith, ends, varys_lie good v, place.at_is)

  pub varys_read : map (λ n. not (n == 0)) (words b (vdr + (p.at - 4 * count)) count) ≡ varys_at b vdr
  varys_read =
      let start : p.at - 4 * count ≡ (vary_field b vdr).place = let e = ends in omega arith in
      let n = counted_is in
      λ i. map (λ n. not (n == 0)) (words b (vdr + start i) (n i))

-- ---- all that was read

pub form_is : {b : List ℕ} {kind : Kind} {vdr : ℕ} (good : Good b) (v : IsVdr b kind vdr) (form : Form) → form.place.vdr ≡ vdr → IsPlace b vdr form.place → form.encoding.little ≡ is_little b
    → form.shape.t ≡ form.place.t → form.shape.elems ≡ form.place.elems → form.shape.dims ≡ dims_at b vdr → form.shape.varys ≡ varys_at b vdr → IsForm b form
form_is {b} {kind} {vdr} good v form there place order t elems dims varys =
    let type = t ∙ place.t_is in
    let count = elems ∙ place.elems_are in
    let is_vdr = subst (IsVdr b kind) (sym there) v in
    let here = subst (λ (k : ℕ). IsPlace b k form.place) (sym there) place in
    let some = subst (λ (n : ℕ). 1 ≤ n) (sym (ap₂ (λ (t : DataType) (n : ℕ). size_of t * n) type count)) (some_bytes good v) in
    let fits = subst (λ (n : ℕ). n ≤ record_limit) (sym (λ i. record_size (type i) (count i) (dims i) (varys i))) (small_record good v) in
    search (rules, is_vdr, here, order, t, elems, dims ∙ ap (dims_at b) (sym there), varys ∙ ap (varys_at b) (sym there), ap length varys ∙ one_each good v ∙ ap length (sym dims), some, fits)
