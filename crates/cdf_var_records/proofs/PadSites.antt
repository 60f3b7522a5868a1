-- Where the VDR of a variable and its parts stand, the dimensions that it has, and where its pad value belongs, as they are read.
use Rattle.cdf_var_records.proofs.Common.{AreBytes, Bool, DataSet, Each, Each-split, Field, Good, HasElements, IsGoodByShape, IsRuled, IsVdr, Kind, List, R, StandsAmong, VariableShape, Z, all_ruled, ap, arith, both, cast_signed, cast_unsigned, cdr_fits, content, content_is, counted, counted4, dimensions_at, dims_at, either, elems_at, false, few_dimensions, fits, fixed_size, gdr_fits, gdr_offset, good_by_its_shape, good_is_sound, has_dimensions, has_elements, high, inl, inr, is_characters, is_positive, is_z, known_type, le_of, length, length-map, name_room, nat_le, not, notation_of, number, of_kind, of_z-to_z, pad_field, r_num_dims, refl, shape, signed_limit, size_at, sizes_fit, sound, subst, suc, sym, tile, true, type_at, type_in, type_of, type_of_variable, typed, variables, variables_chain, vdr_bytes, vdr_data_type, vdr_num_elems, vdr_z_num_dims, vdrs, w32, word, word_fits, words, z_vdr_type, zero, ℕ, ℤ, ◌*◌, ◌+◌, ◌<◌, ◌==◌, ◌^◌, ◌||◌, ◌∙◌, ◌∷◌, ◌≡◌, ◌≤◌}

-- ---- where the VDR of a variable stands, and how long its parts are

pub words_long : (b : List ℕ) (p n : ℕ) → length (words b p n) ≡ n
words_long b p zero = refl
words_long b p (suc n) = ap suc (words_long b (p + 4) n)

pub dims_long : (b : List ℕ) (v : ℕ) → length (dims_at b v) ≡ dimensions_at b v
dims_long b v = elim (either (is_z b v)) [
  | inl z ↦ rw z (length-map (words b _ _) counted4 ∙ words_long b _ _)
  | inr z ↦ rw z (words_long b _ _)
]

pub pad_place : (kind : Kind) (b : List ℕ) (v : ℕ) → type_at b v ≡ type_in (variables_chain kind) → (pad_field b v).place ≡ vdr_bytes kind (dimensions_at b v)
pad_place R b v e = let z : is_z b v ≡ false = ap (λ (t : ℕ). t == z_vdr_type) e in rw z refl
pad_place Z b v e = let z : is_z b v ≡ true = ap (λ (t : ℕ). t == z_vdr_type) e in rw z refl

module _ {b : List ℕ} {kind : Kind} {vdr : ℕ} (good : Good b) (v : IsVdr b kind vdr) where
  abbrev pub own : VariableShape
  own = record v.own { vdr = vdr }

  pub at : StandsAmong b kind v.before own v.after
  at = record { was = v.was }

  -- what stands before its pad value lies in the image
  pub inside : vdr + (pad_field b vdr).place ≤ length b
  inside = let l = high good at in let room = (fits good at).0 in omega arith

-- ---- the dimensions that r variables share, as they are read

-- a small number that is read with its sign
pub small_signed : (n : ℕ) → n ≤ signed_limit → counted (cast_signed w32 n) ≡ n
small_signed n l = grind arith

pub offset_lies : (b : List ℕ) → Good b → 28 ≤ length b
offset_lies b good = let l = cdr_fits b good in omega arith

-- from the offset and the number of dimensions that were read of an image that stays the same
module _ (b now : List ℕ) (good : Good b) (same : now ≡ b) (g : ℕ) (there : g ≡ gdr_offset b) where
  pub count_lies : g + 56 + 4 ≤ length now
  count_lies = let l = gdr_fits b good in let n : length now ≡ length b = ap (λ (x : List ℕ). length x) same in omega arith

  module _ (n : ℕ) (says : n ≡ word now (g + 56) 4) where
    pub count_is : n ≡ r_num_dims b (gdr_offset b)
    count_is =
        let at : n ≡ word b (gdr_offset b + 56) 4 = says ∙ (λ i. word (same i) (there i + 56) 4) in
        let small : word b (gdr_offset b + 56) 4 ≤ 10 = few_dimensions b good in
        at ∙ sym (small_signed (word b (gdr_offset b + 56) 4) (omega (arith, small)))

    pub sizes_lie : (later : List ℕ) → later ≡ b → g + 84 + 4 * n ≤ length later
    sizes_lie later e = omega (arith, sizes_fit b good, count_is, ap length e)

    pub dims_are : (later : List ℕ) → later ≡ b → words later (g + 84) n ≡ (content b).rdims
    dims_are later e =
        let h = (good_is_sound b good).has_shape in
        let c = count_is in
        (λ i. words (e i) (there i + 84) (c i)) ∙ ap (λ (x : ℕ). words b (x + 84) (r_num_dims b x)) h.gdr_is ∙ sym (ap (λ (d : DataSet). d.rdims) (content_is b (shape b) h))

-- ---- where the pad value of a variable belongs, as it is read of its VDR

-- ---- the rules of a variable

module _ {b : List ℕ} {kind : Kind} {vdr : ℕ} (good : Good b) (v : IsVdr b kind vdr) where
  image : IsGoodByShape b (shape b)
  image = good_by_its_shape b good

  pub ruled : IsRuled b (shape b).records (own good v)
  ruled =
      let all = all_ruled b (shape b).records (vdrs (variables (shape b))) (variables (shape b)) image.of_variables image.indexes in
      (Each-split (IsRuled b (shape b).records) v.before (own good v ∷ v.after) (subst (Each (IsRuled b (shape b).records)) v.was (of_kind (IsRuled b (shape b).records) kind (shape b) all))).1.0

  elements : has_elements b vdr ≡ true
  elements = ruled.0.1.1.1.0

  pub positive : (1 ≤ number b vdr vdr_num_elems) × (number b vdr vdr_num_elems ≤ signed_limit)
  positive =
      let p = both (nat_le 1 (number b vdr vdr_num_elems)) (nat_le (number b vdr vdr_num_elems) signed_limit) (both (is_positive (number b vdr vdr_num_elems)) _ elements).0 in
      (le_of 1 _ p.0, le_of _ signed_limit p.1)

  -- the number of elements
  pub elems_is : (n : ℕ) → n ≡ cast_unsigned w32 (cast_signed w32 (number b vdr vdr_num_elems)) → n ≡ elems_at b vdr
  elems_is n e = let small = positive.1 in e ∙ of_z-to_z w32 (number b vdr vdr_num_elems) (omega arith) ∙ sym (small_signed (number b vdr vdr_num_elems) small)

  -- and of a field that is read with its sign
  module _ (there : AreBytes b vdr 84) where
    back : (f : Field) → f.width ≡ 4 → f.place + 4 ≤ 84 → cast_unsigned w32 (cast_signed w32 (number b vdr f)) ≡ number b vdr f
    back f wide inside =
        let fits : word b (vdr + f.place) f.width < 256 ^ f.width = word_fits b vdr 84 (vdr + f.place) f.width there (omega arith) (omega (arith, wide)) in
        let small : number b vdr f < 256 ^ 4 = subst (λ (k : ℕ). word b (vdr + f.place) f.width < 256 ^ k) wide fits in
        of_z-to_z w32 (number b vdr f) (omega arith)

    pub type_is : (z : ℤ) → z ≡ cast_signed w32 (number b vdr vdr_data_type) → type_of (cast_signed w32 (cast_unsigned w32 z)) ≡ known_type b vdr vdr_data_type
    type_is z e = ap (λ (x : ℤ). type_of (cast_signed w32 (cast_unsigned w32 x))) e ∙ ap (λ (k : ℕ). type_of (cast_signed w32 k)) (back vdr_data_type refl (omega arith))

    pub elems_are : (n : ℕ) (z : ℤ) → n ≡ cast_unsigned w32 (cast_signed w32 (cast_unsigned w32 z)) → z ≡ cast_signed w32 (number b vdr vdr_num_elems) → n ≡ elems_at b vdr
    elems_are n z e f = elems_is n (e ∙ ap (λ (x : ℤ). cast_unsigned w32 (cast_signed w32 (cast_unsigned w32 x))) f ∙ ap (λ (k : ℕ). cast_unsigned w32 (cast_signed w32 k)) (back vdr_num_elems refl (omega arith)))

  pub has_so_many : HasElements (type_of_variable b vdr) (elems_at b vdr)
  has_so_many = ap (λ (k : ℕ). (k == 1) || is_characters (notation_of (type_of_variable b vdr))) (small_signed (number b vdr vdr_num_elems) positive.1) ∙ (both (is_positive (number b vdr vdr_num_elems)) _ elements).1

  pub vdr_lies : vdr + 340 ≤ length b
  vdr_lies = name_room good (at good v)

  -- where the pad value stands, by the dimensions
  pub at_is : (pad_field b vdr).place ≡ vdr_bytes kind (dimensions_at b vdr)
  at_is = pad_place kind b vdr (typed good (at good v))

-- of a z variable
module _ {b : List ℕ} {vdr : ℕ} (good : Good b) (v : IsVdr b Z vdr) where
  pub z_typed : is_z b vdr ≡ true
  z_typed = ap (λ (t : ℕ). t == z_vdr_type) (typed good (at good v))

  pub z_few : number b vdr vdr_z_num_dims ≤ 10
  z_few =
      let row : (not (is_z b vdr) || has_dimensions b vdr) ≡ true = (ruled good v).0.1.1.1.1.0 in
      let has : has_dimensions b vdr ≡ true = subst (λ (z : Bool). (not z || has_dimensions b vdr) ≡ true) z_typed row in
      le_of (number b vdr vdr_z_num_dims) 10 (both (nat_le (number b vdr vdr_z_num_dims) 10) _ has).0

  pub z_lies : vdr + 344 ≤ length b
  z_lies =
      let l = high good (at good v) in
      let fixed : fixed_size (type_at b vdr) ≤ size_at b vdr = (sound good (at good v)).has_shape.fixed vdr (tile good (at good v)) in
      let least : 344 ≤ size_at b vdr = subst (λ (t : ℕ). fixed_size t ≤ size_at b vdr) (typed good (at good v)) fixed in
      omega arith

  pub z_count : (n : ℕ) → n ≡ number b vdr vdr_z_num_dims → n ≡ dimensions_at b vdr
  z_count n e =
      let z = z_typed in
      let few = z_few in
      e ∙ sym (small_signed (number b vdr vdr_z_num_dims) (omega arith)) ∙ rw z refl

-- of an r variable
module _ {b : List ℕ} {vdr : ℕ} (good : Good b) (v : IsVdr b R vdr) where
  pub r_typed : is_z b vdr ≡ false
  r_typed = ap (λ (t : ℕ). t == z_vdr_type) (typed good (at good v))

  pub r_count : dimensions_at b vdr ≡ r_num_dims b (gdr_offset b)
  r_count = let z = r_typed in rw z refl
