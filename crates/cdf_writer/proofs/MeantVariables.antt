-- What a good image says of a variable is a fine one.
use Rattle.std.proofs.Common.{Bool, List, None, Some, [], ap, arith, drop, false, inl, inr, length, map, negsuc, not, refl, subst, suc, sym, take, true, w32, zero, ℕ, ℤ, ◌%◌, ◌&&◌, ◌*◌, ◌++◌, ◌+◌, ◌<◌, ◌^◌, ◌∙◌, ◌∷◌, ◌≡◌, ◌≤◌, ◌||◌, ◌⊎◌}
use Rattle.std.proofs.lemmas.Bool.Decides.{nat_tests}
use Rattle.std.proofs.lemmas.Int.{ints}
use Rattle.std.proofs.lemmas.List.{length-drop, length-map, length-take}
use Rattle.std.specs.List.{enumerate_from, filter, flat_map, list_all}
use Rattle.std.specs.Prelude.{FitsSigned, IfSome, nat_le, nat_lt, ◌-◌, ◌==◌, if◌then◌else◌}
use Rattle.std.specs.Int.{cast_signed}
use Rattle.cdf_format.proofs.Members.{either}
use Rattle.cdf_model.specs.ByteOrder.{parts, turned}
use Rattle.cdf_model.specs.DataSet.{extent}
use Rattle.cdf_model.specs.declared.data_type.DataType.{DataType}
use Rattle.cdf_model.specs.Limits.{dimension_limit, record_number_limit, signed_limit}
use Rattle.cdf_model.specs.Values.{notation_of}
use Rattle.cdf_model.specs.VariableSteps.{is_characters}
use Rattle.cdf_model.specs.Place.{record_limit, value_count}
use Rattle.cdf_model.specs.Types.{size_of}
use Rattle.cdf_format.proofs.Tests.{both, eq_of, le_of}
use Rattle.cdf_format.specs.Content.{leaf_records, plain_bytes, records_in, variable_of}
use Rattle.cdf_format.specs.Fields.{word, counted, gdr_offset, holds, is_positive, number, r_num_dims, r_sizes, size_at, words}
use Rattle.cdf_format.specs.Index.{Leaf, leaves_of}
use Rattle.cdf_format.specs.Records.{vdr_blocking_factor, vdr_max_rec, vdr_name, vdr_num_elems, vdr_r_pad_value, vdr_z_dim_sizes, vdr_z_num_dims, vdr_z_pad_value}
use Rattle.cdf_format.specs.Rules.{Hold}
use Rattle.cdf_format.specs.Shape.{Each, VariableShape}
use Rattle.cdf_format.specs.Stored.{field_bytes, is_little, network_bytes}
use Rattle.cdf_format.specs.VariableFields.{counted4, dimensions_at, dims_at, elems_at, has_pad, is_z, max_rec_at, pad_at, pad_field, plain_size, record_bytes, records_of_leaf, type_of_variable, value_bytes, varys_at}
use Rattle.cdf_format.specs.VariableRules.{has_dimensions, has_elements, is_max_rec, variable_rows, vdr_end}
use Rattle.cdf_edits.proofs.Edits.LeafRecords.{Ascending, rising_records, signed}
use Rattle.cdf_values.proofs.TurnedLemmas.{size_stays}
use Rattle.cdf_writer.specs.Fine.{FineRecord, FineVariable, IsPos}
use Rattle.cdf_writer.proofs.Entries.{size_some, whole_bytes}
use Rattle.cdf_writer.proofs.Meant.{named, to_rise}
use Rattle.cdf_writer.proofs.VariablesRead.{record_even}

-- ---- numbers

pub small_signed : (n : ℕ) → n ≤ signed_limit → counted (cast_signed w32 n) ≡ n
small_signed n l = grind arith

pub fits_signed : (n : ℕ) → n < 256 ^ 4 → FitsSigned w32 (cast_signed w32 n)
fits_signed n lt = omega (arith, ints)

pub words_long : (b : List ℕ) (p n : ℕ) → length (words b p n) ≡ n
words_long b p zero = refl
words_long b p (suc n) = ap suc (words_long b (p + 4) n)

pub each_positive : (ns : List ℕ) → list_all is_positive ns ≡ true → Each (λ (n : ℕ). (1 ≤ n) × (n ≤ signed_limit)) ns
each_positive [] e = tt
each_positive (n ∷ ns) e =
    let p = both (is_positive n) (list_all is_positive ns) e in
    let q = both (nat_le 1 n) (nat_le n signed_limit) p.0 in
    ((le_of 1 n q.0, le_of n signed_limit q.1), each_positive ns p.1)

-- ---- records

each_filtered : {A : Type 0} (P : A → Type 0) (q : A → Bool) (xs : List A) → Each (λ (x : A). q x ≡ true → P x) xs → Each P (filter q xs)
each_filtered P q [] e = tt
each_filtered P q (x ∷ xs) e = by (q x) refl (each_filtered P q xs e.1)
  where
    by : (t : Bool) → q x ≡ t → Each P (filter q xs) → Each P (if t then x ∷ filter q xs else filter q xs)
    by true is rest = (e.0 is, rest)
    by false is rest = rest

each_append : {A : Type 0} (P : A → Type 0) (xs ys : List A) → Each P xs → Each P ys → Each P (xs ++ ys)
each_append P [] ys e f = f
each_append P (x ∷ xs) ys e f = (e.0, each_append P xs ys e.1 f)

each_join : {A B : Type 0} (P : B → Type 0) (f : A → List B) (xs : List A) → Each (λ (x : A). Each P (f x)) xs → Each P (flat_map f xs)
each_join P f [] e = tt
each_join P f (x ∷ xs) e = each_append P (f x) (flat_map f xs) e.0 (each_join P f xs e.1)

each_weaker : {A : Type 0} (P Q : A → Type 0) (xs : List A) → ((x : A) → P x → Q x) → Each P xs → Each Q xs
each_weaker P Q [] so e = tt
each_weaker P Q (x ∷ xs) so e = (so x e.0, each_weaker P Q xs so e.1)

room_first : (n k len : ℕ) → suc k * n ≤ len → n ≤ len
room_first n k len le = let more : suc k * n ≡ n + k * n = omega arith in omega arith

room_rest : (n k len : ℕ) → suc k * n ≤ len → k * n ≤ len - n
room_rest n k len le = let more : suc k * n ≡ n + k * n = omega arith in omega arith

pieces : (turn : List ℕ → List ℕ) (n : ℕ) → ((bytes : List ℕ) → length bytes ≡ n → length (turn bytes) ≡ n) → (k i : ℕ) (bytes : List ℕ) → k * n ≤ length bytes → Each (λ (pair : ℕ × List ℕ). length pair.1 ≡ n) (enumerate_from i (map turn (parts n k bytes)))
pieces turn n same zero i bytes le = tt
pieces turn n same (suc k) i bytes le = (
  same (take n bytes) (omega (arith, length-take n bytes, room_first n k (length bytes) le)),
  pieces turn n same k (i + 1) (drop n bytes) (omega (arith, length-drop n bytes, room_rest n k (length bytes) le)),
)

below : (n most : ℕ) → nat_lt n most ≡ true → n < most
below n most e = grind (arith, nat_tests)

-- ---- a variable

-- ---- a variable

-- the plain bytes of its leaves are as long as they should be
abbrev pub LongLeaves : List ℕ → ℕ → List Leaf → Type 0
LongLeaves b vdr leaves = Each (λ (l : Leaf). length (plain_bytes b vdr l) ≡ plain_size b vdr l) leaves

max_cases : (n : ℕ) → is_max_rec n ≡ true → (n ≤ record_number_limit) ⊎ (n ≡ 0xffffffff)
max_cases n e = by (either (nat_le n record_number_limit))
  where
    by : (nat_le n record_number_limit ≡ true) ⊎ (nat_le n record_number_limit ≡ false) → (n ≤ record_number_limit) ⊎ (n ≡ 0xffffffff)
    by (inl t) = inl (le_of n record_number_limit t)
    by (inr f) = inr (eq_of n 0xffffffff (ap (λ (q : Bool). q || (n == 0xffffffff)) (sym f) ∙ e))

pub record IsMax (z : ℤ) : Type 0 where
  pub extent_fits : extent z ≤ signed_limit
  pub low : (z ≡ negsuc 0) ⊎ IsPos z

is_max : (n : ℕ) → (n ≤ record_number_limit) ⊎ (n ≡ 0xffffffff) → IsMax (cast_signed w32 n)
is_max n (inl le) = subst IsMax (sym (signed n le)) (record { extent_fits = omega (arith, le); low = inr tt })
is_max n (inr e) = subst (λ (k : ℕ). IsMax (cast_signed w32 k)) (sym e) (record { extent_fits = omega arith; low = inl refl })

pad_inside : (v p n s len : ℕ) → p + n ≤ s → v + s ≤ len → n ≤ len - (v + p)
pad_inside v p n s len a c = omega arith

module _ (b : List ℕ) (records ids : List ℕ) (v : VariableShape) (rules : Hold (variable_rows b records ids v.vdr)) (words_fit : (p : ℕ) → word b p 4 < 256 ^ 4) (inside : v.vdr + size_at b v.vdr ≤ length b) (few : r_num_dims b (gdr_offset b) ≤ dimension_limit) (sizes : list_all is_positive (r_sizes b (gdr_offset b)) ≡ true) (ascend : Ascending 0 (suc record_number_limit) (leaves_of v.index)) (long : LongLeaves b v.vdr (leaves_of v.index)) where
  abbrev vdr : ℕ
  vdr = v.vdr

  abbrev t : DataType
  t = type_of_variable b vdr

  elements : has_elements b vdr ≡ true
  elements = rules.1.1.1.0

  positive : (1 ≤ number b vdr vdr_num_elems) × (number b vdr vdr_num_elems ≤ signed_limit)
  positive =
      let p = both (nat_le 1 (number b vdr vdr_num_elems)) (nat_le (number b vdr vdr_num_elems) signed_limit) (both (is_positive (number b vdr vdr_num_elems)) ((number b vdr vdr_num_elems == 1) || is_characters (notation_of t)) elements).0 in
      (le_of 1 (number b vdr vdr_num_elems) p.0, le_of (number b vdr vdr_num_elems) signed_limit p.1)

  elems_are : elems_at b vdr ≡ number b vdr vdr_num_elems
  elems_are = small_signed (number b vdr vdr_num_elems) positive.1

  many : dimensions_at b vdr ≤ dimension_limit
  many = by (either (is_z b vdr))
    where
      by : (is_z b vdr ≡ true) ⊎ (is_z b vdr ≡ false) → dimensions_at b vdr ≤ dimension_limit
      by (inl z) =
          let row : (not (is_z b vdr) || has_dimensions b vdr) ≡ true = rules.1.1.1.1.0 in
          let has : has_dimensions b vdr ≡ true = subst (λ (q : Bool). (not q || has_dimensions b vdr) ≡ true) z row in
          let le = le_of (number b vdr vdr_z_num_dims) 10 (both (nat_le (number b vdr vdr_z_num_dims) 10) (holds b vdr (vdr_z_dim_sizes (number b vdr vdr_z_num_dims)) && list_all is_positive (dims_at b vdr)) has).0 in
          rw z (omega (arith, le, small_signed (number b vdr vdr_z_num_dims) (omega (arith, le))))
      by (inr r) = rw r few

  dims_long : length (dims_at b vdr) ≡ dimensions_at b vdr
  dims_long = by (either (is_z b vdr))
    where
      by : (is_z b vdr ≡ true) ⊎ (is_z b vdr ≡ false) → length (dims_at b vdr) ≡ dimensions_at b vdr
      by (inl z) = rw z (length-map (words b _ _) counted4 ∙ words_long b _ _)
      by (inr r) = rw r (words_long b _ _)

  dims_positive : list_all is_positive (dims_at b vdr) ≡ true
  dims_positive = by (either (is_z b vdr))
    where
      by : (is_z b vdr ≡ true) ⊎ (is_z b vdr ≡ false) → list_all is_positive (dims_at b vdr) ≡ true
      by (inl z) =
          let row : (not (is_z b vdr) || has_dimensions b vdr) ≡ true = rules.1.1.1.1.0 in
          let has : has_dimensions b vdr ≡ true = subst (λ (q : Bool). (not q || has_dimensions b vdr) ≡ true) z row in
          (both (holds b vdr (vdr_z_dim_sizes (number b vdr vdr_z_num_dims))) (list_all is_positive (dims_at b vdr)) (both (nat_le (number b vdr vdr_z_num_dims) 10) (holds b vdr (vdr_z_dim_sizes (number b vdr vdr_z_num_dims)) && list_all is_positive (dims_at b vdr)) has).1).1
      by (inr r) = rw r sizes

  varys_long : length (varys_at b vdr) ≡ dimensions_at b vdr
  varys_long = length-map (words b _ _) (λ n. not (n == 0)) ∙ words_long b _ _

  turned_same : (n : ℕ) → n % size_of t ≡ 0 → (bytes : List ℕ) → length bytes ≡ n → length (turned t (is_little b) bytes) ≡ n
  turned_same n even bytes e = size_stays t (is_little b) bytes (subst (λ (k : ℕ). k % size_of t ≡ 0) (sym e) even) ∙ e

  padded : IfSome (pad_at b vdr) (λ bytes. length bytes ≡ size_of t * elems_at b vdr)
  padded = by (has_pad b vdr) refl
    where
      by : (p : Bool) → has_pad b vdr ≡ p → IfSome (if p then Some (network_bytes b vdr (pad_field b vdr) t) else None) (λ bytes. length bytes ≡ size_of t * elems_at b vdr)
      by false e = tt
      by true e =
          let n = value_bytes b vdr in
          let row = le_of (vdr_end b vdr) (size_at b vdr) rules.1.1.1.1.1.0 in
          let room : (pad_field b vdr).place + n ≤ size_at b vdr = subst (λ (q : Bool). (pad_field b vdr).place + (if q then n else 0) ≤ size_at b vdr) e row in
          let wide : (pad_field b vdr).width ≡ n = width_is (is_z b vdr) in
          turned_same n (whole_bytes (size_of t) (elems_at b vdr) n (size_some t) refl) (field_bytes b vdr (pad_field b vdr)) (omega (arith, length-take (pad_field b vdr).width (drop (vdr + (pad_field b vdr).place) b), length-drop (vdr + (pad_field b vdr).place) b, wide, pad_inside vdr (pad_field b vdr).place n (size_at b vdr) (length b) room inside))
        where
          width_is : (q : Bool) → (if q then vdr_z_pad_value (dimensions_at b vdr) (value_bytes b vdr) else vdr_r_pad_value (dimensions_at b vdr) (value_bytes b vdr)).width ≡ value_bytes b vdr
          width_is true = refl
          width_is false = refl

  abbrev most : ℕ
  most = extent (max_rec_at b vdr)

  each_record : Each (λ (pair : ℕ × List ℕ). FineRecord (variable_of b v) pair.0 pair.1) (records_in b vdr (leaves_of v.index))
  each_record =
      let n = record_bytes b vdr in
      each_filtered (λ (pair : ℕ × List ℕ). FineRecord (variable_of b v) pair.0 pair.1) (λ (pair : ℕ × List ℕ). nat_lt pair.0 most) (flat_map (leaf_records b vdr) (leaves_of v.index))
      (each_weaker (λ (pair : ℕ × List ℕ). length pair.1 ≡ n) (λ (pair : ℕ × List ℕ). nat_lt pair.0 most ≡ true → FineRecord (variable_of b v) pair.0 pair.1) (flat_map (leaf_records b vdr) (leaves_of v.index)) (λ pair e is. record { numbered = below pair.0 most is; whole = e })
      (each_join (λ (pair : ℕ × List ℕ). length pair.1 ≡ n) (leaf_records b vdr) (leaves_of v.index)
      (each_weaker (λ (l : Leaf). length (plain_bytes b vdr l) ≡ plain_size b vdr l) (λ (l : Leaf). Each (λ (pair : ℕ × List ℕ). length pair.1 ≡ n) (leaf_records b vdr l)) (leaves_of v.index)
      (λ l e. pieces (turned t (is_little b)) n (turned_same n (record_even (size_of t) (elems_at b vdr) (value_count (dims_at b vdr) (varys_at b vdr)) (size_some t))) (records_of_leaf l) (counted4 l.first) (plain_bytes b vdr l) (omega (arith, e)))
      long)))

  pub variable_fine : FineVariable (variable_of b v)
  variable_fine =
      let m = is_max (number b vdr vdr_max_rec) (max_cases (number b vdr vdr_max_rec) rules.1.1.1.1.1.1.1.0) in
      record {
        named = named b vdr vdr_name refl rules.0;
        some = omega (arith, elems_are, positive.0);
        few = omega (arith, elems_are, positive.1);
        single = ap (λ (k : ℕ). (k == 1) || is_characters (notation_of t)) elems_are ∙ (both (is_positive (number b vdr vdr_num_elems)) ((number b vdr vdr_num_elems == 1) || is_characters (notation_of t)) elements).1;
        few_dims = omega (arith, dims_long, many);
        sizes = each_positive (dims_at b vdr) dims_positive;
        one_each = varys_long ∙ sym dims_long;
        short = le_of (record_bytes b vdr) record_limit rules.1.1.1.1.1.1.0;
        max_fits = fits_signed (number b vdr vdr_max_rec) (words_fit (vdr + vdr_max_rec.place));
        extent_fits = m.extent_fits;
        max_low = m.low;
        blocking_fits = fits_signed (number b vdr vdr_blocking_factor) (words_fit (vdr + vdr_blocking_factor.place));
        padded = padded;
        rises = to_rise 0 (records_in b vdr (leaves_of v.index)) (rising_records b vdr (leaves_of v.index) ascend);
        records = each_record;
      }
