-- What a VDR says of the values and the dimensions of its variable, as it is read, and what its fields and its record take.
use Rattle.cdf_check.proofs.Common.{AreValues, Bool, Hold, List, None, Some, SomeIff, [], ap, ap₂, arith, both, cases_lt, cast_signed, counted, counted4, dimensions_at, dims_at, either, elems_at, false, get_or, has_elements, inl, inr, is_positive, is_z, known_type, le_of, length, length-map, list_all, map, nat_le, nat_tests, not, number, of_le, refl, subst₂, suc, sym, to_z-neg, to_z_pos, true, type_of_variable, value_rows, vdr_data_type, vdr_num_elems, w32, words, zero, ℕ, ◌&&◌, ◌+◌, ◌-◌, ◌<◌, ◌==◌, ◌^◌, ◌||◌, ◌∙◌, ◌∷◌, ◌≡◌, ◌≤◌}
use Rattle.cdf_model.specs.declared.data_type.DataType.{DataType}
use Rattle.cdf_model.specs.Values.{notation_of}
use Rattle.cdf_model.specs.VariableSteps.{is_characters}

-- ---- numbers with a sign

pub counted_small : (n : ℕ) → n < 2 ^ 31 → counted (cast_signed w32 n) ≡ n
counted_small n small = ap counted (to_z_pos w32 n small)

counted_large : (n : ℕ) → 2 ^ 31 ≤ n → n < 2 ^ 32 → counted (cast_signed w32 n) ≡ 0
counted_large n large fits =
    let back : 2 ^ 32 - suc (2 ^ 32 - suc n) ≡ n = omega arith in
    let negative = rw back at (to_z-neg w32 (2 ^ 32 - suc n) (omega arith)) in
    ap counted negative

is_large : (n : ℕ) → 2 ^ 31 ≤ n → false ≡ is_positive n
is_large n large = grind (arith, nat_tests)

is_small : (n : ℕ) → is_positive n ≡ true → n < 2 ^ 31
is_small n e = grind (arith, nat_tests)

signed_positive : (n : ℕ) → n < 2 ^ 32 → is_positive (counted4 n) ≡ is_positive n
signed_positive n fits = elim (cases_lt n (2 ^ 31)) [
  | inl small ↦ ap is_positive (counted_small n small)
  | inr large ↦ ap is_positive (counted_large n large fits) ∙ is_large n large
]

-- each is a number of 4 bytes
abbrev pub Fit4 : List ℕ → Type 0
Fit4 xs = (k : ℕ) → k < length xs → get_or xs k 0 < 2 ^ 32

fit_more : (x : ℕ) (xs : List ℕ) → Fit4 (x ∷ xs) → Fit4 xs
fit_more x xs fit k lt = fit (suc k) (omega arith)

pub all_signed : (xs : List ℕ) → Fit4 xs → list_all is_positive xs ≡ list_all is_positive (map counted4 xs)
all_signed [] fit = refl
all_signed (x ∷ xs) fit = ap₂ (λ (p q : Bool). p && q) (sym (signed_positive x (fit 0 (omega arith)))) (all_signed xs (fit_more x xs fit))

pub as_read : (xs : List ℕ) → list_all is_positive xs ≡ true → map counted4 xs ≡ xs
as_read [] e = refl
as_read (x ∷ xs) e =
    let p = both (is_positive x) (list_all is_positive xs) e in
    ap₂ (λ (n : ℕ) (ns : List ℕ). n ∷ ns) (counted_small x (is_small x p.0)) (as_read xs p.1)

-- ---- the values

module _ (b : List ℕ) (vdr : ℕ) (t : DataType) (elements : ℕ) (known : known_type b vdr vdr_data_type ≡ Some t) (read : elements ≡ number b vdr vdr_num_elems) where
  pub values_are : (is_positive elements && ((elements == 1) || is_characters (notation_of t))) ≡ true → Hold (value_rows b vdr) × AreValues b vdr (record { data_type = t; elements = elements })
  values_are has = ((rw known refl, (has_here, tt)), record { type_is = type_here; elements_are = elements_here })
    where
      type_here : t ≡ type_of_variable b vdr
      type_here = rw known refl

      has_here : has_elements b vdr ≡ true
      has_here = subst₂ (λ (n : ℕ) (u : DataType). (is_positive n && ((n == 1) || is_characters (notation_of u))) ≡ true) read type_here has

      small : elements < 2 ^ 31
      small = is_small elements (both (is_positive elements) ((elements == 1) || is_characters (notation_of t)) has).0

      elements_here : elements ≡ elems_at b vdr
      elements_here = sym (counted_small elements small) ∙ ap (λ (n : ℕ). counted (cast_signed w32 n)) read

-- ---- the dimensions, and the record

length-words : (b : List ℕ) (place n : ℕ) → length (words b place n) ≡ n
length-words b place zero = refl
length-words b place (suc n) = ap suc (length-words b (place + 4) n)

pub length-dims : (b : List ℕ) (vdr : ℕ) → length (dims_at b vdr) ≡ dimensions_at b vdr
length-dims b vdr = elim (either (is_z b vdr)) [
  | inl e ↦ rw e (length-map _ counted4 ∙ length-words b _ _)
  | inr e ↦ rw e (length-words b _ _)
]

pub length-varys : (b : List ℕ) (place n : ℕ) → length (map (λ n. not (n == 0)) (words b place n)) ≡ n
length-varys b place n = length-map (words b place n) (λ (m : ℕ). not (m == 0)) ∙ length-words b place n

-- a record that is as small as it has to be, or is not
pub is_small_enough : (size limit : ℕ) (n : ℕ) → SomeIff (Some n) (size ≤ limit) size → nat_le size limit ≡ true
is_small_enough size limit n p = of_le size limit p.0

pub is_too_large : (size limit : ℕ) → SomeIff None (size ≤ limit) size → nat_le size limit ≡ false
is_too_large size limit p = elim (either (nat_le size limit)) [ inl e ↦ absurd (p (le_of size limit e)) | inr e ↦ e ]

pub is_longer : (end size : ℕ) → size < end → nat_le end size ≡ false
is_longer end size more = grind (arith, nat_tests)
