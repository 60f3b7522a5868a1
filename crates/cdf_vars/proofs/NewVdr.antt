-- A new VDR: what a shape has that is not refused, that what was written reads back, what it means, and that it keeps the rules.
use Rattle.cdf_vars.proofs.Common.{All, Bool, Byte, DataType, Each, HasVariable, IsFilled, IsRuled, Kind, List, NewVariable, NoRule, None, Option, Pad, Placed, Previous, R, Same, Says, VariableShape, VarysWritten, Z, [], and_from, ap, append_assoc, ap₂, are_bad_sizes, arith, before_first, before_zeros, big_bytes, cast_signed, code_small, counted, counted4, dimension_limit, dimensions_at, dims_at, drop, drop-drop, drop_at, elems_at, eqb-true, false, flat_map, gdr_offset, has_bit, has_dimensions, has_pad, if◌then◌else◌, is_bad_shape, is_characters, is_compressed, is_max_rec, is_no_link, is_positive, is_some, is_z, laid_kept, laid_out, le-leb, le-mul_of_pos_right, leaves_of, length, length-append, length-map, length-replicate, length-words, lit<, ltb-false, map, name_in, nat_le, nat_lt, new_variable, no_node, nodes_of, not, notation_of, number, own_dims, pad_at, pad_field, pad_place, placed_laid, r_num_dims, r_sizes, record_limit, record_size, record_type, refl, replicate, says_laid_out, signed_limit, size_at, size_of, size_some, small_signed, sym, take_at, true, type_at, type_back, type_of, type_of_variable, unwrap_or, value_bytes, value_count, variable_of, vary_code, vary_field, varys_at, vdr_body, vdr_bytes, vdr_end, vdr_fields, vdr_name, vdr_num_elems, vdr_type, vdr_vdr_next, vdr_z_num_dims, w32, word, words, words_laid_out, words_long, z_vdr_type, ℕ, ◌&&◌, ◌*◌, ◌++◌, ◌+◌, ◌-◌, ◌<◌, ◌==◌, ◌^◌, ◌∙◌, ◌∷◌, ◌≡◌, ◌≢◌, ◌≤◌}
use Rattle.std.proofs.Common.{◌||◌}
use Rattle.std.proofs.lemmas.List.Concat.{flat_map-append}
use Rattle.cdf_edits.proofs.Edits.Common.{kind_type}
use Rattle.cdf_vars.proofs.Sizes.{IsSize, fine_sizes, not_zero, positive_sizes, signed_small, sizes_small}
use Rattle.cdf_format.specs.IndexOf.{HasNodes}
use Rattle.cdf_format.specs.IndexRules.{nodes_rows}

-- elements, dimensions with sizes, one variance for each, and records that are not too large
pub record IsShaped (t : DataType) (elems : ℕ) (dims : List ℕ) (varys : List Bool) : Type 0 where
  pub some : 1 ≤ elems
  pub single : ((elems == 1) || is_characters (notation_of t)) ≡ true
  pub few : length dims ≤ dimension_limit
  pub sizes : Each IsSize dims
  pub one_each : length varys ≡ length dims
  pub fits : record_size t elems dims varys ≤ record_limit
  pub elems_fit : elems ≤ signed_limit

-- a value has a byte, and a record a value
count_some : (dims : List ℕ) (varys : List Bool) → Each IsSize dims → 1 ≤ value_count dims varys
count_some [] varys sizes = omega arith
count_some (size ∷ dims) [] sizes = omega arith
count_some (size ∷ dims) (true ∷ varys) sizes = let l = le-mul_of_pos_right size (count_some dims varys sizes.1) in let s = sizes.0.0 in omega arith
count_some (size ∷ dims) (false ∷ varys) sizes = count_some dims varys sizes.1

elems_few : (size elems count limit : ℕ) → 1 ≤ size → 1 ≤ count → size * elems * count ≤ limit → elems ≤ limit
elems_few size elems count limit some one fits = grind arith

none_of : (few odd bad one_each large : Bool) → (((few || odd) || (bad || not one_each)) || large) ≡ false → (few ≡ false) × (odd ≡ false) × (bad ≡ false) × (one_each ≡ true) × (large ≡ false)
none_of few odd bad one_each large e = grind arith

either_one : (p q : Bool) → (not p && not q) ≡ false → (p || q) ≡ true
either_one p q e = grind arith

pub shaped : (t : DataType) (elems : ℕ) (dims : List ℕ) (varys : List Bool) → is_bad_shape t elems dims varys ≡ false → IsShaped t elems dims varys
shaped t elems dims varys e =
    let p = none_of (elems == 0) (not (elems == 1) && not (is_characters (notation_of t))) (are_bad_sizes dims) (length varys == length dims) (nat_lt record_limit (record_size t elems dims varys)) e in
    let sizes = fine_sizes dims p.2 in
    let fits = ltb-false record_limit (record_size t elems dims varys) p.4 in
    let few : elems ≤ signed_limit = (let l = elems_few (size_of t) elems (value_count dims varys) record_limit (size_some t) (count_some dims varys sizes.1) fits in omega arith) in
    assumption (not_zero elems p.0, either_one (elems == 1) (is_characters (notation_of t)) p.1, sizes, eqb-true (length varys) (length dims) p.3, fits, few)

-- what the fields of a new VDR say
pub record IsNewVdr (b : List ℕ) (place : ℕ) (kind : Kind) (v : NewVariable) (num : ℕ) : Type 0 where
  pub says : Says b place (vdr_fields v num)
  pub filled : IsFilled b place vdr_name v.name
  pub dims_are : words b (place + 340) (length (own_dims kind v.dims)) ≡ own_dims kind v.dims
  pub varys_are : words b (place + 340 + 4 * length (own_dims kind v.dims)) (length v.varys) ≡ map vary_code v.varys

-- the numbers behind the Name, and how many
abbrev tail : Kind → NewVariable → List ℕ
tail kind v = own_dims kind v.dims ++ map vary_code v.varys

pub tail_size : (kind : Kind) (dims : List ℕ) (n : ℕ) → n ≡ length dims → 340 + 4 * (length (own_dims kind dims) + n) ≡ vdr_bytes kind (length dims)
tail_size kind dims n e = grind arith

own_small : (kind : Kind) (dims : List ℕ) → length dims ≤ dimension_limit → Each IsSize dims → Each (λ n. n < 256 ^ 4) (own_dims kind dims)
own_small R dims few sizes = tt
own_small Z dims few sizes = (signed_small (length dims) (omega arith), sizes_small dims sizes)

codes_small : (varys : List Bool) → Each (λ n. n < 256 ^ 4) (map vary_code varys)
codes_small [] = tt
codes_small (true ∷ varys) = (lit< tt, codes_small varys)
codes_small (false ∷ varys) = (lit< tt, codes_small varys)

flag_small : (vary : Bool) → (if vary then 1 else 0) < 256 ^ 4
flag_small vary = grind arith

-- it is put together of these parts
pub body_parts : (kind : Kind) (v : NewVariable) (num : ℕ)
    → ((laid_out ((record_type, vdr_type kind) ∷ (vdr_vdr_next, 0) ∷ vdr_fields v num) ++ (v.name ++ replicate (256 - length v.name) 0)) ++ flat_map (big_bytes 4) (own_dims kind v.dims)) ++ flat_map (big_bytes 4) (map vary_code v.varys) ≡ vdr_body kind v num
unfolding vdr_body
body_parts kind v num = simp (append_assoc, flat_map-append)

pub type_in_body : (kind : Kind) (v : NewVariable) (num : ℕ) → word (vdr_body kind v num) 0 4 ≡ vdr_type kind
unfolding vdr_body
type_in_body R v num = refl
type_in_body Z v num = refl

module _ (kind : Kind) (v : NewVariable) (num : ℕ) (short : length v.name ≤ 256) (is : IsShaped v.type v.elems v.dims v.varys) where
  abbrev padded : List ℕ
  padded = v.name ++ replicate (256 - length v.name) 0

  length-padded : length padded ≡ 256
  length-padded = omega (arith, length-append v.name (replicate (256 - length v.name) 0), length-replicate {A = ℕ} (256 - length v.name) 0)

  pub length-body : 8 + length (vdr_body kind v num) ≡ vdr_bytes kind (length v.dims)
  unfolding vdr_body
  length-body =
      let size = tail_size kind v.dims (length v.varys) is.one_each in
      omega (arith, length-padded, length-words (tail kind v), length-append (own_dims kind v.dims) (map vary_code v.varys), length-map v.varys vary_code, length-append padded (flat_map (big_bytes 4) (tail kind v)))

  -- in an image in which it was placed, and after steps that leave what follows its link
  pub vdr_written : {b filled now : List ℕ} {place : ℕ} → Placed b filled (vdr_body kind v num) place → num < 2 ^ 32 → Same filled now (place + 20) (place + vdr_bytes kind (length v.dims)) → place + vdr_bytes kind (length v.dims) ≤ length filled → length filled ≤ length now → IsNewVdr now place kind v num
  unfolding vdr_body
  vdr_written {filled = filled} {now = now} {place = place} placed small_num same inside longer =
      let ds = own_dims kind v.dims in
      let vs = flat_map (big_bytes 4) (map vary_code v.varys) in
      let body = laid_out (vdr_fields v num) ++ (padded ++ flat_map (big_bytes 4) (tail kind v)) in
      let size = length-body in
      let there = placed_laid (laid_out ((record_type, vdr_type kind) ∷ (vdr_vdr_next, 0) ∷ [])) body 20 refl placed refl in
      let more = drop (length body) (drop (place + 20) now) in
      let laid = laid_kept filled now (place + 20) (place + vdr_bytes kind (length v.dims)) body there.0 there.1 same (omega arith) inside longer in
      let w = says_laid_out now place 20 (vdr_fields v num) ((padded ++ flat_map (big_bytes 4) (tail kind v)) ++ more) (laid ∙ append_assoc (laid_out (vdr_fields v num)) (padded ++ flat_map (big_bytes 4) (tail kind v)) more) refl
      (code_small v.type, (lit< tt, (lit< tt, (lit< tt, (flag_small v.vary, (lit< tt, (lit< tt, (lit< tt, (lit< tt, (signed_small v.elems is.elems_fit, (small_num, (lit< tt, (lit< tt, tt))))))))))))) in
      let name : drop (place + 84) now ≡ padded ++ (flat_map (big_bytes 4) ds ++ (vs ++ more)) = w.1 ∙ simp (append_assoc, flat_map-append) in
      let past_name : place + 340 ≡ place + 84 + 256 = omega arith in
      let first = words_laid_out now (place + 340) ds (vs ++ more) (rw (past_name, ← drop-drop, name) (drop_at padded _ 256 length-padded)) (own_small kind v.dims is.few is.sizes) in
      let filled : IsFilled now place vdr_name v.name = rw name (take_at padded _ 256 length-padded) in
      assumption (w.0, filled, first.0, ap (words now (place + 340 + 4 * length ds)) (sym (length-map v.varys vary_code)) ∙ (words_laid_out now (place + 340 + 4 * length ds) (map vary_code v.varys) more first.1 (codes_small v.varys)).0)

-- a variable without records
abbrev pub bare_variable : ℕ → VariableShape
bare_variable place = record { vdr = place; index = no_node; cpr = [] }

-- r variables have the dimensions of the GDR
abbrev pub Shares : List ℕ → Kind → List ℕ → Type 0
Shares b R dims = r_sizes b (gdr_offset b) ≡ dims
Shares b Z dims = Unit {0}

-- ---- small numbers

counted_sizes : (dims : List ℕ) → Each IsSize dims → map counted4 dims ≡ dims
counted_sizes [] sizes = refl
counted_sizes (n ∷ dims) sizes = ap₂ (λ (x : ℕ) (xs : List ℕ). x ∷ xs) (small_signed n sizes.0.1) (counted_sizes dims sizes.1)

varys_back : (varys : List Bool) → map (λ n. not (n == 0)) (map vary_code varys) ≡ varys
varys_back [] = refl
varys_back (true ∷ varys) = ap (λ (r : List Bool). true ∷ r) (varys_back varys)
varys_back (false ∷ varys) = ap (λ (r : List Bool). false ∷ r) (varys_back varys)

flag_says : (vary : Bool) → (has_bit (if vary then 1 else 0) 0 ≡ vary) × (has_bit (if vary then 1 else 0) 1 ≡ false) × (has_bit (if vary then 1 else 0) 2 ≡ false)
flag_says vary = grind arith

-- ---- dimensions, by the kind

record HasOwnDims (b : List ℕ) (place : ℕ) (kind : Kind) (v : NewVariable) : Type 0 where
  count : dimensions_at b place ≡ length v.dims
  dims : dims_at b place ≡ v.dims
  vary_place : place + (vary_field b place).place ≡ place + 340 + 4 * length (own_dims kind v.dims)
  rule : vdr_bytes kind (length v.dims) ≡ size_at b place → (not (is_z b place) || has_dimensions b place) ≡ true

dims_by : (b : List ℕ) (place : ℕ) (kind : Kind) (v : NewVariable) (num : ℕ) → IsNewVdr b place kind v num → IsShaped v.type v.elems v.dims v.varys → type_at b place ≡ vdr_type kind → Shares b kind v.dims → HasOwnDims b place kind v
dims_by b place R v num new is typed shares =
    let z : is_z b place ≡ false = ap (λ (t : ℕ). t == z_vdr_type) typed in
    let count = sym (words_long b (gdr_offset b + 84) (r_num_dims b (gdr_offset b))) ∙ ap length shares in
    record { count = rw z count; dims = rw z shares; vary_place = rw z (omega arith); rule = λ e. rw z refl }
dims_by b place Z v num new is typed shares =
    let z : is_z b place ≡ true = ap (λ (t : ℕ). t == z_vdr_type) typed in
    let d = length v.dims in
    let said : number b place vdr_z_num_dims ≡ d = cc new.dims_are in
    let sizes : words b (place + 340 + 4) d ≡ v.dims = cc new.dims_are in
    let at : place + 344 ≡ place + 340 + 4 = omega arith in
    let count : counted (cast_signed w32 (number b place vdr_z_num_dims)) ≡ d = rw said (small_signed d (omega (arith, is.few))) in
    let dims : dims_at b place ≡ v.dims = rw (z, count, at, sizes) (counted_sizes v.dims is.sizes) in
    record {
      count = rw z count;
      dims = dims;
      vary_place = rw (z, count) (omega arith);
      rule = λ e. rw (dims, said, z) (and_from _ _ (le-leb d dimension_limit is.few) (and_from _ _ (le-leb _ _ (omega arith)) (positive_sizes v.dims is.sizes)));
    }

-- ---- a new VDR that stands in an image

module _ {b : List ℕ} {place : ℕ} {kind : Kind} {v : NewVariable} {num : ℕ} (new : IsNewVdr b place kind v num) (is : IsShaped v.type v.elems v.dims v.varys) (typed : type_at b place ≡ vdr_type kind) (shares : Shares b kind v.dims) where
  own : HasOwnDims b place kind v
  own = dims_by b place kind v num new is typed shares

  type_is : type_of_variable b place ≡ v.type
  type_is = ap (λ (n : ℕ). unwrap_or (type_of (cast_signed w32 n)) Byte) new.says.0 ∙ ap (λ (o : Option DataType). unwrap_or o Byte) (type_back v.type)

  elems_are : elems_at b place ≡ v.elems
  elems_are = ap (λ (n : ℕ). counted (cast_signed w32 n)) new.says.1.1.1.1.1.1.1.1.1.0 ∙ small_signed v.elems is.elems_fit

  unpadded : has_pad b place ≡ false
  unpadded = ap (λ (n : ℕ). has_bit n 1) new.says.1.1.1.1.0 ∙ (flag_says v.vary).1

  unpacked : is_compressed b place ≡ false
  unpacked = ap (λ (n : ℕ). has_bit n 2) new.says.1.1.1.1.0 ∙ (flag_says v.vary).2

  pub end_is : vdr_end b place ≡ vdr_bytes kind (length v.dims)
  end_is =
      let last : (pad_field b place).place + 0 ≡ (pad_field b place).place = omega arith in
      ap (λ (p : Bool). (pad_field b place).place + (if p then value_bytes b place else 0)) unpadded ∙ last ∙ pad_place kind b place (typed ∙ sym (kind_type kind)) ∙ ap (vdr_bytes kind) own.count

  -- DimVarys
  pub varys_written : VarysWritten b place v.varys
  varys_written = ap (λ (p : ℕ). words b p (length v.varys)) own.vary_place ∙ new.varys_are

  varys_are : varys_at b place ≡ v.varys
  varys_are = ap (λ (n : ℕ). map (λ m. not (m == 0)) (words b (place + (vary_field b place).place) n)) (own.count ∙ sym is.one_each) ∙ ap (map (λ n. not (n == 0))) varys_written ∙ varys_back v.varys

  pub name_is : (All (λ (byte : ℕ). byte ≢ 0) v.name) → name_in b place vdr_name ≡ v.name
  name_is no_zero = ap (before_first (λ (x : ℕ). x == 0)) new.filled ∙ before_zeros v.name (256 - length v.name) no_zero

  pub means : All (λ (byte : ℕ). byte ≢ 0) v.name → variable_of b (bare_variable place) ≡ new_variable v.name v.type v.elems v.dims v.varys v.vary
  unfolding leaves_of
  means no_zero =
      let pad : pad_at b place ≡ None = rw unpadded refl in
      λ i. record {
        name = name_is no_zero i;
        type = type_is i;
        elems = elems_are i;
        dims = own.dims i;
        varys = varys_are i;
        vary = (ap (λ (n : ℕ). has_bit n 0) new.says.1.1.1.1.0 ∙ (flag_says v.vary).0) i;
        sparse = if new.says.1.1.1.1.1.0 i == 0 then NoRule else (if new.says.1.1.1.1.1.0 i == 1 then Pad else Previous);
        rle = unpacked i;
        blocking = cast_signed w32 (new.says.1.1.1.1.1.1.1.1.1.1.1.1.0 i);
        max_rec = cast_signed w32 (new.says.1.0 i);
        pad = pad i;
        recs = [];
      }

  module _ (records : List ℕ) (sized : size_at b place ≡ vdr_bytes kind (length v.dims)) where
    pub has : HasVariable b records (bare_variable place)
    unfolding HasNodes nodes_of
    has = record { indexed = record { link_is = new.says.1.1.0; has_nodes = tt; once = tt }; packed_by = rw unpacked refl }

    pub ruled : All (λ (byte : ℕ). byte ≢ 0) v.name → (length v.name == 0) ≡ false → IsRuled b records (bare_variable place)
    unfolding nodes_rows leaves_of
    ruled no_zero some =
        let named = ap (λ (n : List ℕ). not (length n == 0)) (name_is no_zero) ∙ ap not some in
        let known = ap (λ (n : ℕ). is_some (type_of (cast_signed w32 n))) new.says.0 ∙ ap (λ (o : Option DataType). is_some o) (type_back v.type) in
        let elems : number b place vdr_num_elems ≡ v.elems = new.says.1.1.1.1.1.1.1.1.1.0 in
        let counted : (is_positive (number b place vdr_num_elems) && ((number b place vdr_num_elems == 1) || is_characters (notation_of (type_of_variable b place)))) ≡ true = rw (elems, type_is) (and_from _ _ (and_from _ _ (le-leb 1 v.elems is.some) (le-leb v.elems signed_limit is.elems_fit)) is.single) in
        let small = ap (λ (n : ℕ). nat_le n record_limit) (λ i. record_size (type_is i) (elems_are i) (own.dims i) (varys_are i)) ∙ le-leb _ _ is.fits in
        let max = ap is_max_rec new.says.1.0 in
        let rule = new.says.1.1.1.1.1.0 in
        let link = ap is_no_link new.says.1.1.1.1.1.1.1.1.1.1.1.0 in
        ((named, (refl, (known, (counted, (own.rule (sym sized), (le-leb (vdr_end b place) (size_at b place) (let e = end_is in omega (arith, e, sized)), (small, (max, (ap (λ (n : ℕ). nat_le n 2) rule, (rw unpacked link, (rw unpacked refl, rw unpacked tt))))))))))), tt)
