-- The descriptor of a variable, as it stands.
use Rattle.byteorder.specs.Endian.{big_bytes}
use Rattle.std.proofs.Common.{Bool, List, None, Option, Some, [], ap, append_assoc, ap₂, arith, drop, false, is_some, length, lit<, map, not, refl, replicate, sym, take, true, ℕ, ◌%◌, ◌*◌, ◌-◌, ◌++◌, ◌+◌, ◌<◌, ◌^◌, ◌||◌, ◌∙◌, ◌∷◌, ◌≡◌, ◌≤◌}
use Rattle.std.proofs.lemmas.Bool.{and_from, le-leb}
use Rattle.std.proofs.lemmas.List.{drop-drop, length-append, length-map, length-replicate, take_at}
use Rattle.std.proofs.Math.Seq.{drop-append_seam}
use Rattle.std.proofs.lemmas.List.Concat.{flat_map-append}
use Rattle.std.specs.Int.{cast_signed, w32}
use Rattle.std.specs.List.{before_first, flat_map, list_all}
use Rattle.std.specs.Option.{unwrap_or}
use Rattle.std.specs.Prelude.{IfSome, if◌then◌else◌, ◌==◌}
use Rattle.cdf_model.specs.declared.data_type.DataType.{DataType}
use Rattle.cdf_model.specs.declared.data_type.DataType.TheVariants.{Byte}
use Rattle.cdf_model.specs.declared.kinds.Kind.{Kind}
use Rattle.cdf_model.specs.declared.kinds.Kind.TheVariants.{R, Z}
use Rattle.cdf_model.specs.declared.kinds.Sparse.{Sparse}
use Rattle.cdf_model.specs.declared.kinds.Sparse.TheVariants.{NoRule, Pad, Previous}
use Rattle.cdf_model.specs.ByteOrder.{turned}
use Rattle.cdf_model.specs.DataSet.{Variable}
use Rattle.cdf_model.specs.Limits.{dimension_limit, signed_limit}
use Rattle.cdf_model.specs.Place.{record_size}
use Rattle.cdf_model.specs.Types.{code_of, size_of, type_of}
use Rattle.cdf_fields.proofs.NamesWritten.{before_zeros}
use Rattle.cdf_format.specs.Chains.{next_of}
use Rattle.cdf_format.specs.Fields.{counted, gdr_offset, has_bit, is_positive, name_in, number, r_num_dims, r_sizes, size_at, type_at, words}
use Rattle.cdf_format.specs.Records.{Field, record_type, vdr_blocking_factor, vdr_cpr_or_spr_offset, vdr_data_type, vdr_flags, vdr_max_rec, vdr_name, vdr_num, vdr_num_elems, vdr_rfu_b, vdr_rfu_c, vdr_rfu_f, vdr_s_records, vdr_vdr_next, vdr_vxr_head, vdr_vxr_tail, vdr_z_num_dims}
use Rattle.cdf_format.specs.RecordTypes.{r_vdr_type, z_vdr_type}
use Rattle.cdf_format.specs.Shape.{Each, is_compressed}
use Rattle.cdf_format.specs.Stored.{field_bytes, is_little, network_bytes}
use Rattle.cdf_format.specs.VariableFields.{counted4, dimensions_at, dims_at, elems_at, has_pad, is_z, max_rec_at, pad_at, pad_field, record_bytes, records_vary, sparse_at, type_of_variable, value_bytes, vary_field, varys_at}
use Rattle.cdf_format.specs.VariableRules.{has_dimensions, vdr_end}
use Rattle.cdf_edits.proofs.Commands.FineNames.{fine_has_no_zeros, fine_is_short}
use Rattle.cdf_edits.proofs.Commands.TypeCodes.{code_small, type_back}
use Rattle.cdf_edits.proofs.Space.LaidOut.{IsType, length-words, says_laid_out, typed_body, words_laid_out}
use Rattle.cdf_edits.specs.Space.Placing.{IsBody, laid_out, type_of_body}
use Rattle.cdf_edits.specs.Index.Blocks.{record_length}
use Rattle.cdf_values.proofs.TurnedLemmas.{back, size_stays}
unfoldable use Rattle.cdf_writer.specs.Bodies.{vdr_body, vdr_front}
use Rattle.cdf_writer.specs.Bodies.{code4, name_bytes, own_dims, pad_bytes, sparse_code, variable_flags, vary_code, vdr_type}
use Rattle.cdf_writer.specs.Fine.{FineVariable}
use Rattle.cdf_writer.specs.Laying.{vdr_size}
use Rattle.cdf_writer.proofs.FilePart.{code4_back, code4_fits, sizes_fit, small_signed}
use Rattle.cdf_writer.proofs.Stands.{Standing}

size_some : (t : DataType) → 1 ≤ size_of t
size_some t = grind arith

flags_say : (vary : Bool) (pad : Option (List ℕ)) (rle : Bool) → (has_bit (variable_flags vary pad rle) 0 ≡ vary) × (has_bit (variable_flags vary pad rle) 1 ≡ is_some pad) × (has_bit (variable_flags vary pad rle) 2 ≡ rle) × (variable_flags vary pad rle < 256 ^ 4)
flags_say true None true = (refl, refl, refl, lit< tt)
flags_say true None false = (refl, refl, refl, lit< tt)
flags_say false None true = (refl, refl, refl, lit< tt)
flags_say false None false = (refl, refl, refl, lit< tt)
flags_say true (Some x) true = (refl, refl, refl, lit< tt)
flags_say true (Some x) false = (refl, refl, refl, lit< tt)
flags_say false (Some x) true = (refl, refl, refl, lit< tt)
flags_say false (Some x) false = (refl, refl, refl, lit< tt)

sparse_small : (s : Sparse) → sparse_code s < 256 ^ 4
sparse_small NoRule = lit< tt
sparse_small Pad = lit< tt
sparse_small Previous = lit< tt

sparse_back : (s : Sparse) → (if sparse_code s == 0 then NoRule else (if sparse_code s == 1 then Pad else Previous)) ≡ s
sparse_back NoRule = refl
sparse_back Pad = refl
sparse_back Previous = refl

varys_back : (varys : List Bool) → map (λ n. not (n == 0)) (map vary_code varys) ≡ varys
varys_back [] = refl
varys_back (true ∷ varys) = ap (λ (r : List Bool). true ∷ r) (varys_back varys)
varys_back (false ∷ varys) = ap (λ (r : List Bool). false ∷ r) (varys_back varys)

codes_small : (varys : List Bool) → Each (λ n. n < 256 ^ 4) (map vary_code varys)
codes_small [] = tt
codes_small (true ∷ varys) = (lit< tt, codes_small varys)
codes_small (false ∷ varys) = (lit< tt, codes_small varys)

counted_sizes : (dims : List ℕ) → Each (λ n. (1 ≤ n) × (n ≤ signed_limit)) dims → map counted4 dims ≡ dims
counted_sizes [] f = refl
counted_sizes (n ∷ dims) f = ap₂ (λ (x : ℕ) (xs : List ℕ). x ∷ xs) (small_signed n f.0.1) (counted_sizes dims f.1)

all_positive : (dims : List ℕ) → Each (λ n. (1 ≤ n) × (n ≤ signed_limit)) dims → list_all is_positive dims ≡ true
all_positive [] f = refl
all_positive (n ∷ dims) f = and_from _ _ (and_from _ _ (le-leb 1 n f.0.0) (le-leb n signed_limit f.0.1)) (all_positive dims f.1)

least : Kind → ℕ
least R = 340
least Z = 344

vdr_is_type : (kind : Kind) → IsType (vdr_type kind) (least kind)
unfolding least
vdr_is_type R = record { small = lit< tt; real = refl; in_use = λ e. cc; fixed = omega arith; enough = omega arith }
vdr_is_type Z = record { small = lit< tt; real = refl; in_use = λ e. cc; fixed = omega arith; enough = omega arith }

module _ (kind : Kind) (little : Bool) (n next root cpr : ℕ) (v : Variable) (fine : FineVariable v) where
  abbrev fields : List (Field × ℕ)
  fields =
      (record_type, vdr_type kind)
      ∷ (vdr_vdr_next, next)
      ∷ (vdr_data_type, code_of v.type)
      ∷ (vdr_max_rec, code4 v.max_rec)
      ∷ (vdr_vxr_head, root)
      ∷ (vdr_vxr_tail, root)
      ∷ (vdr_flags, variable_flags v.vary v.pad v.rle)
      ∷ (vdr_s_records, sparse_code v.sparse)
      ∷ (vdr_rfu_b, 0)
      ∷ (vdr_rfu_c, 0xffffffff)
      ∷ (vdr_rfu_f, 0xffffffff)
      ∷ (vdr_num_elems, v.elems)
      ∷ (vdr_num, n)
      ∷ (vdr_cpr_or_spr_offset, cpr)
      ∷ (vdr_blocking_factor, code4 v.blocking)
      ∷ []

  abbrev body : List ℕ
  body = vdr_body kind little n next root cpr v

  abbrev name : List ℕ
  name = name_bytes vdr_name v.name

  abbrev tail : List ℕ
  tail = own_dims kind v.dims ++ map vary_code v.varys

  abbrev pad : List ℕ
  pad = pad_bytes little v

  name_long : length name ≡ 256
  name_long = let short = fine_is_short v.name fine.named in omega (arith, length-append v.name (replicate (256 - length v.name) 0), length-replicate {A = ℕ} (256 - length v.name) 0)

  tail_long : 340 + 4 * length tail + length pad ≡ vdr_size kind little v
  tail_long = by kind
    where
      by : (k : Kind) → 340 + 4 * length (own_dims k v.dims ++ map vary_code v.varys) + length pad ≡ vdr_size k little v
      by R = omega (arith, length-map v.varys vary_code, fine.one_each)
      by Z = omega (arith, length-append v.dims (map vary_code v.varys), length-map v.varys vary_code, fine.one_each)

  pub body_size : 8 + length body ≡ vdr_size kind little v
  unfolding vdr_body vdr_front
  body_size =
      let front = laid_out fields in
      let a = length-append (front ++ name ++ flat_map (big_bytes 4) tail) pad in
      let c = length-append (front ++ name) (flat_map (big_bytes 4) tail) in
      let d = length-append front name in
      omega (arith, a, c, d, name_long, length-words tail, tail_long)

  long_enough : least kind ≤ 8 + length body
  unfolding least
  long_enough = let s = body_size in by kind s
    where
      by : (k : Kind) → 8 + length body ≡ vdr_size k little v → least k ≤ 8 + length body
      by R e = omega arith
      by Z e = omega arith

  pub vdr_made : (type_of_body body ≡ vdr_type kind) × IsBody body
  unfolding vdr_body vdr_front
  vdr_made =
      let front = laid_out fields in
      let is : body ≡ front ++ (name ++ (flat_map (big_bytes 4) tail ++ pad)) = append_assoc (front ++ name) (flat_map (big_bytes 4) tail) pad ∙ append_assoc front name (flat_map (big_bytes 4) tail ++ pad) in
      typed_body {type = vdr_type kind} {least = least kind} ((vdr_vdr_next, next)
      ∷ (vdr_data_type, code_of v.type)
      ∷ (vdr_max_rec, code4 v.max_rec)
      ∷ (vdr_vxr_head, root)
      ∷ (vdr_vxr_tail, root)
      ∷ (vdr_flags, variable_flags v.vary v.pad v.rle)
      ∷ (vdr_s_records, sparse_code v.sparse)
      ∷ (vdr_rfu_b, 0)
      ∷ (vdr_rfu_c, 0xffffffff)
      ∷ (vdr_rfu_f, 0xffffffff)
      ∷ (vdr_num_elems, v.elems)
      ∷ (vdr_num, n)
      ∷ (vdr_cpr_or_spr_offset, cpr)
      ∷ (vdr_blocking_factor, code4 v.blocking)
      ∷ []) (name ++ (flat_map (big_bytes 4) tail ++ pad)) body (vdr_is_type kind) is long_enough

  -- r variables have the dimensions of the GDR
  abbrev pub Shares : List ℕ → Kind → Type 0
  Shares b R = (r_num_dims b (gdr_offset b) ≡ length v.dims) × (r_sizes b (gdr_offset b) ≡ v.dims)
  Shares b Z = Unit {0}

  -- what its fields say
  pub record VdrSays (b : List ℕ) (place : ℕ) : Type 0 where
    pub next_is : next_of b place ≡ next
    pub type_said : number b place vdr_data_type ≡ code_of v.type
    pub max_said : number b place vdr_max_rec ≡ code4 v.max_rec
    pub head_is : number b place vdr_vxr_head ≡ root
    pub flags_said : number b place vdr_flags ≡ variable_flags v.vary v.pad v.rle
    pub sparse_said : number b place vdr_s_records ≡ sparse_code v.sparse
    pub elems_said : number b place vdr_num_elems ≡ v.elems
    pub num_is : number b place vdr_num ≡ n
    pub cpr_is : number b place vdr_cpr_or_spr_offset ≡ cpr
    pub blocking_said : number b place vdr_blocking_factor ≡ code4 v.blocking
    pub name_is : name_in b place vdr_name ≡ v.name
    pub own_are : words b (place + 340) (length (own_dims kind v.dims)) ≡ own_dims kind v.dims
    pub varys_said : words b (place + 340 + 4 * length (own_dims kind v.dims)) (length v.varys) ≡ map vary_code v.varys
    pub pad_rest : List ℕ
    pub pad_there : drop (place + 340 + 4 * length (own_dims kind v.dims) + 4 * length v.varys) b ≡ pad ++ pad_rest

  own_small : (k : Kind) → Each (λ m. m < 256 ^ 4) (own_dims k v.dims)
  own_small R = tt
  own_small Z = (let few = fine.few_dims in small (length v.dims) few, sizes_fit v.dims fine.sizes)
    where
      small : (k : ℕ) → k ≤ 10 → k < 256 ^ 4
      small k le = omega arith

  pub vdr_says : (b : List ℕ) (place : ℕ) → next < 256 ^ 8 → root < 256 ^ 8 → cpr < 256 ^ 8 → n < 256 ^ 4 → Standing b place body → VdrSays b place
  unfolding vdr_body vdr_front
  vdr_says b place next_fits root_fits cpr_fits n_fits s =
      let front = laid_out fields in
      let own = own_dims kind v.dims in
      let codes = map vary_code v.varys in
      let rest = s.behind.rest in
      let few = fine.few in
      let fl = flags_say v.vary v.pad v.rle in
      let x : drop (place + 8) b ≡ front ++ (name ++ (flat_map (big_bytes 4) tail ++ (pad ++ rest))) =
      s.behind.there ∙ append_assoc (front ++ name ++ flat_map (big_bytes 4) tail) pad rest ∙ append_assoc (front ++ name) (flat_map (big_bytes 4) tail) (pad ++ rest) ∙ append_assoc front name (flat_map (big_bytes 4) tail ++ (pad ++ rest)) in
      let w = says_laid_out b place 8 fields (name ++ (flat_map (big_bytes 4) tail ++ (pad ++ rest))) x refl
      (type_small kind, (next_fits, (code_small v.type, (code4_fits v.max_rec fine.max_fits, (root_fits, (root_fits, (fl.3, (sparse_small v.sparse, (lit< tt, (lit< tt, (lit< tt, (small4 v.elems few, (n_fits, (cpr_fits, (code4_fits v.blocking fine.blocking_fits, tt))))))))))))))) in
      let (type_is, (next_is, (type_said, (max_said, (head_is, (tail_is, (flags_said, (sparse_said, (rb, (rc, (rf, (elems_said, (num_is, (cpr_is, (blocking_said, end))))))))))))))) = w.0 in
      let long = name_long in
      let y : drop (place + 340) b ≡ flat_map (big_bytes 4) tail ++ (pad ++ rest) =
      (let p : place + 340 ≡ place + 84 + length name = omega arith in ap (λ (k : ℕ). drop k b) p ∙ sym (drop-drop (length name) (place + 84) b) ∙ ap (drop (length name)) w.1 ∙ drop-append_seam name (flat_map (big_bytes 4) tail ++ (pad ++ rest))) in
      let y1 : drop (place + 340) b ≡ flat_map (big_bytes 4) own ++ (flat_map (big_bytes 4) codes ++ (pad ++ rest)) =
      y ∙ ap (λ (l : List ℕ). l ++ (pad ++ rest)) (flat_map-append (big_bytes 4) own codes) ∙ append_assoc (flat_map (big_bytes 4) own) (flat_map (big_bytes 4) codes) (pad ++ rest) in
      let first = words_laid_out b (place + 340) own (flat_map (big_bytes 4) codes ++ (pad ++ rest)) y1 (own_small kind) in
      let second = words_laid_out b (place + 340 + 4 * length own) codes (pad ++ rest) first.1 (codes_small v.varys) in
      let count : length codes ≡ length v.varys = length-map v.varys vary_code in
      record {
        next_is = next_is;
        type_said = type_said;
        max_said = max_said;
        head_is = head_is;
        flags_said = flags_said;
        sparse_said = sparse_said;
        elems_said = elems_said;
        num_is = num_is;
        cpr_is = cpr_is;
        blocking_said = blocking_said;
        name_is = ap (before_first (λ (c : ℕ). c == 0)) (ap (take 256) w.1 ∙ take_at name (flat_map (big_bytes 4) tail ++ (pad ++ rest)) 256 long) ∙ before_zeros v.name (256 - length v.name) (fine_has_no_zeros v.name fine.named);
        own_are = first.0;
        varys_said = ap (words b (place + 340 + 4 * length own)) (sym count) ∙ second.0;
        pad_rest = rest;
        pad_there = ap (λ (k : ℕ). drop (place + 340 + 4 * length own + 4 * k) b) (sym count) ∙ second.1;
      }
    where
      small4 : (k : ℕ) → k ≤ 2147483647 → k < 256 ^ 4
      small4 k le = omega arith

      type_small : (k : Kind) → vdr_type k < 256 ^ 4
      type_small R = lit< tt
      type_small Z = lit< tt

  -- what it means, and its rules
  pub record VdrReads (b : List ℕ) (place : ℕ) : Type 0 where
    pub type_is : type_of_variable b place ≡ v.type
    pub elems_are : elems_at b place ≡ v.elems
    pub dims_are : dims_at b place ≡ v.dims
    pub varys_are : varys_at b place ≡ v.varys
    pub vary_is : records_vary b place ≡ v.vary
    pub sparse_is : sparse_at b place ≡ v.sparse
    pub rle_is : is_compressed b place ≡ v.rle
    pub max_is : max_rec_at b place ≡ v.max_rec
    pub pad_is : pad_at b place ≡ v.pad
    pub size_is : record_bytes b place ≡ record_length v
    pub end_is : vdr_end b place ≡ vdr_size kind little v
    pub dims_rule : (not (is_z b place) || has_dimensions b place) ≡ true

  -- the dimensions, by the kind
  pub record DimsRead (b : List ℕ) (place : ℕ) : Type 0 where
    pub count : dimensions_at b place ≡ length v.dims
    pub dims : dims_at b place ≡ v.dims
    pub vary_place : place + (vary_field b place).place ≡ place + 340 + 4 * length (own_dims kind v.dims)
    pub pad_place : place + (pad_field b place).place ≡ place + 340 + 4 * length (own_dims kind v.dims) + 4 * length v.varys
    pub pad_width : (pad_field b place).width ≡ value_bytes b place
    pub end_at : (pad_field b place).place + length (pad_bytes little v) ≡ vdr_size kind little v
    pub rule : (not (is_z b place) || has_dimensions b place) ≡ true

module _ (little : Bool) (n next root cpr : ℕ) (v : Variable) (fine : FineVariable v) (b : List ℕ) (place : ℕ) where
  pub dims_r : VdrSays R little n next root cpr v fine b place → type_at b place ≡ r_vdr_type → Shares R little n next root cpr v fine b R → DimsRead R little n next root cpr v fine b place
  dims_r w typed sh =
      let z : is_z b place ≡ false = ap (λ (t : ℕ). t == z_vdr_type) typed in
      let one = fine.one_each in
      let count = sh.0 in
      record {
        count = rw z sh.0;
        dims = rw z sh.1;
        vary_place = rw z (omega arith);
        pad_place = rw (z, count) (omega arith);
        pad_width = rw z refl;
        end_at = rw (z, count) (omega arith);
        rule = rw z refl;
      }

  pub dims_z : VdrSays Z little n next root cpr v fine b place → type_at b place ≡ z_vdr_type → vdr_size Z little v ≤ size_at b place → DimsRead Z little n next root cpr v fine b place
  dims_z w typed room =
      let z : is_z b place ≡ true = ap (λ (t : ℕ). t == z_vdr_type) typed in
      let d = length v.dims in
      let few = fine.few_dims in
      let one = fine.one_each in
      let said : number b place vdr_z_num_dims ≡ d = cc w.own_are in
      let sizes : words b (place + 340 + 4) d ≡ v.dims = cc w.own_are in
      let at : place + 344 ≡ place + 340 + 4 = omega arith in
      let count : counted (cast_signed w32 (number b place vdr_z_num_dims)) ≡ d = rw said (small_signed d (omega arith)) in
      let dims : dims_at b place ≡ v.dims = rw (z, count, at, sizes) (counted_sizes v.dims fine.sizes) in
      record {
        count = rw z count;
        dims = dims;
        vary_place = rw (z, count) (omega arith);
        pad_place = rw (z, count) (omega arith);
        pad_width = rw z refl;
        end_at = rw (z, count) (omega arith);
        rule = rw (dims, said, z) (and_from _ _ (le-leb d dimension_limit fine.few_dims) (and_from _ _ (le-leb _ _ (omega arith)) (all_positive v.dims fine.sizes)));
      }

pub whole_value : (size elems len : ℕ) → 1 ≤ size → len ≡ size * elems → len % size ≡ 0
whole_value size elems len some e = grind arith

module _ (kind : Kind) (little : Bool) (n next root cpr : ℕ) (v : Variable) (fine : FineVariable v) (b : List ℕ) (place : ℕ) (w : VdrSays kind little n next root cpr v fine b place) (d : DimsRead kind little n next root cpr v fine b place) (little_is : is_little b ≡ little) where
  pub vdr_reads : VdrReads kind little n next root cpr v fine b place
  vdr_reads =
      let fl = flags_say v.vary v.pad v.rle in
      let type : type_of_variable b place ≡ v.type = ap (λ (k : ℕ). unwrap_or (type_of (cast_signed w32 k)) Byte) w.type_said ∙ ap (λ (o : Option DataType). unwrap_or o Byte) (type_back v.type) in
      let elems : elems_at b place ≡ v.elems = ap (λ (k : ℕ). counted (cast_signed w32 k)) w.elems_said ∙ small_signed v.elems fine.few in
      let padded : has_pad b place ≡ is_some v.pad = ap (λ (k : ℕ). has_bit k 1) w.flags_said ∙ fl.1 in
      let value : value_bytes b place ≡ size_of v.type * v.elems = λ i. size_of (type i) * elems i in
      let varys : varys_at b place ≡ v.varys = ap (λ (k : ℕ). map (λ m. not (m == 0)) (words b (place + (vary_field b place).place) k)) (d.count ∙ sym fine.one_each) ∙ ap (λ (p : ℕ). map (λ m. not (m == 0)) (words b p (length v.varys))) d.vary_place ∙ ap (map (λ m. not (m == 0))) w.varys_said ∙ varys_back v.varys in
      record {
        type_is = type;
        elems_are = elems;
        dims_are = d.dims;
        varys_are = varys;
        vary_is = ap (λ (k : ℕ). has_bit k 0) w.flags_said ∙ fl.0;
        sparse_is = ap (λ (k : ℕ). if k == 0 then NoRule else (if k == 1 then Pad else Previous)) w.sparse_said ∙ sparse_back v.sparse;
        rle_is = ap (λ (k : ℕ). has_bit k 2) w.flags_said ∙ fl.2;
        max_is = ap (cast_signed w32) w.max_said ∙ code4_back v.max_rec fine.max_fits;
        pad_is = pad_by v.pad fine.padded padded type value w.pad_there;
        size_is = (λ i. record_size (type i) (elems i) (d.dims i) (varys i));
        end_is = ends v.pad fine.padded padded value d.end_at;
        dims_rule = d.rule;
      }
    where
      -- the pad value
      pad_by : (o : Option (List ℕ)) → IfSome o (λ bytes. length bytes ≡ size_of v.type * v.elems) → has_pad b place ≡ is_some o → type_of_variable b place ≡ v.type → value_bytes b place ≡ size_of v.type * v.elems
          → drop (place + 340 + 4 * length (own_dims kind v.dims) + 4 * length v.varys) b ≡ (elim o [ None ↦ [] | Some bytes ↦ turned v.type little bytes ]) ++ w.pad_rest → pad_at b place ≡ o
      pad_by None p h type value there = ap (λ (q : Bool). if q then Some (network_bytes b place (pad_field b place) (type_of_variable b place)) else None) h
      pad_by (Some bytes) p h type value there =
          let even = whole_value (size_of v.type) v.elems (length bytes) (size_some v.type) p in
          let stored = turned v.type little bytes in
          let long : length stored ≡ value_bytes b place = size_stays v.type little bytes even ∙ p ∙ sym value in
          let piece : field_bytes b place (pad_field b place) ≡ stored =
          ap (λ (k : ℕ). take k (drop (place + (pad_field b place).place) b)) d.pad_width ∙ ap (λ (q : ℕ). take (value_bytes b place) (drop q b)) d.pad_place ∙ ap (take (value_bytes b place)) there ∙ take_at stored w.pad_rest (value_bytes b place) long in
          ap (λ (q : Bool). if q then Some (network_bytes b place (pad_field b place) (type_of_variable b place)) else None) h
          ∙ ap Some ((λ i. turned (type i) (little_is i) (piece i)) ∙ back v.type little bytes even)

      ends : (o : Option (List ℕ)) → IfSome o (λ bytes. length bytes ≡ size_of v.type * v.elems) → has_pad b place ≡ is_some o → value_bytes b place ≡ size_of v.type * v.elems
          → (pad_field b place).place + length {A = ℕ} (elim o [ None ↦ [] | Some bytes ↦ turned v.type little bytes ]) ≡ vdr_size kind little v → vdr_end b place ≡ vdr_size kind little v
      ends None p h value e = ap (λ (q : Bool). (pad_field b place).place + (if q then value_bytes b place else 0)) h ∙ e
      ends (Some bytes) p h value e =
          let even = whole_value (size_of v.type) v.elems (length bytes) (size_some v.type) p in
          let long : length (turned v.type little bytes) ≡ value_bytes b place = size_stays v.type little bytes even ∙ p ∙ sym value in
          ap (λ (q : Bool). (pad_field b place).place + (if q then value_bytes b place else 0)) h ∙ ap (λ (k : ℕ). (pad_field b place).place + k) (sym long) ∙ e
