-- What a good image means is a fine data set, if it is not too long when it is compact.
use Rattle.std.proofs.Common.{Bool, List, None, Some, [], ap, ap₂, append_assoc, arith, drop, false, inl, inr, is_some, negsuc, pos, length, map, refl, subst, suc, sym, true, ℕ, ◌&&◌, ◌++◌, ◌+◌, ◌<◌, ◌^◌, ◌∙◌, ◌∷◌, ◌≡◌, ◌≤◌}
use Rattle.std.proofs.lemmas.List.{length-drop, length-map, length-take, map-append}
use Rattle.std.specs.List.{flat_map, list_all, list_any}
use Rattle.std.specs.Prelude.{bytes_eq, ◌-◌, ◌==◌, if◌then◌else◌}
use Rattle.cdf_model.specs.DataSet.{DataSet, Variable}
use Rattle.cdf_model.specs.Limits.{dimension_limit, image_limit, level_limit, record_number_limit, signed_limit}
use Rattle.cdf_model.specs.RunLengths.{is_cut, plain_of}
use Rattle.cdf_format.proofs.ChainsLemmas.{linkable-in}
use Rattle.cdf_format.proofs.GoodByShape.{IsGoodByShape}
use Rattle.cdf_format.proofs.GoodImageLemmas.{vdrs_append}
use Rattle.cdf_format.proofs.Members.{In-append, In-append_left, is_in-true}
use Rattle.cdf_format.proofs.Owning.{block_in}
use Rattle.cdf_format.proofs.RowLemmas.{Hold-asked, Hold-split}
use Rattle.cdf_format.proofs.ShapeLemmas.{Each-split}
use Rattle.cdf_format.proofs.SoundLemmas.{IsPackedAs, leaves_packed}
use Rattle.cdf_format.proofs.Tests.{eq_of}
use Rattle.cdf_format.specs.Chains.{is_a}
unfoldable use Rattle.cdf_format.specs.Content.{content}
use Rattle.cdf_format.specs.Content.{content_of, plain_bytes, variable_of}
use Rattle.cdf_format.specs.Fields.{word, gdr_offset, is_positive, number, r_num_dims, r_sizes, size_at, type_at}
use Rattle.cdf_format.specs.Index.{Leaf, leaves_of}
use Rattle.cdf_format.specs.IndexRules.{cvvr_rows, index_rows, leaf_rows, nodes_rows, unpacks_to, vvr_rows}
use Rattle.cdf_format.specs.RecordTypes.{cvvr_type, vvr_type}
use Rattle.cdf_format.specs.Rules.{Hold, asked}
use Rattle.cdf_format.specs.Shape.{Each, HasShape, HasVariable, Shape, VariableShape, shape, variables, vdrs}
use Rattle.cdf_format.specs.Sound.{BlockFits, IsSound, LeafFits, VariableFits}
use Rattle.cdf_format.specs.Stored.{packed_bytes}
use Rattle.cdf_format.specs.Tiles.{In}
use Rattle.cdf_format.specs.VariableFields.{plain_size}
use Rattle.cdf_format.specs.VariableRules.{variable_rows}
use Rattle.cdf_edits.proofs.Edits.LeavesOrder.{index_ascends}
use Rattle.std.specs.Int.{cast_signed}
use Rattle.std.proofs.Common.{w32, zero, slice_index, ◌*◌, ◌≢◌}
use Rattle.std.proofs.Math.Nat.{mul-le-mul_right, pow-succ'}
use Rattle.std.proofs.lemmas.List.{get_or_append_left}
use Rattle.cdf_model.specs.Encodings.{encoding_at}
use Rattle.cdf_model.specs.Names.{variable_names}
use Rattle.cdf_model.specs.DataSet.{Attribute}
use Rattle.cdf_format.proofs.BytesLemmas.{word-same}
use Rattle.cdf_format.proofs.ChainsLemmas.{linkable-type}
use Rattle.cdf_format.proofs.FileRecords.{gdr_holds}
use Rattle.cdf_format.proofs.GoodByShape.{attribute_shape_rows}
use Rattle.cdf_format.proofs.GoodHead.{cdr_fits, few_dimensions, gdr_fits, sizes_fit}
use Rattle.cdf_format.proofs.GoodSound.{good_by_its_shape, good_is_sound}
use Rattle.cdf_format.proofs.Members.{Distinct-middle, length-le_from_distinct}
use Rattle.cdf_format.proofs.NameRules.{names_at, names_differ}
use Rattle.cdf_format.proofs.TilesLemmas.{length_tiles}
use Rattle.cdf_format.specs.AttributeRules.{same_name}
use Rattle.cdf_format.specs.ChainRules.{differ_rows}
use Rattle.cdf_format.specs.Content.{attribute_of}
use Rattle.cdf_format.specs.Fields.{counted, encoding, name_in, words}
use Rattle.cdf_format.specs.Records.{adr_name, cdr_place, gdr_r_num_dims, vdr_name}
use Rattle.cdf_format.specs.RecordTypes.{r_vdr_type, z_vdr_type}
use Rattle.cdf_format.specs.Sealed.{sealed, trailer}
use Rattle.cdf_format.specs.Shape.{AttributeShape, adrs}
use Rattle.cdf_format.specs.Tiles.{Distinct}
use Rattle.cdf_format.specs.VariableFields.{is_z}
use Rattle.cdf_format.specs.WellFormed.{Good}
use Rattle.cdf_edits.proofs.Edits.VariableNames.{names_apart}
use Rattle.cdf_writer.specs.Fine.{Differ, Fine, FineAttributes, FineHead, FineVariable, FineVariables}
use Rattle.cdf_writer.proofs.Meant.{attributes_fine, differ, inside}
use Rattle.cdf_writer.proofs.MeantVariables.{LongLeaves, each_positive, fits_signed, small_signed, variable_fine, words_long}

-- ---- the plain bytes of a leaf

plain_inside : (p n s len : ℕ) → 12 + n ≤ s → p + s ≤ len → n ≤ len - (p + 12)
plain_inside p n s len a c = omega arith

unpacked_long : (packed : List ℕ) (n : ℕ) → unpacks_to packed n ≡ true → length (plain_of packed) ≡ n
unpacked_long packed n e = by (is_cut packed) e
  where
    by : (q : Bool) → (elim (if q then None else Some (plain_of packed)) [ None ↦ false | Some plain ↦ length plain == n ]) ≡ true → length (plain_of packed) ≡ n
    by true e = absurd cc
    by false e = eq_of (length (plain_of packed)) n e

module _ (b records : List ℕ) (vdr : ℕ) (tiles_lie : (place : ℕ) → In place records → place + size_at b place ≤ length b) where
  leaf_long : (l : Leaf) → LeafFits b records vdr l → IsPackedAs b records l → Hold (leaf_rows b records vdr l) → length (plain_bytes b vdr l) ≡ plain_size b vdr l
  leaf_long l fits packed h = by l.packed fits.1 packed refl
    where
      tile : In l.place records
      tile = block_in b records l.place fits.0

      by : (q : Bool) → BlockFits b vdr l q → (type_at b l.place == cvvr_type) ≡ q → l.packed ≡ q → length (plain_bytes b vdr l) ≡ plain_size b vdr l
      by false room is e = rw e (omega (arith, length-take (plain_size b vdr l) (drop (l.place + 12) b), length-drop (l.place + 12) b, plain_inside l.place (plain_size b vdr l) (size_at b l.place) (length b) room (tiles_lie l.place tile)))
      by true room is e =
          let cvvr : is_a b records cvvr_type l.place ≡ true = (λ i. is_in-true l.place records tile i && (type_at b l.place == cvvr_type)) ∙ is in
          let parts = Hold-split (asked (is_a b records vvr_type l.place) (vvr_rows b vdr l)) (asked (is_a b records cvvr_type l.place) (cvvr_rows b vdr l)) h in
          let rows = Hold-asked (is_a b records cvvr_type l.place) (cvvr_rows b vdr l) parts.1 cvvr in
          rw e (unpacked_long (packed_bytes b l.place) (plain_size b vdr l) rows.1.1.0)

  leaves_long : (leaves : List Leaf) → Each (LeafFits b records vdr) leaves → Each (IsPackedAs b records) leaves → Hold (flat_map (leaf_rows b records vdr) leaves) → LongLeaves b vdr leaves
  leaves_long [] f p h = tt
  leaves_long (l ∷ more) f p h =
      let q = Hold-split (leaf_rows b records vdr l) (flat_map (leaf_rows b records vdr) more) h in
      (leaf_long l f.0 p.0 q.0, leaves_long more f.1 p.1 q.1)

-- ---- all variables

module _ (b : List ℕ) (records ids : List ℕ) (tiles_lie : (place : ℕ) → In place records → place + size_at b place ≤ length b) (words_fit : (p : ℕ) → word b p 4 < 256 ^ 4) (few : r_num_dims b (gdr_offset b) ≤ dimension_limit) (sizes : list_all is_positive (r_sizes b (gdr_offset b)) ≡ true) where
  variables_fine : (vs : List VariableShape) → ((m : ℕ) → In m (vdrs vs) → In m records) → Each (HasVariable b records) vs → Each (VariableFits b records) vs → Hold (flat_map (variable_rows b records ids) (vdrs vs)) → Hold (flat_map (λ (v : VariableShape). index_rows b records v.vdr v.index) vs) → Each FineVariable (map (variable_of b) vs)
  variables_fine [] stand has fits rules indexes = tt
  variables_fine (v ∷ vs) stand has fits rules indexes =
      let p = Hold-split (variable_rows b records ids v.vdr) (flat_map (variable_rows b records ids) (vdrs vs)) rules in
      let q = Hold-split (index_rows b records v.vdr v.index) (flat_map (λ (v : VariableShape). index_rows b records v.vdr v.index) vs) indexes in
      let blocks = Hold-split (nodes_rows b records (negsuc 0) (pos record_number_limit) v.index) (flat_map (leaf_rows b records v.vdr) (leaves_of v.index)) q.0 in
      let indexed = has.0.indexed in
      let packed = leaves_packed b records level_limit v.index indexed.has_nodes in
      let long = leaves_long b records v.vdr tiles_lie (leaves_of v.index) fits.0.2 packed blocks.1 in (
        variable_fine b records ids v p.0 words_fit (tiles_lie v.vdr (stand v.vdr (inl refl))) few sizes (index_ascends b records v.vdr v.index q.0) long,
        variables_fine vs (λ m i. stand m (inr i)) has.1 fits.1 p.1 q.1,
      )

-- ---- names of variables

differ_of : (b : List ℕ) (before ms : List ℕ) → Distinct (before ++ ms) → ((x y : ℕ) → In x ms → In y (before ++ ms) → x ≢ y → same_name b vdr_name x y ≡ false) → Differ (names_at b vdr_name before) (names_at b vdr_name ms)
differ_of b before [] d apart = tt
differ_of b before (m ∷ ms) d apart = (
  none before (λ y i. apart m y (inl refl) (In-append_left y before (m ∷ ms) i) (λ e. absurd (Distinct-middle before m ms d (subst (λ (k : ℕ). In k before) (sym e) i)))),
  subst (λ (z : List (List ℕ)). Differ z (names_at b vdr_name ms)) (map-append (λ (k : ℕ). name_in b k vdr_name) before (m ∷ []))
      (differ_of b (before ++ m ∷ []) ms (subst Distinct (sym (append_assoc before (m ∷ []) ms)) d) (λ x y i j ne. apart x y (inr i) (subst (In y) (append_assoc before (m ∷ []) ms) j) ne)),
)
  where
    none : (ys : List ℕ) → ((y : ℕ) → In y ys → same_name b vdr_name m y ≡ false) → list_any (bytes_eq (name_in b m vdr_name)) (names_at b vdr_name ys) ≡ false
    none [] h = refl
    none (y ∷ ys) h = rw (h y (inl refl)) (none ys (λ z i. h z (inr i)))

names_are : (b : List ℕ) (vs : List VariableShape) → map (λ (v : Variable). v.name) (map (variable_of b) vs) ≡ names_at b vdr_name (vdrs vs)
names_are b [] = refl
names_are b (v ∷ vs) = ap (λ (x : List (List ℕ)). name_in b v.vdr vdr_name ∷ x) (names_are b vs)

distinct_join : (xs ys : List ℕ) → Distinct xs → Distinct ys → ((m : ℕ) → In m xs → In m ys → ⊥) → Distinct (xs ++ ys)
distinct_join [] ys d e apart = e
distinct_join (x ∷ xs) ys d e apart = (
  λ i. elim (In-append x xs ys i) [ inl j ↦ d.0 j | inr j ↦ apart x (inl refl) j ],
  distinct_join xs ys d.1 e (λ m i j. apart m (inr i) j),
)

r_dims_are : (b : List ℕ) (vs : List VariableShape) → ((m : ℕ) → In m (vdrs vs) → type_at b m ≡ r_vdr_type) → Each (λ (v : Variable). v.dims ≡ r_sizes b (gdr_offset b)) (map (variable_of b) vs)
r_dims_are b [] typed = tt
r_dims_are b (v ∷ vs) typed = (rw (here (typed v.vdr (inl refl))) refl, r_dims_are b vs (λ m i. typed m (inr i)))
  where
    here : type_at b v.vdr ≡ r_vdr_type → is_z b v.vdr ≡ false
    here e = ap (λ (t : ℕ). t == z_vdr_type) e

-- ---- the file

word_front : (b : List ℕ) (place n : ℕ) → place + n ≤ length b → word (sealed b) place n ≡ word b place n
word_front b place n fits = word-same b (sealed b) place n (record { each = λ i low high. get_or_append_left b (trailer b) 0 i (inside i high) })
  where
    inside : (i : ℕ) → i < place + n → i < length b
    inside i high = omega arith

words_front : (b : List ℕ) (p n : ℕ) → p + 4 * n ≤ length b → words (sealed b) p n ≡ words b p n
words_front b p zero fits = refl
words_front b p (suc n) fits = ap₂ (λ (x : ℕ) (xs : List ℕ). x ∷ xs) (word_front b p 4 (omega arith)) (words_front b (p + 4) n (omega arith))

module _ (b : List ℕ) (good : Good b) (words_fit : (p : ℕ) → word b p 4 < 256 ^ 4) where
  abbrev s : Shape
  s = shape b

  image : IsGoodByShape b s
  image = good_by_its_shape b good

  has : HasShape b s
  has = image.has_shape

  sound : IsSound b s
  sound = good_is_sound b good

  g_same : gdr_offset (sealed b) ≡ gdr_offset b
  g_same = let long = cdr_fits b good in word_front b 20 8 (omega arith)

  dims_same : r_num_dims (sealed b) (gdr_offset b) ≡ r_num_dims b (gdr_offset b)
  dims_same = let long = gdr_fits b good in ap (λ (n : ℕ). counted (cast_signed w32 n)) (word_front b (gdr_offset b + 56) 4 (omega (arith, long)))

  sizes : list_all is_positive (r_sizes b (gdr_offset b)) ≡ true
  sizes =
      let f = sealed b in
      let rows = gdr_holds f good in
      let there : list_all is_positive (r_sizes f (gdr_offset b)) ≡ true = subst (λ (p : ℕ). list_all is_positive (r_sizes f p) ≡ true) g_same rows.1.0 in
      subst (λ (xs : List ℕ). list_all is_positive xs ≡ true) (ap (words f (gdr_offset b + 84)) dims_same ∙ words_front b (gdr_offset b + 84) (r_num_dims b (gdr_offset b)) (sizes_fit b good)) there

  few : r_num_dims b (gdr_offset b) ≤ dimension_limit
  few = let few10 = few_dimensions b good in omega (arith, few10, small_signed (number b (gdr_offset b) gdr_r_num_dims) (omega (arith, few10)))

  encoded : is_some (encoding_at (encoding b)) ≡ true
  encoded = let long = cdr_fits b good in subst (λ (n : ℕ). is_some (encoding_at n) ≡ true) (word_front b 36 4 (omega arith)) good.1.1.0.1.1.1.0

  tiles_lie : (place : ℕ) → In place s.records → place + size_at b place ≤ length b
  tiles_lie = inside b s has

  few_of : (ms : List ℕ) → length b ≤ image_limit → Distinct ms → ((m : ℕ) → In m ms → In m s.records) → length ms ≤ signed_limit
  few_of ms small d sub = omega (arith, length-le_from_distinct ms s.records d sub, length_tiles b cdr_place (length b) s.records has.tiled)

  abbrev pub meant : DataSet
  meant = content_of b s

  pub head_fine : FineHead meant
  head_fine = record {
    encoded = encoded;
    release_fits = fits_signed (word b _ 4) (words_fit _);
    increment_fits = fits_signed (word b _ 4) (words_fit _);
    few_dims = subst (λ (g : ℕ). length (r_sizes b g) ≤ dimension_limit) has.gdr_is (omega (arith, words_long b (gdr_offset b + 84) (r_num_dims b (gdr_offset b)), few));
    sizes = each_positive (r_sizes b s.gdr) (subst (λ (g : ℕ). list_all is_positive (r_sizes b g) ≡ true) has.gdr_is sizes);
  }

  pub attributes_meant : length b ≤ image_limit → FineAttributes meant
  attributes_meant small =
      let parts = Hold-split (flat_map (attribute_shape_rows b) s.attributes) (differ_rows 2 (same_name b adr_name) [] (adrs s)) image.attributes in
      let chain = has.attribute_chain in
      let all : map (λ (a : Attribute). a.name) meant.attributes ≡ names_at b adr_name (adrs s) = attribute_names_of s.attributes in
      record {
        each = attributes_fine b s has s.attributes has.entry_chains parts.0;
        differ = subst (Differ []) (sym all) (differ [] (names_at b adr_name (adrs s)) (names_differ 2 b adr_name (adrs s) parts.1));
        few = omega (arith, few_of (adrs s) small chain.once (λ m i. linkable-in b s.records _ m (chain.linkable m i)), length-map s.attributes (attribute_of b), length-map s.attributes (λ (a : AttributeShape). a.adr));
      }
    where
      attribute_names_of : (as_ : List AttributeShape) → map (λ (a : Attribute). a.name) (map (attribute_of b) as_) ≡ names_at b adr_name (map (λ (a : AttributeShape). a.adr) as_)
      attribute_names_of [] = refl
      attribute_names_of (a ∷ more) = ap (λ (x : List (List ℕ)). name_in b a.adr adr_name ∷ x) (attribute_names_of more)

  all_vdrs : vdrs (variables s) ≡ vdrs s.r_variables ++ vdrs s.z_variables
  all_vdrs = vdrs_append s.r_variables s.z_variables

  r_typed : (m : ℕ) → In m (vdrs s.r_variables) → type_at b m ≡ r_vdr_type
  r_typed m i = let chain = has.r_chain in linkable-type b s.records r_vdr_type m (chain.linkable m i)

  z_typed : (m : ℕ) → In m (vdrs s.z_variables) → type_at b m ≡ z_vdr_type
  z_typed m i = let chain = has.z_chain in linkable-type b s.records z_vdr_type m (chain.linkable m i)

  r_in : (m : ℕ) → In m (vdrs s.r_variables) → In m s.records
  r_in m i = let chain = has.r_chain in linkable-in b s.records r_vdr_type m (chain.linkable m i)

  z_in : (m : ℕ) → In m (vdrs s.z_variables) → In m s.records
  z_in m i = let chain = has.z_chain in linkable-in b s.records z_vdr_type m (chain.linkable m i)

  once : Distinct (vdrs s.r_variables ++ vdrs s.z_variables)
  once = distinct_join (vdrs s.r_variables) (vdrs s.z_variables) (let chain = has.r_chain in chain.once) (let chain = has.z_chain in chain.once) (λ m i j. apart (sym (r_typed m i) ∙ z_typed m j))
    where
      apart : r_vdr_type ≡ z_vdr_type → ⊥
      apart e = absurd (omega (arith, e))

  all_fine : Each FineVariable (map (variable_of b) (variables s))
  all_fine = variables_fine b s.records (vdrs (variables s)) tiles_lie words_fit few sizes (variables s) stand has.have_variables sound.variables_fit image.of_variables image.indexes
    where
      stand : (m : ℕ) → In m (vdrs (variables s)) → In m s.records
      stand m i = elim (In-append m (vdrs s.r_variables) (vdrs s.z_variables) (subst (In m) all_vdrs i)) [ inl j ↦ r_in m j | inr j ↦ z_in m j ]

  pub variables_meant : length b ≤ image_limit → FineVariables meant
  variables_meant small =
      let both_kinds = Each-split FineVariable (map (variable_of b) s.r_variables) (map (variable_of b) s.z_variables) (subst (Each FineVariable) (map-append (variable_of b) s.r_variables s.z_variables) all_fine) in
      let r_chain = has.r_chain in
      let z_chain = has.z_chain in
      let names : variable_names meant ≡ names_at b vdr_name (vdrs s.r_variables ++ vdrs s.z_variables) =
      ap₂ (λ (xs ys : List (List ℕ)). xs ++ ys) (names_are b s.r_variables) (names_are b s.z_variables) ∙ sym (map-append (λ (k : ℕ). name_in b k vdr_name) (vdrs s.r_variables) (vdrs s.z_variables)) in
      record {
        r_fine = both_kinds.0;
        z_fine = both_kinds.1;
        r_dims = subst (λ (g : ℕ). Each (λ (v : Variable). v.dims ≡ r_sizes b g) (map (variable_of b) s.r_variables)) has.gdr_is (r_dims_are b s.r_variables r_typed);
        differ = subst (Differ []) (sym names) (differ_of b [] (vdrs s.r_variables ++ vdrs s.z_variables) once (λ x y i j ne. names_apart b s image x y (subst (In x) (sym all_vdrs) i) (subst (In y) (sym all_vdrs) j) ne));
        r_few = omega (arith, few_of (vdrs s.r_variables) small r_chain.once r_in, length-map s.r_variables (variable_of b), length-map s.r_variables (λ (v : VariableShape). v.vdr));
        z_few = omega (arith, few_of (vdrs s.z_variables) small z_chain.once z_in, length-map s.z_variables (variable_of b), length-map s.z_variables (λ (v : VariableShape). v.vdr));
      }

-- ---- of bytes

word_below : (b : List ℕ) → ((i : ℕ) → slice_index b i < 256) → (place n : ℕ) → word b place n < 256 ^ n
word_below b below place zero = omega arith
word_below b below place (suc n) =
    let byte = below place in
    let rest = word_below b below (suc place) n in
    let top : slice_index b place * 256 ^ n ≤ 255 * 256 ^ n = mul-le-mul_right (256 ^ n) (omega arith) in
    rw (pow-succ' 256 n) (omega arith)

pub meant_fine : (b : List ℕ) → Good b → ((i : ℕ) → slice_index b i < 256) → length b ≤ image_limit → Fine (content b)
unfolding content
meant_fine b good below small = record {
  head = head_fine b good (λ p. word_below b below p 4);
  attributes = attributes_meant b good (λ p. word_below b below p 4) small;
  variables = variables_meant b good (λ p. word_below b below p 4) small;
}
