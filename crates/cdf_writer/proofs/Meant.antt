-- What a good image means is a fine data set.
use Rattle.std.proofs.Common.{Bool, List, [], ap, arith, drop, false, inl, inr, is_some, length, map, not, refl, subst, suc, take, true, ℕ, ◌&&◌, ◌++◌, ◌+◌, ◌∙◌, ◌∷◌, ◌≡◌, ◌≤◌, ◌||◌}
use Rattle.std.proofs.lemmas.List.{length-drop, length-take}
use Rattle.std.specs.List.{before_first, flat_map, list_any, prefix_len}
use Rattle.std.specs.Prelude.{nat_le, nat_lt, ◌-◌, ◌==◌, if◌then◌else◌}
use Rattle.std.proofs.lemmas.Bool.Decides.{nat_tests}
use Rattle.cdf_model.specs.DataSet.{Entry}
use Rattle.cdf_model.specs.Limits.{record_number_limit, signed_limit}
use Rattle.cdf_model.specs.Place.{record_limit}
use Rattle.cdf_model.specs.Names.{is_bad_name}
use Rattle.cdf_model.specs.Numbered.{with_item}
use Rattle.cdf_model.specs.Types.{size_of}
use Rattle.cdf_format.proofs.ChainsLemmas.{linkable-in}
use Rattle.cdf_format.proofs.GoodByShape.{attribute_shape_rows}
use Rattle.cdf_format.proofs.NameRules.{AreNew}
use Rattle.cdf_format.proofs.RowLemmas.{Hold-split}
use Rattle.cdf_format.proofs.Tests.{both, le_of, not_false}
use Rattle.cdf_format.proofs.TilesLemmas.{tile_lies}
use Rattle.cdf_format.specs.AttributeRules.{adr_rows, entries_rows, entry_bytes, entry_rows, has_name, has_value}
use Rattle.cdf_format.specs.ChainRules.{count_rows}
use Rattle.cdf_format.specs.Content.{attribute_of, entries_of, entry_of}
use Rattle.cdf_format.specs.Fields.{is_positive, name_in, number, size_at}
use Rattle.cdf_format.specs.Records.{Field, adr_name, adr_ngr_entries, adr_nz_entries, aedr_data_type, aedr_num, aedr_num_elems, aedr_value, cdr_place}
use Rattle.cdf_format.specs.Rules.{Hold}
use Rattle.cdf_format.specs.Shape.{AttributeShape, Each, HasEntries, HasShape, Shape}
use Rattle.cdf_format.specs.Stored.{data_type_in, field_bytes, is_little}
use Rattle.cdf_format.specs.Tiles.{In}
use Rattle.cdf_edits.proofs.Edits.NumberedItems.{Rising, rising_with}
use Rattle.cdf_values.proofs.TurnedLemmas.{size_stays}
use Rattle.cdf_writer.specs.Fine.{Differ, FineAttribute, FineEntries, FineEntry, Rise}
use Rattle.cdf_writer.proofs.Entries.{size_some, whole_bytes}

-- ---- names

short_name : (xs : List ℕ) → length (before_first (λ (byte : ℕ). byte == 0) xs) ≤ length xs
short_name xs = omega (arith, length-take (prefix_len (λ (byte : ℕ). not (byte == 0)) xs) xs)

one_more : (n : ℕ) → 1 + n ≡ suc n
one_more n = omega arith

no_zero : (xs : List ℕ) → list_any (λ (byte : ℕ). byte == 0) (before_first (λ (byte : ℕ). byte == 0) xs) ≡ false
no_zero [] = refl
no_zero (x ∷ xs) = by (x == 0) refl (no_zero xs)
  where
    by : (p : Bool) → (x == 0) ≡ p → list_any (λ (byte : ℕ). byte == 0) (before_first (λ (byte : ℕ). byte == 0) xs) ≡ false → list_any (λ (byte : ℕ). byte == 0) (take (if not p then 1 + prefix_len (λ (byte : ℕ). not (byte == 0)) xs else 0) (x ∷ xs)) ≡ false
    by true e rest = refl
    by false e rest = ap (λ (k : ℕ). list_any (λ (byte : ℕ). byte == 0) (take k (x ∷ xs))) (one_more (prefix_len (λ (byte : ℕ). not (byte == 0)) xs)) ∙ ap (λ (q : Bool). q || list_any (λ (byte : ℕ). byte == 0) (before_first (λ (byte : ℕ). byte == 0) xs)) e ∙ rest

past_limit : (n : ℕ) → n ≤ 256 → nat_lt 256 n ≡ false
past_limit n le = grind (arith, nat_tests)

pub named : (b : List ℕ) (place : ℕ) (f : Field) → f.width ≡ 256 → has_name b place f ≡ true → is_bad_name (name_in b place f) ≡ false
named b place f wide e =
    let name = name_in b place f in
    let bytes = take f.width (drop (place + f.place) b) in
    let short : length name ≤ 256 = omega (arith, short_name bytes, length-take f.width (drop (place + f.place) b), wide) in
    (λ i. ((not_false (length name == 0) e i) || past_limit (length name) short i) || no_zero bytes i)

pub differ : (before names : List (List ℕ)) → AreNew before names → Differ before names
differ before [] n = tt
differ before (name ∷ more) n = (n.0, differ (before ++ name ∷ []) more n.1)

-- ---- entries

pub to_rise : {A : Type 0} (low : ℕ) (items : List (ℕ × A)) → Rising low items → Rise low items
to_rise low [] r = tt
to_rise low ((n, a) ∷ more) (Rising.one p r) = (p, subst (λ (k : ℕ). Rise k more) (omega arith) (to_rise (n + 1) more r))

each_with : {A : Type 0} (P : ℕ × A → Type 0) (n : ℕ) (a : A) (items : List (ℕ × A)) → P (n, a) → Each P items → Each P (with_item n a items)
each_with P n a [] p e = (p, tt)
each_with P n a ((m, c) ∷ items) p e = by (nat_lt n m) (n == m) (each_with P n a items p e.1)
  where
    by : (q r : Bool) → Each P (with_item n a items) → Each P (if q then (n, a) ∷ (m, c) ∷ items else (if r then (n, a) ∷ items else (m, c) ∷ with_item n a items))
    by true r so = (p, e)
    by false true so = (p, e.1)
    by false false so = (e.0, so)

fits_inside : (e n size len : ℕ) → 56 + n ≤ size → e + size ≤ len → n ≤ len - (e + 56)
fits_inside e n size len p q = omega arith

entry_fine : (b : List ℕ) (adr e : ℕ) → e + size_at b e ≤ length b → Hold (entry_rows b adr e) → FineEntry (number b e aedr_num) (entry_of b e)
entry_fine b adr e inside h =
    let num = h.1.0 in
    let value : has_value b e ≡ true = h.1.1.0 in
    let n = entry_bytes b e in
    let q = both (is_some _ && is_positive (number b e aedr_num_elems)) (nat_le n record_limit && nat_le (56 + n) (size_at b e)) value in
    let r = both (nat_le n record_limit) (nat_le (56 + n) (size_at b e)) q.1 in
    let some = both (is_some _) (is_positive (number b e aedr_num_elems)) q.0 in
    let positive = both (nat_le 1 (number b e aedr_num_elems)) (nat_le (number b e aedr_num_elems) signed_limit) some.1 in
    let t = data_type_in b e aedr_data_type in
    let long : length (field_bytes b e (aedr_value n)) ≡ n = omega (arith, length-take n (drop (e + 56) b), length-drop (e + 56) b, fits_inside e n (size_at b e) (length b) (le_of (56 + n) (size_at b e) r.1) inside) in
    let whole = size_stays t (is_little b) (field_bytes b e (aedr_value n)) (whole_bytes (size_of t) (number b e aedr_num_elems) (length (field_bytes b e (aedr_value n))) (size_some t) long) ∙ long in
    record {
      numbered = le_of (number b e aedr_num) record_number_limit num;
      some = le_of 1 (number b e aedr_num_elems) positive.0;
      few = le_of (number b e aedr_num_elems) signed_limit positive.1;
      whole = whole;
      short = omega (arith, whole, le_of n record_limit r.0);
    }

rising_entries : (b es : List ℕ) → Rising 0 (entries_of b es)
rising_entries b [] = Rising.none
rising_entries b (e ∷ es) = rising_with 0 (number b e aedr_num) (entry_of b e) (entries_of b es) (omega arith) (rising_entries b es)

each_entry : (b : List ℕ) (adr : ℕ) (es : List ℕ) → ((e : ℕ) → In e es → e + size_at b e ≤ length b) → Hold (flat_map (entry_rows b adr) es) → Each (λ (item : ℕ × Entry). FineEntry item.0 item.1) (entries_of b es)
each_entry b adr [] inside h = tt
each_entry b adr (e ∷ es) inside h =
    let p = Hold-split (entry_rows b adr e) (flat_map (entry_rows b adr) es) h in
    each_with (λ (item : ℕ × Entry). FineEntry item.0 item.1) (number b e aedr_num) (entry_of b e) (entries_of b es) (entry_fine b adr e (inside e (inl refl)) p.0) (each_entry b adr es (λ m i. inside m (inr i)) p.1)

entries_fine : (b : List ℕ) (adr : ℕ) (count : Field) (es : List ℕ) → ((e : ℕ) → In e es → e + size_at b e ≤ length b) → Hold (entries_rows b adr count es) → FineEntries (entries_of b es)
entries_fine b adr count es inside h =
    let p = Hold-split (count_rows 5 b adr count es ++ flat_map (entry_rows b adr) es) _ h in
    let q = Hold-split (count_rows 5 b adr count es) (flat_map (entry_rows b adr) es) p.0 in
    (to_rise 0 (entries_of b es) (rising_entries b es), each_entry b adr es inside q.1)

-- ---- attributes

module _ (b : List ℕ) (s : Shape) (has : HasShape b s) where
  pub inside : (place : ℕ) → In place s.records → place + size_at b place ≤ length b
  inside place i = let l = tile_lies b cdr_place (length b) s.records place has.tiled i in l.high

  attribute_fine : (a : AttributeShape) → HasEntries b s.records a → Hold (attribute_shape_rows b a) → FineAttribute (attribute_of b a)
  attribute_fine a of h =
      let p = Hold-split (adr_rows b a.adr) (entries_rows b a.adr adr_ngr_entries a.gr_entries ++ entries_rows b a.adr adr_nz_entries a.z_entries) h in
      let q = Hold-split (entries_rows b a.adr adr_ngr_entries a.gr_entries) (entries_rows b a.adr adr_nz_entries a.z_entries) p.1 in
      let gr = of.gr_chain in
      let z = of.z_chain in
      record {
        named = named b a.adr adr_name refl p.0.0;
        g_fine = entries_fine b a.adr adr_ngr_entries a.gr_entries (λ e i. inside e (linkable-in b s.records _ e (gr.linkable e i))) q.0;
        z_fine = entries_fine b a.adr adr_nz_entries a.z_entries (λ e i. inside e (linkable-in b s.records _ e (z.linkable e i))) q.1;
      }

  pub attributes_fine : (as_ : List AttributeShape) → Each (HasEntries b s.records) as_ → Hold (flat_map (attribute_shape_rows b) as_) → Each FineAttribute (map (attribute_of b) as_)
  attributes_fine [] e h = tt
  attributes_fine (a ∷ more) e h =
      let p = Hold-split (attribute_shape_rows b a) (flat_map (attribute_shape_rows b) more) h in
      (attribute_fine a e.0 p.0, attributes_fine more e.1 p.1)
