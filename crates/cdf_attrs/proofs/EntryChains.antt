-- The chains of the entries of an attribute of a good image.
use Rattle.cdf_attrs.proofs.Common.{AttributeFits, AttributeShape, Chain, Distinct, Each, EntryFits, EntryKind, Field, G, Good, GrEntries, HasChain, HasEntries, HasShape, Hold, Hold-member, Hold-split, HolderStands, In, IsOf, IsOfAttribute, IsSound, List, None, Option, R, Shape, Some, Z, ZEntries, [], adr_name, adr_ngr_entries, adr_nz_entries, adr_rows, adr_type, adrs, aedr_num, ap, arith, attribute_shape_rows, chain_of, count_rows, counted_in, differ_rows, entries_chain, entries_rows, entry_bytes, entry_rows, eq_of, flat_map, good_by_its_shape, good_is_sound, has_chain, has_value, inl, inr, is_a, le_of, length, length-le_from_distinct, length_tiles, linkable-in, linkable-is_a, map, members_are, members_of, number, nums, nums_differ, record_number_limit, refl, same_name, same_number, shape, size_at, slice_get, subst, suc, sym, tile_lies, tiles, tiles_are, true, type_in, zero, ℕ, ◌++◌, ◌+◌, ◌∙◌, ◌∷◌, ◌≡◌, ◌≤◌}

-- what there is of an attribute that stands in a good image
record Stands (b : List ℕ) (s : Shape) (a : AttributeShape) : Type 0 where
  at : In a.adr (adrs s)
  entries : HasEntries b s.records a
  fits : AttributeFits b a
  rows : Hold (attribute_shape_rows b a)

-- the chain of a kind, as the shape of an attribute has it
record IsChainOf (b : List ℕ) (s : Shape) (c : Chain) (adr : ℕ) (ms : List ℕ) : Type 0 where
  is : IsOf b s c adr ms
  stands : is_a b (tiles b) adr_type adr ≡ true → HolderStands b c
  count : counted_in b c ≡ length ms
  fits : Each (EntryFits b) ms
  values : (m : ℕ) → In m ms → has_value b m ≡ true
  numbers : (m : ℕ) → In m ms → number b m aedr_num ≤ record_number_limit
  differ : Distinct (nums b ms)

values_of : (b : List ℕ) (adr : ℕ) (count : Field) (ms : List ℕ) → Hold (entries_rows b adr count ms) → (m : ℕ) → In m ms → has_value b m ≡ true
values_of b adr count ms rows m i =
    let front = Hold-split (count_rows 5 b adr count ms ++ flat_map (entry_rows b adr) ms) (differ_rows 7 (same_number b) [] ms) rows in
    let entries = Hold-split (count_rows 5 b adr count ms) (flat_map (entry_rows b adr) ms) front.0 in
    (Hold-member (entry_rows b adr) ms m entries.1 i).1.1.0

numbers_of : (b : List ℕ) (adr : ℕ) (count : Field) (ms : List ℕ) → Hold (entries_rows b adr count ms) → (m : ℕ) → In m ms → number b m aedr_num ≤ record_number_limit
numbers_of b adr count ms rows m i =
    let front = Hold-split (count_rows 5 b adr count ms ++ flat_map (entry_rows b adr) ms) (differ_rows 7 (same_number b) [] ms) rows in
    let entries = Hold-split (count_rows 5 b adr count ms) (flat_map (entry_rows b adr) ms) front.0 in
    le_of (number b m aedr_num) record_number_limit (Hold-member (entry_rows b adr) ms m entries.1 i).1.0

differ_of : (b : List ℕ) (adr : ℕ) (count : Field) (ms : List ℕ) → Hold (entries_rows b adr count ms) → Distinct (nums b ms)
differ_of b adr count ms rows = nums_differ b ms (Hold-split (count_rows 5 b adr count ms ++ flat_map (entry_rows b adr) ms) (differ_rows 7 (same_number b) [] ms) rows).1

pub got_in : (as_ : List AttributeShape) (i : ℕ) (a : AttributeShape) → slice_get as_ i ≡ Some a → In a.adr (map (λ (x : AttributeShape). x.adr) as_)
got_in [] i a e = absurd cc
got_in (x ∷ as_) zero a e = inl (ap (λ (o : Option AttributeShape). elim o [ None ↦ a.adr | Some y ↦ y.adr ]) (sym e))
got_in (x ∷ as_) (suc i) a e = inr (got_in as_ i a e)

some_same : (x a : AttributeShape) → Some x ≡ Some a → x ≡ a
some_same x a e = cc e

got_each : (P : AttributeShape → Type 0) (as_ : List AttributeShape) (i : ℕ) (a : AttributeShape) → slice_get as_ i ≡ Some a → Each P as_ → P a
got_each P [] i a e all = absurd cc
got_each P (x ∷ as_) zero a e all = subst P (some_same x a e) all.0
got_each P (x ∷ as_) (suc i) a e all = got_each P as_ i a e all.1

got_rows : (b : List ℕ) (as_ : List AttributeShape) (i : ℕ) (a : AttributeShape) → slice_get as_ i ≡ Some a → Hold (flat_map (attribute_shape_rows b) as_) → Hold (attribute_shape_rows b a)
got_rows b [] i a e all = absurd cc
got_rows b (x ∷ as_) zero a e all = subst (λ (y : AttributeShape). Hold (attribute_shape_rows b y)) (some_same x a e) (Hold-split (attribute_shape_rows b x) (flat_map (attribute_shape_rows b) as_) all).0
got_rows b (x ∷ as_) (suc i) a e all = got_rows b as_ i a e (Hold-split (attribute_shape_rows b x) (flat_map (attribute_shape_rows b) as_) all).1

fits_of : (b : List ℕ) (ms : List ℕ) (m : ℕ) → In m ms → Each (EntryFits b) ms → EntryFits b m
fits_of b [] m i all = elim i [ ]
fits_of b (x ∷ ms) m (inl e) all = subst (EntryFits b) (sym e) all.0
fits_of b (x ∷ ms) m (inr i) all = fits_of b ms m i all.1

module _ (b : List ℕ) (good : Good b) where
  s : Shape
  s = shape b

  sound : IsSound b (shape b)
  sound = good_is_sound b good

  h : HasShape b (shape b)
  h = sound.has_shape

  stands_at : (i : ℕ) (a : AttributeShape) → slice_get (shape b).attributes i ≡ Some a → Stands b (shape b) a
  stands_at i a e =
      let rows = Hold-split (flat_map (attribute_shape_rows b) (shape b).attributes) (differ_rows 2 (same_name b adr_name) [] (adrs (shape b))) (good_by_its_shape b good).attributes in
      record {
        at = got_in (shape b).attributes i a e;
        entries = got_each (HasEntries b (shape b).records) (shape b).attributes i a e h.entry_chains;
        fits = got_each (AttributeFits b) (shape b).attributes i a e sound.attributes_fit;
        rows = got_rows b (shape b).attributes i a e rows.0;
      }

  gr_chain_is : (a : AttributeShape) → Stands b (shape b) a → IsChainOf b (shape b) (GrEntries a.adr) a.adr a.gr_entries
  gr_chain_is a st =
      let parts = Hold-split (adr_rows b a.adr ++ entries_rows b a.adr adr_ngr_entries a.gr_entries) (entries_rows b a.adr adr_nz_entries a.z_entries) st.rows in
      let rows = Hold-split (adr_rows b a.adr) (entries_rows b a.adr adr_ngr_entries a.gr_entries) parts.0 in
      record {
        is = record { holder_is = refl; chain = st.entries.gr_chain };
        stands = λ e. e;
        count = eq_of (number b a.adr adr_ngr_entries) (length a.gr_entries) rows.1.0;
        fits = st.fits.0;
        values = values_of b a.adr adr_ngr_entries a.gr_entries rows.1;
        numbers = numbers_of b a.adr adr_ngr_entries a.gr_entries rows.1;
        differ = differ_of b a.adr adr_ngr_entries a.gr_entries rows.1;
      }

  z_chain_is : (a : AttributeShape) → Stands b (shape b) a → IsChainOf b (shape b) (ZEntries a.adr) a.adr a.z_entries
  z_chain_is a st =
      let parts = Hold-split (adr_rows b a.adr ++ entries_rows b a.adr adr_ngr_entries a.gr_entries) (entries_rows b a.adr adr_nz_entries a.z_entries) st.rows in
      record {
        is = record { holder_is = refl; chain = st.entries.z_chain };
        stands = λ e. e;
        count = eq_of (number b a.adr adr_nz_entries) (length a.z_entries) parts.1.0;
        fits = st.fits.1;
        values = values_of b a.adr adr_nz_entries a.z_entries parts.1;
        numbers = numbers_of b a.adr adr_nz_entries a.z_entries parts.1;
        differ = differ_of b a.adr adr_nz_entries a.z_entries parts.1;
      }

  chain_of_kind : (a : AttributeShape) → Stands b (shape b) a → (kind : EntryKind) → IsChainOf b (shape b) (entries_chain kind a.adr) a.adr (chain_of a kind)
  chain_of_kind a st G = gr_chain_is a st
  chain_of_kind a st R = gr_chain_is a st
  chain_of_kind a st Z = z_chain_is a st

  module _ (c : Chain) (of : IsOfAttribute b c) where
    st : Stands b (shape b) of.own
    st = stands_at of.number of.own of.stands

    at : IsChainOf b (shape b) c of.own.adr (chain_of of.own of.kind)
    at = subst (λ (x : Chain). IsChainOf b (shape b) x of.own.adr (chain_of of.own of.kind)) (sym of.chain_is) (chain_of_kind of.own st of.kind)

    pub holder_stands : HolderStands b c
    holder_stands = at.stands (subst (λ (ts : List ℕ). is_a b ts adr_type of.own.adr ≡ true) (sym (tiles_are b (shape b) h)) (linkable-is_a b (shape b).records adr_type of.own.adr (h.attribute_chain.linkable of.own.adr st.at)))

    pub chain_there : HasChain b c
    chain_there = has_chain h at.is

    pub members : members_of b c ≡ chain_of of.own of.kind
    members = members_are h at.is

    pub counted : counted_in b c ≡ length (members_of b c)
    counted = at.count ∙ ap (λ (xs : List ℕ). length xs) (sym members)

    -- it is none of the greatest that there are
    pub entry_number : (m : ℕ) → In m (members_of b c) → number b m aedr_num ≤ record_number_limit
    entry_number m i = at.numbers m (subst (In m) members i)

    -- there are fewer of them than bytes
    pub few_entries : length (members_of b c) + 8 ≤ length b
    few_entries =
        let ok = at.is.chain in
        let l = length-le_from_distinct (chain_of of.own of.kind) (shape b).records ok.once (λ m i. linkable-in b (shape b).records (type_in c) m (ok.linkable m i)) in
        let t = length_tiles b 8 (length b) (shape b).records h.tiled in
        let same = ap (λ (xs : List ℕ). length xs) members in
        omega arith

    pub entry_lies : (m : ℕ) → In m (members_of b c) → EntryFits b m
    entry_lies m i = fits_of b (chain_of of.own of.kind) m (subst (In m) members i) at.fits

    pub entries_differ : Distinct (nums b (chain_of of.own of.kind))
    entries_differ = at.differ

    pub entry_has_value : (m : ℕ) → In m (members_of b c) → has_value b m ≡ true
    entry_has_value m i = at.values m (subst (In m) members i)

    pub entry_inside : (m : ℕ) → In m (members_of b c) → m + (56 + entry_bytes b m) ≤ length b
    entry_inside m i =
        let own = subst (In m) members i in
        reach (entry_bytes b m) (size_at b m) (fits_of b (chain_of of.own of.kind) m own at.fits) (tile_lies b 8 (length b) (shape b).records m h.tiled (linkable-in b (shape b).records (type_in c) m (at.is.chain.linkable m own))).high
      where
        reach : (n size : ℕ) → 56 + n ≤ size → m + size ≤ length b → m + (56 + n) ≤ length b
        reach n size fits ends = omega arith
