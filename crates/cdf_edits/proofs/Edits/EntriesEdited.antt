-- An image in which entries of a kind were edited, attribute by attribute, and all beside them stands: what every step on the way to `DropsEntries` comes to.
use Rattle.cdf_edits.proofs.Common.{Act, ActsFollow, AreTiles, Attribute, AttributeShape, AttributeStays, Away, Bool, DataSet, Each, Entry, EntryKind, Field, Gave, Good, HasEntries, HasShape, In, In-append, In-append_left, In-append_right, IsDropped, IsSound, Kind, List, Mark, Only, OutsideFields, Shape, Some, Stays, VariableShape, [], adr_type, aedr_num, agr_edr_type, ap, append-nil, append_assoc, ap₂, arith, attribute_of, attribute_records, avoided, az_edr_type, both, cases_eq, cast_signed, cdr_type, chain_fields, chain_of, content, content_is, either, entries_of, entry_type, eq-eqb, false, false-is_in, flat_map, gave, gdr_r_max_rec, gdr_type, good_is_sound, greatest_number, if◌then◌else◌, inl, inr, integer4, is_a-in, is_a-type, is_in, length, length-append, linkable-in, linkable-type, map, map-append, max_field, ne_eqb, number, r_max_rec, refl, same_Some, shape, shapes_of, size_at, slice_get, space_fields, subst, suc, sym, tile_lies, true, true-is_in, type_at, type_kept, uir_next_uir, uir_prev_uir, uir_type, unmarked, variable_records, w32, with_attribute, with_chain, with_entries, within, zero, ℕ, ◌++◌, ◌+◌, ◌<◌, ◌==◌, ◌∙◌, ◌∷◌, ◌≡◌, ◌≢◌, ◌≤◌, ◌⊎◌}
use Rattle.cdf_edits.proofs.Edits.VariableDeleted.{adr_at, each_at, greatest_field, least_entry}
use Rattle.cdf_edits.proofs.Edits.Common.{stays_bytes, stays_word, other_of, gave-same, sizes_by_tiles, stays_then, type_stays, chain_has, chain_in, fixed_long, gdr_in, kind_in, other_in, Kept, Rechains, adr_in, adr_of, adr_start, adr_typed, after_away, after_in, attribute_now, before_away, before_in, clear_file, content_replaced, gdr_field, gdr_place, gdr_start, gdr_typed, head_type, keeps_away, keeps_fields, keeps_stood, keeps_within, kept_away, kind_ours, now_is, other_has, other_kept, other_type, records_are, splices, stood, there, unmarked-away, within-within, got_middle, items_with}
use Rattle.cdf_edits.proofs.Edits.Splice.{after_stay, before_stay, variables_kept}
use Rattle.cdf_format.specs.Content.{entries_of as chain_items}
use Rattle.cdf_model.specs.declared.kinds.Kind.TheVariants as kinds

-- a record that stays as it is does so but for some fields
pub stays_more : {b now : List ℕ} {m : ℕ} (fields : List Field) → Stays b now m [] → Stays b now m fields
stays_more fields s = record { stands = s.stands; size_is = s.size_is; same = λ i lt out. s.same i lt tt }

-- ---- one attribute

-- What an edit does to the entries of a kind: whether it leaves the attribute as it is, which fields of the ADR may be others, which entries go and to what the others fall, by their numbers,
-- which fields of these may be others, by their places, what becomes of the items, and whether their greatest number is written.
pub record Change : Type 0 where
  pub rests : Bool
  pub adr : List Field
  pub goes : ℕ → Bool
  pub falls : ℕ → ℕ
  pub fields : ℕ → List Field
  pub items : List (ℕ × Entry) → List (ℕ × Entry)
  pub writes : Bool

abbrev pub idle : Change
idle = record { rests = true; adr = []; goes = λ n. false; falls = λ n. n; fields = λ m. []; items = λ items. items; writes = false }

-- a record stays, with its type, but for some fields
abbrev pub Lasts : List ℕ → List ℕ → ℕ → List Field → Type 0
Lasts b now m fields = Stays b now m fields × (type_at now m ≡ type_at b m)

-- an entry stays in the chain
pub record EntryEdited (b now : List ℕ) (a' : AttributeShape) (kind : EntryKind) (m : ℕ) (fields : List Field) (n : ℕ) : Type 0 where
  pub member : In m (chain_of a' kind)
  pub lasts : Lasts b now m fields
  pub num_is : number now m aedr_num ≡ n

pub record Edited (b now : List ℕ) (kind : EntryKind) (c : Change) (a a' : AttributeShape) : Type 0 where
  pub stands : c.rests ≡ true → a' ≡ a
  pub adr_is : a'.adr ≡ a.adr
  pub other_is : other_of a' kind ≡ other_of a kind
  pub adr_lasts : Lasts b now a.adr c.adr
  pub other_lasts : (m : ℕ) → In m (other_of a kind) → Lasts b now m []
  pub entries : (m : ℕ) → In m (chain_of a kind) → c.goes (number b m aedr_num) ≡ false → EntryEdited b now a' kind m (c.fields m) (c.falls (number b m aedr_num))
  pub attribute_is : attribute_of now a' ≡ with_entries (attribute_of b a) kind (c.items (entries_of (attribute_of b a) kind))
  pub greatest : ((c.writes ≡ true) × (integer4 now a'.adr (max_field kind) ≡ greatest_number (entries_of (attribute_of now a') kind))) ⊎ ((c.writes ≡ false) × ((integer4 now a'.adr (max_field kind) ≡ integer4 b a.adr (max_field kind)) × (attribute_of now a' ≡ attribute_of b a)))

-- ---- the image

-- all beside the attributes
pub record Stands (b now : List ℕ) : Type 0 where
  pub was : Good b
  pub good : Good now
  pub content_is : content now ≡ record (content b) { attributes = (content now).attributes }
  pub long : length now ≡ length b
  pub records_are : (shape now).records ≡ (shape b).records
  pub gdr_is : (shape now).gdr ≡ (shape b).gdr
  pub variables_are : (kind : Kind) → shapes_of (shape now) kind ≡ shapes_of (shape b) kind
  pub attributes_kept : length (shape now).attributes ≡ length (shape b).attributes
  pub cdr_kept : Stays b now 8 []
  pub gdr_kept : Stays b now (shape b).gdr space_fields
  pub variables_kept : (kind : Kind) (place : ℕ) → In place (flat_map variable_records (shapes_of (shape b) kind)) → Stays b now place []
  pub listed_kept : (uir : ℕ) → In uir (shape b).unused → Stays b now uir (uir_next_uir ∷ uir_prev_uir ∷ [])
  pub loose_kept : (uir : ℕ) → In uir (shape b).records → type_at b uir ≡ uir_type → (In uir (shape b).unused → ⊥) → Stays b now uir [] × (In uir (shape now).unused → ⊥)
  pub r_max_rec_kept : r_max_rec now ≡ r_max_rec b

-- by the numbers and the shapes of the attributes, what became of their entries; and these went and were freed
pub record EditsEntries (b now : List ℕ) (kind : EntryKind) (change : ℕ → AttributeShape → Change) (gone : List ℕ) : Type 0 where
  pub stands : Stands b now
  pub acts : (first : List ℕ) (acts : List Act) → HasShape first (shape first) → ActsFollow first b acts → ActsFollow first now (acts ++ gave b gone)
  pub dropped : (aedr : ℕ) → In aedr gone → IsDropped b now aedr
  pub attributes : (k : ℕ) (a : AttributeShape) → slice_get (shape b).attributes k ≡ Some a → (a' : AttributeShape) × ((slice_get (shape now).attributes k ≡ Some a') × Edited b now kind (change k a) a a')

-- what is told of each attribute before it is told of all
maps_agree : {A : Type 0} (f g : AttributeShape → A) (xs ys : List AttributeShape) → length xs ≡ length ys → ((k : ℕ) (y : AttributeShape) → slice_get ys k ≡ Some y → (x : AttributeShape) × ((slice_get xs k ≡ Some x) × (f x ≡ g y))) → map f xs ≡ map g ys
maps_agree f g [] [] long all = refl
maps_agree f g [] (y ∷ ys) long all = absurd (omega arith)
maps_agree f g (x ∷ xs) [] long all = absurd (omega arith)
maps_agree f g (x ∷ xs) (y ∷ ys) long all = let r = all 0 y refl in ap₂ (λ a as_. a ∷ as_) (ap f (same_Some x r.0 r.1.0) ∙ r.1.1) (maps_agree f g xs ys (omega arith) (λ k z at. all (suc k) z at))

pub attributes_agree : {A : Type 0} {b now : List ℕ} {kind : EntryKind} {change : ℕ → AttributeShape → Change} {gone : List ℕ} → EditsEntries b now kind change gone → (f g : AttributeShape → A) → ((k : ℕ) (a a' : AttributeShape) → slice_get (shape b).attributes k ≡ Some a → Edited b now kind (change k a) a a' → f a' ≡ g a) → map f (shape now).attributes ≡ map g (shape b).attributes
attributes_agree {b = b} {now = now} e f g same = maps_agree f g (shape now).attributes (shape b).attributes e.stands.attributes_kept (λ k a at. let x = e.attributes k a at in (x.0, (x.1.0, same k a x.0 at x.1.1)))

-- ---- one after the other

-- ---- all beside the attributes

module _ {b mid now : List ℕ} (first : Stands b mid) (second : Stands mid now) where
  abbrev links : List Field
  links = uir_next_uir ∷ uir_prev_uir ∷ []

  was_shape : HasShape b (shape b)
  was_shape = (good_is_sound b first.was).has_shape

  twice : (m : ℕ) (fs : List Field) → Stays b mid m fs → Stays mid now m fs → Stays b now m fs
  twice m fs one two = stays_then b mid now m fs fs fs one two (λ i o. (o, o))

  inside : (m : ℕ) → In m (shape b).records → In m (shape mid).records
  inside m i = subst (In m) (sym first.records_are) i

  long_in : (m : ℕ) → In m (shape b).records → 12 ≤ size_at b m
  long_in m i = (tile_lies b 8 (length b) (shape b).records m was_shape.tiled i).long

  -- an unused record keeps all but its links
  unused_later : (m : ℕ) → In m (shape mid).records → type_at mid m ≡ uir_type → Stays mid now m links
  unused_later m i typed = elim (either (is_in m (shape mid).unused)) [
    | inl x ↦ second.listed_kept m (true-is_in m (shape mid).unused x)
    | inr x ↦ stays_more links (second.loose_kept m i typed (false-is_in m (shape mid).unused x)).0
  ]

  stands_then : Stands b now
  stands_then = record {
    was = first.was;
    good = second.good;
    content_is = second.content_is ∙ ap (λ (d : DataSet). record d { attributes = (content now).attributes }) first.content_is;
    long = second.long ∙ first.long;
    records_are = second.records_are ∙ first.records_are;
    gdr_is = second.gdr_is ∙ first.gdr_is;
    variables_are = λ kind. second.variables_are kind ∙ first.variables_are kind;
    attributes_kept = second.attributes_kept ∙ first.attributes_kept;
    cdr_kept = twice 8 [] first.cdr_kept second.cdr_kept;
    gdr_kept = twice (shape b).gdr space_fields first.gdr_kept (subst (λ (g : ℕ). Stays mid now g space_fields) first.gdr_is second.gdr_kept);
    variables_kept = λ kind m i. twice m [] (first.variables_kept kind m i) (second.variables_kept kind m (subst (λ (vs : List VariableShape). In m (flat_map variable_records vs)) (sym (first.variables_are kind)) i));
    listed_kept = λ m i.
        let ok = was_shape.unused_chain.linkable m i in
        let tile = linkable-in b (shape b).records uir_type m ok in
        let one = first.listed_kept m i in
        twice m links one (unused_later m (inside m tile) (type_stays b mid m links one (long_in m tile) (λ n l. (inl (omega arith), (inl (omega arith), tt))) ∙ linkable-type b (shape b).records uir_type m ok));
    loose_kept = λ m i typed out.
        let one = first.loose_kept m i typed out in
        let two = second.loose_kept m (inside m i) (type_stays b mid m [] one.0 (long_in m i) (λ n l. tt) ∙ typed) one.1 in
        (twice m [] one.0 two.0, two.1);
    r_max_rec_kept = second.r_max_rec_kept ∙ first.r_max_rec_kept;
  }

  -- an entry that went
  dropped_then : (m : ℕ) → IsDropped b mid m → IsDropped b now m
  dropped_then m x =
      let later = unused_later m (inside m x.stands) x.freed in
      let size = sizes_by_tiles b mid 8 8 (length b) (shape b).records refl was_shape.tiled (subst (λ (n : ℕ). AreTiles mid 8 n (shape b).records) first.long (subst (AreTiles mid 8 (length mid)) first.records_are (good_is_sound mid first.good).has_shape.tiled)) m x.stands in
      let long = x.long in
      let after = stays_bytes later 28 (size_at b m) (omega arith) (λ i l u. (inr (omega arith), (inr (omega arith), tt))) in
      record {
        stands = x.stands;
        long = long;
        freed = type_stays mid now m links later (omega arith) (λ n l. (inl (omega arith), (inl (omega arith), tt))) ∙ x.freed;
        behind = record { each = λ p l u. after.each p l u ∙ x.behind.each p l u };
      }

-- ---- an attribute

-- one change and then another are a third, of an attribute with this chain
pub record Joins (b chain : List ℕ) (c d e : Change) : Type 0 where
  pub rests : e.rests ≡ true → (c.rests ≡ true) × (d.rests ≡ true)
  pub adr : (i : ℕ) → OutsideFields e.adr i → OutsideFields c.adr i × OutsideFields d.adr i
  pub goes : (n : ℕ) → e.goes n ≡ false → (c.goes n ≡ false) × (d.goes (c.falls n) ≡ false)
  pub falls : (n : ℕ) → d.falls (c.falls n) ≡ e.falls n
  pub fields : (m i : ℕ) → In m chain → e.goes (number b m aedr_num) ≡ false → OutsideFields (e.fields m) i → OutsideFields (c.fields m) i × OutsideFields (d.fields m) i
  pub items : (items : List (ℕ × Entry)) → d.items (c.items items) ≡ e.items items
  pub writes : (d.writes ≡ true → e.writes ≡ true) × (d.writes ≡ false → e.writes ≡ c.writes)

pub with_twice : (a : Attribute) (kind : EntryKind) (f g : List (ℕ × Entry) → List (ℕ × Entry)) → (let a' = with_entries a kind (f (entries_of a kind)) in with_entries a' kind (g (entries_of a' kind))) ≡ with_entries a kind (g (f (entries_of a kind)))
with_twice a kind f g = grind arith

lasts_then : {b mid now : List ℕ} {m : ℕ} {fs gs hs : List Field} → Lasts b mid m fs → Lasts mid now m gs → ((i : ℕ) → OutsideFields hs i → OutsideFields fs i × OutsideFields gs i) → Lasts b now m hs
lasts_then one two sub = (stays_then _ _ _ _ _ _ _ one.0 two.0 sub, two.1 ∙ one.1)

pub edited_then : {b mid now : List ℕ} {kind : EntryKind} {a a' a'' : AttributeShape} {c d e : Change} → Edited b mid kind c a a' → Edited mid now kind d a' a'' → Joins b (chain_of a kind) c d e → Edited b now kind e a a''
edited_then {b} {mid} {now} {kind} {a} {a'} {a''} {c} {d} {e} one two j = record {
  stands = λ r. let q = j.rests r in two.stands q.1 ∙ one.stands q.0;
  adr_is = two.adr_is ∙ one.adr_is;
  other_is = two.other_is ∙ one.other_is;
  adr_lasts = lasts_then one.adr_lasts (subst (λ (m : ℕ). Lasts mid now m d.adr) one.adr_is two.adr_lasts) j.adr;
  other_lasts = λ m i. lasts_then (one.other_lasts m i) (two.other_lasts m (subst (In m) (sym one.other_is) i)) (λ i o. (o, o));
  entries = λ m i stays.
      let q = j.goes (number b m aedr_num) stays in
      let x = one.entries m i q.0 in
      let y = two.entries m x.member (subst (λ (n : ℕ). d.goes n ≡ false) (sym x.num_is) q.1) in
      record { member = y.member; lasts = lasts_then x.lasts y.lasts (λ k. j.fields m k i stays); num_is = y.num_is ∙ ap d.falls x.num_is ∙ j.falls (number b m aedr_num) };
  attribute_is = two.attribute_is ∙ ap (λ (x : Attribute). with_entries x kind (d.items (entries_of x kind))) one.attribute_is ∙ with_twice (attribute_of b a) kind c.items d.items ∙ ap (with_entries (attribute_of b a) kind) (j.items (entries_of (attribute_of b a) kind));
  greatest = elim two.greatest [
    | inl w ↦ inl (j.writes.0 w.0, w.1)
    | inr s ↦ elim one.greatest [
      | inl w ↦ inl (j.writes.1 s.0 ∙ w.0, s.1.0 ∙ w.1 ∙ ap (λ (x : Attribute). greatest_number (entries_of x kind)) (sym s.1.1))
      | inr r ↦ inr (j.writes.1 s.0 ∙ r.0, (s.1.0 ∙ r.1.0, s.1.1 ∙ r.1.1))
    ]
  ];
}

-- ---- the image

pub edits_then : {b mid now : List ℕ} {kind : EntryKind} {c d e : ℕ → AttributeShape → Change} {gone more : List ℕ} → EditsEntries b mid kind c gone → EditsEntries mid now kind d more → ((m : ℕ) → In m more → Stays b mid m [])
    → ((k : ℕ) (a a' : AttributeShape) → slice_get (shape b).attributes k ≡ Some a → Edited b mid kind (c k a) a a' → Joins b (chain_of a kind) (c k a) (d k a') (e k a)) → EditsEntries b now kind e (gone ++ more)
edits_then {b} {mid} {now} {gone = gone} {more = more} one two still joins = record {
  stands = stands_then one.stands two.stands;
  acts = λ first acts shaped follow. subst (ActsFollow first now)
      (append_assoc acts (gave b gone) (gave mid more) ∙ ap (λ (xs : List Act). acts ++ xs) (ap (λ (xs : List Act). gave b gone ++ xs) (gave-same b mid more (λ m i. (still m i).size_is)) ∙ sym (map-append (λ (place : ℕ). Gave place (size_at b place)) gone more)))
      (two.acts first (acts ++ gave b gone) shaped (one.acts first acts shaped follow));
  dropped = λ m i. elim (In-append m gone more i) [
    | inl j ↦ dropped_then one.stands two.stands m (one.dropped m j)
    | inr j ↦
        let x = two.dropped m j in
        let s = still m j in
        let bytes = stays_bytes s 28 (size_at b m) (omega arith) (λ n l u. tt) in
        record {
          stands = subst (In m) one.stands.records_are x.stands;
          long = subst (λ (n : ℕ). 28 ≤ n) s.size_is x.long;
          freed = x.freed;
          behind = record { each = λ p l u. x.behind.each p l (subst (λ (n : ℕ). p < m + n) (sym s.size_is) u) ∙ bytes.each p l u };
        }
  ];
  attributes = λ k a at.
      let x = one.attributes k a at in
      let y = two.attributes k x.0 x.1.0 in
      (y.0, (y.1.0, edited_then x.1.1 y.1.1 (joins k a x.0 at x.1.1)));
}

-- ---- where nothing was written

pub with_own : (a : Attribute) (kind : EntryKind) → with_entries a kind (entries_of a kind) ≡ a
with_own a kind = grind arith

pub attributes_of : (b : List ℕ) → Good b → (content b).attributes ≡ map (attribute_of b) (shape b).attributes
attributes_of b good = ap (λ (d : DataSet). d.attributes) (content_is b (shape b) (good_is_sound b good).has_shape)

-- a change that comes to nothing
pub record Rests (b : List ℕ) (kind : EntryKind) (c : Change) (a : AttributeShape) : Type 0 where
  pub falls : (m : ℕ) → In m (chain_of a kind) → c.falls (number b m aedr_num) ≡ number b m aedr_num
  pub items : c.items (entries_of (attribute_of b a) kind) ≡ entries_of (attribute_of b a) kind
  pub writes : c.writes ≡ false

-- ---- an attribute of an image

module _ (b : List ℕ) (good : Good b) (k : ℕ) (own : AttributeShape) (at : slice_get (shape b).attributes k ≡ Some own) where
  h : HasShape b (shape b)
  h = (good_is_sound b good).has_shape

  pub has_own : HasEntries b (shape b).records own
  has_own = each_at (HasEntries b (shape b).records) (shape b).attributes k own h.entry_chains at

  pub record_in : (m : ℕ) → In m (attribute_records own) → In m (shape b).records
  record_in m (inl q) = subst (λ (x : ℕ). In x (shape b).records) (sym q) (linkable-in b (shape b).records adr_type own.adr (h.attribute_chain.linkable own.adr (adr_at (shape b).attributes k own at)))
  record_in m (inr i) = elim (In-append m own.gr_entries own.z_entries i) [
    | inl g ↦ linkable-in b (shape b).records agr_edr_type m (has_own.gr_chain.linkable m g)
    | inr z ↦ linkable-in b (shape b).records az_edr_type m (has_own.z_chain.linkable m z)
  ]

  pub is_adr : type_at b own.adr ≡ adr_type
  is_adr = linkable-type b (shape b).records adr_type own.adr (h.attribute_chain.linkable own.adr (adr_at (shape b).attributes k own at))

  pub adr_long : 324 ≤ size_at b own.adr
  adr_long = fixed_long b (shape b) h adr_type own.adr (record_in own.adr (inl refl)) is_adr

  -- its records stay in another image
  module _ {now : List ℕ} where
    pub entry_same : (kind : EntryKind) (m : ℕ) → In m (chain_of own kind) → Stays b now m [] → (f : Field) → f.place + f.width ≤ 32 → number now m f ≡ number b m f
    entry_same kind m i s f fits =
        let long = fixed_long b (shape b) h (entry_type kind) m (record_in m (inr (chain_in kind own m i))) (linkable-type b (shape b).records (entry_type kind) m ((chain_has kind own has_own).linkable m i)) in
        let least = least_entry kind in
        stays_word s f.place f.width (omega arith) (λ n l u. tt)

    pub edited_same : {kind : EntryKind} {c : Change} → ((m : ℕ) → In m (attribute_records own) → Lasts b now m []) → attribute_of now own ≡ attribute_of b own → Rests b kind c own → Edited b now kind c own own
    edited_same {kind} {c} last same r = record {
      stands = λ q. refl;
      adr_is = refl;
      other_is = refl;
      adr_lasts = let s = last own.adr (inl refl) in (stays_more c.adr s.0, s.1);
      other_lasts = λ m i. last m (other_in kind own m i);
      entries = λ m i stays. let s = last m (inr (chain_in kind own m i)) in record { member = i; lasts = (stays_more (c.fields m) s.0, s.1); num_is = entry_same kind m i s.0 aedr_num (omega arith) ∙ sym (r.falls m i) };
      attribute_is = same ∙ sym (ap (with_entries (attribute_of b own) kind) r.items ∙ with_own (attribute_of b own) kind);
      greatest = inr (r.writes, (let l = adr_long in let fits = greatest_field kind in ap (cast_signed w32) (stays_word (last own.adr (inl refl)).0 (max_field kind).place 4 (omega arith) (λ i l u. tt)), same));
    }

-- ---- the image

pub edits_same : {b : List ℕ} {kind : EntryKind} {c : ℕ → AttributeShape → Change} → Good b → ((k : ℕ) (a : AttributeShape) → slice_get (shape b).attributes k ≡ Some a → Rests b kind (c k a) a) → EditsEntries b b kind c []
edits_same {b} good rests =
    let sound : IsSound b (shape b) = good_is_sound b good in
    let stays : (m : ℕ) → In m (shape b).records → (fs : List Field) → Stays b b m fs = λ m i fs. record { stands = i; size_is = refl; same = λ n lt o. refl } in
    let cdr : Stays b b 8 [] = stays 8 (is_a-in b (shape b).records cdr_type 8 sound.has_shape.cdr_stands) [] in
    let gdr : Stays b b (shape b).gdr space_fields = stays (shape b).gdr (gdr_in b (shape b) sound.has_shape) space_fields in
    let variables : (kind : Kind) (m : ℕ) → In m (flat_map variable_records (shapes_of (shape b) kind)) → Stays b b m [] = λ vk m i. stays m (kind_in sound vk m i) [] in
    let listed : (m : ℕ) → In m (shape b).unused → Stays b b m (uir_next_uir ∷ uir_prev_uir ∷ []) = λ m i. stays m (linkable-in b (shape b).records uir_type m (sound.has_shape.unused_chain.linkable m i)) _ in
    record {
      stands = assumption (good, cdr, gdr, variables, listed, stays);
      acts = λ first acts shaped follow. subst (ActsFollow first b) (sym (append-nil acts)) follow;
      dropped = λ m i. absurd i;
      attributes = λ k a at. (a, (at, edited_same b good k a at (λ m i. (stays m (record_in b good k a at m i) [], refl)) refl (rests k a at)));
    }

-- ---- one chain was edited, with marks that leave all else

-- an attribute of a list is the one that is another there, or it stands in the list still, and what holds of each beside that one holds of it
at_split : (P : AttributeShape → Type 0) (xs : List AttributeShape) (x x' : AttributeShape) (ys : List AttributeShape) → Each P xs → Each P ys → (j : ℕ) (a : AttributeShape) → slice_get (xs ++ x ∷ ys) j ≡ Some a → ((j ≡ length xs) × (x ≡ a)) ⊎ ((j ≢ length xs) × ((slice_get (xs ++ x' ∷ ys) j ≡ Some a) × P a))
at_split P [] x x' ys f r zero a at = inl (refl, same_Some x a at)
at_split P [] x x' ys f r (suc j) a at = inr ((λ e. absurd (omega arith)), (at, each_at P ys j a r at))
at_split P (z ∷ xs) x x' ys f r zero a at = inr ((λ e. absurd (omega arith)), (at, subst P (same_Some z a at) f.0))
at_split P (z ∷ xs) x x' ys f r (suc j) a at = elim (at_split P xs x x' ys f.1 r j a at) [ inl q ↦ inl (ap suc q.0, q.1) | inr s ↦ inr ((λ e. s.0 (omega arith)), s.1) ]

-- ---- by the kind

other_is : (kind : EntryKind) (a : AttributeShape) (es : List ℕ) → other_of (with_chain a kind es) kind ≡ other_of a kind
other_is kind a es = grind arith

-- one attribute changes, by its number
abbrev pub only_at : ℕ → (AttributeShape → Change) → ℕ → AttributeShape → Change
only_at k c j a = if j == k then c a else idle

-- the marks leave the variables and rMaxRec, and of the others only some fields
pub record StandTests (marks : List Mark) (kind : EntryKind) : Type 0 where
  pub adr_within : within marks adr_type (chain_fields kind) ≡ true
  pub gdr_within : within marks gdr_type space_fields ≡ true
  pub uir_start : avoided marks uir_type 0 12 ≡ true
  pub uir_within : within marks uir_type (uir_next_uir ∷ uir_prev_uir ∷ []) ≡ true
  pub r_max : avoided marks gdr_type 52 56 ≡ true

module _ {b now : List ℕ} {list : List ℕ} {marks : List Mark} {reborn : List ℕ} {kind : EntryKind} {before : List AttributeShape} {own : AttributeShape} {after : List AttributeShape} {chain' gone come : List ℕ} (good : Good b) (r : Rechains b now (shape b) (shape b).records list marks reborn kind before own after chain' gone come) where
  abbrev own' : AttributeShape
  own' = with_chain own kind chain'

  sound : IsSound b (shape b)
  sound = good_is_sound b good

  pub same_records : (shape now).records ≡ (shape b).records
  same_records = records_are sound r

  attributes_now : (shape now).attributes ≡ before ++ own' ∷ after
  attributes_now = ap (λ (x : Shape). x.attributes) (now_is sound r)

  -- ---- records that stay

  pub kept_stays : (m : ℕ) → In m (shape b).records → Kept b now m → Lasts b now m []
  kept_stays m i k = (keeps_stood b now m (stood sound r.edit same_records m i k) (Only []), type_kept b now m k.same k.long)

  away_stays : (m : ℕ) → In m (shape b).records → Away marks (type_at b m) m → Lasts b now m []
  away_stays m i away = kept_stays m i (kept_away r.edit m (type_at b m) i refl away)

  -- an attribute beside the one
  abbrev StandsStill : AttributeShape → Type 0
  StandsStill a = ((m : ℕ) → In m (attribute_records a) → Lasts b now m []) × (attribute_of now a ≡ attribute_of b a)

  each_still : (as_ : List AttributeShape) → Each (AttributeStays b now (shape b).records) as_ → ((m : ℕ) → In m (flat_map attribute_records as_) → Lasts b now m []) → Each StandsStill as_
  each_still [] stay last = tt
  each_still (a ∷ as_) stay last = (((λ m i. last m (In-append_left m (attribute_records a) (flat_map attribute_records as_) i)), stay.0.1), each_still as_ stay.1 (λ m i. last m (In-append_right m (attribute_records a) (flat_map attribute_records as_) i)))

  replaced : content now ≡ with_attribute (content b) (length before) (attribute_of now own')
  replaced = content_replaced sound (splices sound r)

  -- ---- all of it

  module _ (t : StandTests marks kind) (good_now : Good now) (long : length now ≡ length b) (loose : (uir : ℕ) → In uir (shape b).records → type_at b uir ≡ uir_type → (In uir (shape b).unused → ⊥) → Away marks uir_type uir × (In uir (shape now).unused → ⊥)) where
    stands : Stands b now
    stands =
        let file = clear_file sound r in
        record {
          was = good;
          good = good_now;
          content_is = replaced ∙ ap (λ (d : DataSet). record (content b) { attributes = d.attributes }) (sym replaced);
          long = long;
          records_are = same_records;
          gdr_is = ap (λ (x : Shape). x.gdr) (now_is sound r);
          variables_are = elim [ kinds.R ↦ ap (λ (x : Shape). x.r_variables) (now_is sound r) | kinds.Z ↦ ap (λ (x : Shape). x.z_variables) (now_is sound r) ];
          attributes_kept = ap length attributes_now ∙ length-append before (own' ∷ after) ∙ sym (length-append before (own ∷ after)) ∙ ap length (sym r.was);
          cdr_kept = keeps_away sound r.edit same_records 8 cdr_type (Only []) (is_a-in b (shape b).records cdr_type 8 sound.has_shape.cdr_stands) (is_a-type b (shape b).records cdr_type 8 sound.has_shape.cdr_stands) (unmarked-away marks cdr_type 8 (both (unmarked marks cdr_type) _ file).0);
          gdr_kept = keeps_fields sound r.edit same_records (shape b).gdr gdr_type space_fields (gdr_in b (shape b) sound.has_shape) (gdr_typed b (shape b) sound.has_shape) (gdr_start sound r.edit file) t.gdr_within;
          variables_kept = λ vk m i. (kept_stays m (kind_in sound vk m i) (variables_kept sound (splices sound r) m ((kind_ours b (shape b) sound vk).sub m i))).0;
          listed_kept = λ m i.
              let ok = sound.has_shape.unused_chain.linkable m i in
              keeps_fields sound r.edit same_records m uir_type (uir_next_uir ∷ uir_prev_uir ∷ []) (linkable-in b (shape b).records uir_type m ok) (linkable-type b (shape b).records uir_type m ok) t.uir_start t.uir_within;
          loose_kept = λ m i typed out. let l = loose m i typed out in (keeps_away sound r.edit same_records m uir_type (Only []) i typed l.0, l.1);
          r_max_rec_kept = ap (λ (g : ℕ). integer4 now g gdr_r_max_rec) (gdr_place sound r.edit file) ∙ ap (cast_signed w32) (gdr_field sound r.edit file gdr_r_max_rec t.r_max (omega arith)) ∙ ap (λ (g : ℕ). integer4 b g gdr_r_max_rec) (sym sound.has_shape.gdr_is);
        }

    -- the entries of the attribute
    module _ (c : AttributeShape → Change) (rests : (c own).rests ≡ false) (adr_fields : (c own).adr ≡ chain_fields kind) (items : chain_items now chain' ≡ (c own).items (entries_of (attribute_of b own) kind)) (writes : (c own).writes ≡ true) (greatest : integer4 now own.adr (max_field kind) ≡ greatest_number ((c own).items (entries_of (attribute_of b own) kind)))
        (entries : (m : ℕ) → In m (chain_of own kind) → (c own).goes (number b m aedr_num) ≡ false → EntryEdited b now own' kind m ((c own).fields m) ((c own).falls (number b m aedr_num))) where
      own_edited : Edited b now kind (c own) own own'
      own_edited = let meant = attribute_now sound r _ items in record {
        stands = λ q. let no : true ≡ false = sym q ∙ rests in absurd cc;
        adr_is = adr_of kind own chain';
        other_is = other_is kind own chain';
        adr_lasts = subst (Lasts b now own.adr) (sym adr_fields) (
          keeps_within sound r.edit same_records own.adr adr_type (chain_fields kind) (adr_in sound r) (adr_typed sound r) (adr_start sound r) (within-within marks adr_type own.adr (chain_fields kind) t.adr_within),
          head_type b now own.adr (r.edit.part own.adr adr_type 0 12 (adr_in sound r) (adr_typed sound r) (adr_start sound r) (adr_start sound r) (let l = fixed_long b (shape b) sound.has_shape adr_type own.adr (adr_in sound r) (adr_typed sound r) in omega arith)),
        );
        other_lasts = λ m i. kept_stays m (linkable-in b (shape b).records (other_type kind) m ((other_has kind own (there sound r).1.0.have.0).linkable m i)) (other_kept sound r m i);
        entries = entries;
        attribute_is = meant;
        greatest = inl (writes, ap (λ (x : ℕ). integer4 now x (max_field kind)) (adr_of kind own chain') ∙ greatest ∙ ap greatest_number (sym (ap (λ (x : Attribute). entries_of x kind) meant ∙ items_with (attribute_of b own) kind _)));
      }

      pub edited : {gone : List ℕ} → ((first : List ℕ) (acts : List Act) → HasShape first (shape first) → ActsFollow first b acts → ActsFollow first now (acts ++ gave b gone)) → ((m : ℕ) → In m gone → IsDropped b now m) → EditsEntries b now kind (only_at (length before) c) gone
      edited acts dropped = record {
        stands = stands;
        acts = acts;
        dropped = dropped;
        attributes = λ j a at.
            let still = at_split StandsStill before own own' after (each_still before (before_stay sound (splices sound r)) (λ m i. away_stays m (before_in sound r m i) (before_away sound r m i))) (each_still after (after_stay sound (splices sound r)) (λ m i. away_stays m (after_in sound r m i) (after_away sound r m i))) in
            elim (still j a (ap (λ (as_ : List AttributeShape). slice_get as_ j) (sym r.was) ∙ at)) [
              | inl q ↦
                  let there_now = ap (slice_get (shape now).attributes) q.0 ∙ ap (λ (as_ : List AttributeShape). slice_get as_ (length before)) attributes_now ∙ got_middle before own' after in
                  (own', (there_now, rw (eq-eqb j (length before) q.0) (subst (λ (x : AttributeShape). Edited b now kind (c x) x own') q.1 own_edited)))
              | inr s ↦ (a, (ap (λ (as_ : List AttributeShape). slice_get as_ j) attributes_now ∙ s.1.0, rw (ne_eqb j (length before) s.0) (edited_same b good j a at s.1.1.0 s.1.1.1 (record { falls = λ m i. refl; items = refl; writes = refl }))))
            ];
      }

-- nothing was written, and the change of the one attribute comes to nothing
pub edits_rest : {b : List ℕ} {kind : EntryKind} {own : AttributeShape} (k : ℕ) (c : AttributeShape → Change) → Good b → slice_get (shape b).attributes k ≡ Some own → Rests b kind (c own) own → EditsEntries b b kind (only_at k c) []
edits_rest {b} {kind} {own} k c good at r = edits_same good (λ j a there. elim (cases_eq j k) [
  | inl q ↦ rw (eq-eqb j k q) (subst (λ (x : AttributeShape). Rests b kind (c x) x) (same_Some own a (sym at ∙ ap (slice_get (shape b).attributes) (sym q) ∙ there)) r)
  | inr ne ↦ rw (ne_eqb j k ne) (record { falls = λ m i. refl; items = refl; writes = refl })
])
