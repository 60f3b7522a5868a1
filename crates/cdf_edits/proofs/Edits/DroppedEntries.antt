-- Attributes drop their entries for a variable, one after the other: what it does to each, and that it leads to `DropsEntries`.
use Rattle.cdf_edits.proofs.Common.{ActsFollow, Anything, Attribute, AttributeDropped, AttributeKeeps, AttributeShape, Bool, DropsEntries, Entry, EntryKind, Field, Found, Good, GreatestIs, In, In-append, IsDropped, Keeps, Kind, Leads, List, None, NumbersFall, Only, Option, OutsideFields, Some, Stays, [], aedr_num, ap, arith, attribute_of, attribute_without, cases_eq, cast_signed, chain_fields, chain_of, closed_up, content, either, entries_allowance, entries_for, entries_of, entry_type, eq-eqb, eqb, fallen, false, fields_beside, filter, filter-in, gave, get_or_from_slice_get, good_is_sound, if◌then◌else◌, inl, inr, integer4, is_global, is_global_attribute, is_renumbered, kind_of_entries, le-ltb, length, linkable-type, list_any, lt-ltb, map, max_field, nat_le, nat_lt, nat_tests, ne_eqb, next_field, next_of, not, number, refl, same_Some, shape, share_chain, slice_get, slice_get_within, subst, suc, sym, take, take-length, take-suc, true, type_at, w32, with_entries, without, ℕ, ◌&&◌, ◌++◌, ◌+◌, ◌-◌, ◌<◌, ◌==◌, ◌||◌, ◌∙◌, ◌∷◌, ◌≡◌, ◌≢◌, ◌≤◌, ◌⊎◌}
use Rattle.cdf_edits.proofs.Edits.VariableDeleted.{greatest_field}
use Rattle.cdf_edits.proofs.Edits.Common.{stays_word, chain_has, each, got-map, no_acts, other_has, other_of, other_type, items_with}
use Rattle.cdf_edits.proofs.Edits.EntriesEdited.{Change, EditsEntries, Edited, idle, Lasts, attributes_agree, only_at, edits_same, entry_same, has_own, with_own, adr_long, is_adr, attributes_of, Joins, edits_then}
use Rattle.cdf_edits.proofs.Frame.SoundStays.{filter_same}
use Rattle.std.proofs.lemmas.Grind.{flat_map-append}
use Rattle.std.proofs.lemmas.Simd.{map-map}

-- the fields of an entry that change, since the one behind it goes, or since its number is greater
abbrev pub link_field : List ℕ → ℕ → ℕ → List Field
link_field b num m = if not (next_of b m == 0) && (number b (next_of b m) aedr_num == num) then next_field ∷ [] else []

abbrev pub number_field : ℕ → ℕ → List Field
number_field num n = if nat_lt num n then aedr_num ∷ [] else []

abbrev pub numbered : List ℕ → ℕ → List ℕ → List ℕ
numbered b num es = filter (λ m. number b m aedr_num == num) es

abbrev pub takes : List ℕ → ℕ → EntryKind → AttributeShape → Change
takes b num kind a = record { rests = false; adr = chain_fields kind; goes = λ n. n == num; falls = λ n. n; fields = link_field b num; items = without num num; writes = list_any (λ pair. pair.0 == num) (entries_of (attribute_of b a) kind) }

abbrev pub lowers : List ℕ → ℕ → EntryKind → AttributeShape → Change
lowers b num kind a = record { rests = false; adr = chain_fields kind; goes = λ n. false; falls = fallen num; fields = λ m. number_field num (number b m aedr_num); items = closed_up num num; writes = list_any (λ pair. nat_lt num pair.0) (entries_of (attribute_of b a) kind) }

abbrev pub drops : List ℕ → ℕ → EntryKind → AttributeShape → Change
drops b num kind a = record { rests = false; adr = chain_fields kind; goes = λ n. n == num; falls = fallen num; fields = fields_beside b num; items = closed_up num num; writes = list_any (λ pair. nat_le num pair.0) (entries_of (attribute_of b a) kind) }

-- ---- numbers and lists

filter_twice : {A : Type 0} (p : A → Bool) (xs : List A) → filter p (filter p xs) ≡ filter p xs
filter_twice p [] = refl
filter_twice p (x ∷ xs) = elim (either (p x)) [ inl e ↦ rw (e, e) (ap (λ (r : List _). x ∷ r) (filter_twice p xs)) | inr e ↦ rw e (filter_twice p xs) ]

outside_split : (fs gs : List Field) (i : ℕ) → OutsideFields (fs ++ gs) i → OutsideFields fs i × OutsideFields gs i
outside_split [] gs i o = (tt, o)
outside_split (f ∷ fs) gs i o = let r = outside_split fs gs i o.1 in ((o.0, r.0), r.1)

-- an item has the number or a greater one
any_joined : (num : ℕ) (items : List (ℕ × Entry)) → list_any (λ pair. nat_le num pair.0) items ≡ (list_any (λ pair. nat_lt num pair.0) (without num num items) || list_any (λ pair. pair.0 == num) items)
any_joined num [] = refl
any_joined num (p ∷ items) = step p _ _ _ (any_joined num items)
  where
    step : (p : ℕ × Entry) (rest : List (ℕ × Entry)) (l e : Bool) → l ≡ (list_any (λ pair. nat_lt num pair.0) rest || e) → (nat_le num p.0 || l) ≡ (list_any (λ pair. nat_lt num pair.0) (if not (nat_le num p.0 && nat_le p.0 num) then p ∷ rest else rest) || ((p.0 == num) || e))
    step p rest l e so = grind (arith, nat_tests, so)

-- ---- changes one after the other

pub joins_idle : {b chain : List ℕ} (c : Change) → Joins b chain c idle c
joins_idle c = record { rests = λ q. (q, refl); adr = λ i o. (o, tt); goes = λ n q. (q, refl); falls = λ n. refl; fields = λ m i j stays o. (o, tt); items = λ items. refl; writes = (λ w. absurd cc, λ w. refl) }

joins_halves : {b mid : List ℕ} (num : ℕ) {kind : EntryKind} {a a' : AttributeShape} → Edited b mid kind (takes b num kind a) a a' → Joins b (chain_of a kind) (takes b num kind a) (lowers mid num kind a') (drops b num kind a)
joins_halves {b} {mid} num {kind} {a} {a'} e = record {
  rests = λ q. absurd cc;
  adr = λ i o. (o, o);
  goes = λ n q. (q, refl);
  falls = λ n. refl;
  fields = λ m i j stays o. let r = outside_split (link_field b num m) (number_field num (number b m aedr_num)) i o in (r.0, subst (λ (n : ℕ). OutsideFields (number_field num n) i) (sym (e.entries m j stays).num_is) r.1);
  items = λ items. ap (map (λ (pair : ℕ × Entry). (if nat_lt num pair.0 then pair.0 - (num + 1 - num) else pair.0, pair.1))) (filter_twice (λ (pair : ℕ × Entry). not (nat_le num pair.0 && nat_le pair.0 num)) items);
  writes =
      let items = entries_of (attribute_of b a) kind in
      let joined = any_joined num items ∙ ap (λ (xs : List (ℕ × Entry)). list_any (λ pair. nat_lt num pair.0) xs || list_any (λ pair. pair.0 == num) items) (sym (ap (λ (x : Attribute). entries_of x kind) e.attribute_is ∙ items_with (attribute_of b a) kind _)) in
      (λ w. joined ∙ ap (λ (p : Bool). p || list_any (λ pair. pair.0 == num) items) w, λ w. joined ∙ ap (λ (p : Bool). p || list_any (λ pair. pair.0 == num) items) w);
}

-- both in one attribute
pub drops_both : {b mid now : List ℕ} {kind : EntryKind} (k num : ℕ) {gone : List ℕ} → EditsEntries b mid kind (only_at k (takes b num kind)) gone → EditsEntries mid now kind (only_at k (lowers mid num kind)) [] → EditsEntries b now kind (only_at k (drops b num kind)) (gone ++ [])
drops_both {b} {mid} {now} {kind} k num one two = edits_then one two (λ m i. absurd i) (λ j a a' at e. elim (cases_eq j k) [
  | inl q ↦ let e' : Edited b mid kind (takes b num kind a) a a' = rw (eq-eqb j k q) at e in rw (eq-eqb j k q) (joins_halves num e')
  | inr ne ↦ rw (ne_eqb j k ne) (joins_idle idle)
])

-- ---- the first attributes dropped their entries for a variable, and one more does

-- what it does to an attribute that the first ones drop their entries
abbrev pub dropping : List ℕ → Found → ℕ → ℕ → AttributeShape → Change
dropping b found k j a = if nat_lt j k && not (is_global (attribute_of b a).scope) then drops b found.number (kind_of_entries found.kind) a else idle

abbrev pub DropsUpTo : List ℕ → Found → ℕ → List ℕ → Type 0
DropsUpTo b found k now = EditsEntries b now (kind_of_entries found.kind) (dropping b found k) (entries_for b (take k (shape b).attributes) found)

pub start : (b : List ℕ) (found : Found) → Good b → DropsUpTo b found 0 b
start b found good = edits_same good (λ j a at. rw (le-ltb j 0 (omega arith)) (record { falls = λ m i. refl; items = refl; writes = refl }))

lt_same : (j k : ℕ) → j ≢ k → nat_lt j (k + 1) ≡ nat_lt j k
lt_same j k ne = grind (arith, nat_tests)

leads_next : (b : List ℕ) (link : ℕ) (es : List ℕ) → Leads b link es 0 → (m : ℕ) → In m es → (next_of b m ≡ 0) ⊎ In (next_of b m) es
leads_next b link [] l m i = absurd i
leads_next b link (x ∷ []) l m (inl q) = inl (ap (next_of b) q ∙ l.1)
leads_next b link (x ∷ []) l m (inr i) = absurd i
leads_next b link (x ∷ y ∷ es) l m (inl q) = inr (inr (inl (ap (next_of b) q ∙ l.1.0)))
leads_next b link (x ∷ y ∷ es) l m (inr i) = elim (leads_next b (next_of b x) (y ∷ es) l.1 m i) [ inl z ↦ inl z | inr j ↦ inr (inr j) ]

module _ {b mid : List ℕ} (found : Found) (k : ℕ) (own : AttributeShape) (d : DropsUpTo b found k mid) (at : slice_get (shape b).attributes k ≡ Some own) where
  abbrev kind : EntryKind
  kind = kind_of_entries found.kind

  abbrev chain : List ℕ
  chain = chain_of own kind

  -- the attribute is as it was
  pub untouched : (slice_get (shape mid).attributes k ≡ Some own) × Edited b mid kind idle own own
  untouched =
      let x = d.attributes k own at in
      let e : Edited b mid kind idle own x.0 = rw (le-ltb k k (omega arith)) at x.1.1 in
      (subst (λ (a : AttributeShape). slice_get (shape mid).attributes k ≡ Some a) (e.stands refl) x.1.0, subst (Edited b mid kind idle own) (e.stands refl) e)

  pub still_scoped : is_global (attribute_of b own).scope ≡ is_global (attribute_of mid own).scope
  still_scoped = ap (λ (a : Attribute). is_global a.scope) (sym (untouched.1.attribute_is ∙ with_own (attribute_of b own) kind))

  stays : (m : ℕ) → In m chain → Stays b mid m []
  stays m i = (untouched.1.entries m i refl).lasts.0

  same : (m : ℕ) → In m chain → (f : Field) → f.place + f.width ≤ 32 → number mid m f ≡ number b m f
  same m i f fits = entry_same b d.stands.was k own at kind m i (stays m i) f fits

  beside_same : (m : ℕ) → In m chain → fields_beside mid found.number m ≡ fields_beside b found.number m
  beside_same m i = rw (same m i next_field (omega arith), same m i aedr_num (omega arith)) (elim (leads_next b _ chain (chain_has kind own (has_own b d.stands.was k own at)).leads m i) [
    | inl z ↦ rw z refl
    | inr j ↦ rw (same (next_of b m) j aedr_num (omega arith)) refl
  ])

  joins_dropped : Joins b chain idle (drops mid found.number kind own) (drops b found.number kind own)
  joins_dropped = record {
    rests = λ q. absurd cc;
    adr = λ i o. (tt, o);
    goes = λ n q. (refl, q);
    falls = λ n. refl;
    fields = λ m i j stays o. (tt, subst (λ (fs : List Field). OutsideFields fs i) (sym (beside_same m j)) o);
    items = λ items. refl;
    writes = let same = ap (λ (x : Attribute). list_any (λ pair. nat_le found.number pair.0) (entries_of x kind)) (sym (untouched.1.attribute_is ∙ with_own (attribute_of b own) kind)) in (λ w. same ∙ w, λ w. same ∙ w);
  }

  entries_next : entries_for b (take (k + 1) (shape b).attributes) found ≡ entries_for b (take k (shape b).attributes) found ++ entries_for b (own ∷ []) found
  entries_next =
      let as_ = (shape b).attributes in
      let one : k + 1 ≡ suc k = omega arith in
      let last : take (k + 1) as_ ≡ take k as_ ++ own ∷ [] = ap (λ (n : ℕ). take n as_) one ∙ take-suc as_ k own (slice_get_within as_ k own at) ∙ ap (λ (a : AttributeShape). take k as_ ++ a ∷ []) (get_or_from_slice_get as_ k own own at) in
      ap (λ (as_ : List AttributeShape). entries_for b as_ found) last ∙ flat_map-append _ (take k as_) (own ∷ [])

  next : {now : List ℕ} {c : ℕ → AttributeShape → Change} {more : List ℕ} → EditsEntries mid now kind c more → more ≡ entries_for b (own ∷ []) found → ((m : ℕ) → In m more → Stays b mid m []) → Joins b chain idle (c k own) (dropping b found (k + 1) k own) → ((j : ℕ) (a : AttributeShape) → j ≢ k → c j a ≡ idle) → DropsUpTo b found (k + 1) now
  next {now} {c} {more} e more_is still here others = subst (EditsEntries b now kind (dropping b found (k + 1))) (ap (λ (es : List ℕ). entries_for b (take k (shape b).attributes) found ++ es) more_is ∙ sym entries_next)
      (edits_then d e still (λ j a a' there x. elim (cases_eq j k) [
        | inl q ↦
            let is : a ≡ own = same_Some a own (sym there ∙ ap (slice_get (shape b).attributes) q ∙ at) in
            let x' : Edited b mid kind idle a a' = rw (q, le-ltb k k (omega arith)) at x in
            rw (x'.stands refl, q, is, le-ltb k k (omega arith)) here
        | inr ne ↦ rw (others j a' ne, lt_same j k ne) (joins_idle (dropping b found k j a))
      ]))

  -- an attribute of the file has no entries for variables
  pub next_global : is_global (attribute_of b own).scope ≡ true → DropsUpTo b found (k + 1) mid
  next_global global = next (edits_same {c = λ j a. idle} d.stands.good (λ j a there. record { falls = λ m i. refl; items = refl; writes = refl })) (rw global refl) (λ m i. absurd i) (rw (lt-ltb k (k + 1) (omega arith), global) (joins_idle idle)) (λ j a ne. refl)

  -- of one of variables the entry of the number goes, and the greater numbers fall
  pub next_dropped : {now : List ℕ} → is_global (attribute_of b own).scope ≡ false → EditsEntries mid now kind (only_at k (drops mid found.number kind)) (numbered mid found.number chain ++ []) → DropsUpTo b found (k + 1) now
  next_dropped variables e = next e
      (rw variables (ap (λ (es : List ℕ). es ++ []) (filter_same (λ m. number mid m aedr_num == found.number) (λ m. number b m aedr_num == found.number) chain (λ m i. ap (λ (n : ℕ). n == found.number) (same m i aedr_num (omega arith))))))
      (λ m i. stays m (filter-in (λ x. eqb (number mid x aedr_num) found.number) chain m (elim (In-append m (numbered mid found.number chain) [] i) [ inl j ↦ j | inr none ↦ absurd none ])))
      (rw (eq-eqb k k refl, lt-ltb k (k + 1) (omega arith), variables) joins_dropped) (λ j a ne. rw (ne_eqb j k ne) refl)

-- ---- all did

-- ---- by the kind

chain_or_other : (kind : EntryKind) (a : AttributeShape) (m : ℕ) → In m (a.gr_entries ++ a.z_entries) → In m (chain_of a kind) ⊎ In m (other_of a kind)
chain_or_other kind a m i = grind (arith, In-append m a.gr_entries a.z_entries i)

-- the greatest number of the other chain is no field of this one
beside_chain : (kind kind' : EntryKind) → share_chain kind kind' ≡ false → (i : ℕ) → (max_field kind').place ≤ i → i < (max_field kind').place + 4 → OutsideFields (chain_fields kind) i
beside_chain kind kind' e i l u = grind arith

-- kinds that share a chain
greatest_of : (b now : List ℕ) (a a' : AttributeShape) (kind kind' : EntryKind) (written : Bool) → share_chain kind kind' ≡ true → GreatestIs b now a a' kind written → GreatestIs b now a a' kind' written
greatest_of b now a a' kind kind' written e g = grind (arith, g)

-- what an attribute means that dropped its entries, if it is one of variables
without_is : (b : List ℕ) (own : AttributeShape) (kind : Kind) (num : ℕ) (a : Attribute) (global : Bool) → is_global a.scope ≡ global → with_entries a (kind_of_entries kind) ((if not global then drops b num (kind_of_entries kind) own else idle).items (entries_of a (kind_of_entries kind))) ≡ attribute_without kind num a
without_is b own kind num a global e = grind (arith, e)

-- ---- an attribute at the end of the way

module _ (b now : List ℕ) (found : Found) (k : ℕ) (own own' : AttributeShape) (good : Good b) (at : slice_get (shape b).attributes k ≡ Some own) where
  abbrev of_kind : EntryKind
  of_kind = kind_of_entries found.kind

  abbrev num : ℕ
  num = found.number

  abbrev change : Bool → Change
  change global = if not global then drops b num of_kind own else idle

  lasts : {fields : List Field} (m : ℕ) → Lasts b now m fields → entries_allowance b (content b) found k m ≡ Only fields → AttributeKeeps b now found k m
  lasts m s may = inr (subst (Keeps b now m) (sym may) s.0, s.1)

  global_is : (p : Bool) → is_global (attribute_of b own).scope ≡ p → is_global_attribute (content b) k ≡ p
  global_is p e = ap (λ (as_ : List Attribute). elim (slice_get as_ k) [ None ↦ false | Some x ↦ is_global x.scope ]) (attributes_of b good) ∙ ap (λ (o : Option Attribute). elim o [ None ↦ false | Some x ↦ is_global x.scope ]) (got-map (attribute_of b) (shape b).attributes k own at) ∙ e

  -- ---- what may change

  may_adr : (p : Bool) → is_global_attribute (content b) k ≡ p → entries_allowance b (content b) found k own.adr ≡ Only (change p).adr
  may_adr p e = let typed = is_adr b good k own at in grind (arith, nat_tests)

  may_other : (p : Bool) → is_global_attribute (content b) k ≡ p → (m : ℕ) → In m (other_of own of_kind) → entries_allowance b (content b) found k m ≡ Only []
  may_other p e m i = let typed = linkable-type b (shape b).records (other_type of_kind) m ((other_has of_kind own (has_own b good k own at)).linkable m i) in grind (arith, nat_tests)

  may_entry : (p : Bool) → is_global_attribute (content b) k ≡ p → (m : ℕ) → type_at b m ≡ entry_type of_kind → entries_allowance b (content b) found k m ≡ (if (change p).goes (number b m aedr_num) then Anything else Only ((change p).fields m))
  may_entry p e m typed = grind (arith, nat_tests)

  entry_keeps : (p : Bool) → is_global_attribute (content b) k ≡ p → Edited b now of_kind (change p) own own' → (m : ℕ) → In m (chain_of own of_kind) → AttributeKeeps b now found k m
  entry_keeps p e x m i =
      let may = may_entry p e m (linkable-type b (shape b).records (entry_type of_kind) m ((chain_has of_kind own (has_own b good k own at)).linkable m i)) in
      elim (either ((change p).goes (number b m aedr_num))) [ inl q ↦ inl (may ∙ rw q refl) | inr ne ↦ lasts m (x.entries m i ne).lasts (may ∙ rw ne refl) ]

  -- ---- a later entry, and the greatest numbers

  later : (p : Bool) (m : ℕ) → num < number b m aedr_num → (change p).goes (number b m aedr_num) ≡ false
  later p m lt = grind (arith, nat_tests)

  numbers_fall : (p : Bool) → is_global (attribute_of b own).scope ≡ p → Edited b now of_kind (change p) own own' → NumbersFall b now found own
  numbers_fall true e x variables = let no : true ≡ false = sym e ∙ variables in absurd cc
  numbers_fall false e x variables = each (λ m. num < number b m aedr_num → number now m aedr_num + 1 ≡ number b m aedr_num) (chain_of own of_kind) (λ m i lt. let is = (x.entries m i (later false m lt)).num_is in grind (arith, nat_tests))

  renumbered : (p : Bool) → is_global (attribute_of b own).scope ≡ p → is_renumbered (attribute_of b own) of_kind num ≡ (change p).writes
  renumbered p e = grind (arith, e)

  outside : (p : Bool) (kind' : EntryKind) → share_chain of_kind kind' ≡ false → (i : ℕ) → (max_field kind').place ≤ i → i < (max_field kind').place + 4 → OutsideFields (change p).adr i
  outside p kind' e i l u = grind (arith, beside_chain of_kind kind' e i l u)

  -- ---- all of it

  dropped : (p : Bool) → is_global (attribute_of b own).scope ≡ p → Edited b now of_kind (change p) own own' → AttributeDropped b now found k own own'
  dropped p e x =
      let global = global_is p e in
      let greatest : GreatestIs b now own own' of_kind (change p).writes = elim x.greatest [ inl w ↦ rw w.0 w.1 | inr s ↦ rw s.0 s.1.0 ] in
      record {
        follows = (
          numbers_fall p e x,
          λ kind'. elim (either (share_chain of_kind kind')) [
            | inl q ↦ rw (q, renumbered p e) (greatest_of b now own own' of_kind kind' (change p).writes q greatest)
            | inr q ↦
                let long = adr_long b good k own at in
                let fits = greatest_field kind' in
                rw q (ap (λ (m : ℕ). integer4 now m (max_field kind')) x.adr_is ∙ ap (cast_signed w32) (stays_word x.adr_lasts.0 (max_field kind').place 4 (omega arith) (outside p kind' q)))
          ],
        );
        later = each (λ m. num < number b m aedr_num → In m (chain_of own' of_kind)) (chain_of own of_kind) (λ m i lt. (x.entries m i (later p m lt)).member);
        keeps = λ m j. elim j [
          | inl q ↦ subst (AttributeKeeps b now found k) (sym q) (lasts own.adr x.adr_lasts (may_adr p global))
          | inr i ↦ elim (chain_or_other of_kind own m i) [ inl c ↦ entry_keeps p global x m c | inr o ↦ lasts m (x.other_lasts m o) (may_other p global m o) ]
        ];
      }

pub finish : {b now : List ℕ} {found : Found} → DropsUpTo b found (length (shape b).attributes) now → DropsEntries b found now
finish {b = b} {now = now} {found = found} d =
    let s = d.stands in
    let whole = take-length (shape b).attributes in
    let w = attribute_without found.kind found.number in
    let kind = kind_of_entries found.kind in
    let by_now : (j : ℕ) (a a' : AttributeShape) → slice_get (shape b).attributes j ≡ Some a → Edited b now kind (dropping b found (length (shape b).attributes) j a) a a' → Edited b now kind (if not (is_global (attribute_of b a).scope) then drops b found.number kind a else idle) a a' = λ j a a' at x. rw (lt-ltb j (length (shape b).attributes) (slice_get_within (shape b).attributes j a at)) at x in
    let content_is : content now ≡ record (content b) { attributes = map w (content b).attributes } = s.content_is ∙ ap (λ (as_ : List Attribute). record (content b) { attributes = as_ })
    (attributes_of now s.good
    ∙ attributes_agree d (attribute_of now) (λ a. w (attribute_of b a)) (λ j a a' at x. (by_now j a a' at x).attribute_is ∙ without_is b a found.kind found.number (attribute_of b a) _ refl)
    ∙ sym (ap (map w) (attributes_of b s.was) ∙ map-map w (attribute_of b) (shape b).attributes)) in
    let h = (good_is_sound b s.was).has_shape in
    let entries = λ (as_ : List AttributeShape). entries_for b as_ found in
    let acts = subst (λ (as_ : List AttributeShape). ActsFollow b now (gave b (entries as_))) whole (d.acts b [] h (no_acts b b h (record { records = refl; list = refl; long = refl; size = λ m i. refl; type = λ m i. refl; back = λ m i. refl }))) in
    let dropped_ones : (aedr : ℕ) → In aedr (entries (shape b).attributes) → IsDropped b now aedr = λ aedr i. d.dropped aedr (subst (λ (as_ : List AttributeShape). In aedr (entries as_)) (sym whole) i) in
    let attributes : (j : ℕ) (a a' : AttributeShape) → slice_get (shape b).attributes j ≡ Some a → slice_get (shape now).attributes j ≡ Some a' → AttributeDropped b now found j a a' = λ j a a' at at'.
    let x = d.attributes j a at in
    subst (AttributeDropped b now found j a) (same_Some x.0 a' (sym x.1.0 ∙ at')) (dropped b now found j a x.0 s.was at _ refl (by_now j a x.0 at x.1.1)) in
    assumption (s, content_is, acts, dropped_ones, attributes)
