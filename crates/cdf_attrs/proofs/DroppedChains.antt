-- The entries for a variable go from one attribute after the other: what is asked of a chain, what is written, and what it all comes to.
use Rattle.cdf_attrs.proofs.Common.{All, AllLie, Attribute, AttributeShape, Bool, Chain, Change, DropsEntries, DropsFrom, DropsNumber, DropsUpTo, EditsEntries, Entry, EntryKind, Err, Found, Good, IfOk, In, IsEntryOf, IsGreatest, IsOfAttribute, IsScoped, KeepsAttributes, Kind, KnownEntries, KnowsEntries, LiesIn, List, Lowers, LowersChain, LowersNumbers, Ok, OnOk, Result, Scope, Some, TakenAt, Write, [], adr_scope, adrs, aedr_num, ap, ap₂, arith, attribute_names, attribute_of, attributes_agree, attributes_of, cases_lt, cast_unsigned, chain_of, closed_up, content, drops, drops_both, edits_rest, either, entries_chain, entries_closed, entries_now, entries_of, entry_bytes, eq-eqb, fallen, fallen_under, false, finish, good_is_sound, greatest_lowered, greatest_number, if◌then◌else◌, image_limit, inl, inr, integer4, is_global, is_wrong_scope, items_of, kind_of_entries, later, le-ltb, length, length-map, list_any, lower_writes, lowered, lowers, lt-ltb, map, max_field, max_lies, nat_lt, nat_tests, ne_eqb, next_dropped, next_global, num_in, number, numbered, numbers_fell, nums, nums_now, only_at, position, refl, rests, scope_of, shape, signed_limit, slice_get, slice_index, slice_index_or, still_scoped, subst, suc, sym, takes, true, untouched, with_field, with_writes, without, without_at, write, zero, ℕ, ◌++◌, ◌+◌, ◌-◌, ◌<◌, ◌==◌, ◌∙◌, ◌∷◌, ◌≡◌, ◌≤◌}
use Rattle.std.proofs.Common.{w32}
use Rattle.cdf_attrs.proofs.AttributeChain.{adr_inside, adr_parts, index_in, of_attribute}
use Rattle.cdf_attrs.proofs.AttributeParts.{name_stays}
use Rattle.cdf_attrs.proofs.EntryChains.{members, entry_inside}
use Rattle.cdf_attrs.proofs.EntryTakenAt.{cut_is, from_map, parts, places_are, small, all_from, as_long, index_same}
use Rattle.cdf_attrs.proofs.GreatestNumber.{greatest_fits, greatest_of_items, each_of, keys, keys_in, nums_in}
use Rattle.cdf_attrs.proofs.NumberGone.{none_in, number_gone, numbers_differ}
use Rattle.cdf_edits.proofs.Edits.ChainEntries.{none_numbered as without_none}
use Rattle.std.proofs.lemmas.Simd.{map-map}
use Rattle.cdf_attrs.proofs.EntryDeleted as deleted
use Rattle.cdf_edits.proofs.Edits.EntryTakenStep as step

-- ---- the greater numbers of a chain were written less by one

-- the writes by the numbers that are read
writes_are : (b : List ℕ) (num : ℕ) (es : List ℕ) → lower_writes num (nums b es) es ≡ lowered b (later b num es)
writes_are b num [] = refl
writes_are b num (e ∷ es) = elim (cases_lt num (number b e aedr_num)) [
  | inl p ↦ rw (lt-ltb num (number b e aedr_num) p) (ap (λ (ws : List Write). write e aedr_num (number b e aedr_num - 1) ∷ ws) (writes_are b num es))
  | inr p ↦ rw (le-ltb num (number b e aedr_num) p) (writes_are b num es)
]

fallen_small : (num limit : ℕ) (ns : List ℕ) → ((n : ℕ) → In n ns → n ≤ limit) → (k : ℕ) → In k (map (fallen num) ns) → k ≤ limit
fallen_small num limit ns all k i = let r = from_map (fallen num) ns k i in let le = all r.0 r.1.0 in let under = fallen_under num r.0 in let is = r.1.1 in omega arith

module _ {b : List ℕ} (good : Good b) {chain : Chain} (of : IsOfAttribute b chain) (es : KnownEntries) (is : es.chain ≡ chain) (knows : KnowsEntries b es) where
  places_of : es.places ≡ chain_of of.own of.kind
  places_of = places_are good of es is knows ∙ members b good chain of

  pub numbers_of : es.numbers ≡ nums b (chain_of of.own of.kind)
  numbers_of = knows.numbers_are ∙ ap (nums b) places_of

  module _ {now : List ℕ} {num : ℕ} (short : length b ≤ image_limit) (none : In num es.numbers → ⊥) (l : LowersNumbers b now of.kind of.own.adr es num) where
    abbrev lowers_chain : LowersChain b now of.kind (parts of).before of.own (parts of).after num
    lowers_chain = record {
      was = cut_is of;
      none = λ i. none (subst (In num) (sym numbers_of) i);
      greatest = cast_unsigned w32 l.greatest;
      written = l.written ∙ ap (λ (ws : List Write). with_field (with_writes b ws) of.own.adr (max_field of.kind) (cast_unsigned w32 l.greatest)) (ap₂ (lower_writes num) numbers_of places_of ∙ writes_are b num (chain_of of.own of.kind));
    }

    -- the greatest number is that of the entries as they are
    pub greatest_now : integer4 now of.own.adr (max_field of.kind) ≡ greatest_number (closed_up num num (entries_of (attribute_of b of.own) of.kind))
    greatest_now =
        let numbers = ap (map (fallen num)) numbers_of ∙ sym (nums_now good short lowers_chain) in
        let fits = greatest_fits (map (fallen num) es.numbers) l.greatest (fallen_small num signed_limit es.numbers (λ n i. let le = small good of es is knows n i in omega arith)) l.greatest_is in
        greatest_lowered good short lowers_chain l.greatest fits refl
        ∙ greatest_of_items now (chain_of of.own of.kind) l.greatest (subst (λ (ns : List ℕ). IsGreatest ns l.greatest) numbers l.greatest_is)
        ∙ ap greatest_number (entries_now good short lowers_chain)

-- ---- items by their numbers

any_key : (p : ℕ → Bool) (items : List (ℕ × Entry)) (n : ℕ) → In n (keys items) → p n ≡ true → list_any (λ pair. p pair.0) items ≡ true
any_key p [] n i e = absurd i
any_key p (item ∷ items) n (inl q) e = rw (ap p (sym q) ∙ e) refl
any_key p (item ∷ items) n (inr i) e = elim (either (p item.0)) [ inl x ↦ rw x refl | inr x ↦ rw (x, any_key p items n i e) refl ]

no_key : (p : ℕ → Bool) (items : List (ℕ × Entry)) → ((n : ℕ) → In n (keys items) → p n ≡ false) → list_any (λ pair. p pair.0) items ≡ false
no_key p [] f = refl
no_key p (item ∷ items) f = rw (f item.0 (inl refl), no_key p items (λ n i. f n (inr i))) refl

-- ---- an attribute of an image, and what is known of a chain of it

module _ {b : List ℕ} (good : Good b) {chain : Chain} (of : IsOfAttribute b chain) (es : KnownEntries) (is : es.chain ≡ chain) (knows : KnowsEntries b es) (num : ℕ) where
  abbrev of_chain : List ℕ
  of_chain = chain_of of.own of.kind

  abbrev items : List (ℕ × Entry)
  items = entries_of (attribute_of b of.own) of.kind

  has : (n : ℕ) → In n es.numbers → In n (nums b of_chain)
  has n i = subst (In n) (numbers_of good of es is knows) i

  known : (n : ℕ) → In n (nums b of_chain) → In n es.numbers
  known n i = subst (In n) (sym (numbers_of good of es is knows)) i

  any : (p : ℕ → Bool) (n : ℕ) → In n es.numbers → p n ≡ true → list_any (λ pair. p pair.0) items ≡ true
  any p n i e = any_key p items n (subst (λ (xs : List (ℕ × Entry)). In n (keys xs)) (sym (items_of b of.own of.kind)) (keys_in b of_chain n (has n i))) e

  no : (p : ℕ → Bool) → ((n : ℕ) → In n es.numbers → p n ≡ false) → list_any (λ pair. p pair.0) items ≡ false
  no p f = no_key p items (λ n i. f n (known n (nums_in b of_chain n (subst (λ (xs : List (ℕ × Entry)). In n (keys xs)) (items_of b of.own of.kind) i))))

  -- the entry of the number is taken out, if there is one
  takes_none : (In num es.numbers → ⊥) → EditsEntries b b of.kind (only_at of.number (takes b num of.kind)) (numbered b num of_chain)
  takes_none none =
      let none_there = λ (i : In num (nums b of_chain)). none (known num i) in
      subst (EditsEntries b b of.kind (only_at of.number (takes b num of.kind))) (sym (step.none_numbered b num of_chain none_there)) (edits_rest of.number (takes b num of.kind) good of.stands (record {
        falls = λ m i. refl;
        items = ap (without num num) (items_of b of.own of.kind) ∙ without_none b of_chain num none_there ∙ sym (items_of b of.own of.kind);
        writes = no (λ n. n == num) (λ n i. ne_eqb n num (λ e. none (subst (λ (x : ℕ). In x es.numbers) e i)));
      }))

  pub takes_some : {now : List ℕ} → length b ≤ image_limit → (i : ℕ) → position (λ n. n == num) es.numbers ≡ Some i → TakenAt b now of.kind of.own.adr es i → EditsEntries b now of.kind (only_at of.number (takes b num of.kind)) (numbered b num of_chain)
  takes_some {now} short i at_num taken = subst (λ (n : ℕ). EditsEntries b now of.kind (only_at n (takes b num of.kind)) (numbered b num of_chain)) (parts of).count
      (step.taken good (deleted.q good of es is knows num i at_num taken short) taken.removed.gives num (deleted.of_old good of es is knows num i at_num) (deleted.counts good of es is knows num i at_num taken short) short (deleted.long good of es is knows num i at_num taken short)
      (any (λ n. n == num) num (known num (subst (λ (n : ℕ). In n (nums b of_chain)) (deleted.of_old good of es is knows num i at_num) (num_in b of_chain _ (deleted.member good of es is knows num i at_num)))) (eq-eqb num num refl))
      (deleted.greatest good of es is knows num i at_num taken short ∙ ap (λ (x : List (ℕ × Entry)). greatest_number (without num num x)) (sym (items_of b of.own of.kind))))

  takes_number : {now : List ℕ} {left : KnownEntries} → length b ≤ image_limit → DropsNumber b now of.kind of.own.adr es num left → EditsEntries b now of.kind (only_at of.number (takes b num of.kind)) (numbered b num of_chain)
  takes_number short done = elim done [
    | inl none ↦ subst (λ (x : List ℕ). EditsEntries b x of.kind (only_at of.number (takes b num of.kind)) (numbered b num of_chain)) (sym none.stays) (takes_none (none_in num es.numbers none.none))
    | inr takes ↦ takes_some short takes.index takes.at takes.taken
  ]

  -- the greater numbers fall, if there are such
  module _ (none : In num es.numbers → ⊥) where
    lowers_none : ((n : ℕ) → In n es.numbers → n ≤ num) → EditsEntries b b of.kind (only_at of.number (lowers b num of.kind)) []
    lowers_none all =
        let stays = λ (m : ℕ) (i : In m of_chain). rests num (number b m aedr_num) (all (number b m aedr_num) (known _ (num_in b of_chain m i))) in
        edits_rest of.number (lowers b num of.kind) good of.stands (record {
          falls = stays;
          items = ap (closed_up num num) (items_of b of.own of.kind) ∙ sym (entries_closed b b num of_chain (λ i. none (known num i)) (λ m i. record { num_is = sym (stays m i); meant = refl })) ∙ sym (items_of b of.own of.kind);
          writes = no (nat_lt num) (λ n i. le-ltb num n (all n i));
        })

    lowers_some : {now : List ℕ} → length b ≤ image_limit → LowersNumbers b now of.kind of.own.adr es num → EditsEntries b now of.kind (only_at of.number (lowers b num of.kind)) []
    lowers_some {now} short l = subst (λ (n : ℕ). EditsEntries b now of.kind (only_at n (lowers b num of.kind)) []) (parts of).count
        (numbers_fell good short (lowers_chain good of es is knows short none l) (any (nat_lt num) l.some.0 l.some.1.0 (lt-ltb num l.some.0 l.some.1.1)) (greatest_now good of es is knows short none l))

    lowers_numbers : {now : List ℕ} → length b ≤ image_limit → Lowers b now of.kind of.own.adr es num → EditsEntries b now of.kind (only_at of.number (lowers b num of.kind)) []
    lowers_numbers short done = elim done [
      | inl rests ↦ subst (λ (x : List ℕ). EditsEntries b x of.kind (only_at of.number (lowers b num of.kind)) []) (sym rests.1) (lowers_none (each_of (λ n. n ≤ num) es.numbers rests.0))
      | inr falls ↦ lowers_some short falls
    ]

-- ---- both

-- the attributes beside their entries
keeps_edited : {b now : List ℕ} {kind : EntryKind} {change : ℕ → AttributeShape → Change} {gone : List ℕ} → EditsEntries b now kind change gone → KeepsAttributes b now
keeps_edited {b} {now} {kind} e = record {
  names = ap (map (λ (a : Attribute). a.name)) (attributes_of now e.stands.good) ∙ map-map _ (attribute_of now) (shape now).attributes
      ∙ attributes_agree e (λ a. (attribute_of now a).name) (λ a. (attribute_of b a).name) (λ k a a' at x. ap (λ (y : Attribute). y.name) x.attribute_is ∙ name_stays (attribute_of b a) kind _)
      ∙ sym (ap (map (λ (a : Attribute). a.name)) (attributes_of b e.stands.was) ∙ map-map _ (attribute_of b) (shape b).attributes);
  places = attributes_agree e (λ a. a.adr) (λ a. a.adr) (λ k a a' at x. x.adr_is);
  long = e.stands.long;
}

-- the attribute of a chain
abbrev pub of_scoped : {b : List ℕ} {kind : EntryKind} {adr : ℕ} → IsScoped b kind adr → IsOfAttribute b (entries_chain kind adr)
of_scoped {kind = kind} has = record { number = has.number; own = has.own; stands = has.stands; kind = kind; chain_is = ap (entries_chain kind) (sym has.adr_is) }

module _ {b mid : List ℕ} {kind : EntryKind} {adr num : ℕ} {es left : KnownEntries} (good : Good b) (short : length b ≤ image_limit) (has : IsScoped b kind adr) (is : es.chain ≡ entries_chain kind adr) (knows : KnowsEntries b es) (drops_num : DropsNumber b mid kind adr es num left) where
  first : EditsEntries b mid kind (only_at has.number (takes b num kind)) (numbered b num (chain_of has.own kind))
  first = takes_number good (of_scoped has) es is knows num short (subst (λ (x : ℕ). DropsNumber b mid kind x es num left) (sym has.adr_is) drops_num)

  pub keeps_taken : KeepsAttributes b mid
  keeps_taken = keeps_edited first

  pub chain_left : left.chain ≡ entries_chain kind adr
  chain_left = grind (arith, drops_num)

-- its entry of the number went, and the greater numbers fell
pub dropped : {b now : List ℕ} {kind : EntryKind} {adr num : ℕ} → Good b → length b ≤ image_limit → (has : IsScoped b kind adr) → DropsFrom b now kind adr num → EditsEntries b now kind (only_at has.number (drops b num kind)) (numbered b num (chain_of has.own kind) ++ [])
dropped {b} {now} {kind} {adr} {num} good short has from =
    let taken = first good short has from.chain_is from.known from.drops in
    let there = taken.attributes has.number has.own has.stands in
    let adr_is : there.0.adr ≡ adr = there.1.1.adr_is ∙ has.adr_is in
    let none = number_gone (numbers_differ good (of_scoped has) from.entries from.chain_is from.known) from.drops in
    let long = taken.stands.long in
    let of : IsOfAttribute from.mid (entries_chain kind adr) = record { number = has.number; own = there.0; stands = there.1.0; kind = kind; chain_is = ap (entries_chain kind) (sym adr_is) } in
    drops_both has.number num taken (lowers_numbers from.good of from.left (chain_left good short has from.chain_is from.known from.drops) from.left_known num none (omega arith) (subst (λ (x : ℕ). Lowers from.mid now kind x from.left num) (sym adr_is) from.lowers))

pub keeps_dropped : {b now : List ℕ} {kind : EntryKind} {adr num : ℕ} → Good b → length b ≤ image_limit → IsScoped b kind adr → DropsFrom b now kind adr num → Good now × KeepsAttributes b now
keeps_dropped good short has from = let e = dropped good short has from in (e.stands.good, keeps_edited e)

-- ---- the entry of a number that was taken out of a chain

-- what a call gives is this, and after it something holds
pub if_given : {X Y : Type 0} (r : Result X Y) (P : X → Type 0) (x : X) (T : Type 0) → (T → P x) → IfOk r (λ y. y ≡ x) → OnOk r T → IfOk r P
if_given (Ok y) P x T f same t = subst P (sym same) (f t)
if_given (Err e) P x T f same t = tt

module _ {b : List ℕ} {kind : EntryKind} {adr : ℕ} (good : Good b) (has : IsScoped b kind adr) (es : KnownEntries) (is : es.chain ≡ entries_chain kind adr) (knows : KnowsEntries b es) (num i : ℕ) (at : position (λ n. n == num) es.numbers ≡ Some i) where
  pub within : i < length es.places
  within = deleted.within good (of_scoped has) es is knows num i at

  pub entry_there : IsEntryOf b kind adr (slice_index es.places i)
  entry_there = subst (λ (a : ℕ). IsEntryOf b kind a (slice_index es.places i)) has.adr_is (deleted.entry_there good (of_scoped has) es is knows num i at)

  pub taken_now : {now : List ℕ} → length b ≤ image_limit → TakenAt b now kind adr es i → Good now × KnowsEntries now (without_at es i)
  taken_now {now} short taken =
      let own_taken = subst (λ (a : ℕ). TakenAt b now kind a es i) (sym has.adr_is) taken in
      ((takes_some good (of_scoped has) es is knows num short i at own_taken).stands.good, deleted.left_known good (of_scoped has) es is knows num i at own_taken short)

-- ---- what dropping from one attribute asks of its chain

-- entries for variables go with attributes of variables
pub of_variables : (kind : Kind) (scope : Scope) → is_global scope ≡ false → is_wrong_scope (kind_of_entries kind) scope ≡ false
of_variables kind scope e = grind (arith, e)

pub scoped : (b : List ℕ) (adr : ℕ) (there : In adr (adrs (shape b))) (kind : Kind) → is_global (scope_of (number b adr adr_scope)) ≡ false → IsScoped b (kind_of_entries kind) adr
scoped b adr there kind e =
    let p = adr_parts b adr there in
    record { number = length p.fronts; own = p.own; stands = (of_attribute b adr there (kind_of_entries kind)).stands; adr_is = p.adr_is; in_scope = of_variables kind _ (subst (λ (a : ℕ). is_global (scope_of (number b a adr_scope)) ≡ false) (sym p.adr_is) e) }

-- what is written of entries lies where they stand
writes_lie : (b : List ℕ) (num : ℕ) (ns ps : List ℕ) → ((p : ℕ) → In p ps → p + 56 ≤ length b) → AllLie b (lower_writes num ns ps)
writes_lie b num [] ps all = tt
writes_lie b num (n ∷ ns) [] all = tt
writes_lie b num (n ∷ ns) (p ∷ ps) all = step n p _ (all p (inl refl)) (writes_lie b num ns ps (λ q j. all q (inr j)))
  where
    step : (n p : ℕ) (ws : List Write) → p + 56 ≤ length b → AllLie b ws → AllLie b (if nat_lt num n then write p aedr_num (n - 1) ∷ ws else ws)
    step n p ws here rest = grind (arith, nat_tests)

-- what is asked of a chain whose numbers fall
pub record Lowerable (b : List ℕ) (kind : EntryKind) (adr num : ℕ) (es : KnownEntries) : Type 0 where
  pub long : length es.numbers ≡ length es.places
  pub small : All (λ n. n ≤ signed_limit) es.numbers
  pub lie : AllLie b (lower_writes num es.numbers es.places)
  pub field : LiesIn b adr (max_field kind)

lowerable : {b : List ℕ} {kind : EntryKind} {adr num : ℕ} {es : KnownEntries} → Good b → In adr (adrs (shape b)) → es.chain ≡ entries_chain kind adr → KnowsEntries b es → Lowerable b kind adr num es
lowerable {b} {kind} {adr} {num} {es} good there is knows =
    let of = of_attribute b adr there kind in
    record {
      long = as_long good of es is knows;
      small = all_from (λ n. n ≤ signed_limit) es.numbers (λ n i. let le = small good of es is knows n i in omega arith);
      lie = writes_lie b num es.numbers es.places (λ p i. let lies = entry_inside b good (entries_chain kind adr) of p (subst (In p) (places_are good of es is knows) i) in let n = entry_bytes b p in omega arith);
      field = let l = adr_inside b (shape b) (good_is_sound b good).has_shape adr there in let m = max_lies kind in omega arith;
    }

pub keeps_same : {b now : List ℕ} → now ≡ b → KeepsAttributes b now
keeps_same same = record { names = ap (λ (x : List ℕ). attribute_names (content x)) same; places = ap (λ (x : List ℕ). adrs (shape x)) same; long = ap (λ (x : List ℕ). length x) same }

-- ---- what all of it comes to

-- the entry of a number was taken out of the chain, and these are left, whose numbers fall then
module _ {b read loaded mid : List ℕ} (kind : Kind) {k : EntryKind} {adr num : ℕ} {chain : Chain} {scope : Scope} {entries left : KnownEntries} (good : Good b) (there : In adr (adrs (shape b))) (short : length b ≤ image_limit)
    (same : read ≡ b) (scope_is : scope ≡ scope_of (number b adr adr_scope)) (own : is_global scope ≡ false) (k_is : k ≡ kind_of_entries kind) (chain_is : chain ≡ entries_chain k adr)
    (same_loaded : loaded ≡ read) (is : entries.chain ≡ chain) (knows : KnowsEntries read entries) (drops : DropsNumber loaded mid k adr entries num left) (good_mid : Good mid) (left_knows : KnowsEntries mid left) where
  pub dropping : Lowerable mid k adr num left × ((now : List ℕ) → Lowers mid now k adr left num → DropsFrom b now (kind_of_entries kind) adr num × (Good now × KeepsAttributes b now))
  dropping =
      let has = scoped b adr there kind (subst (λ (s : Scope). is_global s ≡ false) scope_is own) in
      let of_kind = subst (λ (x : EntryKind). IsScoped b x adr) (sym k_is) has in
      let of_chain = is ∙ chain_is in
      let known = subst (λ (x : List ℕ). KnowsEntries x entries) same knows in
      let dropped = subst (λ (x : List ℕ). DropsNumber x mid k adr entries num left) (same_loaded ∙ same) drops in
      let there_mid = subst (In adr) (sym (keeps_taken good short of_kind of_chain known dropped).places) there in
      let from = λ (now : List ℕ) (low : Lowers mid now k adr left num). subst (λ (x : EntryKind). DropsFrom b now x adr num) k_is (record { entries = entries; chain_is = of_chain; known = known; mid = mid; left = left; drops = dropped; good = good_mid; left_known = left_knows; lowers = low }) in
      (lowerable good_mid there_mid (chain_left good short of_kind of_chain known dropped) left_knows, λ now low. (from now low, keeps_dropped good short has (from now low)))

-- ---- from one attribute after the other

-- ---- one attribute more

own_at : (as_ : List AttributeShape) (k : ℕ) → k < length (map (λ (a : AttributeShape). a.adr) as_) → (own : AttributeShape) × ((slice_get as_ k ≡ Some own) × (slice_index (map (λ (a : AttributeShape). a.adr) as_) k ≡ own.adr))
own_at [] k lt = absurd (omega arith)
own_at (a ∷ as_) zero lt = (a, (refl, refl))
own_at (a ∷ as_) (suc k) lt = own_at as_ k (omega arith)

pub drops_more : {b before now : List ℕ} {kind : Kind} {num : ℕ} {places : List ℕ} {k adr : ℕ} → Good b → length b ≤ image_limit → places ≡ adrs (shape b) → k < length places → adr ≡ slice_index_or places k 0 → Good before → KeepsAttributes b before → ((found : Found) → found.kind ≡ kind → found.number ≡ num → DropsUpTo b found k before)
    → (is_global (scope_of (number before adr adr_scope)) ≡ true → now ≡ before) → (is_global (scope_of (number before adr adr_scope)) ≡ false → DropsFrom before now (kind_of_entries kind) adr num)
    → (found : Found) → found.kind ≡ kind → found.number ≡ num → DropsUpTo b found (k + 1) now
drops_more {b} {before} {now} {kind} {num} {places} {k} {adr} good short are lt adr_there good_before keeps so_far global from found kind_is num_is =
    let d = so_far found kind_is num_is in
    let at = own_at (shape b).attributes k (subst (λ (xs : List ℕ). k < length xs) are lt) in
    let own = at.0 in
    let adr_is : own.adr ≡ adr = sym (adr_there ∙ index_same places k 0 lt ∙ ap (λ (xs : List ℕ). slice_index xs k) are ∙ at.1.1) in
    let scope_is : is_global (attribute_of before own).scope ≡ is_global (scope_of (number before adr adr_scope)) = ap (λ (x : ℕ). is_global (scope_of (number before x adr_scope))) adr_is in
    let scope_b : is_global (attribute_of b own).scope ≡ is_global (attribute_of before own).scope = still_scoped found k own d at.1.0 in
    elim (either (is_global (scope_of (number before adr adr_scope)))) [
      | inl e ↦ subst (DropsUpTo b found (k + 1)) (sym (global e)) (next_global found k own d at.1.0 (scope_b ∙ scope_is ∙ e))
      | inr e ↦
          let long = keeps.long in
          let has : IsScoped before (kind_of_entries found.kind) adr = record { number = k; own = own; stands = (untouched found k own d at.1.0).0; adr_is = adr_is; in_scope = of_variables found.kind _ (scope_is ∙ e) } in
          next_dropped found k own d at.1.0 (scope_b ∙ scope_is ∙ e) (dropped good_before (omega arith) has (subst (λ (x : Kind). DropsFrom before now (kind_of_entries x) adr found.number) (sym kind_is) (subst (DropsFrom before now (kind_of_entries kind) adr) (sym num_is) (from e))))
    ]

pub at_index : (xs ys : List ℕ) (i : ℕ) → xs ≡ ys → i < length xs → In (slice_index_or xs i 0) ys
at_index xs ys i same lt = subst (In (slice_index_or xs i 0)) same (subst (λ (x : ℕ). In x xs) (sym (index_same xs i 0 lt)) (index_in xs i lt))

pub all_done : {b now : List ℕ} {found : Found} (xs : List ℕ) (i : ℕ) → xs ≡ adrs (shape b) → i ≡ length xs → DropsUpTo b found i now → DropsEntries b found now
all_done {b} {now} {found} xs i are all d = finish (subst (λ (n : ℕ). DropsUpTo b found n now) (all ∙ ap (λ (ys : List ℕ). length ys) are ∙ length-map (shape b).attributes (λ a. a.adr)) d)
