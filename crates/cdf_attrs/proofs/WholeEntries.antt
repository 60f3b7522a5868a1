-- The value of an entry of a good image has a byte for each of its elements' bytes, and no more.
use Rattle.cdf_attrs.proofs.Common.{Answer, Attribute, AttributeShape, Bool, Chain, DataSet, Each, Entry, EntryKind, G, Go, Good, In, IsOfAttribute, List, NoSuchAttr, NoSuchEntry, None, Option, Reply, Some, WrongScope, Z, [], aedr_data_type, aedr_num, aedr_num_elems, aedr_value, ap, arith, attribute_named, attribute_of, both, chain_of, content, content_is, data_type_in, drop, entries_chain, entries_of, entry_bytes, entry_of, false, field_bytes, find, get_entry_step, given, good_is_sound, holds, inl, inr, is_little, is_positive, is_wrong_scope, item_at, known_type, le_of, length, length-drop, length-take-le, map, members_of, number, option_map, record_limit, refl, shape, signed_limit, size_of, size_stays, slice_get, subst, suc, sym, take, true, unless, with_item, zero, ℕ, ◌%◌, ◌*◌, ◌+◌, ◌==◌, ◌∙◌, ◌∷◌, ◌≡◌, ◌≤◌}
use Rattle.std.proofs.Common.{nat_le, ◌&&◌}
use Rattle.std.proofs.Math.Nat.{mod_self, mul-mod_right}
use Rattle.std.specs.Prelude.{is_some}
use Rattle.cdf_model.specs.declared.answer.Reply.TheVariants as replies
use Rattle.cdf_model.specs.Names.{numbered}
use Rattle.cdf_model.specs.Whole.{IsWhole, HasWholeValues}
use Rattle.cdf_attrs.specs.Showing.{HasWholeEntries, IsWholeEntry}
use Rattle.cdf_edits.proofs.Edits.NumberedItems.{Above, Below, Equal, at_first, before_first, behind_first, order}
use Rattle.cdf_format.specs.Content.{entries_of as items_of}
use Rattle.cdf_attrs.proofs.EntryChains.{members, entry_has_value, entry_inside}
use Rattle.cdf_attrs.proofs.EntryLookup.{item_of_chain}
use Rattle.cdf_attrs.proofs.GettingAnswers.{entries_by_chain, found_in}

taken : (xs : List ℕ) (place n : ℕ) → place + n ≤ length xs → length (take n (drop place xs)) ≡ n
taken xs place n fits = length-take-le n (drop place xs) (omega (arith, length-drop place xs))

-- one more that is whole
whole_with : (n : ℕ) (a : Entry) (items : List (ℕ × Entry)) → IsWholeEntry (n, a) → Each IsWholeEntry items → Each IsWholeEntry (with_item n a items)
whole_with n a [] own all = (own, tt)
whole_with n a ((m, c) ∷ rest) own all = elim (order n m) [
  | Below lt ↦ subst (Each IsWholeEntry) (sym (before_first n a m c rest lt)) (own, all)
  | Equal e ↦ subst (Each IsWholeEntry) (sym (at_first n a m c rest e)) (own, all.1)
  | Above gt ↦ subst (Each IsWholeEntry) (sym (behind_first n a m c rest gt)) (all.0, whole_with n a rest own all.1)
]

module _ (b : List ℕ) (good : Good b) where
  entry_is_whole : (c : Chain) → IsOfAttribute b c → (m : ℕ) → In m (members_of b c) → IsWhole (entry_of b m).type (entry_of b m).elems (entry_of b m).bytes
  entry_is_whole c of m i =
      let t = data_type_in b m aedr_data_type in
      let e = number b m aedr_num_elems in
      let value = both (is_some (known_type b m aedr_data_type) && is_positive e) (nat_le (entry_bytes b m) record_limit && holds b m (aedr_value (entry_bytes b m))) (entry_has_value b good c of m i) in
      let positive = both (is_some (known_type b m aedr_data_type)) (is_positive e) value.0 in
      let some = both (nat_le 1 e) (nat_le e signed_limit) positive.1 in
      let long : length (field_bytes b m (aedr_value (entry_bytes b m))) ≡ size_of t * e = taken b (m + 56) (size_of t * e) (inside (size_of t * e) (entry_inside b good c of m i)) in
      let units : length (field_bytes b m (aedr_value (entry_bytes b m))) % size_of t ≡ 0 = ap (λ (n : ℕ). n % size_of t) long ∙ mul-mod_right (size_of t) e in
      let stays = size_stays t (is_little b) (field_bytes b m (aedr_value (entry_bytes b m))) units ∙ long in
      (le_of 1 e some.0, ap (λ (n : ℕ). n % (size_of t * e)) stays ∙ mod_self (size_of t * e))
    where
      inside : (n : ℕ) → m + (56 + n) ≤ length b → m + 56 + n ≤ length b
      inside n fits = omega arith

  -- ---- all entries of the data set

  chain_whole : (c : Chain) → IsOfAttribute b c → (ms : List ℕ) → ((m : ℕ) → In m ms → In m (members_of b c)) → Each IsWholeEntry (items_of b ms)
  chain_whole c of [] within = tt
  chain_whole c of (m ∷ ms) within = whole_with (number b m aedr_num) (entry_of b m) (items_of b ms) (entry_is_whole c of m (within m (inl refl))) (chain_whole c of ms (λ x i. within x (inr i)))

  attribute_whole : (n : ℕ) (a : AttributeShape) → slice_get (shape b).attributes n ≡ Some a → HasWholeEntries (attribute_of b a)
  attribute_whole n a stands = (own G, own Z)
    where
      own : (kind : EntryKind) → Each IsWholeEntry (items_of b (chain_of a kind))
      own kind =
          let of : IsOfAttribute b (entries_chain kind a.adr) = record { number = n; own = a; stands = stands; kind = kind; chain_is = refl } in
          chain_whole (entries_chain kind a.adr) of (chain_of a kind) (λ m i. subst (In m) (sym (members b good (entries_chain kind a.adr) of)) i)

  each_got : (as_ : List AttributeShape) → ((n : ℕ) (a : AttributeShape) → slice_get as_ n ≡ Some a → HasWholeEntries (attribute_of b a)) → Each HasWholeEntries (map (attribute_of b) as_)
  each_got [] every = tt
  each_got (a ∷ as_) every = (every 0 a refl, each_got as_ (λ n x is. every (suc n) x is))

  pub entries_whole : Each HasWholeEntries (content b).attributes
  entries_whole = subst (λ (d : DataSet). Each HasWholeEntries d.attributes) (sym (content_is b (shape b) (good_is_sound b good).has_shape)) (each_got (shape b).attributes attribute_whole)

  -- ---- an entry of the data set

  found_whole : (c : Chain) → IsOfAttribute b c → (found : Option ℕ) (k : ℕ) (ms : List ℕ) → ms ≡ members_of b c → found ≡ find (λ aedr. number b aedr aedr_num == k) ms → (entry : Entry) → option_map (entry_of b) found ≡ Some entry → IsWhole entry.type entry.elems entry.bytes
  found_whole c of None k ms are is entry e = absurd cc
  found_whole c of (Some m) k ms are is entry e =
      let same : entry_of b m ≡ entry = cc in
      subst (λ (x : Entry). IsWhole x.type x.elems x.bytes) same (entry_is_whole c of m (subst (In m) are (found_in (λ aedr. number b aedr aedr_num == k) ms m (sym is))))

  item_is_whole : (n : ℕ) (a : AttributeShape) → slice_get (shape b).attributes n ≡ Some a → (kind : EntryKind) (k : ℕ) (entry : Entry) → item_at k (entries_of (attribute_of b a) kind) ≡ Some entry → IsWhole entry.type entry.elems entry.bytes
  item_is_whole n a stands kind k entry e =
      let of : IsOfAttribute b (entries_chain kind a.adr) = record { number = n; own = a; stands = stands; kind = kind; chain_is = refl } in
      found_whole (entries_chain kind a.adr) of (find (λ aedr. number b aedr aedr_num == k) (chain_of a kind)) k (chain_of a kind) (sym (members b good (entries_chain kind a.adr) of)) refl entry
      (sym (ap (item_at k) (entries_by_chain b a kind) ∙ item_of_chain b k (chain_of a kind)) ∙ e)

  -- the attribute that a name finds
  got_numbered : (items : List Attribute) (n : Option ℕ) (i : ℕ) (a : Attribute) → numbered items n ≡ Some (i, a) → slice_get items i ≡ Some a
  got_numbered items None i a e = absurd cc
  got_numbered items (Some k) i a e = choose (slice_get items k) refl e
    where
      choose : (o : Option Attribute) → slice_get items k ≡ o → option_map {U = ℕ × Attribute} (λ x. (k, x)) o ≡ Some (i, a) → slice_get items i ≡ Some a
      choose None is same = absurd cc
      choose (Some x) is same =
          let own : ℕ × Attribute = (k, x) in
          let pair : own ≡ (i, a) = cc in
          ap (slice_get items) (sym (ap (λ (p : ℕ × Attribute). p.0) pair)) ∙ is ∙ ap (λ (p : ℕ × Attribute). Some p.1) pair

  got_shape : (as_ : List AttributeShape) (i : ℕ) (a : Attribute) → slice_get (map (attribute_of b) as_) i ≡ Some a → (own : AttributeShape) × ((slice_get as_ i ≡ Some own) × (attribute_of b own ≡ a))
  got_shape as_ i a e = choose as_ i e
    where
      choose : (as_ : List AttributeShape) (i : ℕ) → slice_get (map (attribute_of b) as_) i ≡ Some a → (own : AttributeShape) × ((slice_get as_ i ≡ Some own) × (attribute_of b own ≡ a))
      choose [] i e = absurd cc
      choose (x ∷ as_) zero e = let same : attribute_of b x ≡ a = cc in (x, (refl, same))
      choose (x ∷ as_) (suc i) e = choose as_ i e

  named_whole : (attr : List ℕ) (i : ℕ) (a : Attribute) → attribute_named (content b) attr ≡ Some (i, a) → (kind : EntryKind) (k : ℕ) (entry : Entry) → item_at k (entries_of a kind) ≡ Some entry → IsWhole entry.type entry.elems entry.bytes
  named_whole attr i a named kind k entry e =
      let there = got_numbered (content b).attributes _ i a named in
      let own = got_shape (shape b).attributes i a (ap (λ (d : DataSet). slice_get d.attributes i) (sym (content_is b (shape b) (good_is_sound b good).has_shape)) ∙ there) in
      item_is_whole i own.0 own.1.0 kind k entry (ap (λ (x : Attribute). item_at k (entries_of x kind)) own.1.1 ∙ e)

  -- what `get-entry` shows
  abbrev show : Entry → Answer
  show entry = Go (content b) (replies.Entry entry.type entry.elems entry.bytes)

  pub shown_is_whole : (attr : List ℕ) (kind : EntryKind) (k : ℕ) (d : DataSet) (reply : Reply) → get_entry_step (content b) attr kind k ≡ Go d reply → HasWholeValues reply
  shown_is_whole attr kind k d reply e = go (attribute_named (content b) attr) refl e
    where
      last : (i : ℕ) (a : Attribute) → attribute_named (content b) attr ≡ Some (i, a) → (wrong : Bool) (found : Option Entry) → item_at k (entries_of a kind) ≡ found → unless ((wrong, WrongScope) ∷ []) (given NoSuchEntry found show) ≡ Go d reply → HasWholeValues reply
      last i a named true found is e = absurd cc
      last i a named false None is e = absurd cc
      last i a named false (Some entry) is e =
          let same : replies.Entry entry.type entry.elems entry.bytes ≡ reply = cc in
          subst HasWholeValues same (named_whole attr i a named kind k entry is)

      go : (found : Option (ℕ × Attribute)) → attribute_named (content b) attr ≡ found → given NoSuchAttr found (λ f. unless ((is_wrong_scope kind f.1.scope, WrongScope) ∷ []) (given NoSuchEntry (item_at k (entries_of f.1 kind)) show)) ≡ Go d reply → HasWholeValues reply
      go None is e = absurd cc
      go (Some f) is e = last f.0 f.1 is (is_wrong_scope kind f.1.scope) (item_at k (entries_of f.1 kind)) refl e
