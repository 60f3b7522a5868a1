-- An entry that was taken out of its chain and freed leads from a good image to the one that follows.
use Rattle.cdf_attrs.proofs.Common.{Act, AttributeShape, ByStep, Chained, DelEntry, DeletesEntry, Entry, EntryKind, Follows, Gave, Gives, Go, Good, In, IsSound, LeavesChain, List, None, Option, Plain, Some, [], adrs, aedr_num, ap, arith, attribute_named, attribute_names, attribute_of, chain_after, chain_follows, chain_now, chain_of, content, count_field, count_left, del_entry_step, differ_before, differ_left, entries_chain, entries_of, entry_at, f, false, follows_chained, found_none, found_one, freed_bytes, gave, good_is_sound, greatest_number, image_limit, integer4, is_wrong_scope, item_at, items_left, items_of, left_after, length, max_field, members_of, members_stay, number, nums, of_named, once, option_to_list, others, r, refl, rules_left, settled, shape, size_at, sym, the_one, with_attribute, with_chain, with_entries, without, ℕ, ◌+◌, ◌==◌, ◌∙◌, ◌∷◌, ◌≡◌, ◌≤◌}
use Rattle.std.proofs.Common.{find}
use Rattle.cdf_format.specs.Content.{entries_of as chain_items}
use Rattle.cdf_edits.specs.Space.Chains.{without as left_of}
use Rattle.cdf_attrs.proofs.EntryTakenAt.{from_map}
use Rattle.cdf_attrs.proofs.AttributeParts.{members_rechained, names_rechained, places_rechained}

-- what is asked of the command holds: the attribute is the one at a place in the order, and has the entry
pub record Names (b attr : List ℕ) (kind : EntryKind) (num : ℕ) (before : List AttributeShape) (own : AttributeShape) (entry : Entry) : Type 0 where
  pub found : attribute_named (content b) attr ≡ Some (length before, attribute_of b own)
  pub scoped : is_wrong_scope kind (attribute_of b own).scope ≡ false
  pub is_there : item_at num (entries_of (attribute_of b own) kind) ≡ Some entry

pub del_goes : {b attr : List ℕ} {kind : EntryKind} {num : ℕ} {before : List AttributeShape} {own : AttributeShape} {entry : Entry} → Names b attr kind num before own entry
    → del_entry_step (content b) attr kind num ≡ Go (with_attribute (content b) (length before) (with_entries (attribute_of b own) kind (without num num (entries_of (attribute_of b own) kind)))) Plain
del_goes n = rw (n.found, n.scoped, n.is_there) refl

module _ {b late now : List ℕ} {kind : EntryKind} {before : List AttributeShape} {own : AttributeShape} {after : List AttributeShape} {old : ℕ} (good : Good b) (q : LeavesChain b late kind before own after old) (gives : Gives late now (shape late) (shape now) old) where
  abbrev sound : IsSound b (shape b)
  sound = good_is_sound b good

  -- what there is of the attributes then
  pub members_left : members_of now (entries_chain kind own.adr) ≡ left_of old (chain_of own kind)
  members_left = members_rechained sound (r good q gives)

  pub names_left : attribute_names (content now) ≡ attribute_names (content b)
  names_left = names_rechained sound (r good q gives)

  pub places_left : adrs (shape now) ≡ adrs (shape b)
  places_left = places_rechained sound (r good q gives)

  -- what follows
  module _ {attr : List ℕ} {num : ℕ} {entry : Entry} (names : Names b attr kind num before own entry) (of_old : number b old aedr_num ≡ num) (long : 28 ≤ size_at b old) (counted : number late own.adr (count_field kind) + 1 ≡ number b own.adr (count_field kind))
      (greatest : integer4 now own.adr (max_field kind) ≡ greatest_number (without num num (chain_items b (chain_of own kind)))) (limited : length b ≤ image_limit) where
    abbrev acts : List Act
    acts = Gave old (size_at b old) ∷ []

    at_before : entry_at b own kind num ≡ Some old
    at_before = found_one b num old (chain_of own kind) of_old q.member (differ_before sound (r good q gives) good)

    -- its number is none of those that are left
    gone_now : In num (nums now (left_of old (chain_of own kind))) → ⊥
    gone_now i =
        let x = from_map (λ (e : ℕ). number now e aedr_num) (left_of old (chain_of own kind)) num i in
        let k = members_stay good q gives x.0 x.1.0 in
        let same : Some x.0 ≡ Some old = sym (found_one b num x.0 (chain_of own kind) (sym (others good q gives x.0 k.0 k.1).num ∙ sym x.1.1) k.0 (differ_before sound (r good q gives) good)) ∙ at_before in
        k.1 cc

    gone_at : entry_at now (with_chain own kind (left_of old (chain_of own kind))) kind num ≡ None
    gone_at = ap (find (λ aedr. number now aedr aedr_num == num)) (chain_now kind own (left_of old (chain_of own kind))) ∙ found_none now num (left_of old (chain_of own kind)) gone_now

    chained : Chained sound (r good q gives) attr num 0 (without num num (entries_of (attribute_of b own) kind)) acts
    chained =
        record {
          found = names.found;
          items_now = items_left good q gives num of_old;
          counted = count_left good q gives counted;
          differ = differ_left good q gives;
          rules = rules_left good q gives;
          chain_is = chain_now kind own (left_of old (chain_of own kind)) ∙ sym (left_after old (chain_of own kind) (once good q gives)) ∙ (λ i. chain_after (chain_of own kind) (sym at_before i) (sym gone_at i));
          greatest = greatest ∙ ap (λ (items : List (ℕ × Entry)). greatest_number (without num num items)) (sym (items_of b own kind));
          of_gone = λ m i. ap (λ (x : ℕ). number b x aedr_num) (the_one old m i) ∙ of_old;
          settled = settled good q gives;
        }

    pub left_follow : Follows b (DelEntry attr kind num) now
    left_follow = follows_chained sound (r good q gives) chained good (DelEntry attr kind num) (ap ByStep (del_goes names)) refl refl refl
        (of_named sound (r good q gives) chained (λ a a'. DeletesEntry b now a a' kind num acts) (record { acts_are = ap (λ (o : Option ℕ). gave b (option_to_list o)) (sym at_before); chain = chain_follows sound (r good q gives) chained; freed = freed_bytes sound (f good q gives) gives acts long })) (omega (arith, limited))
