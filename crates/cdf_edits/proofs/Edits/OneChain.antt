-- What an image comes to in which one chain of entries of an attribute is another, for a command on an entry of a number.
use Rattle.cdf_edits.proofs.Common.{Act, ActsFollow, AllKeep, Allowances, Attribute, AttributeShape, ByStep, ChainFollows, Command, DataSet, Distinct, Does, Entry, EntryKind, Follows, Go, Good, Hold, Hold-append, Hold-member, Hold-members, Hold-split, In, IsSound, List, Mark, OfAttribute, Plain, Shape, Some, Unused, [], adr_type, aedr_num, allowances, ap, arith, attribute_named, attribute_of, chain_after, chain_fields, chain_of, content, count_field, differ_rows, entries_of, entries_rows, entry_at, entry_changes, entry_rows, eof, eq-eqb, eq_of, false, flat_map, gdr_type, good_by_its_shape, good_is_sound, good_long, greatest_number, image_limit, integer4, length, map, max_field, number, only_reads, owned, owned_by, refl, room, rules_of_good, same_number, sealed_kept, shape, slice_get, space_fields, step, subst, sum, sym, taken, times, true, true≢false, unused_records, with_attribute, with_chain, with_entries, within, ℕ, ◌++◌, ◌+◌, ◌∙◌, ◌∷◌, ◌≡◌, ◌≤◌}
use Rattle.cdf_model.specs.declared.kinds.EntryKind.TheVariants as entries
use Rattle.cdf_format.specs.Content.{entries_of as chain_items}
use Rattle.cdf_edits.proofs.Edits.ChainEntries.{nums, differ_by_nums, nums_differ, entry_rules_live}
use Rattle.cdf_edits.proofs.Edits.ChainFollowed.{of_attribute, is_named, greatest_follow}
use Rattle.cdf_edits.proofs.Edits.ChainKept.{entry_keeps}
use Rattle.cdf_edits.proofs.Edits.ChainSpliced.{Rechains, made, splices, now_is, other_max_same, attribute_now, content_rechained, rules_rechained, chain_rules_before, there, num_same, entry_stays}
use Rattle.cdf_edits.proofs.Edits.OwnedOnce.{IsSorted}
use Rattle.cdf_edits.proofs.Edits.Splice.{good_image_if}
use Rattle.cdf_edits.proofs.Edits.ChainKinds.{chain_has}
use Rattle.cdf_edits.proofs.Rules.WithoutLinks.{eof_by_rules}

-- the entries of a kind are those of its chain
pub items_of : (b : List ℕ) (own : AttributeShape) (kind : EntryKind) → entries_of (attribute_of b own) kind ≡ chain_items b (chain_of own kind)
items_of b own entries.G = refl
items_of b own entries.R = refl
items_of b own entries.Z = refl

pub items_with : (a : Attribute) (kind : EntryKind) (items : List (ℕ × Entry)) → entries_of (with_entries a kind items) kind ≡ items
items_with a entries.G items = refl
items_with a entries.R items = refl
items_with a entries.Z items = refl

pub got_middle : (xs : List AttributeShape) (x : AttributeShape) (ys : List AttributeShape) → slice_get (xs ++ x ∷ ys) (length xs) ≡ Some x
got_middle [] x ys = refl
got_middle (y ∷ xs) x ys = got_middle xs x ys

-- a good image ends where the GDR says
pub end_before : (b : List ℕ) → Good b → eof b (shape b).gdr ≡ length b
end_before b good = eof_by_rules b (shape b) (good_is_sound b good) (sealed_kept b (good_long b (shape b) (good_by_its_shape b good)) (rules_of_good b good)).0

module _ {b now new list : List ℕ} {marks : List Mark} {reborn : List ℕ} {kind : EntryKind} {before : List AttributeShape} {own : AttributeShape} {after : List AttributeShape} {chain' gone come : List ℕ} (sound : IsSound b (shape b)) (r : Rechains b now (shape b) new list marks reborn kind before own after chain' gone come) where
  -- what the chain was
  module _ (good : Good b) where
    own_rules : Hold (entries_rows b own.adr (count_field kind) (chain_of own kind))
    own_rules = chain_rules_before sound r (good_by_its_shape b good)

    parts_before : Hold (flat_map (entry_rows b own.adr) (chain_of own kind)) × Hold (differ_rows 7 (same_number b) [] (chain_of own kind))
    parts_before = Hold-split (flat_map (entry_rows b own.adr) (chain_of own kind)) (differ_rows 7 (same_number b) [] (chain_of own kind)) own_rules.1

    pub counted_before : number b own.adr (count_field kind) ≡ length (chain_of own kind)
    counted_before = eq_of _ _ own_rules.0

    pub differ_before : Distinct (nums b (chain_of own kind))
    differ_before = nums_differ b (chain_of own kind) parts_before.1

    pub once_before : Distinct (chain_of own kind)
    once_before = (chain_has kind own (there sound r).1.0.have.0).once

    -- a member keeps its rules, and so does one that stays
    pub rules_before : (m : ℕ) → In m (chain_of own kind) → Hold (entry_rows b own.adr m)
    rules_before m i = Hold-member (entry_rows b own.adr) (chain_of own kind) m parts_before.0 i

    pub rules_live : (m : ℕ) → In m (chain_of own kind) → (In m gone → ⊥) → Hold (entry_rows now own.adr m)
    rules_live m i out = entry_rules_live b now own.adr m (num_same sound r) (entry_stays sound r m i out) (rules_before m i)

  -- an image whose chain keeps the rules is good
  good_chained : Good b → number now own.adr (count_field kind) ≡ length chain' → Distinct (nums now chain') → ((m : ℕ) → In m chain' → Hold (entry_rows now own.adr m)) → ((m : ℕ) → (In m reborn → ⊥) → times m gone ≡ times m come)
      → ((m : ℕ) → In m reborn → IsSorted now (made sound r) m) → eof now (shape b).gdr ≡ length now → length now ≤ image_limit → Good now
  good_chained good counted differ rules beside sorted end short =
      let image = good_by_its_shape b good in
      let rows : Hold (entries_rows now own.adr (count_field kind) chain') = (eq-eqb (number now own.adr (count_field kind)) (length chain') counted, Hold-append (flat_map (entry_rows now own.adr) chain') (differ_rows 7 (same_number now) [] chain') (Hold-members (entry_rows now own.adr) chain' rules) (differ_by_nums now chain' differ)) in
      good_image_if sound (splices sound r) (sealed_kept b (good_long b (shape b) image) (rules_of_good b good)).0 image (rules_rechained sound r image rows beside sorted) end short

  -- what is to be shown of owners, of the space and of the acts
  pub record Settled (need : ℕ) (acts : List Act) : Type 0 where
    pub beside : (m : ℕ) → (In m reborn → ⊥) → times m gone ≡ times m come
    pub sorted : (m : ℕ) → In m reborn → IsSorted now (made sound r) m
    pub end : eof now (shape b).gdr ≡ length now
    pub longest : length now ≤ length b + need
    pub takes_within : sum (map (λ take. take.1) (taken acts)) ≤ need
    pub acts_follow : ActsFollow b now acts
    pub gdr_within : within marks gdr_type space_fields ≡ true
    pub adr_within : within marks adr_type (chain_fields kind) ≡ true
    pub unused : (may : Allowances) → AllKeep b now may acts (owned_by Unused (unused_records b (shape b)))

  pub good_settled : {need : ℕ} {acts : List Act} → Good b → number now own.adr (count_field kind) ≡ length chain' → Distinct (nums now chain') → ((m : ℕ) → In m chain' → Hold (entry_rows now own.adr m)) → Settled need acts → length b + need ≤ image_limit → Good now
  good_settled good counted differ rules s short = good_chained good counted differ rules s.beside s.sorted s.end (omega (arith, s.longest, short))

  -- and of the entries
  pub record Chained (attr : List ℕ) (num need : ℕ) (items : List (ℕ × Entry)) (acts : List Act) : Type 0 where
    pub found : attribute_named (content b) attr ≡ Some (length before, attribute_of b own)
    pub items_now : chain_items now chain' ≡ items
    pub counted : number now own.adr (count_field kind) ≡ length chain'
    pub differ : Distinct (nums now chain')
    pub rules : (m : ℕ) → In m chain' → Hold (entry_rows now own.adr m)
    pub chain_is : chain_of (with_chain own kind chain') kind ≡ chain_after (chain_of own kind) (entry_at b own kind num) (entry_at now (with_chain own kind chain') kind num)
    pub greatest : integer4 now own.adr (max_field kind) ≡ greatest_number items
    pub of_gone : (m : ℕ) → In m gone → number b m aedr_num ≡ num
    pub settled : Settled need acts

  module _ {attr : List ℕ} {num need : ℕ} {items : List (ℕ × Entry)} {acts : List Act} (c : Chained attr num need items acts) where
    pub content_chained : content now ≡ with_attribute (content b) (length before) (with_entries (attribute_of b own) kind items)
    content_chained = content_rechained sound r items c.items_now

    pub chain_follows : ChainFollows b now own (with_chain own kind chain') kind num
    chain_follows = record {
      chain_is = c.chain_is;
      greatest_is = greatest_follow kind b now own chain' (c.greatest ∙ ap greatest_number (sym (items_with (attribute_of b own) kind items)) ∙ ap (λ (a : Attribute). greatest_number (entries_of a kind)) (sym (attribute_now sound r items c.items_now))) (other_max_same sound r);
    }

    -- what holds of the attribute before and after it, holds of the one of the name
    pub of_named : (P : AttributeShape → AttributeShape → Type 0) → P own (with_chain own kind chain') → OfAttribute b now attr P
    of_named P p = of_attribute b now attr (length before) (attribute_of b own) own (with_chain own kind chain') P c.found
        (ap (λ (as_ : List AttributeShape). slice_get as_ (length before)) r.was ∙ got_middle before own after)
        (ap (λ (x : Shape). slice_get x.attributes (length before)) (now_is sound r) ∙ got_middle before (with_chain own kind chain') after) p

    pub follows_chained : Good b → (command : Command) → step (content b) command ≡ ByStep (Go (with_attribute (content b) (length before) (with_entries (attribute_of b own) kind items)) Plain) → room b command ≡ need → only_reads command ≡ false → allowances b (content b) (shape b) command ≡ entry_changes b (content b) attr kind num
        → Does b command now acts → length b + need ≤ image_limit → Follows b command now
    follows_chained good command goes roomy writes allowed does limited =
        record {
          reply = Plain;
          goes = goes ∙ ap (λ (d : DataSet). ByStep (Go d Plain)) (sym content_chained);
          good = good_settled good c.counted c.differ c.rules c.settled limited;
          longer = r.edit.longer;
          within = subst (λ (n : ℕ). length now ≤ length b + n) (sym roomy) c.settled.longest;
          reads = λ q. absurd (true≢false (sym q ∙ writes));
          acts = acts;
          takes_within = subst (λ (n : ℕ). sum (map (λ take. take.1) (taken acts)) ≤ n) (sym roomy) c.settled.takes_within;
          acts_follow = c.settled.acts_follow;
          keeps = subst (λ (may : Allowances). AllKeep b now may acts (owned b (shape b))) (sym allowed) (entry_keeps sound r attr num acts (is_named b attr (length before) (attribute_of b own) c.found) c.settled.gdr_within c.settled.adr_within c.of_gone (c.settled.unused (entry_changes b (content b) attr kind num)));
          does = does;
        }
