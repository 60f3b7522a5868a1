-- An entry was taken out of one chain of an attribute and freed: those that are left keep the rules, and the image is good.
use Rattle.cdf_edits.proofs.Common.{AttributeShape, Distinct, EntryKind, Gave, Gives, Good, Hold, In, IsSound, List, [], aedr_num, ap, arith, attribute_of, chain_of, count_field, entries_of, entry_rows, good_is_sound, image_limit, length, number, refl, shape, size_at, sym, without, ℕ, ◌+◌, ◌∙◌, ◌∷◌, ◌≡◌, ◌≢◌, ◌≤◌}
use Rattle.cdf_format.specs.Content.{entries_of as chain_items}
use Rattle.cdf_edits.specs.Space.Chains.{without as left_of}
use Rattle.cdf_edits.proofs.Edits.ChainEntries.{EntryLives, entries_left, nums, nums_left}
use Rattle.cdf_edits.proofs.Edits.ChainSpliced.{Rechains, entry_stays}
use Rattle.cdf_edits.proofs.Edits.EntryFields.{count_is}
use Rattle.cdf_edits.proofs.Edits.FreedEntry.{Frees, all_marks, as_long_now, count_same, freed_rechains, freed_settled}
use Rattle.cdf_edits.proofs.Edits.LeftEntry.{LeavesChain, as_long, left_end, left_frees, left_length, left_members, marks}
use Rattle.cdf_edits.proofs.Edits.MarkLemmas.{the_one}
use Rattle.cdf_edits.proofs.Edits.OneChain.{Settled, counted_before, differ_before, end_before, good_settled, items_of, once_before, rules_live}

module _ {b late now : List ℕ} {kind : EntryKind} {before : List AttributeShape} {own : AttributeShape} {after : List AttributeShape} {old : ℕ} (good : Good b) (q : LeavesChain b late kind before own after old) (gives : Gives late now (shape late) (shape now) old) where
  abbrev pub sound : IsSound b (shape b)
  sound = good_is_sound b good

  abbrev pub chain : List ℕ
  chain = chain_of own kind

  abbrev pub chain' : List ℕ
  chain' = left_of old chain

  abbrev pub f : Frees b late (shape b).records (shape b).unused (marks sound q) [] kind before own after chain' [] old 0 []
  f = left_frees sound q

  abbrev pub r : Rechains b now (shape b) (shape b).records (shape now).unused (all_marks sound f) (old ∷ []) kind before own after chain' (old ∷ []) []
  r = freed_rechains sound f gives

  pub long_now : length now ≡ length b
  long_now = as_long_now sound f gives ∙ as_long sound q

  pub once : Distinct chain
  once = once_before sound r good

  pub others : (m : ℕ) → In m chain → m ≢ old → EntryLives b now m
  others m i ne = entry_stays sound r m i (λ j. ne (the_one old m j))

  -- ---- those that are left

  pub members_stay : (m : ℕ) → In m chain' → In m chain × (m ≢ old)
  members_stay m i = left_members old m chain once i

  pub rules_left : (m : ℕ) → In m chain' → Hold (entry_rows now own.adr m)
  rules_left m i = let k = members_stay m i in rules_live sound r good m k.0 (λ j. k.1 (the_one old m j))

  pub differ_left : Distinct (nums now chain')
  differ_left = (nums_left b now old (number b old aedr_num) refl chain (differ_before sound r good) q.member others).0

  pub items_left : (num : ℕ) → number b old aedr_num ≡ num → chain_items now chain' ≡ without num num (entries_of (attribute_of b own) kind)
  items_left num of_old = entries_left b now old num of_old chain (differ_before sound r good) q.member others ∙ ap (without num num) (sym (items_of b own kind))

  pub settled : Settled sound r 0 (Gave old (size_at b old) ∷ [])
  settled = freed_settled sound f gives (left_end sound q (end_before b good))

  module _ (counted : number late own.adr (count_field kind) + 1 ≡ number b own.adr (count_field kind)) where
    pub count_left : number now own.adr (count_field kind) ≡ length chain'
    count_left = counts _ _ _ _ _ (count_same sound f gives (count_is kind b own.adr).0) counted (counted_before sound r good) (left_length old chain q.member)
      where
        counts : (n l o c c' : ℕ) → n ≡ l → l + 1 ≡ o → o ≡ c → c' + 1 ≡ c → n ≡ c'
        counts n l o c c' p q r t = omega arith

    pub good_now : length b ≤ image_limit → Good now
    good_now limited = good_settled sound r good count_left differ_left rules_left settled (omega arith)
