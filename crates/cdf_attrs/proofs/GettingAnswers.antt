-- What the command that shows an entry is answered.
use Rattle.cdf_attrs.proofs.Common.{Answer, Answers, Attribute, AttributeShape, Bool, ByStep, Chain, Command, Done, Entry, EntryKind, FindsChain, G, GetEntry, Go, Good, In, IsOfAttribute, IsRefusedFor, Known, KnownEntries, Knows, KnowsEntries, List, NoSuchAttr, NoSuchEntry, None, Option, R, Reason, Refused, Reply, Some, WrongScope, Z, [], aedr_num, ap, arith, attribute_of, chain_of, cond, content, entries_of, entry_at, entry_bytes, entry_of, entry_reply, false, find, gone, inl, inr, item_at, length, members_of, number, option_and_then, option_map, position, refl, refused, slice_get, subst, sym, true, ℕ, ◌+◌, ◌==◌, ◌∙◌, ◌∷◌, ◌≡◌, ◌≤◌}
use Rattle.cdf_edits.proofs.Commands.ReadingFollows.{reading_follows}
use Rattle.cdf_format.specs.Content.{entries_of as items_of}
use Rattle.std.specs.Prelude.{All, Contains, ◌⊎◌}
use Rattle.cdf_attrs.proofs.EntryChains.{members, entry_inside}
use Rattle.cdf_attrs.proofs.EntryLookup.{place_found, item_of_chain}
use Rattle.cdf_attrs.proofs.KnownAttributes.{more_known, of_one, places_known}
use Rattle.cdf_attrs.proofs.EntrySteps.{no_attribute, wrong_scope, no_entry, has_entry}

-- a chain that was found is one of an attribute
abbrev pub of_attribute : {b attr : List ℕ} {kind : EntryKind} {n : ℕ} {chain : Chain} → FindsChain b attr kind n chain → IsOfAttribute b chain
of_attribute {kind = kind} {n = n} found = record { number = n; own = found.own; stands = found.stands; kind = kind; chain_is = found.chain_is }

-- what is known of an image is known of it yet
pub still_known : {b now : List ℕ} {known : Known} → now ≡ b → Knows b known → Knows now known
still_known {known = known} same knows = subst (λ (x : List ℕ). Knows x known) (sym same) knows

-- the entries of a chain that was found are kept beside others
pub kept_with : {b mid : List ℕ} {v known : Known} {chain : Chain} → mid ≡ b → Knows mid known → v ≡ known → IsOfAttribute b chain → (own : KnownEntries) → own.chain ≡ chain → KnowsEntries mid own → (es : List KnownEntries) → All (λ e. (e ≡ own) ⊎ Contains v.entries e) es → Knows b (record v { entries = es })
kept_with {b} {known = known} same knows is of own own_is own_knows es all =
    let before : Knows b known = subst (λ (x : List ℕ). Knows x known) same knows in
    more_known before is own es (record { of_one = of_one (places_known before is) of own_is; knows = subst (λ (x : List ℕ). KnowsEntries x own) same own_knows }) all

-- the entries of a kind are those of its chain
pub entries_by_chain : (b : List ℕ) (a : AttributeShape) (kind : EntryKind) → entries_of (attribute_of b a) kind ≡ items_of b (chain_of a kind)
entries_by_chain b a G = refl
entries_by_chain b a R = refl
entries_by_chain b a Z = refl

pub found_in : (test : ℕ → Bool) (xs : List ℕ) (x : ℕ) → find test xs ≡ Some x → In x xs
found_in test [] x e = absurd cc
found_in test (y ∷ xs) x e = choose (test y) (find test xs) (found_in test xs x) e
  where
    choose : (p : Bool) (rest : Option ℕ) → (rest ≡ Some x → In x xs) → cond p (Some y) rest ≡ Some x → In x (y ∷ xs)
    choose true rest more is = let same : y ≡ x = cc in inl (sym same)
    choose false rest more is = inr (more is)

-- ---- the entry of a number, by what is known of the chain that was found

module _ {b attr : List ℕ} {kind : EntryKind} {n : ℕ} {chain : Chain} (good : Good b) (found : FindsChain b attr kind n chain) (entries : KnownEntries) (of : entries.chain ≡ chain) (knows : KnowsEntries b entries) (num : ℕ) where
  places_are : entries.places ≡ members_of b chain
  places_are = knows.places_are ∙ ap (members_of b) of

  in_shape : entries.places ≡ chain_of found.own kind
  in_shape = places_are ∙ members b good chain (of_attribute found)

  by_find : (place : Option ℕ) → place ≡ option_and_then (λ i. slice_get entries.places i) (position (λ m. m == num) entries.numbers) → place ≡ find (λ aedr. number b aedr aedr_num == num) entries.places
  by_find place is = is ∙ place_found (λ aedr. number b aedr aedr_num) (λ m. m == num) entries.places entries.numbers knows.numbers_are

  -- it stands where the shape has it
  pub is_entry_at : (place : Option ℕ) → place ≡ option_and_then (λ i. slice_get entries.places i) (position (λ m. m == num) entries.numbers) → place ≡ entry_at b found.own kind num
  is_entry_at place is = by_find place is ∙ ap (find (λ aedr. number b aedr aedr_num == num)) in_shape

  pub is_item : (place : Option ℕ) → place ≡ option_and_then (λ i. slice_get entries.places i) (position (λ m. m == num) entries.numbers) → item_at num (entries_of (attribute_of b found.own) kind) ≡ option_map (entry_of b) place
  is_item place is =
      ap (item_at num) (entries_by_chain b found.own kind)
      ∙ item_of_chain b num (chain_of found.own kind)
      ∙ ap (option_map (entry_of b)) (sym (is_entry_at place is))

  pub entry_fits : (place : ℕ) → Some place ≡ option_and_then (λ i. slice_get entries.places i) (position (λ m. m == num) entries.numbers) → place + (56 + entry_bytes b place) ≤ length b
  entry_fits place is = entry_inside b good chain (of_attribute found) place (subst (In place) places_are (found_in (λ aedr. number b aedr aedr_num == num) entries.places place (sym (by_find (Some place) is))))

-- ---- the answers

module _ (limit : ℕ) (b attr : List ℕ) (kind : EntryKind) (num : ℕ) where
  abbrev c : Command
  c = GetEntry attr kind num

  abbrev answer : ℕ → Attribute → Entry → Answer
  answer i a entry = Go (content b) (entry_reply entry)

  pub refused_for : (reason : Reason) → IsRefusedFor b attr kind reason → Answers limit b c (Refused reason) b
  refused_for NoSuchAttr none = refused limit b c NoSuchAttr (ap ByStep (no_attribute (content b) attr kind num answer none))
  refused_for WrongScope is = refused limit b c WrongScope (ap ByStep (wrong_scope (content b) attr kind num answer is.number is.own is.named is.wrong))
  refused_for other h = absurd h

  module _ {n : ℕ} {chain : Chain} (good : Good b) (found : FindsChain b attr kind n chain) (entries : KnownEntries) (of : entries.chain ≡ chain) (knows : KnowsEntries b entries) where
    pub is_missing : None ≡ option_and_then (λ i. slice_get entries.places i) (position (λ m. m == num) entries.numbers) → Answers limit b c (Refused NoSuchEntry) b
    is_missing none = refused limit b c NoSuchEntry (ap ByStep (no_entry (content b) attr kind num answer n (attribute_of b found.own) found.named found.in_scope (is_item good found entries of knows num None none)))

    pub is_shown : length b ≤ limit → (place : ℕ) → Some place ≡ option_and_then (λ i. slice_get entries.places i) (position (λ m. m == num) entries.numbers) → (reply : Reply) → reply ≡ entry_reply (entry_of b place) → Answers limit b c (Done reply) b
    is_shown fits place is reply shown =
        let goes = ap ByStep (has_entry (content b) attr kind num answer n (attribute_of b found.own) found.named found.in_scope (entry_of b place) (is_item good found entries of knows num (Some place) is)) in
        subst (λ (r : Reply). Answers limit b c (Done r) b) (sym shown) (gone limit b c (content b) (entry_reply (entry_of b place)) b goes (omega arith) (reading_follows b c (entry_reply (entry_of b place)) refl goes good))
