-- The numbers of the entries of a chain, as they are read; what is known of a chain that is read.
use Rattle.cdf_attrs.proofs.Common.{Chain, Good, In, IsOfAttribute, KnowsEntries, List, [], add-one, aedr_num, ap, arith, entry_bytes, get_or, length, map, map-append, members_of, number, subst, sym, take, take-suc, ℕ, ◌++◌, ◌+◌, ◌<◌, ◌∙◌, ◌∷◌, ◌≡◌, ◌≤◌}
use Rattle.cdf_attrs.proofs.AttributeChain.{index_in}
use Rattle.cdf_attrs.proofs.AttributesRead.{take_all}
use Rattle.cdf_attrs.proofs.EntryChains.{entry_inside}

abbrev pub numbers_at : List ℕ → List ℕ → List ℕ
numbers_at b places = map (λ aedr. number b aedr aedr_num) places

pub next_number : (b places : List ℕ) (i : ℕ) → i < length places → (numbers numbers' : List ℕ) (n : ℕ) → numbers ≡ numbers_at b (take i places) → n ≡ number b (get_or places i 0) aedr_num → numbers' ≡ numbers ++ n ∷ [] → numbers' ≡ numbers_at b (take (i + 1) places)
next_number b places i lt numbers numbers' n is read added =
    let more : take (i + 1) places ≡ take i places ++ get_or places i 0 ∷ [] = ap (λ (k : ℕ). take k places) (add-one i) ∙ take-suc places i 0 lt in
    added ∙ (λ j. is j ++ read j ∷ []) ∙ sym (map-append (λ (aedr : ℕ). number b aedr aedr_num) (take i places) (get_or places i 0 ∷ [])) ∙ ap (numbers_at b) (sym more)

pub all_numbers : (b places : List ℕ) (i : ℕ) (numbers : List ℕ) → numbers ≡ numbers_at b (take i places) → i ≡ length places → numbers ≡ numbers_at b places
all_numbers b places i numbers is all = is ∙ ap (numbers_at b) (take_all places i all)

pub places_inside : (b now : List ℕ) → Good b → (c : Chain) → IsOfAttribute b c → now ≡ b → (places : List ℕ) → places ≡ members_of b c → (i : ℕ) → i < length places → get_or places i 0 + 56 ≤ length now
places_inside b now good c of same places are i lt =
    let m = get_or places i 0 in
    let inside = entry_inside b good c of m (subst (In m) are (index_in places i lt)) in
    let long : length now ≡ length b = ap (λ (x : List ℕ). length x) same in
    reach (entry_bytes b m) inside long
  where
    reach : (n : ℕ) → get_or places i 0 + (56 + n) ≤ length b → length now ≡ length b → get_or places i 0 + 56 ≤ length now
    reach n fits long = omega arith

pub entries_known : (b : List ℕ) (c : Chain) (numbers places : List ℕ) → places ≡ members_of b c → numbers ≡ numbers_at b places → KnowsEntries b (record { chain = c; numbers = numbers; places = places })
entries_known b c numbers places are named = record { places_are = are; numbers_are = named }
