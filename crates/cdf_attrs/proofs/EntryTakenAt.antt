-- An entry at an index of its chain: what of the chain is before it and without it, and what calls ask for that take it out.
use Rattle.cdf_attrs.proofs.Common.{All, AttributeShape, Chain, Cut, Distinct, EntryKind, FitsSigned, Good, In, IsEntryOf, IsOfAttribute, KnownEntries, KnowsEntries, List, None, Some, [], aedr_num, ap, ap₂, arith, before, cast_signed, cast_unsigned, cut, entries_chain, eq-eqb, eqb-true, get_or, get_or-map, got-middle, image_limit, inl, inr, ints, last_or, length, length-map, map, members_of, ne_eqb, number, of_z-to_z, pos, position, position-Some, record_number_limit, refl, remove, same_Some, shape, signed_limit, slice_get, slice_get_within, slice_index, slice_set, subst, suc, sym, take, with_in_place, zero, ℕ, ◌++◌, ◌+◌, ◌<◌, ◌==◌, ◌∙◌, ◌∷◌, ◌≡◌, ◌≤◌}
use Rattle.std.proofs.Common.{slice_index_or, w32}
use Rattle.std.proofs.lemmas.List.Edits.{length-remove}
use Rattle.cdf_edits.specs.Space.Chains.{without}
use Rattle.cdf_attrs.proofs.AttributeChain.{index_in}
use Rattle.cdf_attrs.proofs.EntryChains.{entry_number, chain_there, few_entries}

-- ---- lists

-- what is before the one at an index, what is left without it, and another one in its place
pub at_index : (xs : List ℕ) (i by : ℕ) → i < length xs → Distinct xs → (before (slice_index xs i) xs ≡ take i xs) × (without (slice_index xs i) xs ≡ remove xs i) × (with_in_place (slice_index xs i) by xs ≡ slice_set xs i by)
at_index [] i by lt d = absurd (omega arith)
at_index (x ∷ xs) zero by lt d = rw (eq-eqb x x refl) (refl, refl, refl)
at_index (x ∷ xs) (suc i) by lt d =
    let j = index_in xs i (omega arith) in
    let r = at_index xs i by (omega arith) d.1 in
    rw (ne_eqb x (slice_index xs i) (λ e. d.0 (subst (λ (y : ℕ). In y xs) (sym e) j))) (ap (λ (ys : List ℕ). x ∷ ys) r.0, ap (λ (ys : List ℕ). x ∷ ys) r.1, ap (λ (ys : List ℕ). x ∷ ys) r.2)

pub map-remove : (f : ℕ → ℕ) (xs : List ℕ) (i : ℕ) → i < length xs → remove (map f xs) i ≡ map f (remove xs i)
map-remove f [] i lt = absurd (omega arith)
map-remove f (x ∷ xs) zero lt = refl
map-remove f (x ∷ xs) (suc i) lt = ap (λ (r : List ℕ). f x ∷ r) (map-remove f xs i (omega arith))

pub remove_in : (xs : List ℕ) (i x : ℕ) → In x (remove xs i) → In x xs
remove_in [] zero x j = j
remove_in [] (suc i) x j = j
remove_in (y ∷ xs) zero x j = inr j
remove_in (y ∷ xs) (suc i) x j = elim j [ inl e ↦ inl e | inr k ↦ inr (remove_in xs i x k) ]

pub index_same : (xs : List ℕ) (i d : ℕ) → i < length xs → slice_index_or xs i d ≡ slice_index xs i
index_same [] i d lt = absurd (omega arith)
index_same (x ∷ xs) zero d lt = refl
index_same (x ∷ xs) (suc i) d lt = index_same xs i d (omega arith)

pub all_from : (P : ℕ → Type 0) (xs : List ℕ) → ((x : ℕ) → In x xs → P x) → All P xs
all_from P xs each k d lt = subst P (sym (index_same xs k d lt)) (each (slice_index xs k) (index_in xs k lt))

pub from_map : (f : ℕ → ℕ) (xs : List ℕ) (n : ℕ) → In n (map f xs) → (x : ℕ) × (In x xs × (n ≡ f x))
from_map f [] n i = absurd i
from_map f (x ∷ xs) n (inl e) = (x, (inl refl, e))
from_map f (x ∷ xs) n (inr i) = let r = from_map f xs n i in (r.0, (inr r.1.0, r.1.1))

-- ---- the attribute of a chain

module _ {b : List ℕ} {chain : Chain} (of : IsOfAttribute b chain) where
  abbrev pub parts : Cut (shape b).attributes of.number
  parts = cut (shape b).attributes of.number (slice_get_within (shape b).attributes of.number of.own of.stands)

  own_is : parts.own ≡ of.own
  own_is = same_Some parts.own of.own (sym (ap₂ (λ (as_ : List AttributeShape) (k : ℕ). slice_get as_ k) parts.is (sym parts.count) ∙ got-middle parts.before parts.own parts.after) ∙ of.stands)

  pub cut_is : (shape b).attributes ≡ parts.before ++ of.own ∷ parts.after
  cut_is = parts.is ∙ ap (λ (a : AttributeShape). parts.before ++ a ∷ parts.after) own_is

-- ---- the entries of a chain

module _ {b : List ℕ} (good : Good b) {chain : Chain} (of : IsOfAttribute b chain) (entries : KnownEntries) (is : entries.chain ≡ chain) (knows : KnowsEntries b entries) where
  pub places_are : entries.places ≡ members_of b chain
  places_are = knows.places_are ∙ ap (members_of b) is

  pub once : Distinct entries.places
  once = subst Distinct (sym places_are) (chain_there b good chain of).once

  pub as_long : length entries.numbers ≡ length entries.places
  as_long = ap (λ (xs : List ℕ). length xs) knows.numbers_are ∙ length-map entries.places (λ aedr. number b aedr aedr_num)

  -- the entry of a number
  pub numbered_at : (num i : ℕ) → position (λ n. n == num) entries.numbers ≡ Some i → (i < length entries.places) × (number b (slice_index entries.places i) aedr_num ≡ num)
  numbered_at num i at =
      let here = position-Some (λ n. n == num) entries.numbers i 0 at in
      let long = as_long in
      let within : i < length entries.places = let lt = here.0 in omega arith in
      (within, sym (get_or-map (λ aedr. number b aedr aedr_num) entries.places i 0 0 within) ∙ ap (λ (xs : List ℕ). get_or xs i 0) (sym knows.numbers_are) ∙ eqb-true _ _ here.1)

  -- no number is too great
  pub small : (n : ℕ) → In n entries.numbers → n ≤ record_number_limit
  small n i =
      let from = from_map (λ aedr. number b aedr aedr_num) entries.places n (subst (In n) knows.numbers_are i) in
      subst (λ (x : ℕ). x ≤ record_number_limit) (sym from.1.1) (entry_number b good chain of from.0 (subst (In from.0) places_are from.1.0))

  module _ (i : ℕ) (within : i < length entries.places) where
    pub left_small : (n : ℕ) → In n (remove entries.numbers i) → n ≤ signed_limit
    left_small n j = let le = small n (remove_in entries.numbers i n j) in omega arith

    pub left_count : length (remove entries.numbers i) + 1 ≡ length entries.places
    left_count = length-remove entries.numbers i (let e = as_long in omega arith) ∙ as_long

    pub left_fits : length b ≤ image_limit → FitsSigned w32 (pos (length (remove entries.numbers i)))
    left_fits short =
        let few = few_entries b good chain of in
        let same = ap (λ (xs : List ℕ). length xs) places_are in
        let count = left_count in
        omega (arith, ints)

    -- as it is written
    pub left_written : length b ≤ image_limit → cast_unsigned w32 (cast_signed w32 (length (remove entries.numbers i))) ≡ length (remove entries.numbers i)
    left_written short =
        let few = few_entries b good chain of in
        let same = ap (λ (xs : List ℕ). length xs) places_are in
        let count = left_count in
        let n = length (remove entries.numbers i) in
        of_z-to_z w32 n (omega arith)

    pub stands_behind : last_or None (take i entries.places) ≡ last_or None (before (slice_index entries.places i) (members_of b chain))
    stands_behind = ap (last_or None) (sym (at_index entries.places i 0 within once).0) ∙ ap (λ (ms : List ℕ). last_or None (before (slice_index entries.places i) ms)) places_are

-- an entry of a chain is of one of an attribute
pub of_entry : {b : List ℕ} {kind : EntryKind} {adr place : ℕ} → IsEntryOf b kind adr place → IsOfAttribute b (entries_chain kind adr)
of_entry {kind = kind} i = record {
  number = length i.before;
  own = i.own;
  stands = ap (λ (as_ : List AttributeShape). slice_get as_ (length i.before)) i.stands ∙ got-middle i.before i.own i.after;
  kind = kind;
  chain_is = ap (entries_chain kind) (sym i.adr_is);
}
