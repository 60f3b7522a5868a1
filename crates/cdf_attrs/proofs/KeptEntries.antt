-- The entries of chains that are kept: with those of one chain taken out, and with more.
use Rattle.cdf_attrs.proofs.Common.{Attrs, Bool, Chain, KnownEntries, List, Option, Some, [], ap, false, if◌then◌else◌, inl, inr, length, position, refl, remove, sym, take, true, ℕ, ◌++◌, ◌<◌, ◌∙◌, ◌∷◌, ◌≡◌}
use Rattle.cdf_attrs.specs.Known.{is_same_chain}
use Rattle.std.proofs.Common.{drop, suc}
use Rattle.std.proofs.lemmas.List.Elements.{All-append, All-contains_itself, All-drop, All-filter, All-push, All-same, All-take, All-weaker, filter_passes}
use Rattle.std.proofs.lemmas.List.Quantifiers.{position-Some}
use Rattle.std.specs.Prelude.{All, Contains, filter, not, slice_index_or, ◌⊎◌}

-- what is left of entries is of them
pub contains_removed : (old : List KnownEntries) (i : ℕ) (new : List KnownEntries) → new ≡ remove old i → All (Contains old) new
contains_removed old i new is =
    All-same (Contains old) new (remove old i) is
    (All-append (Contains old) (take i old) (drop (suc i) old) (All-take (Contains old) i old (All-contains_itself old)) (All-drop (Contains old) (suc i) old (All-contains_itself old)))

-- the first of a chain, at the index that a search found
module _ (chain : Chain) {xs ys : List KnownEntries} {r : Option ℕ} {i : ℕ} (found : r ≡ position (λ e. is_same_chain e.chain chain) ys) (same : ys ≡ xs) (is : r ≡ Some i) where
  there : (d : KnownEntries) → (i < length xs) × (is_same_chain (slice_index_or xs i d).chain chain ≡ true)
  there d =
      let at = position-Some (λ (e : KnownEntries). is_same_chain e.chain chain) xs i d (ap (position (λ (e : KnownEntries). is_same_chain e.chain chain)) (sym same) ∙ sym found ∙ is) in
      (at.0, at.1)

  pub first_within : i < length xs
  first_within = (there (record { chain = Attrs; numbers = []; places = [] })).0

  pub first_taken : (taken : KnownEntries) → taken ≡ slice_index_or xs i taken → (is_same_chain taken.chain chain ≡ true) × Contains xs taken
  first_taken taken value = (ap (λ (e : KnownEntries). is_same_chain e.chain chain) value ∙ (there taken).1, (i, first_within, sym value))

not_true : (p : Bool) → not p ≡ true → p ≡ false
not_true true e = absurd cc
not_true false e = refl

pub others_left : (chain : Chain) (old mid new : List KnownEntries) → All (Contains old) mid → new ≡ filter (λ e. not (is_same_chain e.chain chain)) mid → All (λ e. (is_same_chain e.chain chain ≡ false) × Contains old e) new
others_left chain old mid new left is =
    let test = λ (e : KnownEntries). not (is_same_chain e.chain chain) in
    All-same (λ e. (is_same_chain e.chain chain ≡ false) × Contains old e) new (filter test mid) is
    (λ k d lt. (not_true _ (filter_passes test mid k d lt), All-filter test (Contains old) mid left k d lt))

-- each is of another chain, and was there before
module _ (chain : Chain) (old new : List KnownEntries) (all : All (λ e. (is_same_chain e.chain chain ≡ false) × Contains old e) new) where
  pub others_apart : All (λ e. is_same_chain e.chain chain ≡ false) new
  others_apart k d lt = (all k d lt).0

  pub others_among : All (Contains old) new
  others_among k d lt = (all k d lt).1

pub with_one : (old mid new : List KnownEntries) (kept : Bool) (own : KnownEntries) → All (Contains old) mid → new ≡ (if kept then mid ++ own ∷ [] else mid) → All (λ e. (e ≡ own) ⊎ Contains old e) new
with_one old mid new kept own left is = All-same (λ e. (e ≡ own) ⊎ Contains old e) new (if kept then mid ++ own ∷ [] else mid) is (either_way kept)
  where
    among : All (λ e. (e ≡ own) ⊎ Contains old e) mid
    among = All-weaker (Contains old) (λ e. (e ≡ own) ⊎ Contains old e) (λ e c. inr c) mid left

    either_way : (p : Bool) → All (λ e. (e ≡ own) ⊎ Contains old e) (if p then mid ++ own ∷ [] else mid)
    either_way true = All-push (λ e. (e ≡ own) ⊎ Contains old e) mid own among (inl refl)
    either_way false = among
