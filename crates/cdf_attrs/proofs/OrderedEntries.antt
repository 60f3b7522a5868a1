-- The entries of a chain in the order of their numbers, in whichever order the chain has them.
use Rattle.cdf_attrs.proofs.Common.{AllByRecursion, Distinct, Entry, In, List, None, Option, Some, [], aedr_num, ap, arith, cond, entry_of, eqb, inl, inr, item_at, map, number, nums, option_map, refl, subst, suc, sym, with_item, ℕ, ◌+◌, ◌∙◌, ◌∷◌, ◌≡◌, ◌≢◌, ◌≤◌, slice_get, eq-eqb, ne_eqb}
use Rattle.cdf_attrs.specs.Known.{with_numbers}
use Rattle.cdf_attrs.specs.Showing.{numbered_entry}
use Rattle.cdf_edits.proofs.Common.{cases_eq}
use Rattle.cdf_edits.proofs.Edits.NumberedItems.{Rising, none, one, rising_with}
use Rattle.cdf_edits.proofs.Edits.NumberedLookup.{item_beside, item_here, item_later, item_with, same_items}
use Rattle.cdf_format.specs.Content.{entries_of}
use Rattle.std.proofs.lemmas.List.Elements.{All-from_recursion, recursion_from_All}
use Rattle.std.proofs.lemmas.List.Sorted.{All-permutation, IsPermutation-sym, sum_by-IsPermutation}
use Rattle.std.proofs.lemmas.List.Sums.{sum_by-cons}
use Rattle.std.proofs.lemmas.Option.{get_or_from_slice_get, none-some, slice_get-map, slice_get_within}
use Rattle.std.specs.List.{sum_by}
use Rattle.std.specs.List.Sorted.{IsNonDecreasingBy, IsPermutation}

-- how many have a number
abbrev hits : ℕ → List (ℕ × ℕ) → ℕ
hits n es = sum_by (λ e. cond (eqb e.0 n) 1 0) es

hits_more : (n : ℕ) (e : ℕ × ℕ) (es : List (ℕ × ℕ)) → hits n (e ∷ es) ≡ cond (eqb e.0 n) 1 0 + hits n es
hits_more n e es = sum_by-cons (λ x. cond (eqb x.0 n) 1 0) e es

hits_here : (n : ℕ) (e : ℕ × ℕ) (es : List (ℕ × ℕ)) → e.0 ≡ n → hits n (e ∷ es) ≡ 1 + hits n es
hits_here n e es is = hits_more n e es ∙ ap (λ t. cond t 1 0 + hits n es) (eq-eqb e.0 n is)

hits_not_here : (n : ℕ) (e : ℕ × ℕ) (es : List (ℕ × ℕ)) → e.0 ≢ n → hits n (e ∷ es) ≡ 0 + hits n es
hits_not_here n e es ne = hits_more n e es ∙ ap (λ t. cond t 1 0 + hits n es) (ne_eqb e.0 n ne)

hits_behind : (n : ℕ) (e : ℕ × ℕ) (es : List (ℕ × ℕ)) → hits n es ≤ hits n (e ∷ es)
hits_behind n e es = elim (cases_eq e.0 n) [ inl is ↦ omega (arith, hits_here n e es is) | inr ne ↦ omega (arith, hits_not_here n e es ne) ]

module _ (b : List ℕ) where
  abbrev num : ℕ → ℕ
  num m = number b m aedr_num

  abbrev shown : List (ℕ × ℕ) → List (ℕ × Entry)
  shown es = map (numbered_entry b) es

  -- ---- each has its number alone

  none_hit : (n : ℕ) (ms : List ℕ) → (In n (nums b ms) → ⊥) → hits n (with_numbers b ms) ≡ 0
  none_hit n [] out = refl
  none_hit n (m ∷ ms) out = let rest = none_hit n ms (λ i. out (inr i)) in omega (arith, hits_not_here n (num m, m) (with_numbers b ms) (λ is. out (inl (sym is))))

  one_hit : (n : ℕ) (ms : List ℕ) → Distinct (nums b ms) → hits n (with_numbers b ms) ≤ 1
  one_hit n [] d = omega arith
  one_hit n (m ∷ ms) d = elim (cases_eq (num m) n) [
    | inl is ↦ let rest = none_hit n ms (subst (λ (x : ℕ). In x (nums b ms) → ⊥) is d.0) in omega (arith, hits_here n (num m, m) (with_numbers b ms) is)
    | inr ne ↦ let rest = one_hit n ms d.1 in omega (arith, hits_not_here n (num m, m) (with_numbers b ms) ne)
  ]

  -- so where they do not fall, they rise
  rising_from : (low : ℕ) (e : ℕ × ℕ) (es : List (ℕ × ℕ)) → low ≤ e.0 → ((n : ℕ) → hits n (e ∷ es) ≤ 1) → IsNonDecreasingBy (λ x. x.0) (e ∷ es) → Rising low (shown (e ∷ es))
  rising_from low e [] le few rise = one le none
  rising_from low e (f ∷ es) le few rise =
      let next : e.0 ≤ f.0 = rise 0 1 e (omega arith) (omega arith) in
      let apart : e.0 ≢ f.0 = λ is. let two = few f.0 in absurd (omega (arith, hits_here f.0 e (f ∷ es) is, hits_here f.0 f es refl)) in
      one le (rising_from (e.0 + 1) f es (omega arith) (λ n. let some = few n in omega (arith, hits_behind n e (f ∷ es))) (λ i j d below within. rise (suc i) (suc j) d (omega arith) (omega arith)))

  rising_all : (es : List (ℕ × ℕ)) → ((n : ℕ) → hits n es ≤ 1) → IsNonDecreasingBy (λ x. x.0) es → Rising 0 (shown es)
  rising_all [] few rise = none
  rising_all (e ∷ es) few rise = rising_from 0 e es (omega arith) few rise

  rising_entries : (ms : List ℕ) → Rising 0 (entries_of b ms)
  rising_entries [] = none
  rising_entries (m ∷ ms) = rising_with 0 (num m) (entry_of b m) (entries_of b ms) (omega arith) (rising_entries ms)

  -- ---- what a number has

  abbrev Has : List (ℕ × Entry) → ℕ × ℕ → Type 0
  Has items e = item_at e.0 items ≡ Some (entry_of b e.1)

  has_more : (n : ℕ) (a : Entry) (items : List (ℕ × Entry)) (ms : List ℕ) → (In n (nums b ms) → ⊥) → AllByRecursion (Has items) (with_numbers b ms) → AllByRecursion (Has (with_item n a items)) (with_numbers b ms)
  has_more n a items [] out all = tt
  has_more n a items (m ∷ ms) out all = (item_beside (num m) n a items (λ is. out (inl is)) ∙ all.0, has_more n a items ms (λ i. out (inr i)) all.1)

  all_had : (ms : List ℕ) → Distinct (nums b ms) → AllByRecursion (Has (entries_of b ms)) (with_numbers b ms)
  all_had [] d = tt
  all_had (m ∷ ms) d = (item_with (num m) (entry_of b m) (entries_of b ms), has_more (num m) (entry_of b m) (entries_of b ms) ms d.0 (all_had ms d.1))

  some_had : (items : List (ℕ × Entry)) (es : List (ℕ × ℕ)) → AllByRecursion (Has items) es → (k : ℕ) (a : Entry) → item_at k (shown es) ≡ Some a → item_at k items ≡ Some a
  some_had items [] all k a is = absurd (none-some a is)
  some_had items (e ∷ es) all k a is = elim (cases_eq e.0 k) [
    | inl same ↦
        let own : item_at e.0 (shown (e ∷ es)) ≡ Some a = ap (λ (x : ℕ). item_at x (shown (e ∷ es))) same ∙ is in
        subst (λ (x : ℕ). item_at x items ≡ Some a) same (all.0 ∙ sym (item_here e.0 (entry_of b e.1) (shown es)) ∙ own)
    | inr other ↦ some_had items es all.1 k a (sym (item_later k e.0 (entry_of b e.1) (shown es) other) ∙ is)
  ]

  abbrev IsMet : List (ℕ × ℕ) → ℕ × ℕ → Type 0
  IsMet es e = item_at e.0 (shown es) ≡ None → ⊥

  met_more : (e : ℕ × ℕ) (es fs : List (ℕ × ℕ)) → AllByRecursion (IsMet es) fs → AllByRecursion (IsMet (e ∷ es)) fs
  met_more e es [] all = tt
  met_more e es (f ∷ fs) all = (
    λ gone. elim (cases_eq e.0 f.0) [
      | inl same ↦ none-some (entry_of b e.1) (sym gone ∙ ap (λ (x : ℕ). item_at x (shown (e ∷ es))) (sym same) ∙ item_here e.0 (entry_of b e.1) (shown es))
      | inr other ↦ all.0 (sym (item_later f.0 e.0 (entry_of b e.1) (shown es) other) ∙ gone)
    ],
    met_more e es fs all.1,
  )

  all_met : (es : List (ℕ × ℕ)) → AllByRecursion (IsMet es) es
  all_met [] = tt
  all_met (e ∷ es) = (λ gone. none-some (entry_of b e.1) (sym gone ∙ item_here e.0 (entry_of b e.1) (shown es)), met_more e es es (all_met es))

  none_had : (es : List (ℕ × ℕ)) (ms : List ℕ) → AllByRecursion (IsMet es) (with_numbers b ms) → (k : ℕ) → item_at k (shown es) ≡ None → item_at k (entries_of b ms) ≡ None
  none_had es [] all k gone = refl
  none_had es (m ∷ ms) all k gone = elim (cases_eq (num m) k) [
    | inl same ↦ absurd (all.0 (ap (λ (x : ℕ). item_at x (shown es)) same ∙ gone))
    | inr other ↦ item_beside k (num m) (entry_of b m) (entries_of b ms) other ∙ none_had es ms all.1 k gone
  ]

  -- ---- they are those that the chain means

  pub in_order : (ms : List ℕ) (es : List (ℕ × ℕ)) → Distinct (nums b ms) → IsPermutation (with_numbers b ms) es → IsNonDecreasingBy (λ x. x.0) es → shown es ≡ entries_of b ms
  in_order ms es d all rise =
      let few : (n : ℕ) → hits n es ≤ 1 = λ n. let one = one_hit n ms d in omega (arith, sum_by-IsPermutation (λ e. cond (eqb e.0 n) 1 0) (with_numbers b ms) es all) in
      let had = recursion_from_All (Has (entries_of b ms)) es (All-permutation (Has (entries_of b ms)) (with_numbers b ms) es all (All-from_recursion (Has (entries_of b ms)) (with_numbers b ms) (all_had ms d))) in
      let met = recursion_from_All (IsMet es) (with_numbers b ms) (All-permutation (IsMet es) es (with_numbers b ms) (IsPermutation-sym (with_numbers b ms) es all) (All-from_recursion (IsMet es) es (all_met es))) in
      same_items 0 0 (shown es) (entries_of b ms) (rising_all es few rise) (rising_entries ms) (λ k. by k had met (item_at k (shown es)) refl)
    where
      by : (k : ℕ) → AllByRecursion (Has (entries_of b ms)) es → AllByRecursion (IsMet es) (with_numbers b ms) → (o : Option Entry) → item_at k (shown es) ≡ o → item_at k (shown es) ≡ item_at k (entries_of b ms)
      by k had met (Some a) is = is ∙ sym (some_had (entries_of b ms) es had k a is)
      by k had met None is = is ∙ sym (none_had es ms met k is)

  -- the one at an index
  pub at_index : (ms : List ℕ) (es : List (ℕ × ℕ)) → Distinct (nums b ms) → IsPermutation (with_numbers b ms) es → IsNonDecreasingBy (λ x. x.0) es → (i : ℕ) → option_map (numbered_entry b) (slice_get es i) ≡ slice_get (entries_of b ms) i
  at_index ms es d all rise i = sym (slice_get-map (numbered_entry b) es i) ∙ ap (λ (items : List (ℕ × Entry)). slice_get items i) (in_order ms es d all rise)

  -- ---- they stand in the chain

  stand : (ms more : List ℕ) → ((m : ℕ) → In m more → In m ms) → AllByRecursion (λ (e : ℕ × ℕ). In e.1 ms) (with_numbers b more)
  stand ms [] within = tt
  stand ms (m ∷ more) within = (within m (inl refl), stand ms more (λ x i. within x (inr i)))

  pub stand_in : (ms : List ℕ) (es : List (ℕ × ℕ)) → IsPermutation (with_numbers b ms) es → (i : ℕ) (e : ℕ × ℕ) → slice_get es i ≡ Some e → In e.1 ms
  stand_in ms es all i e is =
      let every = All-permutation (λ (x : ℕ × ℕ). In x.1 ms) (with_numbers b ms) es all (All-from_recursion (λ (x : ℕ × ℕ). In x.1 ms) (with_numbers b ms) (stand ms ms (λ m j. j))) in
      subst (λ (x : ℕ × ℕ). In x.1 ms) (get_or_from_slice_get es i e e is) (every i e (slice_get_within es i e is))
