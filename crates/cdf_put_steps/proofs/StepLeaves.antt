-- The leaves of an index before and after the step of one leaf: there is the new one, and all that do not have its record stay.
use Rattle.cdf_edits.proofs.Common.{Act, Bool, Entries, Gave, Leaf, List, Nodes, None, Option, Range, Some, Took, [], ap, arith, block, covers, either, false, inl, inr, leaves_of, lower, ne_eqb, no_entry, no_node, node, range, record_number_limit, refl, same_Some, size_at, subst, suc, sym, true≢false, ℕ, ◌++◌, ◌==◌, ◌∙◌, ◌∷◌, ◌≡◌, ◌≤◌, ◌⊎◌}
unfoldable use Rattle.cdf_format.specs.Index.{entry_leaves}
use Rattle.cdf_edits.proofs.Edits.LeafPieces.{IsOneOf, covers_from, find_covering, in_order}
use Rattle.cdf_edits.proofs.Edits.LeafRecords.{Ascending}
use Rattle.cdf_edits.proofs.Index.OneDescent.{grown_is}
use Rattle.cdf_edits.specs.Commands.PutSteps.{leaf_at, leaf_step}
use Rattle.cdf_edits.specs.Index.Blocks.{firsts_of, new_range}
unfoldable use Rattle.cdf_edits.specs.Index.Grown.{with_place, with_place_in}
use Rattle.cdf_edits.specs.Index.Grown.{with_leaf}
use Rattle.cdf_edits.specs.Index.Written.{block_need, stays_put}
use Rattle.cdf_index.specs.Order.{InOrder}
use Rattle.cdf_model.specs.DataSet.{Variable}
use Rattle.cdf_puts.proofs.LeafCounts.{one_of_leaves}
use Rattle.cdf_puts.proofs.PutBytes.{found_covering}

-- ---- two lists of leaves

one_of_both : (xs ys : List Leaf) (l : Leaf) → IsOneOf (xs ++ ys) l → IsOneOf xs l ⊎ IsOneOf ys l
one_of_both [] ys l i = inr i
one_of_both (x ∷ xs) ys l (inl q) = inl (inl q)
one_of_both (x ∷ xs) ys l (inr i) = elim (one_of_both xs ys l i) [ inl j ↦ inl (inr j) | inr j ↦ inr j ]

one_of_first : (xs ys : List Leaf) (l : Leaf) → IsOneOf xs l → IsOneOf (xs ++ ys) l
one_of_first [] ys l i = absurd i
one_of_first (x ∷ xs) ys l (inl q) = inl q
one_of_first (x ∷ xs) ys l (inr i) = inr (one_of_first xs ys l i)

one_of_second : (xs ys : List Leaf) (l : Leaf) → IsOneOf ys l → IsOneOf (xs ++ ys) l
one_of_second [] ys l i = i
one_of_second (x ∷ xs) ys l i = inr (one_of_second xs ys l i)

-- ---- a block has another place

mutual
  unfolding leaves_of entry_leaves with_place with_place_in

  others_stay : (new l : Leaf) (ns : Nodes) → (l.first == new.first) ≡ false → IsOneOf (leaves_of ns) l → IsOneOf (leaves_of (with_place new ns)) l
  others_stay new l no_node ne i = absurd i
  others_stay new l (node place room es more) ne i = elim (one_of_both (entry_leaves es) (leaves_of more) l i) [
    | inl j ↦ one_of_first (entry_leaves (with_place_in new es)) (leaves_of (with_place new more)) l (others_stay_in new l es ne j)
    | inr j ↦ one_of_second (entry_leaves (with_place_in new es)) (leaves_of (with_place new more)) l (others_stay new l more ne j)
  ]

  others_stay_in : (new l : Leaf) (es : Entries) → (l.first == new.first) ≡ false → IsOneOf (entry_leaves es) l → IsOneOf (entry_leaves (with_place_in new es)) l
  others_stay_in new l no_entry ne i = absurd i
  others_stay_in new l (block f t p k es) ne (inl q) = let other : (f == new.first) ≡ false = ap (λ (y : Leaf). y.first == new.first) q ∙ ne in rw other (inl q)
  others_stay_in new l (block f t p k es) ne (inr i) = elim (either (f == new.first)) [ inl e ↦ rw e (inr i) | inr e ↦ rw e (inr (others_stay_in new l es ne i)) ]
  others_stay_in new l (lower f t ns es) ne i = elim (one_of_both (leaves_of ns) (entry_leaves es) l i) [
    | inl j ↦ one_of_first (leaves_of (with_place new ns)) (entry_leaves (with_place_in new es)) l (others_stay new l ns ne j)
    | inr j ↦ one_of_second (leaves_of (with_place new ns)) (entry_leaves (with_place_in new es)) l (others_stay_in new l es ne j)
  ]

mutual
  unfolding leaves_of entry_leaves with_place with_place_in

  new_or_was : (new l : Leaf) (ns : Nodes) → IsOneOf (leaves_of (with_place new ns)) l → (l ≡ new) ⊎ IsOneOf (leaves_of ns) l
  new_or_was new l no_node i = absurd i
  new_or_was new l (node place room es more) i = elim (one_of_both (entry_leaves (with_place_in new es)) (leaves_of (with_place new more)) l i) [
    | inl j ↦ elim (new_or_was_in new l es j) [ inl q ↦ inl q | inr k ↦ inr (one_of_first (entry_leaves es) (leaves_of more) l k) ]
    | inr j ↦ elim (new_or_was new l more j) [ inl q ↦ inl q | inr k ↦ inr (one_of_second (entry_leaves es) (leaves_of more) l k) ]
  ]

  new_or_was_in : (new l : Leaf) (es : Entries) → IsOneOf (entry_leaves (with_place_in new es)) l → (l ≡ new) ⊎ IsOneOf (entry_leaves es) l
  new_or_was_in new l no_entry i = absurd i
  new_or_was_in new l (block f t p k es) i = elim (either (f == new.first)) [
    | inl e ↦ let j : (new ≡ l) ⊎ IsOneOf (entry_leaves es) l = rw e at i in elim j [ inl q ↦ inl (sym q) | inr m ↦ inr (inr m) ]
    | inr e ↦
        let j : IsOneOf (entry_leaves (block f t p k (with_place_in new es))) l = rw e at i in
        elim j [ inl q ↦ inr (inl q) | inr m ↦ elim (new_or_was_in new l es m) [ inl q ↦ inl q | inr n ↦ inr (inr n) ] ]
  ]
  new_or_was_in new l (lower f t ns es) i = elim (one_of_both (leaves_of (with_place new ns)) (entry_leaves (with_place_in new es)) l i) [
    | inl j ↦ elim (new_or_was new l ns j) [ inl q ↦ inl q | inr k ↦ inr (one_of_first (leaves_of ns) (entry_leaves es) l k) ]
    | inr j ↦ elim (new_or_was_in new l es j) [ inl q ↦ inl q | inr k ↦ inr (one_of_second (leaves_of ns) (entry_leaves es) l k) ]
  ]

-- ---- one step

-- The leaves before and after a step for one record. The new one has it; all others are as they were.
pub record LeavesStep (k : ℕ) (before after : List Leaf) (new : Leaf) : Type 0 where
  pub has : IsOneOf after new
  pub from : new.first ≤ k
  pub upto : k ≤ new.last
  pub stay : (l : Leaf) → IsOneOf before l → covers k (range l.first l.last) ≡ false → IsOneOf after l
  pub was : (l : Leaf) → IsOneOf after l → (l ≡ new) ⊎ IsOneOf before l

module _ (b now : List ℕ) (rle : Bool) (vdr k at : ℕ) (index index' : Nodes) (acts : List Act) (new : Leaf) (order : InOrder 0 record_number_limit index) (ascend : Ascending 0 (suc record_number_limit) (leaves_of index)) (has : leaf_at k index' ≡ Some new) where
  abbrev Is : Option Leaf → Type 0
  Is o = (index', acts) ≡ leaf_step b now rle vdr index o new at

  abbrev leaves : List Leaf
  leaves = leaves_of index

  there : IsOneOf (leaves_of index') new × ((new.first ≤ k) × (k ≤ new.last))
  there = found_covering k (leaves_of index') new has

  step_new : Is None → LeavesStep k leaves (leaves_of index') new
  step_new is =
      let grows : index' ≡ with_leaf new at index = ap (λ (x : Nodes × List Act). x.0) is ∙ ap (λ (x : Nodes × ℕ). x.0) (grown_is new at index) in
      let ones = λ (l : Leaf). one_of_leaves new at 0 record_number_limit index order l in
      record {
        has = there.0;
        from = there.1.0;
        upto = there.1.1;
        stay = λ l i none. subst (λ (x : Nodes). IsOneOf (leaves_of x) l) (sym grows) ((ones l).1 (inr i));
        was = λ l i. (ones l).0 (subst (λ (x : Nodes). IsOneOf (leaves_of x) l) grows i);
      }

  module _ (old : Leaf) (found : leaf_at k index ≡ Some old) (first_is : new.first ≡ old.first) where
    step_still : index' ≡ index → LeavesStep k leaves (leaves_of index') new
    step_still same = record {
      has = there.0;
      from = there.1.0;
      upto = there.1.1;
      stay = λ l i none. subst (λ (x : Nodes). IsOneOf (leaves_of x) l) (sym same) i;
      was = λ l i. inr (subst (λ (x : Nodes). IsOneOf (leaves_of x) l) same i);
    }

    -- another leaf has another First
    other_first : (l : Leaf) → IsOneOf leaves l → covers k (range l.first l.last) ≡ false → (l.first == new.first) ≡ false
    other_first l i none = ne_eqb l.first new.first (λ e.
        let one = found_covering k leaves old found in
        let ordered = (in_order 0 (suc record_number_limit) leaves ascend l i).ordered in
        let ordered' = (in_order 0 (suc record_number_limit) leaves ascend old one.0).ordered in
        let from : old.first ≤ l.first = omega (arith, e, first_is) in
        let upto : l.first ≤ old.last = omega (arith, e, first_is, ordered') in
        let same : l ≡ old = same_Some l old (sym (find_covering l.first 0 (suc record_number_limit) leaves ascend l i (omega arith) ordered) ∙ find_covering l.first 0 (suc record_number_limit) leaves ascend old one.0 from upto) in
        true≢false (sym (covers_from k old one.1.0 one.1.1) ∙ ap (λ (y : Leaf). covers k (range y.first y.last)) (sym same) ∙ none))

    step_placed : index' ≡ with_place new index → LeavesStep k leaves (leaves_of index') new
    step_placed is = record {
      has = there.0;
      from = there.1.0;
      upto = there.1.1;
      stay = λ l i none. subst (λ (x : Nodes). IsOneOf (leaves_of x) l) (sym is) (others_stay new l index (other_first l i none) i);
      was = λ l i. new_or_was new l index (subst (λ (x : Nodes). IsOneOf (leaves_of x) l) is i);
    }

    step_old : Is (Some old) → LeavesStep k leaves (leaves_of index') new
    step_old is = elim (either (stays_put b now rle vdr old new)) [
      | inl e ↦ (let q : (index', acts) ≡ (index, []) = rw e at is in step_still (ap (λ (x : Nodes × List Act). x.0) q))
      | inr e ↦ (let q : (index', acts) ≡ (with_place new index, Took new.place (block_need now vdr new) ∷ Gave old.place (size_at b old.place) ∷ []) = rw e at is in step_placed (ap (λ (x : Nodes × List Act). x.0) q))
    ]

  pub step_leaves : (v : Variable) → range new.first new.last ≡ (elim (leaf_at k index) as (λ x. Range) [ None ↦ new_range v (firsts_of index) k | Some old ↦ range old.first old.last ]) → Is (leaf_at k index) → LeavesStep k leaves (leaves_of index') new
  step_leaves v range_is is = by (leaf_at k index) refl range_is is
    where
      by : (o : Option Leaf) → leaf_at k index ≡ o → range new.first new.last ≡ (elim o as (λ x. Range) [ None ↦ new_range v (firsts_of index) k | Some old ↦ range old.first old.last ]) → Is o → LeavesStep k leaves (leaves_of index') new
      by None e r is = step_new is
      by (Some old) e r is = step_old old e (ap (λ (x : Range). x.first) r) is
