-- An index of which one leaf has another place, and may be packed: its ranges, Firsts, entries, widths and top chain stay.
use Rattle.cdf_puts.proofs.Common.{Ascending, Each, Each-split, Entries, IsOneOf, Leaf, List, Nodes, Range, Some, [], ap, arith, block, covers, each_of, either, entry_count, eqb-true, find, find_covering, in_order, inl, inr, length, lower, map-append, nat_tests, no_entry, no_node, node, range, ranges_of, record_number_limit, refl, same_Some, suc, sym, top_chain, ℕ, ◌++◌, ◌+◌, ◌==◌, ◌∙◌, ◌∷◌, ◌≡◌, ◌≤◌}
use Rattle.std.proofs.Common.{ap₂}
unfoldable use Rattle.cdf_puts.proofs.Common.{entries_below, entries_in, entry_firsts, firsts_of, widest, widest_below}
unfoldable use Rattle.cdf_edits.specs.Index.Grown.{with_place, with_place_in}
unfoldable use Rattle.cdf_format.specs.Index.{entry_leaves, leaves_of}
use Rattle.cdf_puts.proofs.CoveringRanges.{of_leaves}
use Rattle.cdf_puts.proofs.PutBytes.{found_covering}

module _ (new : Leaf) where
  -- ---- the Firsts

  mutual
    unfolding firsts_of entry_firsts with_place with_place_in

    pub firsts_stay : (ns : Nodes) → firsts_of (with_place new ns) ≡ firsts_of ns
    firsts_stay no_node = refl
    firsts_stay (node place room es more) = rw (firsts_stay_in es, firsts_stay more) refl

    firsts_stay_in : (es : Entries) → entry_firsts (with_place_in new es) ≡ entry_firsts es
    firsts_stay_in no_entry = refl
    firsts_stay_in (block f t p k es) = grind (arith, nat_tests, firsts_stay_in es)
    firsts_stay_in (lower f t ns es) = rw (firsts_stay_in es, firsts_stay ns) refl

  -- ---- the used entries, and how wide the nodes are

  count_stays : (es : Entries) → entry_count (with_place_in new es) ≡ entry_count es
  unfolding with_place_in
  count_stays no_entry = refl
  count_stays (block f t p k es) = grind (arith, nat_tests, count_stays es)
  count_stays (lower f t ns es) = grind (arith, count_stays es)

  mutual
    unfolding entries_in entries_below with_place with_place_in

    pub entries_stay : (ns : Nodes) → entries_in (with_place new ns) ≡ entries_in ns
    entries_stay no_node = refl
    entries_stay (node place room es more) = omega (arith, count_stays es, entries_stay_in es, entries_stay more)

    entries_stay_in : (es : Entries) → entries_below (with_place_in new es) ≡ entries_below es
    entries_stay_in no_entry = refl
    entries_stay_in (block f t p k es) = grind (arith, nat_tests, entries_stay_in es)
    entries_stay_in (lower f t ns es) = omega (arith, entries_stay ns, entries_stay_in es)

  mutual
    unfolding widest widest_below with_place with_place_in

    pub widest_stays : (ns : Nodes) → widest (with_place new ns) ≡ widest ns
    widest_stays no_node = refl
    widest_stays (node place room es more) = rw (widest_stays_in es, widest_stays more) refl

    widest_stays_in : (es : Entries) → widest_below (with_place_in new es) ≡ widest_below es
    widest_stays_in no_entry = refl
    widest_stays_in (block f t p k es) = grind (arith, nat_tests, widest_stays_in es)
    widest_stays_in (lower f t ns es) = rw (widest_stays_in es, widest_stays ns) refl

  -- ---- the top chain

  pub top_stays_placed : (ns : Nodes) → top_chain (with_place new ns) ≡ top_chain ns
  unfolding with_place
  top_stays_placed no_node = refl
  top_stays_placed (node place room es more) = ap (λ (xs : List ℕ). place ∷ xs) (top_stays_placed more)

  -- ---- the ranges, where no other Last stands beside its First

  abbrev Ends : Leaf → Type 0
  Ends l = l.first ≡ new.first → l.last ≡ new.last

  both_of : (xs xs' ys ys' : List Leaf) → of_leaves xs ≡ of_leaves xs' → of_leaves ys ≡ of_leaves ys' → of_leaves (xs ++ ys) ≡ of_leaves (xs' ++ ys')
  both_of xs xs' ys ys' e f = map-append (λ (l : Leaf). range l.first l.last) xs ys ∙ ap₂ (λ (rs ss : List Range). rs ++ ss) e f ∙ sym (map-append (λ (l : Leaf). range l.first l.last) xs' ys')

  mutual
    unfolding leaves_of entry_leaves with_place with_place_in

    ranges_stay_by : (ns : Nodes) → Each Ends (leaves_of ns) → of_leaves (leaves_of (with_place new ns)) ≡ of_leaves (leaves_of ns)
    ranges_stay_by no_node e = refl
    ranges_stay_by (node place room es more) e =
        let s = Each-split Ends (entry_leaves es) (leaves_of more) e in
        both_of (entry_leaves (with_place_in new es)) (entry_leaves es) (leaves_of (with_place new more)) (leaves_of more) (ranges_stay_in es s.0) (ranges_stay_by more s.1)

    ranges_stay_in : (es : Entries) → Each Ends (entry_leaves es) → of_leaves (entry_leaves (with_place_in new es)) ≡ of_leaves (entry_leaves es)
    ranges_stay_in no_entry e = refl
    ranges_stay_in (block f t p k es) e = elim (either (f == new.first)) [
      | inl q ↦ (let same : f ≡ new.first = eqb-true f new.first q in rw q (ap₂ (λ (x y : ℕ). range x y ∷ of_leaves (entry_leaves es)) (sym same) (sym (e.0 same))))
      | inr q ↦ rw q (ap (λ (rs : List Range). range f t ∷ rs) (ranges_stay_in es e.1))
    ]
    ranges_stay_in (lower f t ns es) e =
        let s = Each-split Ends (leaves_of ns) (entry_leaves es) e in
        both_of (leaves_of (with_place new ns)) (leaves_of ns) (entry_leaves (with_place_in new es)) (entry_leaves es) (ranges_stay_by ns s.0) (ranges_stay_in es s.1)

  -- where it is one of the leaves, which ascend
  module _ (old : Leaf) (ns : Nodes) (a : Ascending 0 (suc record_number_limit) (leaves_of ns)) (one : IsOneOf (leaves_of ns) old) (first_is : new.first ≡ old.first) (last_is : new.last ≡ old.last) where
    same_leaf : (l : Leaf) → IsOneOf (leaves_of ns) l → l.first ≡ new.first → l ≡ old
    same_leaf l i e =
        let order = (in_order 0 (suc record_number_limit) (leaves_of ns) a l i).ordered in
        let order' = (in_order 0 (suc record_number_limit) (leaves_of ns) a old one).ordered in
        same_Some l old (sym (find_covering l.first 0 (suc record_number_limit) (leaves_of ns) a l i (omega arith) order) ∙ find_covering l.first 0 (suc record_number_limit) (leaves_of ns) a old one (omega (arith, e, first_is)) (omega (arith, e, first_is, order')))

    pub ranges_stay : ranges_of (with_place new ns) ≡ ranges_of ns
    ranges_stay = ranges_stay_by ns (each_of Ends (leaves_of ns) (λ l i e. ap (λ (x : Leaf). x.last) (same_leaf l i e) ∙ sym last_is))
