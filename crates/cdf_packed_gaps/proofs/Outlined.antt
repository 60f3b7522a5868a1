-- An index but for where its new nodes and its blocks stand: it has the same ranges, Firsts and entries, and its nodes are as wide.
use Rattle.std.proofs.Common.{ap₂}
use Rattle.cdf_puts.proofs.Common.{Entries, Leaf, List, Nodes, Range, ap, block, entry_count, lower, map-append, max, no_entry, no_node, node, range, refl, suc, sym, ℕ, ◌++◌, ◌+◌, ◌∙◌, ◌∷◌, ◌≡◌}
unfoldable use Rattle.cdf_edits.specs.Commands.Room.{entries_below, entries_in, widest, widest_below}
unfoldable use Rattle.cdf_edits.specs.Index.Blocks.{entry_firsts, firsts_of}
unfoldable use Rattle.cdf_edits.specs.Index.Grown.{entries_outline, outline}
unfoldable use Rattle.cdf_format.specs.Index.{entry_leaves, leaves_of}
use Rattle.cdf_puts.proofs.CoveringRanges.{of_leaves}

module _ (news : List ℕ) where
  ranges_both : (xs ys xs' ys' : List Leaf) → of_leaves xs ≡ of_leaves xs' → of_leaves ys ≡ of_leaves ys' → of_leaves (xs ++ ys) ≡ of_leaves (xs' ++ ys')
  ranges_both xs ys xs' ys' e f = map-append (λ (l : Leaf). range l.first l.last) xs ys ∙ ap₂ (λ (rs ss : List Range). rs ++ ss) e f ∙ sym (map-append (λ (l : Leaf). range l.first l.last) xs' ys')

  mutual
    unfolding outline entries_outline leaves_of entry_leaves

    pub ranges_same : (ns : Nodes) → of_leaves (leaves_of (outline news ns)) ≡ of_leaves (leaves_of ns)
    ranges_same no_node = refl
    ranges_same (node place room es more) = ranges_both (entry_leaves (entries_outline news es)) (leaves_of (outline news more)) (entry_leaves es) (leaves_of more) (ranges_below es) (ranges_same more)

    ranges_below : (es : Entries) → of_leaves (entry_leaves (entries_outline news es)) ≡ of_leaves (entry_leaves es)
    ranges_below no_entry = refl
    ranges_below (block f l place packed es) = ap (λ (rs : List Range). range f l ∷ rs) (ranges_below es)
    ranges_below (lower f l ns es) = ranges_both (leaves_of (outline news ns)) (entry_leaves (entries_outline news es)) (leaves_of ns) (entry_leaves es) (ranges_same ns) (ranges_below es)

  mutual
    unfolding outline entries_outline firsts_of entry_firsts

    pub firsts_same : (ns : Nodes) → firsts_of (outline news ns) ≡ firsts_of ns
    firsts_same no_node = refl
    firsts_same (node place room es more) = ap₂ (λ (xs ys : List ℕ). xs ++ ys) (firsts_below es) (firsts_same more)

    firsts_below : (es : Entries) → entry_firsts (entries_outline news es) ≡ entry_firsts es
    firsts_below no_entry = refl
    firsts_below (block f l place packed es) = ap (λ (xs : List ℕ). f ∷ xs) (firsts_below es)
    firsts_below (lower f l ns es) = ap₂ (λ (xs ys : List ℕ). f ∷ xs ++ ys) (firsts_same ns) (firsts_below es)

  counts : (es : Entries) → entry_count (entries_outline news es) ≡ entry_count es
  unfolding outline entries_outline
  counts no_entry = refl
  counts (block f l place packed es) = ap suc (counts es)
  counts (lower f l ns es) = ap suc (counts es)

  mutual
    unfolding outline entries_outline entries_in entries_below

    pub entries_same : (ns : Nodes) → entries_in (outline news ns) ≡ entries_in ns
    entries_same no_node = refl
    entries_same (node place room es more) = λ i. counts es i + below_same es i + entries_same more i

    below_same : (es : Entries) → entries_below (entries_outline news es) ≡ entries_below es
    below_same no_entry = refl
    below_same (block f l place packed es) = below_same es
    below_same (lower f l ns es) = λ i. entries_same ns i + below_same es i

  mutual
    unfolding outline entries_outline widest widest_below

    pub widest_same : (ns : Nodes) → widest (outline news ns) ≡ widest ns
    widest_same no_node = refl
    widest_same (node place room es more) = λ i. max room (max (wide_below es i) (widest_same more i))

    wide_below : (es : Entries) → widest_below (entries_outline news es) ≡ widest_below es
    wide_below no_entry = refl
    wide_below (block f l place packed es) = wide_below es
    wide_below (lower f l ns es) = λ i. max (widest_same ns i) (wide_below es i)
