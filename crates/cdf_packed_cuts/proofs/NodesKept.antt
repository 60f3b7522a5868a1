-- A node with an entry that names a block of which records stay is left by a cut.
use Rattle.cdf_blocks.proofs.Common.{Bool, Each, Each-split, Entries, In, In-append, In-append_left, In-append_right, Leaf, List, Nodes, [], block, false, inl, inr, lower, no_entry, no_node, node, refl, subst, suc, sym, zero, ℕ, ◌∷◌, ◌≡◌}
unfoldable use Rattle.cdf_blocks.proofs.Common.{entry_leaves, leaves_of, lower_nodes, nodes_of}
unfoldable use Rattle.cdf_blocks.proofs.PlacedLeaf.{BelowName, NodeNames}
use Rattle.cdf_blocks.proofs.PlacedLeaf.{NamesBlock}
use Rattle.cdf_edits.specs.Index.Blocks.{Range, range}
use Rattle.cdf_edits.specs.Index.Cut.{Part}
use Rattle.cdf_edits.specs.Index.Grown.{block_if, lower_if, node_if}
unfoldable use Rattle.cdf_edits.specs.Index.Grown.{cut_entries, cut_nodes}

-- ---- what is left

abbrev pub SomeRange : List Range → Type 0
SomeRange [] = ⊥
SomeRange (r ∷ rs) = Unit {0}

abbrev SomeEntry : Entries → Type 0
SomeEntry no_entry = ⊥
SomeEntry (block f l p k es) = Unit {0}
SomeEntry (lower f l ns es) = Unit {0}

block_some : (rs : List Range) (p : ℕ) (k : Bool) (es : Entries) → SomeRange rs → SomeEntry (block_if rs p k es)
block_some [] p k es h = absurd h
block_some (r ∷ rs) p k es h = tt

block_more : (rs : List Range) (p : ℕ) (k : Bool) (es : Entries) → SomeEntry es → SomeEntry (block_if rs p k es)
block_more [] p k es h = h
block_more (r ∷ rs) p k es h = tt

lower_more : (f l : ℕ) (ns : Nodes) (es : Entries) → SomeEntry es → SomeEntry (lower_if f l ns es)
lower_more f l no_node es h = h
lower_more f l (node p r xs more) es h = tt

node_here : (p r : ℕ) (es : Entries) (more : Nodes) → SomeEntry es → In p (nodes_of (node_if p r es more))
unfolding nodes_of
node_here p r no_entry more h = absurd h
node_here p r (block f l q k es) more h = inl refl
node_here p r (lower f l ns es) more h = inl refl

node_below : (m p r : ℕ) (es : Entries) (more : Nodes) → In m (lower_nodes es) → In m (nodes_of (node_if p r es more))
unfolding nodes_of lower_nodes
node_below m p r no_entry more i = absurd i
node_below m p r (block f l q k es) more i = inr (In-append_left m (lower_nodes (block f l q k es)) (nodes_of more) i)
node_below m p r (lower f l ns es) more i = inr (In-append_left m (lower_nodes (lower f l ns es)) (nodes_of more) i)

node_along : (m p r : ℕ) (es : Entries) (more : Nodes) → In m (nodes_of more) → In m (nodes_of (node_if p r es more))
unfolding nodes_of
node_along m p r no_entry more i = i
node_along m p r (block f l q k es) more i = inr (In-append_right m (lower_nodes (block f l q k es)) (nodes_of more) i)
node_along m p r (lower f l ns es) more i = inr (In-append_right m (lower_nodes (lower f l ns es)) (nodes_of more) i)

entry_along : (m : ℕ) (rs : List Range) (p : ℕ) (k : Bool) (es : Entries) → In m (lower_nodes es) → In m (lower_nodes (block_if rs p k es))
unfolding lower_nodes
entry_along m [] p k es i = i
entry_along m (r ∷ rs) p k es i = i

below_here : (m f l : ℕ) (ns : Nodes) (es : Entries) → In m (nodes_of ns) → In m (lower_nodes (lower_if f l ns es))
unfolding nodes_of lower_nodes
below_here m f l no_node es i = absurd i
below_here m f l (node p r xs more) es i = In-append_left m (nodes_of (node p r xs more)) (lower_nodes es) i

below_along : (m f l : ℕ) (ns : Nodes) (es : Entries) → In m (lower_nodes es) → In m (lower_nodes (lower_if f l ns es))
unfolding nodes_of lower_nodes
below_along m f l no_node es i = i
below_along m f l (node p r xs more) es i = In-append_right m (nodes_of (node p r xs more)) (lower_nodes es) i

-- ---- the node

module _ (keep : Part) (f n at : ℕ) where
  -- of the leaf with this First something stays
  abbrev pub KeepsSome : Leaf → Type 0
  KeepsSome l = l.first ≡ f → SomeRange (keep (range l.first l.last))

  named_some : (k : ℕ) (es : Entries) → NamesBlock f k es → Each KeepsSome (entry_leaves es) → SomeEntry (cut_entries false keep es)
  unfolding cut_entries entry_leaves
  named_some k no_entry h e = absurd h
  named_some zero (block first l p packed es) h e = block_some (keep (range first l)) p packed (cut_entries false keep es) (e.0 h)
  named_some zero (lower first l ns es) h e = absurd h
  named_some (suc k) (block first l p packed es) h e = block_more (keep (range first l)) p packed (cut_entries false keep es) (named_some k es h e.1)
  named_some (suc k) (lower first l ns es) h e = lower_more first l (cut_nodes false keep ns) (cut_entries false keep es) (named_some k es h (Each-split KeepsSome (leaves_of ns) (entry_leaves es) e).1)

  mutual
    unfolding cut_nodes cut_entries nodes_of lower_nodes leaves_of entry_leaves NodeNames BelowName

    pub node_left : (ns : Nodes) → NodeNames f n at ns → In at (nodes_of ns) → Each KeepsSome (leaves_of ns) → In at (nodes_of (cut_nodes false keep ns))
    node_left no_node h i e = absurd i
    node_left (node place room es more) h (inl q) e =
        let each = Each-split KeepsSome (entry_leaves es) (leaves_of more) e in
        subst (λ (p : ℕ). In p (nodes_of (node_if place room (cut_entries false keep es) (cut_nodes false keep more)))) (sym q) (node_here place room (cut_entries false keep es) (cut_nodes false keep more) (named_some n es (h.0 (sym q)) each.0))
    node_left (node place room es more) h (inr i) e =
        let each = Each-split KeepsSome (entry_leaves es) (leaves_of more) e in
        elim (In-append at (lower_nodes es) (nodes_of more) i) [
          | inl j ↦ node_below at place room (cut_entries false keep es) (cut_nodes false keep more) (below_left es h.1 j each.0)
          | inr j ↦ node_along at place room (cut_entries false keep es) (cut_nodes false keep more) (node_left more h.2 j each.1)
        ]

    below_left : (es : Entries) → BelowName f n at es → In at (lower_nodes es) → Each KeepsSome (entry_leaves es) → In at (lower_nodes (cut_entries false keep es))
    below_left no_entry h i e = absurd i
    below_left (block first l p packed es) h i e = entry_along at (keep (range first l)) p packed (cut_entries false keep es) (below_left es h i e.1)
    below_left (lower first l ns es) h i e =
        let each = Each-split KeepsSome (leaves_of ns) (entry_leaves es) e in
        elim (In-append at (nodes_of ns) (lower_nodes es) i) [
          | inl j ↦ below_here at first l (cut_nodes false keep ns) (cut_entries false keep es) (node_left ns h.0 j each.0)
          | inr j ↦ below_along at first l (cut_nodes false keep ns) (cut_entries false keep es) (below_left es h.1 j each.1)
        ]
