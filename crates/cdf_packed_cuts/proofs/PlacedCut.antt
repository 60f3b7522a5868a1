-- A leaf of an index is given some of its records alone, and maybe another place, and then a cut keeps just these of it: what is left is what the cut leaves of the index at once, but for where that leaf stands.
use Rattle.cdf_blocks.proofs.Common.{Bool, Each, Each-split, Entries, In, In-append, In-append_left, In-append_right, Leaf, List, Nodes, [], ap, ap₂, arith, block, cases_eq, eq-eqb, false, if◌then◌else◌, inl, inr, lower, nat_tests, ne_eqb, no_entry, no_node, node, nodes_by, refl, subst, sym, ℕ, ◌∙◌, ◌∷◌, ◌≡◌, ◌⊎◌}
unfoldable use Rattle.cdf_blocks.proofs.Common.{entry_leaves, leaves_of, lower_nodes, nodes_of, with_range, with_range_in}
use Rattle.cdf_edits.specs.Index.Blocks.{Range, range}
use Rattle.cdf_edits.specs.Index.Cut.{Part}
use Rattle.cdf_edits.specs.Index.Grown.{block_if, lower_if, node_if}
unfoldable use Rattle.cdf_edits.specs.Index.Grown.{cut_entries, cut_nodes, entries_outline, outline}
use Rattle.cdf_format.specs.Chains.{is_in}

-- ---- what is left of a node, of an entry and of a block

abbrev at_zero : List ℕ → ℕ → ℕ
at_zero news place = if is_in place news then 0 else place

outline_node : (news : List ℕ) (place room : ℕ) (es : Entries) (more : Nodes) → outline news (node_if place room es more) ≡ node_if (at_zero news place) room (entries_outline news es) (outline news more)
unfolding outline entries_outline
outline_node news place room no_entry more = refl
outline_node news place room (block f l p k es) more = refl
outline_node news place room (lower f l ns es) more = refl

outline_lower : (news : List ℕ) (f l : ℕ) (ns : Nodes) (es : Entries) → entries_outline news (lower_if f l ns es) ≡ lower_if f l (outline news ns) (entries_outline news es)
unfolding outline entries_outline
outline_lower news f l no_node es = refl
outline_lower news f l (node place room xs more) es = refl

outline_block : (news : List ℕ) (rs : List Range) (place : ℕ) (packed : Bool) (es : Entries) → entries_outline news (block_if rs place packed es) ≡ block_if rs 0 false (entries_outline news es)
unfolding entries_outline
outline_block news [] place packed es = refl
outline_block news (r ∷ rs) place packed es = refl

-- ---- of an index

module _ (news : List ℕ) (keep : Part) (start : ℕ) (new : Leaf) where
  -- of the leaf with this First a cut keeps what it keeps of the new one
  abbrev pub KeepsSame : Leaf → Type 0
  KeepsSame l = l.first ≡ start → keep (range new.first new.last) ≡ keep (range l.first l.last)

  block_same : (f l place : ℕ) (packed : Bool) (es : Entries) → (f ≡ start → keep (range new.first new.last) ≡ keep (range f l)) → entries_outline news (cut_entries false keep (with_range_in start new es)) ≡ entries_outline news (cut_entries false keep es)
      → entries_outline news (cut_entries false keep (with_range_in start new (block f l place packed es))) ≡ entries_outline news (cut_entries false keep (block f l place packed es))
  unfolding cut_entries with_range_in
  block_same f l place packed es same rest = elim (cases_eq f start) [
    | inl e ↦ rw (eq-eqb f start e) (outline_block news (keep (range new.first new.last)) new.place new.packed (cut_entries false keep es) ∙ ap (λ (rs : List Range). block_if rs 0 false (entries_outline news (cut_entries false keep es))) (same e) ∙ sym (outline_block news (keep (range f l)) place packed (cut_entries false keep es)))
    | inr ne ↦ rw (ne_eqb f start ne) (outline_block news (keep (range f l)) place packed (cut_entries false keep (with_range_in start new es)) ∙ ap (block_if (keep (range f l)) 0 false) rest ∙ sym (outline_block news (keep (range f l)) place packed (cut_entries false keep es)))
  ]

  mutual
    unfolding cut_nodes cut_entries with_range with_range_in leaves_of entry_leaves

    pub cut_placed : (ns : Nodes) → Each KeepsSame (leaves_of ns) → outline news (cut_nodes false keep (with_range start new ns)) ≡ outline news (cut_nodes false keep ns)
    cut_placed no_node e = refl
    cut_placed (node place room es more) e =
        let each = Each-split KeepsSame (entry_leaves es) (leaves_of more) e in
        outline_node news place room (cut_entries false keep (with_range_in start new es)) (cut_nodes false keep (with_range start new more))
        ∙ ap₂ (λ (xs : Entries) (ys : Nodes). node_if (at_zero news place) room xs ys) (entries_placed es each.0) (cut_placed more each.1)
        ∙ sym (outline_node news place room (cut_entries false keep es) (cut_nodes false keep more))

    entries_placed : (es : Entries) → Each KeepsSame (entry_leaves es) → entries_outline news (cut_entries false keep (with_range_in start new es)) ≡ entries_outline news (cut_entries false keep es)
    entries_placed no_entry e = refl
    entries_placed (block f l place packed es) e = block_same f l place packed es e.0 (entries_placed es e.1)
    entries_placed (lower f l ns es) e =
        let each = Each-split KeepsSame (leaves_of ns) (entry_leaves es) e in
        outline_lower news f l (cut_nodes false keep (with_range start new ns)) (cut_entries false keep (with_range_in start new es))
        ∙ ap₂ (λ (xs : Nodes) (ys : Entries). lower_if f l xs ys) (cut_placed ns each.0) (entries_placed es each.1)
        ∙ sym (outline_lower news f l (cut_nodes false keep ns) (cut_entries false keep es))

-- ---- its nodes

outlined_nodes : (ns : Nodes) → nodes_of (outline [] ns) ≡ nodes_of ns
unfolding outline entries_outline nodes_of lower_nodes
outlined_nodes = nodes_by (λ es. lower_nodes (entries_outline [] es) ≡ lower_nodes es) (grind (arith, nat_tests))

-- the same nodes stay
pub cut_nodes_placed : (keep : Part) (start : ℕ) (new : Leaf) (ns : Nodes) → Each (KeepsSame [] keep start new) (leaves_of ns) → nodes_of (cut_nodes false keep (with_range start new ns)) ≡ nodes_of (cut_nodes false keep ns)
cut_nodes_placed keep start new ns e = sym (outlined_nodes (cut_nodes false keep (with_range start new ns))) ∙ ap nodes_of (cut_placed [] keep start new ns e) ∙ outlined_nodes (cut_nodes false keep ns)

-- and each was there
block_within : (rs : List Range) (place : ℕ) (packed : Bool) (es : Entries) → lower_nodes (block_if rs place packed es) ≡ lower_nodes es
unfolding lower_nodes
block_within [] place packed es = refl
block_within (r ∷ rs) place packed es = refl

node_in : (m place room : ℕ) (es : Entries) (more : Nodes) → In m (nodes_of (node_if place room es more)) → (m ≡ place) ⊎ (In m (lower_nodes es) ⊎ In m (nodes_of more))
unfolding nodes_of lower_nodes
node_in m place room no_entry more j = inr (inr j)
node_in m place room (block f l p k es) more (inl e) = inl e
node_in m place room (block f l p k es) more (inr j) = inr (In-append m (lower_nodes (block f l p k es)) (nodes_of more) j)
node_in m place room (lower f l ns es) more (inl e) = inl e
node_in m place room (lower f l ns es) more (inr j) = inr (In-append m (lower_nodes (lower f l ns es)) (nodes_of more) j)

lower_in : (m f l : ℕ) (ns : Nodes) (es : Entries) → In m (lower_nodes (lower_if f l ns es)) → In m (nodes_of ns) ⊎ In m (lower_nodes es)
unfolding nodes_of lower_nodes
lower_in m f l no_node es j = inr j
lower_in m f l (node place room xs more) es j = In-append m (nodes_of (node place room xs more)) (lower_nodes es) j

module _ (keep : Part) where
  mutual
    unfolding cut_nodes cut_entries nodes_of lower_nodes

    pub nodes_within : (ns : Nodes) (m : ℕ) → In m (nodes_of (cut_nodes false keep ns)) → In m (nodes_of ns)
    nodes_within no_node m j = j
    nodes_within (node place room es more) m j = elim (node_in m place room (cut_entries false keep es) (cut_nodes false keep more) j) [
      | inl e ↦ inl e
      | inr k ↦ elim k [ inl i ↦ inr (In-append_left m (lower_nodes es) (nodes_of more) (lower_within es m i)) | inr i ↦ inr (In-append_right m (lower_nodes es) (nodes_of more) (nodes_within more m i)) ]
    ]

    lower_within : (es : Entries) (m : ℕ) → In m (lower_nodes (cut_entries false keep es)) → In m (lower_nodes es)
    lower_within no_entry m j = j
    lower_within (block f l place packed es) m j = lower_within es m (subst (In m) (block_within (keep (range f l)) place packed (cut_entries false keep es)) j)
    lower_within (lower f l ns es) m j = elim (lower_in m f l (cut_nodes false keep ns) (cut_entries false keep es) j) [
      | inl i ↦ In-append_left m (nodes_of ns) (lower_nodes es) (nodes_within ns m i)
      | inr i ↦ In-append_right m (nodes_of ns) (lower_nodes es) (lower_within es m i)
    ]
