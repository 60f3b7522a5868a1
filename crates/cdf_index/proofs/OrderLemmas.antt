-- The leaf that has a record, found on the way down.
use Rattle.cdf_index.proofs.Common.{AreInOrder, Each, Each-append, Entries, InOrder, Leaf, List, Nodes, None, Option, arith, covers, entry_leaves, find_entry, find_in, leaf_of, leaves_of, nat_tests, past_entries, range, refl, suc, ℕ, ◌<◌, ◌≡◌, ◌≤◌, ◌⊎◌}
use Rattle.cdf_index.proofs.ByParts.{ByParts, entries_within as entries_in, nodes_within as nodes_in, of_entries, of_nodes}
use Rattle.std.proofs.lemmas.List.Folds.{find-append}
use Rattle.std.specs.Option.{option_or}

-- each of the leaves has records from low to high alone
abbrev pub InRange : ℕ → ℕ → Leaf → Type 0
InRange low high x = (low ≤ x.first) × (x.first ≤ x.last) × (x.last ≤ high)

abbrev pub Within : ℕ → ℕ → List Leaf → Type 0
Within low high xs = Each (InRange low high) xs

pub end_after : (low high : ℕ) (entries : Entries) → AreInOrder low high entries → low ≤ past_entries low entries
unfolding AreInOrder
end_after = entries_in (grind arith)

-- those of an index in order have records between its bounds, and so between wider ones
within : (from upto : ℕ) → ByParts (λ ns. (low high : ℕ) → InOrder low high ns → from ≤ low → high ≤ upto → Within from upto (leaves_of ns)) (λ es. (low high : ℕ) → AreInOrder low high es → from ≤ low → high ≤ upto → Within from upto (entry_leaves es))
unfolding InOrder AreInOrder leaves_of entry_leaves
within from upto = grind (arith, end_after, Each-append (InRange from upto))

pub leaves_within : (low high : ℕ) (nodes : Nodes) → InOrder low high nodes → Within low high (leaves_of nodes)
leaves_within low high nodes o = of_nodes (within low high) nodes low high o (omega arith) (omega arith)

pub entries_within : (low high : ℕ) (entries : Entries) → AreInOrder low high entries → Within low high (entry_leaves entries)
entries_within low high entries o = of_entries (within low high) entries low high o (omega arith) (omega arith)

-- none of them has a record before them or past them
none_has : (rec : ℕ) → ByParts (λ ns. (low high : ℕ) → InOrder low high ns → (rec < low) ⊎ (high < rec) → leaf_of rec (leaves_of ns) ≡ None) (λ es. (low high : ℕ) → AreInOrder low high es → (rec < low) ⊎ (high < rec) → leaf_of rec (entry_leaves es) ≡ None)
unfolding InOrder AreInOrder leaves_of entry_leaves
none_has rec = grind (arith, nat_tests, end_after, find-append (λ (l : Leaf). covers rec (range l.first l.last)))

-- a search on the way down finds the leaf
pub find_is : (rec low high : ℕ) (nodes : Nodes) → InOrder low high nodes → find_in rec nodes ≡ leaf_of rec (leaves_of nodes)
unfolding InOrder AreInOrder leaves_of entry_leaves find_in find_entry
find_is rec =
    nodes_in (λ low high es. AreInOrder low high es → (other : Option Leaf) → (rec < past_entries low es → other ≡ None) → find_entry rec es other ≡ option_or (leaf_of rec (entry_leaves es)) other) (record {
      no_nodes = λ low high o. refl;
      nodes = λ place room es more below along low high o. grind (arith, below low high o.0, along (past_entries low es) high o.1, of_nodes (none_has rec) more (past_entries low es) high o.1, find-append (λ (l : Leaf). covers rec (range l.first l.last)) (entry_leaves es) (leaves_of more));
      none = λ low high o other h. refl;
      block = λ first last place packed es below low high o. grind (arith, nat_tests, below (suc last) high o.3, of_entries (none_has rec) es (suc last) high o.3, end_after (suc last) high es o.3, o.1);
      lower = λ first last nodes es inner below low high o. grind (arith, nat_tests, below (suc last) high o.4, of_entries (none_has rec) es (suc last) high o.4, inner first last o.3, of_nodes (none_has rec) nodes first last o.3, end_after (suc last) high es o.4, o.1, find-append (λ (l : Leaf). covers rec (range l.first l.last)) (leaves_of nodes) (entry_leaves es));
    })
