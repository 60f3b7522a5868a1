-- The leaves of an index with one leaf more.
use Rattle.cdf_index.proofs.Common.{Each-map, AreInOrder, Bool, Each, Each-append, Entries, InOrder, Leaf, List, Nodes, [], append_assoc, arith, block, chain_reaches, entry_leaves, false, leads_down, leaves_of, lower, map, nat_tests, no_entry, past, past_entries, range, reaches, refl, suc, true, upto, with_both, with_entry, with_leaf, with_new, with_range, ℕ, ◌++◌, ◌<◌, ◌∷◌, ◌≡◌, ◌≤◌}
use Rattle.cdf_index.proofs.Coming.{Comes, comes, comes_along, comes_below, comes_first, comes_here, chain_reaches_from, leads_none, not_reached, reaches_from}
use Rattle.cdf_index.proofs.OrderLemmas.{Within, entries_within, leaves_within, end_after, InRange}
use Rattle.cdf_index.proofs.Saying.{front_past, upto_both, both_none, no_entries}
use Rattle.cdf_index.proofs.ByParts.{entries_by, entries_within as entries_in, nodes_within as nodes_in}

-- ---- leaves that begin at a record or before it, and leaves past it

abbrev pub BeginBy : ℕ → List Leaf → Type 0
BeginBy f = Each (λ (x : Leaf). x.first ≤ f)

abbrev pub BeginPast : ℕ → List Leaf → Type 0
BeginPast f = Each (λ (x : Leaf). f < x.first)

within_by : (f low high : ℕ) (xs : List Leaf) → Within low high xs → high ≤ f → BeginBy f xs
within_by f low high xs w h = Each-map (InRange low high) (λ (x : Leaf). x.first ≤ f) (λ x i. omega (arith, i.1, i.2)) xs w

within_past : (f low high : ℕ) (xs : List Leaf) → Within low high xs → f < low → BeginPast f xs
within_past f low high xs w h = Each-map (InRange low high) (λ (x : Leaf). f < x.first) (λ x i. omega (arith, i.0)) xs w

-- ---- one more among the leaves

pub new_behind : (l : Leaf) (xs ys : List Leaf) → BeginBy l.first xs → with_new l (xs ++ ys) ≡ xs ++ with_new l ys
new_behind l [] ys w = refl
new_behind l (x ∷ xs) ys w = let r = new_behind l xs ys w.1 in let w0 = w.0 in grind (arith, nat_tests)

pub new_before : (l : Leaf) (xs ys : List Leaf) → BeginPast l.first ys → with_new l (xs ++ ys) ≡ with_new l xs ++ ys
new_before l [] [] w = refl
new_before l [] (y ∷ ys) w = grind (arith, nat_tests, w.0)
new_before l (x ∷ xs) ys w = let r = new_before l xs ys w in grind (arith, nat_tests)

-- the ranges of records of the leaves have one more as well
pub ranges_new : (l : Leaf) (xs : List Leaf) → map (λ (x : Leaf). range x.first x.last) (with_new l xs) ≡ with_range (range l.first l.last) (map (λ (x : Leaf). range x.first x.last) xs)
ranges_new l [] = refl
ranges_new l (x ∷ xs) = grind (arith, ranges_new l xs)

-- ---- entries that reach a record

order_past : (f low high : ℕ) (es : Entries) → AreInOrder low high es → reaches f es ≡ false → AreInOrder (suc f) high es
unfolding AreInOrder
order_past f = entries_in (grind (arith, nat_tests))

entries_past : (f low high : ℕ) (es : Entries) → AreInOrder low high es → reaches f es ≡ false → BeginPast f (entry_leaves es)
entries_past f low high es o t = within_past f (suc f) high (entry_leaves es) (entries_within (suc f) high es (order_past f low high es o t)) (omega arith)

nodes_past : (f low high : ℕ) (ns : Nodes) → InOrder low high ns → chain_reaches f ns ≡ false → BeginPast f (leaves_of ns)
unfolding InOrder leaves_of
nodes_past f = nodes_in (λ low high es. Unit {0}) (grind (arith, nat_tests, Each-append, entries_past))

-- ---- the front of a node

pub leaves_both : (es fs : Entries) → entry_leaves (with_both es fs) ≡ entry_leaves es ++ entry_leaves fs
unfolding leaves_of entry_leaves
leaves_both = entries_by (grind (arith, append_assoc))

pub parts_in_order : (low high : ℕ) (es fs : Entries) → AreInOrder low high (with_both es fs) → AreInOrder low high es × AreInOrder (past_entries low es) high fs
unfolding AreInOrder
parts_in_order = entries_in (grind arith)

pub none_reached : (f low high : ℕ) (es : Entries) → AreInOrder low high es → reaches f (past f es) ≡ false
unfolding AreInOrder
none_reached f = entries_in (grind (arith, nat_tests, not_reached))

-- ---- a node, or it and a new one

leaves_with_entry : (l : Leaf) (at place room : ℕ) (es : Entries) (more : Nodes) → leaves_of (with_entry l at place room es more) ≡ entry_leaves (with_both (upto l es) (past l.first es)) ++ leaves_of more
unfolding leaves_of entry_leaves
leaves_with_entry l at place room es more = grind (arith, nat_tests, leaves_both, upto_both l es no_entry, both_none, front_past l.first es, no_entries, append_assoc)

-- where the last entry of those that reach a record names a block, the leaf goes behind them
here_new : (l : Leaf) (low high : ℕ) (given : Bool) (es : Entries) → AreInOrder low high es → leads_down l.first given es ≡ false → with_new l (entry_leaves es) ≡ entry_leaves (with_both (upto l es) (past l.first es))
unfolding AreInOrder leaves_of entry_leaves
here_new l low high given no_entry o t = refl
here_new l low high given (block first last place packed es) o t = grind (arith, nat_tests, here_new l (suc last) high false es o.3, t)
here_new l low high given (lower first last nodes es) o t =
    let behind = λ (h : last ≤ l.first). new_behind l (leaves_of nodes) (entry_leaves es) (within_by l.first first last (leaves_of nodes) (leaves_within first last nodes o.3) h) in
    let before = λ (h : l.first < first). new_before l [] (leaves_of nodes ++ entry_leaves es) (within_past l.first first high (leaves_of nodes ++ entry_leaves es) (entries_within first high (lower first last nodes es) (omega arith, o.1, o.2, o.3, o.4)) h) in
    grind (arith, nat_tests, behind, before, here_new l (suc last) high true es o.4, leads_none l.first true es, reaches_from l.first (suc last) high es o.4, o.1, t)

-- entries before a chain that reaches a record
chain_by : (f low high : ℕ) (es : Entries) → AreInOrder low high es → past_entries low es ≤ f → BeginBy f (entry_leaves es)
unfolding AreInOrder leaves_of entry_leaves
chain_by f = entries_in (grind (arith, Each-append, within_by, leaves_within, end_after))

-- ---- the index

leaves_come : {l : Leaf} {at : ℕ} {w : List (ℕ × ℕ)} {x n : ℕ} {ns ns' : Nodes} → Comes l at w x n ns ns' → (low high : ℕ) → InOrder low high ns → leaves_of ns' ≡ with_new l (leaves_of ns)
unfolding InOrder AreInOrder leaves_of entry_leaves
leaves_come comes_first low high o = refl
leaves_come {l = l} (comes_along {es = es} {more = more} t c) low high o =
    grind (arith, chain_by l.first low high es, chain_reaches_from l.first (past_entries low es) high more, leaves_come c (past_entries low es) high, new_behind)
leaves_come {l = l} (comes_below {more = more} fs first last nodes nodes' es t le u c) low high o =
    let p = parts_in_order low high fs (lower first last nodes es) o.0 in
    let later = nodes_past l.first (past_entries low (with_both fs (lower first last nodes es))) high more o.1 t in
    grind (arith, p, later, chain_by l.first low high fs, entries_past l.first (suc last) high es, leaves_come c first last, leaves_both, new_before, new_behind)
leaves_come {l = l} {at = at} (comes_here {es = es} {more = more} t d) low high o =
    grind (arith, leaves_with_entry, nodes_past l.first (past_entries low es) high more, new_before, here_new l low high false es)

pub leaves_more : (l : Leaf) (at low high : ℕ) (ns : Nodes) → InOrder low high ns → leaves_of (with_leaf l at ns) ≡ with_new l (leaves_of ns)
leaves_more l at low high ns o = leaves_come (comes l at low high ns o) low high o
