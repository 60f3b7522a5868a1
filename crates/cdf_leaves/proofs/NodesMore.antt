-- The nodes of an index some of whose entries end later.
use Rattle.cdf_leaves.proofs.Common.{Distinct, Entries, In, Leaf, List, Nodes, [], ap, ap₂, arith, block, distinct_if, entry_leaves, in-times, leaves_of, lower, lower_nodes, map-append, nat_tests, new_room, no_entry, no_node, node, nodes_of, nodes_with_leaf, places_of, redo, redo_below, refl, suc, sym, times, times-once, widen_all, widened, wider, with_leaf, with_new, zero, ℕ, ◌++◌, ◌<◌, ◌∙◌, ◌∷◌, ◌≡◌, ◌⊎◌}

-- ---- an entry that ends later

parted : (xs xs' ys ys' : List Leaf) → places_of xs ≡ places_of xs' → places_of ys ≡ places_of ys' → places_of (xs ++ ys) ≡ places_of (xs' ++ ys')
parted xs xs' ys ys' e f = map-append (λ (leaf : Leaf). leaf.place) xs ys ∙ ap₂ (λ (a c : List ℕ). a ++ c) e f ∙ sym (map-append (λ (leaf : Leaf). leaf.place) xs' ys')

widened_keeps : (last i : ℕ) (es : Entries) → (lower_nodes (widened last i es) ≡ lower_nodes es) × (places_of (entry_leaves (widened last i es)) ≡ places_of (entry_leaves es))
unfolding nodes_of lower_nodes leaves_of entry_leaves
widened_keeps last i no_entry = (refl, refl)
widened_keeps last zero (block first end place packed es) = (refl, refl)
widened_keeps last zero (lower first end nodes es) = (refl, refl)
widened_keeps last (suc i) (block first end place packed es) = let r = widened_keeps last i es in (r.0, ap (λ (xs : List ℕ). place ∷ xs) r.1)
widened_keeps last (suc i) (lower first end nodes es) = let r = widened_keeps last i es in (ap (λ (xs : List ℕ). nodes_of nodes ++ xs) r.0, parted (leaves_of nodes) (leaves_of nodes) (entry_leaves (widened last i es)) (entry_leaves es) refl r.1)

module _ (x last i : ℕ) where
  mutual
    unfolding nodes_of lower_nodes leaves_of entry_leaves redo redo_below

    pub nodes_wider : (nodes : Nodes) → (nodes_of (redo x (wider last x i) nodes) ≡ nodes_of nodes) × (places_of (leaves_of (redo x (wider last x i) nodes)) ≡ places_of (leaves_of nodes))
    nodes_wider no_node = (refl, refl)
    nodes_wider (node place room es more) =
        let r = nodes_wider more in
        let s = lower_wider es in
        let k = widened_keeps last i es in
        (grind (arith, nat_tests, r.0, s.0, k.0), grind (arith, nat_tests, parted (entry_leaves (widened last i es)) (entry_leaves es) (leaves_of more) (leaves_of more) k.1 refl, parted (entry_leaves (redo_below x (wider last x i) es)) (entry_leaves es) (leaves_of (redo x (wider last x i) more)) (leaves_of more) s.1 r.1))

    lower_wider : (es : Entries) → (lower_nodes (redo_below x (wider last x i) es) ≡ lower_nodes es) × (places_of (entry_leaves (redo_below x (wider last x i) es)) ≡ places_of (entry_leaves es))
    lower_wider no_entry = (refl, refl)
    lower_wider (block first end place packed es) = let r = lower_wider es in (r.0, ap (λ (xs : List ℕ). place ∷ xs) r.1)
    lower_wider (lower first end nodes es) =
        let r = nodes_wider nodes in
        let s = lower_wider es in
        (ap₂ (λ (xs ys : List ℕ). xs ++ ys) r.0 s.0, parted (leaves_of (redo x (wider last x i) nodes)) (leaves_of nodes) (entry_leaves (redo_below x (wider last x i) es)) (entry_leaves es) r.1 s.1)

pub all_wider : (last : ℕ) (steps : List (ℕ × ℕ)) (nodes : Nodes) → (nodes_of (widen_all last steps nodes) ≡ nodes_of nodes) × (places_of (leaves_of (widen_all last steps nodes)) ≡ places_of (leaves_of nodes))
all_wider last [] nodes = (refl, refl)
all_wider last (step ∷ more) nodes =
    let r = all_wider last more nodes in
    let s = nodes_wider step.0 last step.1 (widen_all last more nodes) in
    (s.0 ∙ r.0, s.1 ∙ r.1)

-- ---- a leaf more

pub in_new : (l : Leaf) (m : ℕ) (ls : List Leaf) → In m (places_of (with_new l ls)) → (m ≡ l.place) ⊎ In m (places_of ls)
in_new l m [] i = i
in_new l m (x ∷ xs) i = grind (arith, nat_tests, i, in_new l m xs)

-- none stands in it twice, where the new one stood nowhere
pub all_once : (index : Nodes) (l : Leaf) (at : ℕ) → Distinct (nodes_of index) → (0 < new_room l.first index → In at (nodes_of index) → ⊥) → Distinct (nodes_of (with_leaf l at index))
all_once index l at once out = distinct_if (nodes_of (with_leaf l at index)) (λ m.
    (let one : 0 < times m (nodes_of index) → times m (nodes_of index) ≡ 1 = λ p. times-once m (nodes_of index) once (in-times m (nodes_of index) p) in
    let none : 0 < new_room l.first index → m ≡ at → 0 < times m (nodes_of index) → ⊥ = λ s e p. out s (rw (← e) (in-times m (nodes_of index) p)) in
    grind (arith, nat_tests, nodes_with_leaf l at m index, one, none)))
