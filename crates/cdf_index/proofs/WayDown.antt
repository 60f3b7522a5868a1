-- An index with one leaf more, made by one edit at the end of the way and one in each node on it, from the bottom up.
use Rattle.cdf_index.proofs.Common.{AreTiles, Distinct, Distinct-back, Distinct-front, Each, Each-map, Edit, Entries, HasIndex, HasNodes, In, In-append_left, In-append_right, IsNode, Leaf, List, Names, Nodes, [], ap, apart, arith, chain_reaches, entry_count, eq-eqb, has, in-times, index_at, inl, inr, length, link_to, linkable-in, lower, lower_nodes, max, nat_tests, node, nodes_of, nodes_stand, placed, record_number_limit, redo, redo_below, refl, some_place, spot, subst, tiles, times, times-append, times-in, times-once, true, vxr_type, way, widen_all, widened, wider, with_both, with_leaf, ℕ, ◌++◌, ◌+◌, ◌∙◌, ◌∷◌, ◌≡◌, ◌≢◌, ◌⊎◌, ◌-◌, ◌≤◌}
use Rattle.cdf_index.proofs.ByParts.{entries_by, nodes_by}
use Rattle.cdf_index.proofs.Coming.{Comes, comes, comes_along, comes_below, comes_first, comes_here}
use Rattle.cdf_index.proofs.Saying.{lower_both, names_parts}
use Rattle.cdf_index.proofs.Looking.{node_there}

-- ---- an edit of no node of an index

redo_none : (x : ℕ) (edit : Edit) (nodes : Nodes) → (In x (nodes_of nodes) → ⊥) → redo x edit nodes ≡ nodes
unfolding redo redo_below nodes_of lower_nodes
redo_none x edit = nodes_by (λ es. (In x (lower_nodes es) → ⊥) → redo_below x edit es ≡ es) (grind (arith, nat_tests, In-append_left x, In-append_right x))

redo_below_none : (x : ℕ) (edit : Edit) (es : Entries) → (In x (lower_nodes es) → ⊥) → redo_below x edit es ≡ es
unfolding redo redo_below nodes_of lower_nodes
redo_below_none x edit = entries_by (grind (arith, nat_tests, In-append_left x, In-append_right x, redo_none x edit))

-- ---- the way lies in the index

-- each node of the way is one of these
abbrev pub AllIn : List (ℕ × ℕ) → List ℕ → Type 0
AllIn w xs = Each (λ (step : ℕ × ℕ). In step.0 xs) w

-- and so is the one at its end, if there is one
abbrev pub LiesIn : List (ℕ × ℕ) → ℕ → List ℕ → Type 0
LiesIn w x xs = AllIn w xs × ((x ≡ 0) ⊎ In x xs)

lies_in : (w : List (ℕ × ℕ)) (x : ℕ) (xs ys : List ℕ) → ((m : ℕ) → In m xs → In m ys) → LiesIn w x xs → LiesIn w x ys
lies_in w x xs ys f l = (Each-map (λ (step : ℕ × ℕ). In step.0 xs) (λ (step : ℕ × ℕ). In step.0 ys) (λ step. f step.0) w l.0, elim l.1 [ inl z ↦ inl z | inr i ↦ inr (f x i) ])

-- how often a node below entries stands in all
pub below_times : (m place room first last : ℕ) (fs es : Entries) (nodes more : Nodes) → times m (nodes_of (node place room (with_both fs (lower first last nodes es)) more)) ≡ times m (nodes_of nodes) + times m (place ∷ lower_nodes fs ++ (lower_nodes es ++ nodes_of more))
unfolding nodes_of lower_nodes
below_times m place room first last fs es nodes more = grind (arith, lower_both, times-append)

pub way_lies : {l : Leaf} {at : ℕ} {w : List (ℕ × ℕ)} {x n : ℕ} {ns ns' : Nodes} → Comes l at w x n ns ns' → LiesIn w x (nodes_of ns)
unfolding nodes_of lower_nodes
way_lies comes_first = (tt, inl refl)
way_lies {w = w} {x = x} (comes_along {place = place} {es = es} {more = more} t c) = lies_in w x (nodes_of more) (place ∷ lower_nodes es ++ nodes_of more) (λ m i. inr (In-append_right m (lower_nodes es) (nodes_of more) i)) (way_lies c)
way_lies (comes_below {w = w} {x = x} {place = place} {room = room} {more = more} fs first last nodes nodes' es t le r c) =
    let all = nodes_of (node place room (with_both fs (lower first last nodes es)) more) in
    let l = lies_in w x (nodes_of nodes) all (λ m i. in-times m all (omega (arith, times-in m (nodes_of nodes) i, below_times m place room first last fs es nodes more))) (way_lies c) in
    ((inl refl, l.0), l.1)
way_lies (comes_here t d) = (tt, inr (inl refl))

-- ---- edits of other nodes

module _ (x : ℕ) (edit : Edit) where
  redo_along : (place room : ℕ) (es : Entries) (more : Nodes) → (In x (place ∷ lower_nodes es) → ⊥) → redo x edit (node place room es more) ≡ node place room es (redo x edit more)
  unfolding redo
  redo_along place room es more = grind (arith, nat_tests, redo_below_none x edit)

  redo_both : (fs es : Entries) → redo_below x edit (with_both fs es) ≡ with_both (redo_below x edit fs) (redo_below x edit es)
  unfolding redo redo_below
  redo_both = entries_by (grind arith)

  redo_under : (place room first last : ℕ) (fs es : Entries) (nodes more : Nodes) → (In x (place ∷ lower_nodes fs ++ (lower_nodes es ++ nodes_of more)) → ⊥)
      → redo x edit (node place room (with_both fs (lower first last nodes es)) more) ≡ node place room (with_both fs (lower first last (redo x edit nodes) es)) more
  unfolding redo redo_below lower_nodes
  redo_under place room first last fs es nodes more = grind (arith, nat_tests, redo_both, redo_none x edit, redo_below_none x edit, In-append_left x, In-append_right x)

-- all nodes of the way in what stands in one place of an index
module _ (last : ℕ) (whole : Nodes → Nodes) (out : List ℕ) (past : (x : ℕ) (edit : Edit) (m : Nodes) → (In x out → ⊥) → redo x edit (whole m) ≡ whole (redo x edit m)) where
  widen_in : (w : List (ℕ × ℕ)) (xs : List ℕ) (m : Nodes) → AllIn w xs → ((y : ℕ) → In y xs → In y out → ⊥) → widen_all last w (whole m) ≡ whole (widen_all last w m)
  widen_in [] xs m a apart = refl
  widen_in (step ∷ w) xs m a apart = ap (redo step.0 (wider last step.0 step.1)) (widen_in w xs m a.1 apart) ∙ past step.0 (wider last step.0 step.1) (widen_all last w m) (apart step.0 a.0)

  made_in : (w : List (ℕ × ℕ)) (x : ℕ) (xs : List ℕ) (edit : Edit) (m : Nodes) → LiesIn w x xs → x ≢ 0 → ((y : ℕ) → In y xs → In y out → ⊥) → widen_all last w (redo x edit (whole m)) ≡ whole (widen_all last w (redo x edit m))
  made_in w x xs edit m l some apart =
      ap (widen_all last w) (past x edit m (elim l.1 [ inl z ↦ absurd (some z) | inr i ↦ apart x i ])) ∙ widen_in w xs (redo x edit m) l.0 apart

widened_both : (last : ℕ) (fs : Entries) (first end : ℕ) (nodes : Nodes) (es : Entries) → widened last (entry_count fs) (with_both fs (lower first end nodes es)) ≡ with_both fs (lower first (max end last) nodes es)
widened_both last = entries_by (grind arith)

-- what stands in two parts of a list does not stand in it once
pub apart_by : (m : ℕ) (all xs ys : List ℕ) → Distinct all → times m all ≡ times m xs + times m ys → In m xs → In m ys → ⊥
apart_by m all xs ys d e i j = let a = times-in m xs i in let c = times-in m ys j in absurd (omega (arith, times-once m all d (in-times m all (omega arith))))

pub below_once : (place room first last : ℕ) (fs es : Entries) (nodes more : Nodes) → Distinct (nodes_of (node place room (with_both fs (lower first last nodes es)) more)) → Distinct (nodes_of nodes)
unfolding nodes_of lower_nodes
below_once place room first last fs es nodes more = grind (arith, lower_both, Distinct-front, Distinct-back)

-- ---- the law

pub made : {l : Leaf} {at : ℕ} {w : List (ℕ × ℕ)} {x n : ℕ} {ns ns' : Nodes} → Comes l at w x n ns ns' → x ≢ 0 → Distinct (nodes_of ns) → widen_all l.last w (redo x (placed l at x) ns) ≡ ns'
unfolding redo redo_below nodes_of lower_nodes
made comes_first some d = absurd (some refl)
made {l = l} {at = at} {w = w} {x = x} (comes_along {place = place} {room = room} {es = es} {more = more} t c) some d =
    let out = place ∷ lower_nodes es in
    made_in l.last (node place room es) out (λ y e m o. redo_along y e place room es m o) w x (nodes_of more) (placed l at x) more (way_lies c) some (λ y i j. apart_by y (out ++ nodes_of more) (nodes_of more) out d (omega (arith, times-append y out (nodes_of more))) i j)
    ∙ ap (node place room es) (made c some (Distinct-back (lower_nodes es) (nodes_of more) d.1))
made {l = l} {at = at} {x = x} (comes_below {w = w} {place = place} {room = room} {more = more} fs first last nodes nodes' es t le r c) some d =
    let all = nodes_of (node place room (with_both fs (lower first last nodes es)) more) in
    let whole = λ (m : Nodes). node place room (with_both fs (lower first last m es)) more in
    let out = place ∷ lower_nodes fs ++ (lower_nodes es ++ nodes_of more) in
    let inner = made_in l.last whole out (λ y e m o. redo_under y e place room first last fs es m more o) w x (nodes_of nodes) (placed l at x) nodes (way_lies c) some (λ y i j. apart_by y all (nodes_of nodes) out d (below_times y place room first last fs es nodes more) i j)
    ∙ ap whole (made c some (below_once place room first last fs es nodes more d)) in
    ap (redo place (wider l.last place (entry_count fs))) inner ∙ rw (eq-eqb place place refl, widened_both l.last fs first last nodes' es) refl
made (comes_here {place = place} t d) some o = rw (eq-eqb place place refl) refl

-- ---- an index that a link leads to

pub node_there_by : (head : ℕ) (nodes : Nodes) → head ≡ link_to nodes → head ≢ 0 → IsNode nodes
node_there_by head nodes e n = node_there nodes (λ z. n (e ∙ z))

pub no_zero : (b ts : List ℕ) (levels : ℕ) (nodes : Nodes) → AreTiles b 8 (length b) ts → HasNodes b ts levels nodes → In 0 (nodes_of nodes) → ⊥
no_zero b ts levels nodes t h i = some_place b ts (length b) 0 t (linkable-in b ts vxr_type 0 (nodes_stand b ts levels nodes h 0 i)) refl

pub chain_there : (f : ℕ) (nodes : Nodes) → chain_reaches f nodes ≡ true → IsNode nodes
chain_there f nodes t = grind arith

pub node_has : (b ts : List ℕ) (levels place room : ℕ) (es : Entries) (more : Nodes) → HasNodes b ts levels (node place room es more) → (1 ≤ levels) × Names b ts (levels - 1) es × HasNodes b ts levels more
unfolding HasNodes
node_has b ts levels place room es more = grind arith

-- the way ends at a node
pub spot_there : {l : Leaf} {at : ℕ} {w : List (ℕ × ℕ)} {x n : ℕ} {ns ns' : Nodes} → Comes l at w x n ns ns' → (b ts : List ℕ) (levels : ℕ) → HasNodes b ts levels ns → IsNode ns → In x (nodes_of ns)
unfolding Names nodes_of lower_nodes
spot_there comes_first b ts levels h is = absurd is
spot_there {l = l} {x = x} (comes_along {place = place} {room = room} {es = es} {more = more} t c) b ts levels h is =
    inr (In-append_right x (lower_nodes es) (nodes_of more) (spot_there c b ts levels (node_has b ts levels place room es more h).2 (chain_there l.first more t)))
spot_there {x = x} (comes_below {place = place} {room = room} {more = more} fs first last nodes nodes' es t le r c) b ts levels h is =
    let n = (names_parts b ts (levels - 1) fs (lower first last nodes es) (node_has b ts levels place room (with_both fs (lower first last nodes es)) more h).1).1 in
    in-times x (nodes_of (node place room (with_both fs (lower first last nodes es)) more)) (omega (arith, times-in x (nodes_of nodes) (spot_there c b ts (levels - 1) n.1 n.0), below_times x place room first last fs es nodes more))
spot_there (comes_here t d) b ts levels h is = inl refl

pub on_its_way : (b : List ℕ) (head at : ℕ) (l : Leaf) → HasIndex b head → head ≢ 0
    → widen_all l.last (way l.first (index_at b head)) (redo (spot l.first (index_at b head)) (placed l at (spot l.first (index_at b head))) (index_at b head)) ≡ with_leaf l at (index_at b head)
on_its_way b head at l has some =
    let come = comes l at 0 record_number_limit (index_at b head) has.order in
    let last = spot_there come b (tiles b) 8 has.index.has_nodes (node_there_by head (index_at b head) has.index.link_is some) in
    made come (λ z. no_zero b (tiles b) 8 (index_at b head) has.tiled has.index.has_nodes (subst (λ (x : ℕ). In x (nodes_of (index_at b head))) z last)) has.index.once
