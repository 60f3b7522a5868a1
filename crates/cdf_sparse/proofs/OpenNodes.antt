-- A leaf is added to an index after records were freed: the node that it needs, the outline of the index, and what the acts of both steps take and free.
use Rattle.cdf_cuts.proofs.Common.{Each, In, Leaf, List, Nodes, [], arith, false, inl, inr, map, no_entry, node, nodes_of, refl, subst, suc, sym, true, zero, ℕ, ◌++◌, ◌∙◌, ◌∷◌, ◌≡◌, ◌⊎◌}
use Rattle.cdf_edits.proofs.Common.{Act, gave, is_in}
use Rattle.cdf_edits.proofs.Edits.LeafPieces.{IsOneOf}
use Rattle.cdf_edits.proofs.Edits.OnlyTaken.{OnlyTakes}
unfoldable use Rattle.cdf_edits.specs.Index.Cut.{sized_nodes, sized_nodes_below}
use Rattle.cdf_edits.specs.Index.Grown.{new_room, with_block, with_both, with_leaf}
use Rattle.cdf_edits.specs.Index.Cut.{IsNeeded}
use Rattle.cdf_edits.specs.Index.Written.{AnyOf, is_given_at}
unfoldable use Rattle.cdf_edits.specs.Index.Grown.{outline}
use Rattle.cdf_edits.specs.Space.Acts.{Among, none_twice, taken}
use Rattle.cdf_format.specs.Records.{vxr_bytes}
use Rattle.cdf_index.proofs.ByLeaf.{Grows, by_leaf}
use Rattle.cdf_index.specs.Adding.{leaf_acts, node_acts}
use Rattle.cdf_model.specs.DataSet.{Variable}
use Rattle.cdf_puts.proofs.PutNodes.{bare, place_outside, same_with_leaf}

-- ---- the node that is needed is one of the index

among_left : (x : ℕ × ℕ) (xs ys : List (ℕ × ℕ)) → Among x xs → Among x (xs ++ ys)
among_left x [] ys a = absurd a
among_left x (y ∷ xs) ys (inl q) = inl q
among_left x (y ∷ xs) ys (inr a) = inr (among_left x xs ys a)

among_right : (x : ℕ × ℕ) (xs ys : List (ℕ × ℕ)) → Among x ys → Among x (xs ++ ys)
among_right x [] ys a = a
among_right x (y ∷ xs) ys a = inr (among_right x xs ys a)

abbrev Has : ℕ → ℕ → List (ℕ × ℕ) → Type 0
Has at n xs = (n ≡ 0) ⊎ Among (at, vxr_bytes n) xs

has_left : (at n : ℕ) (xs ys : List (ℕ × ℕ)) → Has at n xs → Has at n (xs ++ ys)
has_left at n xs ys (inl z) = inl z
has_left at n xs ys (inr a) = inr (among_left (at, vxr_bytes n) xs ys a)

has_right : (at n : ℕ) (xs ys : List (ℕ × ℕ)) → Has at n ys → Has at n (xs ++ ys)
has_right at n xs ys (inl z) = inl z
has_right at n xs ys (inr a) = inr (among_right (at, vxr_bytes n) xs ys a)

has_behind : (at n : ℕ) (x : ℕ × ℕ) (xs : List (ℕ × ℕ)) → Has at n xs → Has at n (x ∷ xs)
has_behind at n x xs (inl z) = inl z
has_behind at n x xs (inr a) = inr (inr a)

sized_grows : (new : Leaf) (at : ℕ) → Grows new at (λ n a a'. Has at n (sized_nodes a')) (λ n es es'. Has at n (sized_nodes_below es'))
unfolding sized_nodes sized_nodes_below
sized_grows new at = record {
  along = λ n place room es more more' p. has_behind at n (place, vxr_bytes room) (sized_nodes_below es ++ sized_nodes more') (has_right at n (sized_nodes_below es) (sized_nodes more') p);
  down = λ n place room es es' more q. has_behind at n (place, vxr_bytes room) (sized_nodes_below es' ++ sized_nodes more) (has_left at n (sized_nodes_below es') (sized_nodes more) q);
  none = inl refl;
  past_block = λ n f l place packed es es' q. q;
  past_lower = λ n f l nodes es es' q. has_right at n (sized_nodes nodes) (sized_nodes_below es') q;
  below = λ n f l nodes nodes' es p. has_left at n (sized_nodes nodes') (sized_nodes_below es) p;
  alone = inr (inl refl);
  fits = λ place room es fs more. inl refl;
  behind = λ place room es more. inr (inr (among_right (at, vxr_bytes 7) (sized_nodes_below es) (sized_nodes (node at 7 (with_block new no_entry) more)) (inl refl)));
  split = λ n place room es fs more e. inr (inr (among_right (at, vxr_bytes n) (sized_nodes_below (with_both es (with_block new no_entry))) (sized_nodes (node at n fs more)) (inl refl)));
}

pub new_sized : (new : Leaf) (at : ℕ) (index : Nodes) → (new_room new.first index ≡ 0) ⊎ Among (at, vxr_bytes (new_room new.first index)) (sized_nodes (with_leaf new at index))
new_sized new at index = by_leaf (sized_grows new at) index

pub node_needed : (v : Variable) (index : Nodes) (room at : ℕ) → (room ≡ 0) ⊎ Among (at, vxr_bytes room) (sized_nodes index) → Each (IsNeeded v index) (taken (node_acts room at))
node_needed v index zero at has = tt
node_needed v index (suc room) at (inl z) = absurd (omega (arith, z))
node_needed v index (suc room) at (inr a) = (inl a, tt)

pub any_of : (P : ℕ × ℕ → Type 0) (f : Leaf → ℕ × ℕ) (leaves : List Leaf) (l : Leaf) → IsOneOf leaves l → P (f l) → AnyOf P (map f leaves)
any_of P f [] l i p = absurd i
any_of P f (x ∷ more) l (inl q) p = inl (subst (λ (y : Leaf). P (f y)) (sym q) p)
any_of P f (x ∷ more) l (inr i) p = inr (any_of P f more l i p)

-- ---- the outline

-- it is that of an index with a leaf whose block stands at 0, and so does the new node
pub outline_new : (news : List ℕ) (new : Leaf) (at : ℕ) (index : Nodes) → ((m : ℕ) → In m (nodes_of index) → is_in m news ≡ false) → place_outside news at ≡ 0 → outline news (with_leaf new at index) ≡ outline news (with_leaf (bare new) 0 index)
outline_new news new at index apart outside =
    same_with_leaf [] news new at index index refl apart outside ∙ sym (same_with_leaf [] news (bare new) 0 index index refl apart (none news))
  where
    none : (xs : List ℕ) → place_outside xs 0 ≡ 0
    none xs = grind arith

-- ---- acts that free, and then acts that take

pub takes_leaf : (place need room at : ℕ) → OnlyTakes (leaf_acts place need room at)
takes_leaf place need zero at = tt
takes_leaf place need (suc room) at = tt

pub taken_behind : (b : List ℕ) (fs : List ℕ) (acts : List Act) → taken (gave b fs ++ acts) ≡ taken acts
taken_behind b [] acts = refl
taken_behind b (f ∷ fs) acts = taken_behind b fs acts

pub given_before : (b : List ℕ) (fs : List ℕ) (place need room at m : ℕ) → is_given_at (gave b fs ++ leaf_acts place need room at) m ≡ is_given_at (gave b fs) m
given_before b [] place need zero at m = refl
given_before b [] place need (suc room) at m = refl
given_before b (f ∷ fs) place need room at m = let r = given_before b fs place need room at m in rw r refl

pub once_both : (b : List ℕ) (fs : List ℕ) (place need room at : ℕ) → none_twice [] (gave b fs ++ leaf_acts place need room at) ≡ true
once_both b [] place need zero at = refl
once_both b [] place need (suc room) at = refl
once_both b (f ∷ fs) place need room at = once_both b fs place need room at
