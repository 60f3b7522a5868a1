-- The nodes of an index to which a leaf was added: which entries are unused by then, and whether its top chain stays.
use Rattle.cdf_blocks.proofs.Common.{Bool, Each, Entries, In, Leaf, List, Nodes, [], ap, arith, block, entry_count, false, inl, inr, lower, no_entry, no_node, node, nodes_of, refl, room_at, subst, suc, sym, top_chain, true, used_count, zero, ℕ, ◌<◌, ◌==◌, ◌∷◌, ◌≡◌, ◌≤◌, ◌⊎◌}
unfoldable use Rattle.cdf_blocks.proofs.Common.{HasNodes, Names}
use Rattle.std.proofs.Common.{bytes_eq, not, ◌&&◌, ◌||◌}
use Rattle.std.proofs.lemmas.Bool.{true≢false}
use Rattle.std.specs.List.{list_any}
use Rattle.cdf_edits.proofs.Common.{Act, eqb-true, lt-leb, ltb-true, nat_lt}
use Rattle.cdf_edits.proofs.Edits.Common.{Each-in}
use Rattle.cdf_edits.specs.Index.Grown.{with_leaf}
use Rattle.cdf_edits.specs.Index.Written.{EntryIs, UnusedEntries, is_taken_at, top_stays, was_unused}
unfoldable use Rattle.cdf_edits.specs.Index.Written.{uses_entry, uses_entry_below}
use Rattle.cdf_format.proofs.NameRules.{bytes_eq-same}
use Rattle.cdf_format.proofs.Tests.{same_of_bytes_eq}

-- ---- an entry that is used in the index is one that its node uses

-- a node has it, or one below the node, or one behind it
where_used : (p q r s : Bool) → ((p && q) || (r || s)) ≡ true → ((p ≡ true) × (q ≡ true)) ⊎ (r ≡ true) ⊎ (s ≡ true)
where_used true true r s e = inl (refl, refl)
where_used true false true s e = inr (inl refl)
where_used true false false s e = inr (inr e)
where_used false q true s e = inr (inl refl)
where_used false q false s e = inr (inr e)

module _ (b records : List ℕ) (vxr i : ℕ) where
  mutual
    unfolding HasNodes Names uses_entry uses_entry_below

    node_uses : (levels : ℕ) (index : Nodes) → HasNodes b records levels index → uses_entry vxr i index ≡ true → i < used_count b vxr
    node_uses levels no_node h e = absurd (true≢false (sym e))
    node_uses zero (node place room es more) h e = absurd h
    node_uses (suc levels) (node place room es more) h e = elim (where_used (place == vxr) (nat_lt i (entry_count es)) (uses_entry_below vxr i es) (uses_entry vxr i more) e) [
      | inl x ↦ omega (arith, ltb-true i (entry_count es) x.1, h.0.used_is, ap (used_count b) (eqb-true place vxr x.0))
      | inr x ↦ elim x [ inl y ↦ below_uses levels es h.1 y | inr y ↦ node_uses (suc levels) more h.2 y ]
    ]

    below_uses : (levels : ℕ) (es : Entries) → Names b records levels es → uses_entry_below vxr i es ≡ true → i < used_count b vxr
    below_uses levels no_entry n e = absurd (true≢false (sym e))
    below_uses levels (block first last place packed es) n e = below_uses levels es n.2 e
    below_uses levels (lower first last nodes es) n e = grind (arith, e, node_uses levels nodes n.1, below_uses levels es n.2)

-- so it was not unused
was_used : (b before : List ℕ) (acts : List Act) (m i : ℕ) → i < used_count b m → was_unused b before acts m i ≡ false
was_used b before acts m i lt = grind (arith, lt-leb (used_count b m) i lt)

gone : (b now : List ℕ) (m i : ℕ) (was : Bool) → was ≡ false → EntryIs b now m i false → EntryIs b now m i was
gone b now m i true e x = absurd (true≢false e)
gone b now m i false e x = x

one : (p : Bool) → (p || false) ≡ true → p ≡ true
one true e = refl
one false e = e

-- where the one index on the way uses an entry, it is not of those that were unused
pub entry_says : (b now records : List ℕ) (levels : ℕ) (index : Nodes) (acts : List Act) (after : List ℕ) → HasNodes b records levels index → Each (UnusedEntries b now (index ∷ []) (nodes_of index) acts) after → (m : ℕ) → In m after → (i : ℕ) → used_count now m ≤ i → i < room_at now m → EntryIs b now m i (was_unused b (nodes_of index) acts m i)
entry_says b now records levels index acts after has unused m k i low high = elim (Each-in (UnusedEntries b now (index ∷ []) (nodes_of index) acts) after unused m k i low high) [
  | inl x ↦ x
  | inr x ↦ gone b now m i (was_unused b (nodes_of index) acts m i) (was_used b (nodes_of index) acts m i (node_uses b records m i levels index has (one (uses_entry m i index) x.0))) x.1
]

-- ---- the top chain

none_in : (f : ℕ → Bool) (xs : List ℕ) → ((m : ℕ) → In m xs → f m ≡ false) → list_any f xs ≡ false
none_in f [] none = refl
none_in f (x ∷ xs) none = rw (none x (inl refl)) (none_in f xs (λ m i. none m (inr i)))

stays_by : (xs ys : List ℕ) (out : Bool) → (bytes_eq xs ys ≡ true → out ≡ false) → (bytes_eq xs xs && (bytes_eq xs ys && not out)) ≡ bytes_eq xs ys
stays_by xs ys out none = grind (arith, none, bytes_eq-same xs)

-- it stays exactly where no node of it is new
pub top_is : (new : Leaf) (at : ℕ) (index : Nodes) (acts : List Act) → ((m : ℕ) → In m (top_chain index) → is_taken_at acts m ≡ false) → top_stays acts index index (with_leaf new at index) ≡ bytes_eq (top_chain index) (top_chain (with_leaf new at index))
top_is new at index acts old =
    stays_by (top_chain index) (top_chain (with_leaf new at index)) (list_any (is_taken_at acts) (top_chain (with_leaf new at index)))
    (λ e. none_in (is_taken_at acts) (top_chain (with_leaf new at index)) (λ m i. old m (subst (In m) (sym (same_of_bytes_eq (top_chain index) (top_chain (with_leaf new at index)) e)) i)))
