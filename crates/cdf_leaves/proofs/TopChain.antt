-- The top chain of an index in the bytes, followed link by link to its last node.
use Rattle.cdf_leaves.proofs.Common.{AreTiles, EndsIn, HasEnd, HasNodes, IsEnd, TailSet, vdr_vxr_tail, with_field, In, In-append_right, IsNode, List, Nodes, arith, inl, inr, is_linkable, last_node, length, length-append, link_to, linkable-in, linkable-long, lower_nodes, next_of, no_node, node, nodes_of, refl, some_place, suc, sym, tile_lies, top_chain, true, vxr_type, zero, ℕ, ◌+◌, ◌-◌, ◌<◌, ◌^◌, ◌∙◌, ◌≡◌, ◌≢◌, ◌≤◌}

pub chain_in : (nodes : Nodes) (m : ℕ) → In m (top_chain nodes) → In m (nodes_of nodes)
unfolding nodes_of lower_nodes
chain_in no_node m i = i
chain_in (node place room es more) m (inl e) = inl e
chain_in (node place room es more) m (inr i) = inr (In-append_right m (lower_nodes es) (nodes_of more) (chain_in more m i))

-- ---- one node of it

pub record Follows (b : List ℕ) (most here last : ℕ) : Type 0 where
  pub left : 0 < most
  pub inside : here + 20 ≤ length b
  pub ends : next_of b here ≡ 0 → here ≡ last
  pub goes_on : next_of b here ≢ 0 → EndsIn b (most - 1) (next_of b here) last

lies : (b ts : List ℕ) (m : ℕ) → AreTiles b 8 (length b) ts → is_linkable b ts vxr_type m ≡ true → m + 20 ≤ length b
lies b ts m tiled l = omega (arith, (tile_lies b 8 (length b) ts m tiled (linkable-in b ts vxr_type m l)).high, linkable-long b ts vxr_type m l)

follow : (b ts : List ℕ) (levels most : ℕ) (nodes : Nodes) → AreTiles b 8 (length b) ts → HasNodes b ts levels nodes → IsNode nodes → length (nodes_of nodes) ≤ most → Follows b most (link_to nodes) (last_node nodes)
unfolding HasNodes nodes_of
follow b ts levels most no_node tiled h is few = absurd is
follow b ts zero most (node place room es more) tiled h is few = absurd h
follow b ts (suc levels) most (node place room es no_node) tiled h is few = record { left = omega arith; inside = lies b ts place tiled h.0.linkable; ends = λ z. refl; goes_on = λ n. absurd (n h.0.next_is) }
follow b ts (suc levels) most (node place room es (node p r fs more)) tiled h is few = record {
  left = omega arith;
  inside = lies b ts place tiled h.0.linkable;
  ends = λ z. absurd (some_place b ts (length b) p tiled (linkable-in b ts vxr_type p h.2.0.linkable) (sym h.0.next_is ∙ z));
  goes_on = λ n. record { tiles = ts; levels = suc levels; nodes = node p r fs more; tiled = tiled; has = h.2; is_node = tt; link_is = h.0.next_is; last_is = refl; few = omega (arith, length-append (lower_nodes es) (nodes_of (node p r fs more))) };
}

follows : {b : List ℕ} {most here last : ℕ} → EndsIn b most here last → Follows b most here last
follows {b = b} {most = most} e = rw (e.link_is, ← e.last_is) (follow b e.tiles e.levels most e.nodes e.tiled e.has e.is_node e.few)

-- ---- the walk along it, in an image that is as it was

-- after so many turns it is at a node from which it comes to the same end
pub record Following (b : List ℕ) (at turn here : ℕ) : Type 0 where
  pub leads : (last : ℕ) → EndsIn b (length b) at last → EndsIn b (length b - turn) here last

module _ {b now : List ℕ} {at turn here : ℕ} (f : Following b at turn here) (same : now ≡ b) where
  pub inside_now : HasEnd b at → here + 20 ≤ length now
  inside_now h = rw same (follows (f.leads h.0 h.1)).inside

  pub follow_done : length b ≤ turn → IsEnd b at here
  follow_done done = record { is = λ last e. absurd (omega (arith, (follows (f.leads last e)).left)) }

  module _ {next : ℕ} (value : next ≡ next_of now here) where
    is_next : next ≡ next_of b here
    is_next = rw same at value

    pub follow_end : next ≡ 0 → IsEnd b at here
    follow_end z = record { is = λ last e. (follows (f.leads last e)).ends (sym is_next ∙ z) }

    pub follow_more : next ≢ 0 → Following b at (turn + 1) next
    follow_more n =
        let less : length b - turn - 1 ≡ length b - (turn + 1) = omega arith in
        record { leads = λ last e. rw (is_next, ← less) ((follows (f.leads last e)).goes_on (λ z. n (is_next ∙ z))) }

pub tail_set : {b mid now : List ℕ} {vdr at end : ℕ} → IsEnd b at end → mid ≡ b → end < 256 ^ 8 → now ≡ with_field mid vdr vdr_vxr_tail end → TailSet b now vdr at
tail_set {end = end} ends same small e = record { end = end; ends = ends; small = small; written = rw (← same) e }
