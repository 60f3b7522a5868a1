-- The node at the end of the way, and what a leaf more there leaves of the top chain.
use Rattle.cdf_leaves.proofs.Common.{from_reached, Begun, Comes, Distinct, Distinct-back, Each, Entries, HasNodes, IsNode, Leaf, List, Names, Nodes, [], ap, apart_by, arith, begins_by, below_once, below_times, comes_along, comes_below, comes_first, comes_here, inl, inr, length, link_to, block, lower, lower_nodes, max, nat_tests, no_entry, node, nodes_of, refl, room_at, suc, sym, top_chain, used_count, way_lies, widest, widest_below, with_both, with_leaf, no_node, zero, ℕ, ◌++◌, ◌-◌, ◌<◌, ◌∷◌, ◌≡◌, ◌≢◌, ◌≤◌, ◌⊎◌}
use Rattle.cdf_index.proofs.Saying.{names_parts}

-- What is found there, and what a leaf more makes of the top chain. A new node goes into it only where the way is short, and then the way ends where the search may start. None is made where the node at its end has room; else there is room in it for the entries past the new one, and for 7. No node on the way is this one.
pub record AtSpot (b : List ℕ) (l : Leaf) (w : List (ℕ × ℕ)) (x n : ℕ) (before after : Nodes) : Type 0 where
  pub link_is : link_to after ≡ link_to before
  pub stays : (n ≡ 0) ⊎ (w ≢ []) → top_chain after ≡ top_chain before
  pub grows : w ≡ [] → n ≢ 0 → length (top_chain after) ≡ suc (length (top_chain before))
  pub starts : w ≡ [] → x ≡ link_to (from_reached l.first before)
  pub has_room : used_count b x < room_at b x → n ≡ 0
  pub is_full : room_at b x ≤ used_count b x → (p : ℕ) → Begun b x l.first p → n ≡ max 7 (used_count b x - p)
  pub within : room_at b x ≤ widest before
  pub apart : Each (λ (step : ℕ × ℕ). step.0 ≢ x) w

widest_in : (fs : Entries) (first last : ℕ) (nodes : Nodes) (es : Entries) → widest nodes ≤ widest_below (with_both fs (lower first last nodes es))
unfolding widest_below
widest_in no_entry first last nodes es = omega arith
widest_in (block f l p packed fs) first last nodes es = widest_in fs first last nodes es
widest_in (lower f l ns fs) first last nodes es = omega (arith, widest_in fs first last nodes es)

pub at_spot : {l : Leaf} {at : ℕ} {w : List (ℕ × ℕ)} {x n : ℕ} {ns ns' : Nodes} → Comes l at w x n ns ns' → x ≢ 0 → (b ts : List ℕ) (levels : ℕ) → HasNodes b ts levels ns → Distinct (nodes_of ns) → AtSpot b l w x n ns ns'
unfolding HasNodes Names nodes_of lower_nodes widest widest_below
at_spot comes_first some b ts levels h d = absurd (some refl)
at_spot (comes_along t c) some b ts zero h d = absurd h
at_spot (comes_along {place = place} {es = es} {more = more} t c) some b ts (suc levels) h d =
    let r = at_spot c some b ts (suc levels) h.2 (Distinct-back (lower_nodes es) (nodes_of more) d.1) in
    record { link_is = refl; stays = λ k. ap (λ (xs : List ℕ). place ∷ xs) (r.stays k); grows = λ e n. ap suc (r.grows e n); starts = rw t r.starts; has_room = r.has_room; is_full = r.is_full; within = omega (arith, r.within); apart = r.apart }
at_spot (comes_below fs first last nodes nodes' es t le r c) some b ts zero h d = absurd h
at_spot (comes_below {x = x} {place = place} {room = room} {more = more} fs first last nodes nodes' es t le u c) some b ts (suc levels) h d =
    let r = at_spot c some b ts levels (names_parts b ts levels fs (lower first last nodes es) h.1).1.1 (below_once place room first last fs es nodes more d) in
    let apart : place ≢ x = λ e. elim (way_lies c).1 [
      | inl z ↦ some z
      | inr i ↦ apart_by x (nodes_of (node place room (with_both fs (lower first last nodes es)) more)) (nodes_of nodes) (place ∷ lower_nodes fs ++ (lower_nodes es ++ nodes_of more)) d (below_times x place room first last fs es nodes more) i (inl (sym e))
    ] in
    record { link_is = refl; stays = λ k. refl; grows = λ e. absurd (cc); starts = λ e. absurd (cc); has_room = r.has_room; is_full = r.is_full; within = omega (arith, r.within, widest_in fs first last nodes es); apart = (apart, r.apart) }
at_spot (comes_here t d) some b ts zero h o = absurd h
at_spot {l = l} {at = at} {x = x} (comes_here {place = place} {room = room} {es = es} {more = more} t d) some b ts (suc levels) h o = record {
  link_is = grind arith;
  stays = λ k. elim k [ inl z ↦ grind arith | inr ne ↦ absurd (ne refl) ];
  grows = λ e n. grind arith;
  starts = λ e. rw t refl;
  has_room = λ lt. grind (arith, nat_tests, h.0.used_is, h.0.room_is);
  is_full = λ le p begun. grind (arith, nat_tests, h.0.used_is, h.0.room_is, begins_by b x l.first p begun es h.0.used_is h.0.say_entries);
  within = omega (arith, h.0.room_is);
  apart = tt;
}

-- the first node stays where it is
pub first_stays : (l : Leaf) (at : ℕ) (ns : Nodes) → IsNode ns → (link_to (with_leaf l at ns) ≡ link_to ns) × IsNode (with_leaf l at ns)
unfolding with_leaf
first_stays l at no_node is = absurd is
first_stays l at (node place room es more) is = grind (arith, nat_tests)
