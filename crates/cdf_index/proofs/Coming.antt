-- How a leaf comes into an index whose entries are in order: along the chain and down through entries that reach it, step by step.
use Rattle.cdf_index.proofs.Common.{AreInOrder, Bool, Entries, InOrder, Leaf, List, Nodes, [], arith, block, chain_reaches, down_at, either, entry_count, false, inl, inr, le-leb, leads_down, leb, leb-false, leb-true, lower, max, nat_tests, new_room, new_room_below, no_entry, no_node, node, past_entries, reaches, refl, room_of_new, spot, spot_below, suc, sym, true, true≢false, way, way_below, with_block, with_both, with_entry, with_leaf, with_lower, ℕ, ◌<◌, ◌∙◌, ◌∷◌, ◌≡◌, ◌≤◌}
use Rattle.std.proofs.lemmas.Bool.{cases_lt}
use Rattle.cdf_index.proofs.ByParts.{entries_by, entries_within, nodes_within}
use Rattle.cdf_index.proofs.OrderLemmas.{end_after}

-- ---- entries that reach a record

pub not_reached : (f low high : ℕ) (es : Entries) → AreInOrder low high es → f < low → reaches f es ≡ false
unfolding AreInOrder
not_reached f = entries_within (grind (arith, nat_tests))

pub chain_not_reached : (f low high : ℕ) (ns : Nodes) → InOrder low high ns → f < low → chain_reaches f ns ≡ false
unfolding InOrder AreInOrder
chain_not_reached f = nodes_within (λ low high es. Unit {0}) (grind (arith, nat_tests, not_reached, end_after))

pub reaches_from : (f low high : ℕ) (es : Entries) → AreInOrder low high es → reaches f es ≡ true → low ≤ f
reaches_from f low high es o t = elim (cases_lt f low) [ inl lt ↦ absurd (true≢false (sym t ∙ not_reached f low high es o lt)) | inr le ↦ le ]

pub chain_reaches_from : (f low high : ℕ) (ns : Nodes) → InOrder low high ns → chain_reaches f ns ≡ true → low ≤ f
chain_reaches_from f low high ns o t = elim (cases_lt f low) [ inl lt ↦ absurd (true≢false (sym t ∙ chain_not_reached f low high ns o lt)) | inr le ↦ le ]

pub leads_none : (f : ℕ) (g : Bool) (es : Entries) → reaches f es ≡ false → leads_down f g es ≡ g
leads_none f g = entries_by (grind (arith, nat_tests))

-- ---- the steps of the way

-- What a leaf makes of an index: the way to it, the node at its end, and the room of the new node, or 0.
pub data Comes (new : Leaf) (at : ℕ) : List (ℕ × ℕ) → ℕ → ℕ → Nodes → Nodes → Type 0 where
  comes_first : Comes new at [] 0 7 no_node (node at 7 (with_block new no_entry) no_node)
  comes_along : {w : List (ℕ × ℕ)} {x n place room : ℕ} {es : Entries} {more more' : Nodes} → chain_reaches new.first more ≡ true → Comes new at w x n more more' → Comes new at w x n (node place room es more) (node place room es more')
  comes_below : {w : List (ℕ × ℕ)} {x n place room : ℕ} {more : Nodes} (fs : Entries) (first last : ℕ) (nodes nodes' : Nodes) (es : Entries) → chain_reaches new.first more ≡ false → first ≤ new.first → reaches new.first es ≡ false → Comes new at w x n nodes nodes'
      → Comes new at ((place, entry_count fs) ∷ w) x n (node place room (with_both fs (lower first last nodes es)) more) (node place room (with_both fs (lower first (max last new.last) nodes' es)) more)
  comes_here : {place room : ℕ} {es : Entries} {more : Nodes} → chain_reaches new.first more ≡ false → leads_down new.first false es ≡ false → Comes new at [] place (room_of_new new.first room es) (node place room es more) (with_entry new at place room es more)

-- the same of entries, the last of which that reaches the leaf names a lower chain; it has this number
data Under (new : Leaf) (at : ℕ) : List (ℕ × ℕ) → ℕ → ℕ → ℕ → Entries → Entries → Type 0 where
  under : {w : List (ℕ × ℕ)} {x n : ℕ} (fs : Entries) (first last : ℕ) (nodes nodes' : Nodes) (es : Entries) → first ≤ new.first → reaches new.first es ≡ false → Comes new at w x n nodes nodes'
      → Under new at w x n (entry_count fs) (with_both fs (lower first last nodes es)) (with_both fs (lower first (max last new.last) nodes' es))

module _ {new : Leaf} {at : ℕ} where
  past_block : {w : List (ℕ × ℕ)} {x n i : ℕ} {es es' : Entries} (first last place : ℕ) (packed : Bool) → Under new at w x n i es es' → Under new at w x n (suc i) (block first last place packed es) (block first last place packed es')
  past_block first last place packed (under fs f l ns ns' es a r c) = under (block first last place packed fs) f l ns ns' es a r c

  past_lower : {w : List (ℕ × ℕ)} {x n i : ℕ} {es es' : Entries} (first last : ℕ) (nodes : Nodes) → Under new at w x n i es es' → Under new at w x n (suc i) (lower first last nodes es) (lower first last nodes es')
  past_lower first last nodes (under fs f l ns ns' es a r c) = under (lower first last nodes fs) f l ns ns' es a r c

  below_it : {w : List (ℕ × ℕ)} {x n i : ℕ} {es es' : Entries} (place room : ℕ) (more : Nodes) → chain_reaches new.first more ≡ false → Under new at w x n i es es' → Comes new at ((place, i) ∷ w) x n (node place room es more) (node place room es' more)
  below_it place room more t (under fs f l ns ns' es a r c) = comes_below fs f l ns ns' es t a r c

mutual
  unfolding InOrder AreInOrder way way_below spot spot_below new_room new_room_below with_leaf with_lower

  pub comes : (new : Leaf) (at low high : ℕ) (nodes : Nodes) → InOrder low high nodes → Comes new at (way new.first nodes) (spot new.first nodes) (new_room new.first nodes) nodes (with_leaf new at nodes)
  comes new at low high no_node o = comes_first
  comes new at low high (node place room es more) o = elim (either (chain_reaches new.first more)) [
    | inl t ↦ rw t (comes_along t (comes new at (past_entries low es) high more o.1))
    | inr t ↦ elim (either (leads_down new.first false es)) [
      | inl d ↦ rw (t, d) (below_it place room more t (comes_under new at low high false es o.0 d (λ e. absurd (true≢false (sym e)))))
      | inr d ↦ rw (t, d) (comes_here t d)
    ]
  ]

  comes_under : (new : Leaf) (at low high : ℕ) (g : Bool) (es : Entries) → AreInOrder low high es → leads_down new.first g es ≡ true → (g ≡ true → reaches new.first es ≡ true) → Under new at (way_below new.first es) (spot_below new.first es) (new_room_below new.first es) (down_at new.first es) es (with_lower new at es)
  comes_under new at low high g no_entry o d r = absurd (true≢false (sym (r d)))
  comes_under new at low high g (block first last place packed es) o d r = elim (either (leb first new.first)) [
    | inl t ↦ past_block first last place packed (comes_under new at (suc last) high false es o.3 (rw t at d) (λ e. absurd (true≢false (sym e))))
    | inr t ↦ absurd (omega (arith, leb-false first new.first t, reaches_from new.first (suc last) high es o.3 (rw t at (r (rw t at d))), o.1))
  ]
  comes_under new at low high g (lower first last nodes es) o d r = elim (either (reaches new.first es)) [
    | inl u ↦ let t = le-leb first new.first (omega (arith, o.1, reaches_from new.first (suc last) high es o.4 u)) in rw u (past_lower first last nodes (comes_under new at (suc last) high true es o.4 (rw t at d) (λ e. u)))
    | inr u ↦ rw u (under no_entry first last nodes (with_leaf new at nodes) es (elim (either (leb first new.first)) [ inl t ↦ leb-true first new.first t | inr t ↦ absurd (true≢false (sym (r (rw t at d)) ∙ rw (t, u) refl)) ]) u (comes new at first last nodes o.3))
  ]
