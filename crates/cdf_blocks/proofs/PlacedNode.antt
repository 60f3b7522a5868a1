-- One entry of a node was written, and names a block: the image then has the index in which the leaf is another one.
use Rattle.cdf_blocks.proofs.Common.{Entries, IsNode, Leaf, List, Nodes, SayEntries, SaysEntry, arith, block, entry_count, false, is_linkable, link_to, lower, no_entry, no_node, node, refl, room_at, suc, sym, true, used_count, vxr_type, zero, ℕ, ◌+◌, ◌<◌, ◌∙◌, ◌≡◌, ◌≢◌, ◌≤◌}
unfoldable use Rattle.cdf_blocks.proofs.Common.{HasNodes, Names}
use Rattle.cdf_index.proofs.Common.{EntrySet, MayName, Owed, SameHeads, StillSays, length, linkable_kept}
use Rattle.cdf_index.proofs.NodeGrown.{node_has}
use Rattle.cdf_index.proofs.Saying.{say_moved}
use Rattle.std.proofs.Common.{true≢false}
use Rattle.cdf_blocks.proofs.PlacedLeaf.{NamesBlock, NodeNames, BelowName, swapped, swapping}

-- a lower chain begins with a node
lower_linkable : (b ts : List ℕ) (levels : ℕ) (ns : Nodes) → IsNode ns → HasNodes b ts levels ns → is_linkable b ts vxr_type (link_to ns) ≡ true
unfolding HasNodes
lower_linkable b ts levels no_node is h = absurd is
lower_linkable b ts zero (node place room es more) is h = absurd h
lower_linkable b ts (suc levels) (node place room es more) is h = h.0.linkable

-- so what names no node is none
no_lower : (b ts : List ℕ) (levels o : ℕ) (ns : Nodes) → is_linkable b ts vxr_type o ≡ false → IsNode ns → HasNodes b ts levels ns → link_to ns ≡ o → ⊥
no_lower b ts levels o ns none is h e = true≢false (sym (lower_linkable b ts levels ns is h) ∙ (λ i. is_linkable b ts vxr_type (e i)) ∙ none)

names_swapped : (b ts : List ℕ) (levels : ℕ) (new : Leaf) (n : ℕ) (es : Entries) → MayName b ts new → Names b ts levels es → Names b ts levels (swapped n new es) × (entry_count (swapped n new es) ≡ entry_count es)
unfolding Names
names_swapped b ts levels new n no_entry m h = (tt, refl)
names_swapped b ts levels new zero (block f l p k es) m h = ((m.no_node, m.packed_is, h.2), refl)
names_swapped b ts levels new zero (lower f l ns es) m h = (h, refl)
names_swapped b ts levels new (suc n) (block f l p k es) m h = let r = names_swapped b ts levels new n es m h.2 in ((h.0, h.1, r.0), (λ i. suc (r.1 i)))
names_swapped b ts levels new (suc n) (lower f l ns es) m h = let r = names_swapped b ts levels new n es m h.2 in ((h.0, h.1, r.0), (λ i. suc (r.1 i)))

-- the entries from number k on, of which the one with number i says the new block
say_swapped : (b now ts : List ℕ) (levels at i k n f l o : ℕ) (new : Leaf) (es : Entries) → i ≡ k + n → SaysEntry b at i f l o → is_linkable now ts vxr_type o ≡ false → Names now ts levels es → SaysEntry now at i new.first new.last new.place → ((j : ℕ) → j < k + entry_count es → j ≢ i → StillSays b now at j j)
    → SayEntries b at k es → SayEntries now at k (swapped n new es)
unfolding Names
say_swapped b now ts levels at i k n f l o new no_entry e says none names here others s = tt
say_swapped b now ts levels at i k zero f l o new (block first end place packed es) e says none names here others s =
    let q : i ≡ k = omega arith in
    (rw q at here, say_moved b now at at (suc k) (suc k) es s.1 (λ j m f l o e le lt says. (let x : j ≡ m = omega arith in rw x at (others j (omega arith) (λ y. absurd (omega arith)) f l o says))))
say_swapped b now ts levels at i k zero f l o new (lower first end ns es) e says none names here others s =
    let q : i ≡ k = omega arith in
    absurd (no_lower now ts levels o ns none names.0 names.1 (sym s.0.offset_is ∙ (rw q at says).offset_is))
say_swapped b now ts levels at i k (suc n) f l o new (block first end place packed es) e says none names here others s =
    (others k (omega arith) (λ x. absurd (omega arith)) first end place s.0, say_swapped b now ts levels at i (suc k) n f l o new es (omega arith) says none names.2 here (λ j lt ne. others j (omega arith) ne) s.1)
say_swapped b now ts levels at i k (suc n) f l o new (lower first end ns es) e says none names here others s =
    (others k (omega arith) (λ x. absurd (omega arith)) first end (link_to ns) s.0, say_swapped b now ts levels at i (suc k) n f l o new es (omega arith) says none names.2 here (λ j lt ne. others j (omega arith) ne) s.1)

module _ (b now records records' : List ℕ) (heads : SameHeads b now records records') (at i f l o : ℕ) (new : Leaf) (set : EntrySet b now at i new.first new.last new.place) (most : used_count b at ≤ room_at b at) (inside : at + 28 ≤ length b) (says : SaysEntry b at i f l o) (none : is_linkable now records' vxr_type o ≡ false) (may : MayName now records' new) where
  -- the new image has the node with this entry, and all else of the tree
  pub swapped_owed : Owed b now records records' at (swapping new at i)
  swapped_owed = record {
    same_link = λ r es more. refl;
    is_node = λ r es more. tt;
    stands = λ levels r es more h n m.
        (let named = names_swapped now records' levels new i es may n in
        let u = h.used_is in
        let all = say_swapped b now records' levels at i 0 i f l o new es (omega arith) says none n set.here (λ j lt ne. set.others j (omega arith) ne) h.say_entries in
        node_has now records' levels at r (swapped i new es) more (grind (arith, linkable_kept b now records records' heads vxr_type at h.linkable, set.changed.same, h, named.1, all)) named.0 m);
  }

-- ---- that an entry says so

names_at : (b ts : List ℕ) (levels at i k n f l o : ℕ) (es : Entries) → i ≡ k + n → n < entry_count es → SaysEntry b at i f l o → is_linkable b ts vxr_type o ≡ false → Names b ts levels es → SayEntries b at k es → NamesBlock f n es
unfolding Names
names_at b ts levels at i k n f l o no_entry e lt says none names s = absurd (omega arith)
names_at b ts levels at i k zero f l o (block first end place packed es) e lt says none names s = let q : i ≡ k = omega arith in sym s.0.first_is ∙ (rw q at says).first_is
names_at b ts levels at i k zero f l o (lower first end ns es) e lt says none names s = let q : i ≡ k = omega arith in absurd (no_lower b ts levels o ns none names.0 names.1 (sym s.0.offset_is ∙ (rw q at says).offset_is))
names_at b ts levels at i k (suc n) f l o (block first end place packed es) e lt says none names s = names_at b ts levels at i (suc k) n f l o es (omega arith) (omega arith) says none names.2 s.1
names_at b ts levels at i k (suc n) f l o (lower first end ns es) e lt says none names s = names_at b ts levels at i (suc k) n f l o es (omega arith) (omega arith) says none names.2 s.1

module _ (b ts : List ℕ) (at i f l o : ℕ) (used : i < used_count b at) (says : SaysEntry b at i f l o) (none : is_linkable b ts vxr_type o ≡ false) where
  mutual
    unfolding HasNodes Names NodeNames BelowName

    pub node_names : (levels : ℕ) (ns : Nodes) → HasNodes b ts levels ns → NodeNames f i at ns
    node_names levels no_node h = tt
    node_names zero (node place room es more) h = absurd h
    node_names (suc levels) (node place room es more) h =
        ((λ e. (let n = rw e at h.0 in names_at b ts levels at i 0 i f l o es (omega arith) (omega (arith, used, n.used_is)) says none h.1 n.say_entries)), below_names levels es h.1, node_names (suc levels) more h.2)

    below_names : (levels : ℕ) (es : Entries) → Names b ts levels es → BelowName f i at es
    below_names levels no_entry h = tt
    below_names levels (block first last place packed es) h = below_names levels es h.2
    below_names levels (lower first last ns es) h = (node_names levels ns h.1, below_names levels es h.2)
