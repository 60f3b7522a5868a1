-- A node on the way whose entry ends later, in the tree.
use Rattle.cdf_index.proofs.Common.{Entries, List, Names, Owed, SameHeads, SayEntries, SaysEntry, StillSays, Widened, arith, block, entry_count, length, link_to, linkable_kept, lower, max, no_entry, refl, room_at, suc, used_count, vxr_type, widened, wider, zero, ℕ, ◌+◌, ◌<◌, ◌≡◌, ◌≢◌, ◌≤◌}
use Rattle.cdf_index.proofs.NodeGrown.{node_has}
use Rattle.cdf_index.proofs.ByParts.{entries_by}
use Rattle.cdf_index.proofs.Saying.{say_moved}

names_widened : (b ts : List ℕ) (levels last : ℕ) (es : Entries) (i : ℕ) → Names b ts levels es → Names b ts levels (widened last i es) × (entry_count (widened last i es) ≡ entry_count es)
unfolding Names
names_widened b ts levels last = entries_by (grind arith)

-- the entries from number k on, the one with number i wider and the others as they were
say_widened : (b now : List ℕ) (at last i k n : ℕ) (es : Entries) → i ≡ k + n → ((f l o : ℕ) → SaysEntry b at i f l o → SaysEntry now at i f (max l last) o) → ((j : ℕ) → j < k + entry_count es → j ≢ i → StillSays b now at j j) → SayEntries b at k es → SayEntries now at k (widened last n es)
say_widened b now at last i k n no_entry e here others s = tt
say_widened b now at last i k zero (block first end place packed es) e here others s =
    let q : i ≡ k = omega arith in
    ((rw q at here) first end place s.0, say_moved b now at at (suc k) (suc k) es s.1 (λ j m f l o e le lt says. (let x : j ≡ m = omega arith in rw x at (others j (omega arith) (λ y. absurd (omega arith)) f l o says))))
say_widened b now at last i k zero (lower first end nodes es) e here others s =
    let q : i ≡ k = omega arith in
    ((rw q at here) first end (link_to nodes) s.0, say_moved b now at at (suc k) (suc k) es s.1 (λ j m f l o e le lt says. (let x : j ≡ m = omega arith in rw x at (others j (omega arith) (λ y. absurd (omega arith)) f l o says))))
say_widened b now at last i k (suc n) (block first end place packed es) e here others s = (others k (omega arith) (λ x. absurd (omega arith)) first end place s.0, say_widened b now at last i (suc k) n es (omega arith) here (λ j lt ne. others j (omega arith) ne) s.1)
say_widened b now at last i k (suc n) (lower first end nodes es) e here others s = (others k (omega arith) (λ x. absurd (omega arith)) first end (link_to nodes) s.0, say_widened b now at last i (suc k) n es (omega arith) here (λ j lt ne. others j (omega arith) ne) s.1)

module _ (b now records records' : List ℕ) (heads : SameHeads b now records records') (at i last : ℕ) (w : Widened b now at i last) (most : used_count b at ≤ room_at b at) (inside : at + 28 ≤ length b) where
  -- the new image has the node with the wider entry, and all else of the tree
  pub wider_owed : Owed b now records records' at (wider last at i)
  wider_owed = record {
    same_link = λ r es more. refl;
    is_node = λ r es more. tt;
    stands = λ levels r es more h n m.
        (let wide = names_widened now records' levels last es i n in
        let u = h.used_is in
        let says = say_widened b now at last i 0 i es (omega arith) w.here (λ j lt ne. w.others j (omega arith) ne) h.say_entries in
        node_has now records' levels at r (widened last i es) more (grind (arith, linkable_kept b now records records' heads vxr_type at h.linkable, w.changed.same, h, wide.1, says)) wide.0 m);
  }
