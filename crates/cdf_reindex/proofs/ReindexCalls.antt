-- What a good image gives for the calls by which the index of one of its variables is made anew, and what they come to.
use Rattle.cdf_reindex.proofs.Common.{length-with_field, AllGiven, AreFree, Entry, Good, HasIndex, In, IndexMade, IsNode, IsRebuilt, IsSound, Kind, LiesIn, List, Nodes, Reindexed, StandsAmong, VariableShape, [], among_all, ap, arith, fits, good_by_its_shape, good_image, good_index, good_is_sound, heads_written, image_limit, index_of, inl, inr, leaf_words, leaves_of, length, length-map, map, name_room, nil_from_length, no_node, node, nodes_of, number, one_of, refl, reindex_room, shape, subst, sym, variables, vdr_vxr_head, vdr_vxr_tail, vdrs, with_field, with_writes, ℕ, ◌+◌, ◌<◌, ◌^◌, ◌∙◌, ◌≡◌, ◌≤◌}
use Rattle.cdf_reindex.proofs.MadeFollows.{good_now, lies, old_free, rebuilt, sound_linked}
use Rattle.cdf_reindex.proofs.PyramidBuilt.{TreeMade, few_leaves, tree_made}

-- an index of no nodes is none
no_nodes : (nodes : Nodes) → (nodes_of nodes ≡ [] → nodes ≡ no_node) × ((nodes_of nodes ≡ [] → ⊥) → IsNode nodes)
unfolding nodes_of
no_nodes no_node = (λ e. refl, λ some. some refl)
no_nodes (node place room entries more) = (λ e. absurd cc, λ some. tt)

module _ (b : List ℕ) (good : Good b) where
  index_is : {kind : Kind} {before : List VariableShape} {own : VariableShape} {after : List VariableShape} {vdr : ℕ} → StandsAmong b kind before own after → own.vdr ≡ vdr → HasIndex b (number b vdr vdr_vxr_head) × (index_of b vdr ≡ own.index)
  index_is {kind = kind} {before = before} {own = own} {after = after} among is =
      let at = among_all b kind before own after among.was in
      subst (λ (m : ℕ). HasIndex b (number b m vdr_vxr_head) × (index_of b m ≡ own.index)) is (good_index b (shape b) at.front own at.rest (good_image b (shape b) (good_by_its_shape b good)) (good_is_sound b good) at.all)

  module _ (vdr : ℕ) (i : In vdr (vdrs (variables (shape b)))) where
    -- VXRhead lies in the image, and leads to an index
    pub head_there : LiesIn b vdr vdr_vxr_head
    head_there = omega (arith, name_room good (one_of b vdr i).among, (one_of b vdr i).vdr_is)

    pub has_index : HasIndex b (number b vdr vdr_vxr_head)
    has_index = (index_is (one_of b vdr i).among (one_of b vdr i).vdr_is).0

    pub good_again : {limit : ℕ} {now : List ℕ} → length b + reindex_room (index_of b vdr) ≤ limit → limit ≤ image_limit → ((kind : Kind) (before : List VariableShape) (own : VariableShape) (after : List VariableShape) → StandsAmong b kind before own after → own.vdr ≡ vdr → Reindexed b now own) → Good now
    good_again {now = now} fits most made =
        let one = one_of b vdr i in
        elim (made one.kind one.before one.own one.after one.among one.vdr_is) [
          | inl same ↦ subst Good (sym same.1) good
          | inr r ↦ good_now good one.among r.1.built r.1.heads now r.1.given (omega (arith, r.1.longest, ap reindex_room (index_is one.among one.vdr_is).1))
        ]

    pub few : (leaves : List Entry) → leaves ≡ map leaf_words (leaves_of (index_of b vdr)) → length leaves ≤ 2147483648
    few leaves leaves_are = omega (arith, ap length leaves_are ∙ length-map (leaves_of (index_of b vdr)) leaf_words, few_leaves (index_of b vdr) has_index.order)

  -- its nodes were read: there were none, or it was built anew
  module _ {vdr : ℕ} {nodes : List ℕ} (nodes_are : nodes ≡ nodes_of (index_of b vdr)) where
    pub nothing_done : length nodes ≡ 0 → (kind : Kind) (before : List VariableShape) (own : VariableShape) (after : List VariableShape) → StandsAmong b kind before own after → own.vdr ≡ vdr → Reindexed b b own
    nothing_done none kind before own after among is = inl ((no_nodes own.index).0 (sym (nodes_are ∙ ap nodes_of (index_is among is).1) ∙ nil_from_length nodes none), refl)

    pub reindexed : {now : List ℕ} → (length nodes ≡ 0 → ⊥) → ((kind : Kind) (before : List VariableShape) (own : VariableShape) (after : List VariableShape) → StandsAmong b kind before own after → own.vdr ≡ vdr → IsRebuilt b now own)
        → (kind : Kind) (before : List VariableShape) (own : VariableShape) (after : List VariableShape) → StandsAmong b kind before own after → own.vdr ≡ vdr → Reindexed b now own
    reindexed some by kind before own after among is = inr ((no_nodes own.index).1 (λ e. some (ap length (nodes_are ∙ ap nodes_of (index_is among is).1 ∙ e))), by kind before own after among is)

-- ---- the nodes were made: what the next calls ask, and what they come to

module _ (b : List ℕ) (good : Good b) (vdr : ℕ) {leaves : List Entry} (leaves_are : leaves ≡ map leaf_words (leaves_of (index_of b vdr))) (made : List ℕ) {top : ℕ} (index_made : IndexMade b made leaves top) (small : top < 2 ^ 64) where
  module _ {kind : Kind} {before : List VariableShape} {own : VariableShape} {after : List VariableShape} (among : StandsAmong b kind before own after) (is : own.vdr ≡ vdr) where
    tree : TreeMade b made own top
    tree = let at = index_is b good among is in tree_made good among (rw at.1 at (few_leaves (index_of b vdr) at.0.order)) made top small (rw (leaves_are, at.1) at index_made)

    heads : {first linked : List ℕ} → first ≡ with_field made vdr vdr_vxr_head top → linked ≡ with_field first vdr vdr_vxr_tail top → linked ≡ with_writes made (heads_written own.vdr tree.index)
    heads head tail = rw (tail, head) (λ i. with_field (with_field made (sym is i) vdr_vxr_head (tree.link_is i)) (sym is i) vdr_vxr_tail (tree.link_is i))

    pub rebuilt_by : {nodes first linked now : List ℕ} → nodes ≡ nodes_of (index_of b vdr) → first ≡ with_field made vdr vdr_vxr_head top → linked ≡ with_field first vdr vdr_vxr_tail top → AllGiven linked now nodes → IsRebuilt b now own
    rebuilt_by {now = now} old head tail given = rebuilt good among tree.built (heads head tail) now (rw (old, (index_is b good among is).1) at given)

  module _ (i : In vdr (vdrs (variables (shape b)))) where
    pub head_written_there : LiesIn made vdr vdr_vxr_head
    head_written_there = omega (arith, lies good (one_of b vdr i).among (tree (one_of b vdr i).among (one_of b vdr i).vdr_is).built vdr_vxr_head (omega arith), (one_of b vdr i).vdr_is)

    pub tail_written_there : {first : List ℕ} → first ≡ with_field made vdr vdr_vxr_head top → LiesIn first vdr vdr_vxr_tail
    tail_written_there head = omega (arith, ap length head ∙ length-with_field made vdr vdr_vxr_head top head_written_there, lies good (one_of b vdr i).among (tree (one_of b vdr i).among (one_of b vdr i).vdr_is).built vdr_vxr_tail (omega arith), (one_of b vdr i).vdr_is)

    module _ {first linked : List ℕ} (head : first ≡ with_field made vdr vdr_vxr_head top) (tail : linked ≡ with_field first vdr vdr_vxr_tail top) where
      pub linked_sound : IsSound linked (shape linked)
      linked_sound = sound_linked good (one_of b vdr i).among (tree (one_of b vdr i).among (one_of b vdr i).vdr_is).built (heads (one_of b vdr i).among (one_of b vdr i).vdr_is head tail)

      pub linked_free : {nodes : List ℕ} → nodes ≡ nodes_of (index_of b vdr) → AreFree linked nodes
      linked_free old = rw (old, (index_is b good (one_of b vdr i).among (one_of b vdr i).vdr_is).1) (old_free good (one_of b vdr i).among (tree (one_of b vdr i).among (one_of b vdr i).vdr_is).built (heads (one_of b vdr i).among (one_of b vdr i).vdr_is head tail))
