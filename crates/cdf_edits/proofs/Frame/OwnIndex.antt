-- An index is the same one among its own records, and among more of them.
use Rattle.cdf_edits.proofs.Common.{Entries, HasNodes, In, In-append_left, In-append_right, IsIndex, Leaf, List, Names, Nodes, block, entry_leaves, inl, inr, is_in, is_in-true, is_linkable, leaves_of, linkable-in, lower, lower_nodes, map, map-append, nat_le, no_entry, no_node, node, nodes_of, refl, size_at, subst, suc, sym, type_at, vxr_type, zero, ℕ, ◌==◌, ◌∙◌, ◌≡◌}
use Rattle.std.proofs.Common.{◌&&◌}

abbrev pub blocks_of : List Leaf → List ℕ
blocks_of leaves = map (λ (leaf : Leaf). leaf.place) leaves

module _ (b records own : List ℕ) where
  linkable_own : (type place : ℕ) → In place records → In place own → is_linkable b own type place ≡ is_linkable b records type place
  linkable_own type place i j =
      let there : is_in place own ≡ is_in place records = is_in-true place own j ∙ sym (is_in-true place records i) in
      λ k. (there k && (type_at b place == type)) && nat_le 28 (size_at b place)

  mutual
    unfolding HasNodes Names nodes_of lower_nodes leaves_of entry_leaves

    nodes_own : (levels : ℕ) (nodes : Nodes) → HasNodes b records levels nodes → ((m : ℕ) → In m (nodes_of nodes) → In m own) → ((m : ℕ) → In m (blocks_of (leaves_of nodes)) → In m records) → ((m : ℕ) → In m (blocks_of (leaves_of nodes)) → In m own)
        → HasNodes b own levels nodes
    nodes_own levels no_node h among stand blocks = tt
    nodes_own zero (node place room entries more) h among stand blocks = h
    nodes_own (suc levels) (node place room entries more) h among stand blocks =
        let parts = map-append (λ (leaf : Leaf). leaf.place) (entry_leaves entries) (leaves_of more) in
        let es = blocks_of (entry_leaves entries) in
        let ms = blocks_of (leaves_of more) in
        let left = λ (m : ℕ) (i : In m es). subst (λ (x : List ℕ). In m x) (sym parts) (In-append_left m es ms i) in
        let right = λ (m : ℕ) (i : In m ms). subst (λ (x : List ℕ). In m x) (sym parts) (In-append_right m es ms i) in (
          record {
            linkable = linkable_own vxr_type place (linkable-in b records vxr_type place h.0.linkable) (among place (inl refl)) ∙ h.0.linkable;
            next_is = h.0.next_is;
            room_is = h.0.room_is;
            used_is = h.0.used_is;
            say_entries = h.0.say_entries;
          },
          names_own levels entries h.1 (λ m i. among m (inr (In-append_left m (lower_nodes entries) (nodes_of more) i))) (λ m i. stand m (left m i)) (λ m i. blocks m (left m i)),
          nodes_own (suc levels) more h.2 (λ m i. among m (inr (In-append_right m (lower_nodes entries) (nodes_of more) i))) (λ m i. stand m (right m i)) (λ m i. blocks m (right m i)),
        )

    names_own : (levels : ℕ) (entries : Entries) → Names b records levels entries → ((m : ℕ) → In m (lower_nodes entries) → In m own) → ((m : ℕ) → In m (blocks_of (entry_leaves entries)) → In m records) → ((m : ℕ) → In m (blocks_of (entry_leaves entries)) → In m own)
        → Names b own levels entries
    names_own levels no_entry h among stand blocks = tt
    names_own levels (block first last place packed entries) h among stand blocks =
        (linkable_own vxr_type place (stand place (inl refl)) (blocks place (inl refl)) ∙ h.0, h.1, names_own levels entries h.2 among (λ m i. stand m (inr i)) (λ m i. blocks m (inr i)))
    names_own levels (lower first last nodes entries) h among stand blocks =
        let parts = map-append (λ (leaf : Leaf). leaf.place) (leaves_of nodes) (entry_leaves entries) in
        let ns = blocks_of (leaves_of nodes) in
        let es = blocks_of (entry_leaves entries) in
        let left = λ (m : ℕ) (i : In m ns). subst (λ (x : List ℕ). In m x) (sym parts) (In-append_left m ns es i) in
        let right = λ (m : ℕ) (i : In m es). subst (λ (x : List ℕ). In m x) (sym parts) (In-append_right m ns es i) in (
          h.0,
          nodes_own levels nodes h.1 (λ m i. among m (In-append_left m (nodes_of nodes) (lower_nodes entries) i)) (λ m i. stand m (left m i)) (λ m i. blocks m (left m i)),
          names_own levels entries h.2 (λ m i. among m (In-append_right m (nodes_of nodes) (lower_nodes entries) i)) (λ m i. stand m (right m i)) (λ m i. blocks m (right m i)),
        )

  pub index_own : (link : ℕ) (nodes : Nodes) → IsIndex b records link nodes → ((m : ℕ) → In m (nodes_of nodes) → In m own) → ((m : ℕ) → In m (blocks_of (leaves_of nodes)) → In m records) → ((m : ℕ) → In m (blocks_of (leaves_of nodes)) → In m own) → IsIndex b own link nodes
  index_own link nodes x among stand blocks = record { link_is = x.link_is; has_nodes = nodes_own 8 nodes x.has_nodes among stand blocks; once = x.once }
