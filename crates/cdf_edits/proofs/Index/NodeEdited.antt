-- One node of an index is edited, with the chain behind it: where all other nodes stay, the new image has the edited index.
use Rattle.cdf_edits.proofs.Common.{arith, Distinct, Distinct-back, Distinct-front, Entries, HasNodes, In, In-append_left, In-append_right, IsNode, Leaf, List, Names, NodeFits, Nodes, SayEntries, SaysEntry, SaysNode, ap, block, cases_eq, entry_count, entry_leaves, eq-eqb, eqb, false, inl, inr, leaves_of, link_to, lower, lower_nodes, map, map-append, nat_tests, ne_eqb, no_entry, no_node, node, nodes_of, refl, subst, suc, sym, true, zero, ℕ, ◌++◌, ◌∙◌, ◌≡◌, ◌≢◌}
use Rattle.cdf_edits.proofs.Edits.Common.{Kept, SameHeads, names_kept, node_kept, nodes_kept}
pub use Rattle.cdf_edits.specs.Index.Redone.{Edit}
unfoldable pub use Rattle.cdf_edits.specs.Index.Redone.{redo, redo_below}

-- what an edit of the node at a place owes, the rest having moved over to the new image
pub record Owed (b now records records' : List ℕ) (at : ℕ) (edit : Edit) : Type 0 where
  pub same_link : (room : ℕ) (entries : Entries) (more : Nodes) → link_to (edit room entries more) ≡ at
  pub is_node : (room : ℕ) (entries : Entries) (more : Nodes) → IsNode (edit room entries more)
  pub stands : (levels room : ℕ) (entries : Entries) (more : Nodes) → SaysNode b records at room entries more → Names now records' levels entries → HasNodes now records' (suc levels) more → HasNodes now records' (suc levels) (edit room entries more)

pub link_redone : (at : ℕ) (edit : Edit) (nodes : Nodes) → ((room : ℕ) (entries : Entries) (more : Nodes) → link_to (edit room entries more) ≡ at) → link_to (redo at edit nodes) ≡ link_to nodes
unfolding redo redo_below
link_redone at edit no_node h = refl
link_redone at edit (node place room entries more) h = grind (arith, nat_tests, h room entries more)

node_stays : (at : ℕ) (edit : Edit) (nodes : Nodes) → ((room : ℕ) (entries : Entries) (more : Nodes) → IsNode (edit room entries more)) → IsNode nodes → IsNode (redo at edit nodes)
unfolding redo redo_below
node_stays at edit no_node h i = i
node_stays at edit (node place room entries more) h i = grind (arith, nat_tests, h room entries more)

pub count_redone : (at : ℕ) (edit : Edit) (entries : Entries) → entry_count (redo_below at edit entries) ≡ entry_count entries
unfolding redo redo_below
count_redone at edit no_entry = refl
count_redone at edit (block first last place packed entries) = ap suc (count_redone at edit entries)
count_redone at edit (lower first last nodes entries) = ap suc (count_redone at edit entries)

say_redone : (b : List ℕ) (place i at : ℕ) (edit : Edit) (entries : Entries) → ((room : ℕ) (es : Entries) (more : Nodes) → link_to (edit room es more) ≡ at) → SayEntries b place i entries → SayEntries b place i (redo_below at edit entries)
unfolding redo redo_below
say_redone b place i at edit no_entry h s = s
say_redone b place i at edit (block first last offset packed entries) h s = (s.0, say_redone b place (suc i) at edit entries h s.1)
say_redone b place i at edit (lower first last nodes entries) h s =
    (subst (λ (x : ℕ). SaysEntry b place i first last x) (sym (link_redone at edit nodes h)) s.0, say_redone b place (suc i) at edit entries h s.1)

abbrev Places : List Leaf → List ℕ
Places leaves = map (λ (leaf : Leaf). leaf.place) leaves

module _ (b now records records' : List ℕ) (heads : SameHeads b now records records') (at : ℕ) (edit : Edit) (owed : Owed b now records records' at edit) where
  mutual
    unfolding HasNodes Names nodes_of lower_nodes leaves_of entry_leaves redo redo_below

    pub redone : (levels : ℕ) (nodes : Nodes) → HasNodes b records levels nodes → Distinct (nodes_of nodes) → ((m : ℕ) → In m (nodes_of nodes) → m ≢ at → Kept b now m × NodeFits b m)
        → ((m : ℕ) → In m (Places (leaves_of nodes)) → In m records) → HasNodes now records' levels (redo at edit nodes)
    redone levels no_node h d k blocks = tt
    redone zero (node place room entries more) h d k blocks = absurd h
    redone (suc levels) (node place room entries more) h d k blocks =
        let parts = map-append (λ (leaf : Leaf). leaf.place) (entry_leaves entries) (leaves_of more) in
        let es = Places (entry_leaves entries) in
        let ms = Places (leaves_of more) in
        let low = λ (m : ℕ) (i : In m (lower_nodes entries)). In-append_left m (lower_nodes entries) (nodes_of more) i in
        let behind = λ (m : ℕ) (i : In m (nodes_of more)). In-append_right m (lower_nodes entries) (nodes_of more) i in
        let low_blocks = λ (m : ℕ) (i : In m es). blocks m (subst (λ (x : List ℕ). In m x) (sym parts) (In-append_left m es ms i)) in
        let more_blocks = λ (m : ℕ) (i : In m ms). blocks m (subst (λ (x : List ℕ). In m x) (sym parts) (In-append_right m es ms i)) in
        elim (cases_eq place at) [
          | inl e ↦
              let other : (m : ℕ) → In m (lower_nodes entries ++ nodes_of more) → m ≢ at = λ m i z. d.0 (subst (λ (y : ℕ). In y (lower_nodes entries ++ nodes_of more)) (z ∙ sym e) i) in
              let test : eqb place at ≡ true = eq-eqb place at e in
              rw test (owed.stands levels room entries more (subst (λ (y : ℕ). SaysNode b records y room entries more) e h.0)
              (names_kept b now records records' heads levels entries h.1 (λ m i. (k m (inr (low m i)) (other m (low m i))).0) (λ m i. (k m (inr (low m i)) (other m (low m i))).1) low_blocks)
              (nodes_kept b now records records' heads (suc levels) more h.2 (λ m i. (k m (inr (behind m i)) (other m (behind m i))).0) (λ m i. (k m (inr (behind m i)) (other m (behind m i))).1) more_blocks))
          | inr ne ↦
              let test : eqb place at ≡ false = ne_eqb place at ne in
              let own = k place (inl refl) ne in
              let says = node_kept b now records records' heads place own.0 own.1 room entries more h.0 in
              rw test (
                grind (arith, says, link_redone at edit more owed.same_link, count_redone at edit entries, say_redone now place 0 at edit entries owed.same_link says.say_entries),
                below_redone levels entries h.1 (Distinct-front (lower_nodes entries) (nodes_of more) d.1) (λ m i. k m (inr (low m i))) low_blocks,
                redone (suc levels) more h.2 (Distinct-back (lower_nodes entries) (nodes_of more) d.1) (λ m i. k m (inr (behind m i))) more_blocks,
              )
        ]

    pub below_redone : (levels : ℕ) (entries : Entries) → Names b records levels entries → Distinct (lower_nodes entries) → ((m : ℕ) → In m (lower_nodes entries) → m ≢ at → Kept b now m × NodeFits b m)
        → ((m : ℕ) → In m (Places (entry_leaves entries)) → In m records) → Names now records' levels (redo_below at edit entries)
    below_redone levels no_entry h d k blocks = tt
    below_redone levels (block first last place packed entries) h d k blocks =
        let here = names_kept b now records records' heads levels (block first last place packed no_entry) (h.0, h.1, tt) (λ m i. absurd i) (λ m i. absurd i) (λ m i. elim i [ inl e ↦ subst (λ (x : ℕ). In x records) (sym e) (blocks place (inl refl)) | inr none ↦ absurd none ]) in
        (here.0, here.1, below_redone levels entries h.2 d k (λ m i. blocks m (inr i)))
    below_redone levels (lower first last nodes entries) h d k blocks =
        let parts = map-append (λ (leaf : Leaf). leaf.place) (leaves_of nodes) (entry_leaves entries) in
        let ns = Places (leaves_of nodes) in
        let es = Places (entry_leaves entries) in (
          node_stays at edit nodes owed.is_node h.0,
          redone levels nodes h.1 (Distinct-front (nodes_of nodes) (lower_nodes entries) d) (λ m i. k m (In-append_left m (nodes_of nodes) (lower_nodes entries) i)) (λ m i. blocks m (subst (λ (x : List ℕ). In m x) (sym parts) (In-append_left m ns es i))),
          below_redone levels entries h.2 (Distinct-back (nodes_of nodes) (lower_nodes entries) d) (λ m i. k m (In-append_right m (nodes_of nodes) (lower_nodes entries) i)) (λ m i. blocks m (subst (λ (x : List ℕ). In m x) (sym parts) (In-append_right m ns es i))),
        )
