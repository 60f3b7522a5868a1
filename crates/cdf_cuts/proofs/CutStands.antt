-- Where what was planned is done, and the heads of all records stay, the image has the index that a cut leaves.
use Rattle.cdf_cuts.proofs.Common.{Bool, Done, Each, Each-split, Entries, Entry, HasNodes, In, In-append_left, In-append_right, Leaf, List, Names, NodeSays, Nodes, Range, SameHeads, SayEntries, SaysEntry, Span, [], ap, arith, block, cut_words, cvvr_type, dropped, entry_count, entry_in, entry_leaves, false, if◌then◌else◌, inl, inr, is_linkable, kept_by, leaves_of, link_if, lower_nodes, link_to, linkable_kept, linkable_same, lower, map-append, next_of, no_entry, no_node, node, nodes_of, places_of, plan_below, plan_of, range, refl, rewrite_one, stands_after, step, subst, suc, sym, true, type_at, vxr_type, zero, ℕ, ◌++◌, ◌+◌, ◌<◌, ◌==◌, ◌∙◌, ◌∷◌, ◌≡◌, ◌≢◌}
use Rattle.cdf_cuts.proofs.CutWords.{cut, cut_below, length_words, words_are, words_of}
unfoldable use Rattle.cdf_edits.specs.Index.Grown.{cut_entries, cut_nodes}
use Rattle.cdf_edits.specs.Index.Grown.{block_if, greatest_last, least_first, lower_if, node_if}

-- words that a node says one by one
pub say_entries : (b : List ℕ) (place i : ℕ) (entries : Entries) → ((j : ℕ) → j < entry_count entries → SaysEntry b place (i + j) (entry_in (words_of entries) j).first (entry_in (words_of entries) j).last (entry_in (words_of entries) j).place) → SayEntries b place i entries
say_entries b place i no_entry s = tt
say_entries b place i (block first last at packed entries) s = let z : i + 0 ≡ i = omega arith in (rw z at (s 0 (omega arith)), say_entries b place (suc i) entries (λ j lt. let on : i + suc j ≡ suc i + j = omega arith in rw on at (s (suc j) (omega arith))))
say_entries b place i (lower first last nodes entries) s = let z : i + 0 ≡ i = omega arith in (rw z at (s 0 (omega arith)), say_entries b place (suc i) entries (λ j lt. let on : i + suc j ≡ suc i + j = omega arith in rw on at (s (suc j) (omega arith))))

module _ {b now records records' : List ℕ} (heads : SameHeads b now records records') (span : Span) where
  -- what the plan of a chain comes to
  abbrev Stays : ℕ → ℕ → Nodes → Type 0
  Stays levels prev rest = HasNodes now records' levels rest × (prev ≢ 0 → next_of now prev ≡ link_to rest)

  link_said : (prev place : ℕ) → Each (Done now) (link_if prev place) → prev ≢ 0 → next_of now prev ≡ place
  link_said zero place e ne = absurd (ne refl)
  link_said (suc prev) place e ne = e.0

  node_says : (place room used levels : ℕ) (es' : Entries) (rest : Nodes) → is_linkable b records vxr_type place ≡ true → place ≢ 0 → NodeSays now (record { place = place; room = room; used = used; entries = words_of es' }) → Names now records' levels es' → Stays (suc levels) place rest → HasNodes now records' (suc levels) (node place room es' rest)
  unfolding HasNodes
  node_says place room used levels es' rest link ne says names stays =
      let many = length_words es' in (
        record {
          linkable = linkable_kept b now records records' heads vxr_type place link;
          next_is = stays.1 ne;
          room_is = says.room_is;
          used_is = says.used_is ∙ many;
          say_entries = say_entries now place 0 es' (λ j lt. let z : 0 + j ≡ j = omega arith in rw z (says.says j (subst (λ (n : ℕ). j < n) (sym many) lt)));
        },
        names,
        stays.0,
      )

  -- a node and what stays of its entries
  node_with : (prev place room used levels : ℕ) (es' : Entries) (ws : List Entry) (more rest : Nodes) → ws ≡ words_of es' → is_linkable b records vxr_type place ≡ true → place ≢ 0
      → Each (Done now) (step prev place room used ws ++ plan_of span (stands_after prev place ws) more) → Names now records' levels es' → ((p : ℕ) → Each (Done now) (plan_of span p more) → Stays (suc levels) p rest) → Stays (suc levels) prev (node_if place room es' rest)
  node_with prev place room used levels no_entry ws more rest e link ne done names goes = goes prev (rw e at done).1
  node_with prev place room used levels (block f l q packed es) ws more rest e link ne done names goes =
      let es' = block f l q packed es in
      let parts = Each-split (Done now) (step prev place room used (words_of es')) (plan_of span place more) (rw e at done) in
      let here = Each-split (Done now) (link_if prev place) (rewrite_one place room used (words_of es')) parts.0 in
      (node_says place room used levels es' rest link ne here.1.0 names (goes place parts.1), link_said prev place here.0)
  node_with prev place room used levels (lower f l ns es) ws more rest e link ne done names goes =
      let es' = lower f l ns es in
      let parts = Each-split (Done now) (step prev place room used (words_of es')) (plan_of span place more) (rw e at done) in
      let here = Each-split (Done now) (link_if prev place) (rewrite_one place room used (words_of es')) parts.0 in
      (node_says place room used levels es' rest link ne here.1.0 names (goes place parts.1), link_said prev place here.0)

  block_names : (rs : List Range) (place levels : ℕ) (packed : Bool) (es : Entries) → is_linkable b records vxr_type place ≡ false → ((type_at b place == cvvr_type) ≡ packed) → In place records → Names now records' levels es → Names now records' levels (block_if rs place packed es)
  unfolding Names
  block_names [] place levels packed es link is i names = names
  block_names (r ∷ rest) place levels packed es link is i names = (linkable_same b now records records' heads vxr_type place i ∙ link, ap (λ (t : ℕ). t == cvvr_type) (heads.types place i) ∙ is, names)

  lower_names : (first last levels : ℕ) (nodes : Nodes) (es : Entries) → HasNodes now records' levels nodes → Names now records' levels es → Names now records' levels (lower_if first last nodes es)
  unfolding Names
  lower_names first last levels no_node es has names = names
  lower_names first last levels (node place room entries more) es has names = (tt, has, names)

  mutual
    unfolding HasNodes Names nodes_of lower_nodes leaves_of entry_leaves cut_nodes cut_entries plan_of plan_below

    pub cut_stands : (levels prev : ℕ) (ns : Nodes) → HasNodes b records levels ns → ((m : ℕ) → In m (nodes_of ns) → m ≢ 0) → ((m : ℕ) → In m (places_of (leaves_of ns)) → In m records) → Each (Done now) (plan_of span prev ns) → Stays levels prev (cut span ns)
    cut_stands levels prev no_node h some blocks done = (tt, link_said prev 0 done)
    cut_stands zero prev (node place room es more) h some blocks done = absurd h
    cut_stands (suc levels) prev (node place room es more) h some blocks done =
        let parts = map-append (λ (leaf : Leaf). leaf.place) (entry_leaves es) (leaves_of more) in
        let there = λ (m : ℕ) (i : In m (places_of (entry_leaves es))). blocks m (subst (In m) (sym parts) (In-append_left m (places_of (entry_leaves es)) (places_of (leaves_of more)) i)) in
        let behind = λ (m : ℕ) (i : In m (places_of (leaves_of more))). blocks m (subst (In m) (sym parts) (In-append_right m (places_of (entry_leaves es)) (places_of (leaves_of more)) i)) in
        let both = Each-split (Done now) (plan_below span es) (step prev place room (entry_count es) (cut_words span es) ++ plan_of span (stands_after prev place (cut_words span es)) more) done in
        let names = cut_names levels es h.1 (λ m i. some m (inr (In-append_left m (lower_nodes es) (nodes_of more) i))) there both.0 in
        node_with prev place room (entry_count es) levels (cut_below span es) (cut_words span es) more (cut span more) (words_are span es) h.0.linkable (some place (inl refl)) both.1 names
        (λ p d. cut_stands (suc levels) p more h.2 (λ m i. some m (inr (In-append_right m (lower_nodes es) (nodes_of more) i))) behind d)

    pub cut_names : (levels : ℕ) (es : Entries) → Names b records levels es → ((m : ℕ) → In m (lower_nodes es) → m ≢ 0) → ((m : ℕ) → In m (places_of (entry_leaves es)) → In m records) → Each (Done now) (plan_below span es) → Names now records' levels (cut_below span es)
    cut_names levels no_entry h some blocks done = tt
    cut_names levels (block first last place packed es) h some blocks done =
        let both = Each-split (Done now) (dropped (kept_by span (range first last)) place) (plan_below span es) done in
        block_names (kept_by span (range first last)) place levels packed (cut_below span es) h.0 h.1 (blocks place (inl refl)) (cut_names levels es h.2 some (λ m i. blocks m (inr i)) both.1)
    cut_names levels (lower first last nodes es) h some blocks done =
        let parts = map-append (λ (leaf : Leaf). leaf.place) (leaves_of nodes) (entry_leaves es) in
        let there = λ (m : ℕ) (i : In m (places_of (leaves_of nodes))). blocks m (subst (In m) (sym parts) (In-append_left m (places_of (leaves_of nodes)) (places_of (entry_leaves es)) i)) in
        let behind = λ (m : ℕ) (i : In m (places_of (entry_leaves es))). blocks m (subst (In m) (sym parts) (In-append_right m (places_of (leaves_of nodes)) (places_of (entry_leaves es)) i)) in
        let both = Each-split (Done now) (plan_of span 0 nodes) (plan_below span es) done in
        let below = cut_stands levels 0 nodes h.1 (λ m i. some m (In-append_left m (nodes_of nodes) (lower_nodes es) i)) there both.0 in
        lower_names (if span.close then least_first (cut span nodes) else first) (if span.close then greatest_last (cut span nodes) else last) levels (cut span nodes) (cut_below span es) below.0 (cut_names levels es h.2 (λ m i. some m (In-append_right m (nodes_of nodes) (lower_nodes es) i)) behind both.1)
