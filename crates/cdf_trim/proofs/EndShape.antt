-- Records cut at the end of an index of which no node is empty, where each block begins before them: no node and no block goes, and blocks that reach them end before them.
use Rattle.cdf_cuts.proofs.Common.{Each, Each-split, Entries, IsNode, Leaf, Nodes, [], ap, block, cut_words, entry_count, entry_leaves, leaves_of, link_to, lower, lower_nodes, lt-ltb, no_entry, no_node, node, nodes_of, range, refl, suc, true, whole_after, whole_in, ℕ, ◌++◌, ◌-◌, ◌<◌, ◌∙◌, ◌∷◌, ◌≡◌}
use Rattle.std.specs.Prelude.{false, min}
use Rattle.cdf_cuts.proofs.CutWords.{words_are, words_of}
use Rattle.cdf_cuts.specs.Planning.{opening}
unfoldable use Rattle.cdf_edits.specs.Index.Grown.{cut_entries, cut_nodes}
use Rattle.cdf_edits.specs.Index.Grown.{block_if, kept_open, lower_if, node_if}
use Rattle.cdf_puts.specs.TidyIndex.{HasEntry}
unfoldable use Rattle.cdf_puts.specs.TidyIndex.{EntriesTidy, IsTidy}

-- each block ends before a record
unfoldable mutual
  pub ended : ℕ → Nodes → Nodes
  ended first no_node = no_node
  ended first (node place room es more) = node place room (ended_below first es) (ended first more)

  pub ended_below : ℕ → Entries → Entries
  ended_below first no_entry = no_entry
  ended_below first (block f l place packed es) = block f (min l (first - 1)) place packed (ended_below first es)
  ended_below first (lower f l ns es) = lower f l (ended first ns) (ended_below first es)

-- ---- it has the same nodes

pub link_ended : (first : ℕ) (ns : Nodes) → link_to (ended first ns) ≡ link_to ns
unfolding ended
link_ended first no_node = refl
link_ended first (node place room es more) = refl

pub count_ended : (first : ℕ) (es : Entries) → entry_count (ended_below first es) ≡ entry_count es
unfolding ended_below
count_ended first no_entry = refl
count_ended first (block f l place packed es) = ap suc (count_ended first es)
count_ended first (lower f l ns es) = ap suc (count_ended first es)

mutual
  unfolding ended ended_below nodes_of lower_nodes

  pub nodes_ended : (first : ℕ) (ns : Nodes) → nodes_of (ended first ns) ≡ nodes_of ns
  nodes_ended first no_node = refl
  nodes_ended first (node place room es more) = λ i. place ∷ below_ended first es i ++ nodes_ended first more i

  pub below_ended : (first : ℕ) (es : Entries) → lower_nodes (ended_below first es) ≡ lower_nodes es
  below_ended first no_entry = refl
  below_ended first (block f l place packed es) = below_ended first es
  below_ended first (lower f l ns es) = λ i. nodes_ended first ns i ++ below_ended first es i

-- ---- it is what the cut leaves

node_stays : (first place room : ℕ) (es : Entries) (more : Nodes) → HasEntry es → node_if place room (ended_below first es) more ≡ node place room (ended_below first es) more
unfolding ended_below
node_stays first place room no_entry more h = absurd h
node_stays first place room (block f l p packed es) more h = refl
node_stays first place room (lower f l ns es) more h = refl

lower_stays : (first f l : ℕ) (ns : Nodes) (es : Entries) → IsNode ns → lower_if f l (ended first ns) es ≡ lower f l (ended first ns) es
unfolding ended
lower_stays first f l no_node es h = absurd h
lower_stays first f l (node place room entries more) es h = refl

abbrev pub Begins : ℕ → Leaf → Type 0
Begins first l = l.first < first

-- each has a word
has_word : (first : ℕ) (es : Entries) → HasEntry es → whole_after true (words_of (ended_below first es)) ≡ true
unfolding ended_below
has_word first no_entry h = absurd h
has_word first (block f l p packed es) h = refl
has_word first (lower f l ns es) h = refl

module _ (first last : ℕ) where
  -- a block that begins before the records that go keeps those before them
  pub kept_front : (f l : ℕ) → f < first → kept_open first last (range f l) ≡ range f (min l (first - 1)) ∷ []
  kept_front f l lt = rw (lt-ltb _ _ lt) refl

  mutual
    unfolding ended ended_below IsTidy EntriesTidy cut_nodes cut_entries leaves_of entry_leaves

    pub cut_ended : (ns : Nodes) → IsTidy ns → Each (Begins first) (leaves_of ns) → cut_nodes false (kept_open first last) ns ≡ ended first ns
    cut_ended no_node t e = refl
    cut_ended (node place room es more) t e =
        let parts = Each-split (Begins first) (entry_leaves es) (leaves_of more) e in
        let here = entries_ended es t.1 parts.0 in
        let behind = cut_ended more t.2 parts.1 in
        (λ i. node_if place room (here i) (behind i)) ∙ node_stays first place room es (ended first more) t.0

    pub entries_ended : (es : Entries) → EntriesTidy es → Each (Begins first) (entry_leaves es) → cut_entries false (kept_open first last) es ≡ ended_below first es
    entries_ended no_entry t e = refl
    entries_ended (block f l place packed es) t e =
        let kept = kept_front f l e.0 in
        let behind = entries_ended es t e.1 in
        λ i. block_if (kept i) place packed (behind i)
    entries_ended (lower f l ns es) t e =
        let parts = Each-split (Begins first) (leaves_of ns) (entry_leaves es) e in
        let below = cut_ended ns t.1 parts.0 in
        let behind = entries_ended es t.2 parts.1 in
        (λ i. lower_if f l (below i) (behind i)) ∙ lower_stays first f l ns (ended_below first es) t.0

  -- and the words that its nodes are to say are planned
  pub words_ended : (es : Entries) → EntriesTidy es → Each (Begins first) (entry_leaves es) → cut_words (opening first last) es ≡ words_of (ended_below first es)
  words_ended es t e = words_are (opening first last) es ∙ ap words_of (entries_ended es t e)

  -- no node of the chain goes
  pub whole_kept : (ns : Nodes) → IsTidy ns → Each (Begins first) (leaves_of ns) → whole_in (opening first last) true ns ≡ true
  unfolding IsTidy whole_in leaves_of
  whole_kept no_node t e = refl
  whole_kept (node place room es more) t e =
      let parts = Each-split (Begins first) (entry_leaves es) (leaves_of more) e in
      let w = words_ended es t.1 parts.0 in
      let stays : whole_after true (cut_words (opening first last) es) ≡ true = ap (whole_after true) w ∙ has_word first es t.0 in
      rw stays (whole_kept more t.2 parts.1)
