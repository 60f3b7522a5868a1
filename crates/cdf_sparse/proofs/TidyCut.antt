-- A cut of all records from a first one on changes nothing of a tidy index of which all leaves end before that record, and frees nothing; and what any cut leaves of an index is tidy.
-- First and Last of an entry that names a lower chain stay where records keep their numbers, so they need not be those of the records below it.
use Rattle.cdf_cuts.proofs.Common.{Bool, Doing, Each, Each-split, Entries, Entry, IsNode, Leaf, List, Nodes, Range, [], arith, block, cut_words, discarded, dropped, entry_count, entry_leaves, false, flat_map, flat_map-append, freed_of, if◌then◌else◌, kept_by, leaves_of, link_if, lower, lt-ltb, no_entry, no_node, node, past_entries, plan_below, plan_of, range, refl, released, rewrite_one, stands_after, step, subst, suc, sym, zero, ℕ, ◌++◌, ◌-◌, ◌<◌, ◌∙◌, ◌∷◌, ◌≡◌, ◌≤◌}
use Rattle.std.specs.Prelude.{max, min}
use Rattle.cdf_cuts.proofs.CutWords.{words_are, words_of}
use Rattle.cdf_cuts.specs.Past.{before_first, past_span}
use Rattle.cdf_cuts.specs.Planning.{opening}
use Rattle.cdf_edits.specs.Index.Cut.{Part}
unfoldable use Rattle.cdf_edits.specs.Index.Grown.{cut_entries, cut_nodes}
use Rattle.cdf_edits.specs.Index.Grown.{block_if, greatest_last, kept_open, least_first, lower_if, node_if}
unfoldable use Rattle.cdf_index.specs.Order.{AreInOrder, InOrder}
use Rattle.cdf_model.specs.Limits.{record_number_limit}
use Rattle.cdf_puts.specs.TidyIndex.{HasEntry}
unfoldable use Rattle.cdf_puts.specs.TidyIndex.{EntriesTidy, IsTidy}

-- ---- nothing is cut

-- a node with an entry stays, and so does an entry with a node
node_stays : (place room : ℕ) (es : Entries) (more : Nodes) → HasEntry es → node_if place room es more ≡ node place room es more
node_stays place room no_entry more h = absurd h
node_stays place room (block f l p packed es) more h = refl
node_stays place room (lower f l ns es) more h = refl

lower_stays : (f l : ℕ) (ns : Nodes) (es : Entries) → IsNode ns → lower_if f l ns es ≡ lower f l ns es
lower_stays f l no_node es h = absurd h
lower_stays f l (node place room entries more) es h = refl

-- records from a first to a last go
module _ (first last : ℕ) where
  abbrev Ends : Leaf → Type 0
  Ends l = l.last < first

  -- a block that ends before them keeps all its records
  kept_whole : (f l : ℕ) → f ≤ l → l < first → kept_open first last (range f l) ≡ range f l ∷ []
  kept_whole f l o lt =
      let begins : f < first = omega (arith, o, lt) in
      let ends : min l (first - 1) ≡ l = omega (arith, lt) in
      rw (lt-ltb _ _ begins, ends) refl

  mutual
    unfolding InOrder AreInOrder IsTidy EntriesTidy cut_nodes cut_entries leaves_of entry_leaves

    -- all leaves end before them
    pub nodes_same : (low high : ℕ) (ns : Nodes) → IsTidy ns → InOrder low high ns → Each Ends (leaves_of ns) → cut_nodes false (kept_open first last) ns ≡ ns
    nodes_same low high no_node t o e = refl
    nodes_same low high (node place room es more) t o e =
        let parts = Each-split Ends (entry_leaves es) (leaves_of more) e in
        let here = entries_same low high es t.1 o.0 parts.0 in
        let behind = nodes_same (past_entries low es) high more t.2 o.1 parts.1 in
        (λ i. node_if place room (here i) (behind i)) ∙ node_stays place room es more t.0

    pub entries_same : (low high : ℕ) (es : Entries) → EntriesTidy es → AreInOrder low high es → Each Ends (entry_leaves es) → cut_entries false (kept_open first last) es ≡ es
    entries_same low high no_entry t o e = refl
    entries_same low high (block f l place packed es) t o e =
        let kept = kept_whole f l o.1 e.0 in
        let behind = entries_same (suc l) high es t o.3 e.1 in
        λ i. block_if (kept i) place packed (behind i)
    entries_same low high (lower f l ns es) t o e =
        let parts = Each-split Ends (leaves_of ns) (entry_leaves es) e in
        let below = nodes_same f l ns t.1 o.3 parts.0 in
        let behind = entries_same (suc l) high es t.2 o.4 parts.1 in
        (λ i. lower_if f l (below i) (behind i)) ∙ lower_stays f l ns es t.0

pub nothing_cut : (first : ℕ) (index : Nodes) → IsTidy index → InOrder 0 record_number_limit index → Each (λ (l : Leaf). l.last < first) (leaves_of index) → cut_nodes false (before_first first) index ≡ index
nothing_cut first index tidy order ends = nodes_same first record_number_limit 0 record_number_limit index tidy order ends

-- ---- nothing is freed

-- these steps free no block and no node
abbrev pub FreesNone : List Doing → Type 0
FreesNone steps = (flat_map released steps ≡ []) × (flat_map discarded steps ≡ [])

frees_both : (xs ys : List Doing) → FreesNone xs → FreesNone ys → FreesNone (xs ++ ys)
frees_both xs ys a b = (flat_map-append released xs ys ∙ (λ i. a.0 i ++ b.0 i), flat_map-append discarded xs ys ∙ (λ i. a.1 i ++ b.1 i))

link_frees : (prev place : ℕ) → FreesNone (link_if prev place)
link_frees zero place = (refl, refl)
link_frees (suc prev) place = (refl, refl)

-- a node of which an entry stays is not freed, nor is a block that keeps a record
abbrev HasWord : List Entry → Type 0
HasWord [] = ⊥
HasWord (w ∷ ws) = Unit {0}

has_word : (es : Entries) → HasEntry es → HasWord (words_of es)
has_word no_entry h = h
has_word (block f l place packed es) h = tt
has_word (lower f l ns es) h = tt

step_frees : (prev place room used : ℕ) (ws : List Entry) → HasWord ws → FreesNone (step prev place room used ws)
step_frees prev place room used [] h = absurd h
step_frees prev place room used (w ∷ ws) h = frees_both (link_if prev place) (rewrite_one place room used (w ∷ ws)) (link_frees prev place) (refl, refl)

block_frees : (rs : List Range) (r : Range) (place : ℕ) → rs ≡ r ∷ [] → FreesNone (dropped rs place)
block_frees [] r place e = absurd cc
block_frees (x ∷ rest) r place e = (refl, refl)

module _ (first last : ℕ) where
  abbrev EndsBefore : Leaf → Type 0
  EndsBefore l = l.last < first

  mutual
    unfolding InOrder AreInOrder IsTidy EntriesTidy plan_of plan_below leaves_of entry_leaves

    pub nodes_free : (prev low high : ℕ) (ns : Nodes) → IsTidy ns → InOrder low high ns → Each EndsBefore (leaves_of ns) → FreesNone (plan_of (opening first last) prev ns)
    nodes_free prev low high no_node t o e = link_frees prev 0
    nodes_free prev low high (node place room es more) t o e =
        let parts = Each-split EndsBefore (entry_leaves es) (leaves_of more) e in
        let ws = cut_words (opening first last) es in
        let same : ws ≡ words_of es = words_are (opening first last) es ∙ (λ i. words_of (entries_same first last low high es t.1 o.0 parts.0 i)) in
        let stays : HasWord ws = subst HasWord (sym same) (has_word es t.0) in
        let behind = stands_after prev place ws in
        let here = step prev place room (entry_count es) ws in
        frees_both (plan_below (opening first last) es) (here ++ plan_of (opening first last) behind more) (entries_free low high es t.1 o.0 parts.0) (frees_both here (plan_of (opening first last) behind more) (step_frees prev place room (entry_count es) ws stays) (nodes_free behind (past_entries low es) high more t.2 o.1 parts.1))

    pub entries_free : (low high : ℕ) (es : Entries) → EntriesTidy es → AreInOrder low high es → Each EndsBefore (entry_leaves es) → FreesNone (plan_below (opening first last) es)
    entries_free low high no_entry t o e = (refl, refl)
    entries_free low high (block f l place packed es) t o e =
        let kept = kept_by (opening first last) (range f l) in
        frees_both (dropped kept place) (plan_below (opening first last) es) (block_frees kept (range f l) place (kept_whole first last f l o.1 e.0)) (entries_free (suc l) high es t o.3 e.1)
    entries_free low high (lower f l ns es) t o e =
        let parts = Each-split EndsBefore (leaves_of ns) (entry_leaves es) e in
        frees_both (plan_of (opening first last) 0 ns) (plan_below (opening first last) es) (nodes_free 0 f l ns t.1 o.3 parts.0) (entries_free (suc l) high es t.2 o.4 parts.1)

pub none_freed : (first : ℕ) (index : Nodes) → IsTidy index → InOrder 0 record_number_limit index → Each (λ (l : Leaf). l.last < first) (leaves_of index) → freed_of (plan_of (past_span first) 0 index) ≡ []
none_freed first index tidy order ends =
    let none = nodes_free first (max first record_number_limit) 0 0 record_number_limit index tidy order ends in
    λ i. none.0 i ++ none.1 i

-- ---- what is left is tidy

node_tidy : (place room : ℕ) (es : Entries) (more : Nodes) → EntriesTidy es → IsTidy more → IsTidy (node_if place room es more)
unfolding IsTidy EntriesTidy
node_tidy place room no_entry more e m = m
node_tidy place room (block f l p packed es) more e m = (tt, e, m)
node_tidy place room (lower f l ns es) more e m = (tt, e, m)

block_tidy : (rs : List Range) (place : ℕ) (packed : Bool) (es : Entries) → EntriesTidy es → EntriesTidy (block_if rs place packed es)
unfolding EntriesTidy
block_tidy [] place packed es e = e
block_tidy (r ∷ rest) place packed es e = e

lower_tidy : (f l : ℕ) (ns : Nodes) (es : Entries) → IsTidy ns → EntriesTidy es → EntriesTidy (lower_if f l ns es)
unfolding IsTidy EntriesTidy
lower_tidy f l no_node es n e = e
lower_tidy f l (node place room entries more) es n e = (tt, n, e)

-- whatever was there before, and whether or not later records close up
mutual
  unfolding IsTidy EntriesTidy cut_nodes cut_entries

  pub cut_is_tidy : (close : Bool) (part : Part) (index : Nodes) → IsTidy (cut_nodes close part index)
  cut_is_tidy close part no_node = tt
  cut_is_tidy close part (node place room es more) = node_tidy place room (cut_entries close part es) (cut_nodes close part more) (cut_entries_tidy close part es) (cut_is_tidy close part more)

  pub cut_entries_tidy : (close : Bool) (part : Part) (entries : Entries) → EntriesTidy (cut_entries close part entries)
  cut_entries_tidy close part no_entry = tt
  cut_entries_tidy close part (block f l place packed es) = block_tidy (part (range f l)) place packed (cut_entries close part es) (cut_entries_tidy close part es)
  cut_entries_tidy close part (lower f l ns es) =
      let b = if close then least_first (cut_nodes close part ns) else f in
      let d = if close then greatest_last (cut_nodes close part ns) else l in
      lower_tidy b d (cut_nodes close part ns) (cut_entries close part es) (cut_is_tidy close part ns) (cut_entries_tidy close part es)
