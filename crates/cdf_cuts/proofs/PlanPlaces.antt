-- Where the records stand that a plan speaks of: each node once, and what is freed is what stays no more.
use Rattle.cdf_cuts.proofs.Common.{Bool, discard, Doing, link_to, words, Entries, Entry, Leaf, List, NodeLink, Nodes, None, Option, Range, Rewrite, Some, Span, [], ap, arith, block, block_words, cut_words, dropped, entry_count, entry_leaves, found_in, flat_map, flat_map-append, if◌then◌else◌, kept_by, leaves_of, length, length-append, link_if, lower, lower_nodes, lower_words, map, map-append, no_entry, no_node, node, nodes_of, places_of, plan_below, plan_of, range, refl, released, discarded, freed_of, relinked, rewrite_places, rewritten, stands_after, step, suc, times, true, false, rewrite_one, times-append, zero, ℕ, ◌++◌, ◌+◌, ◌∙◌, ◌∷◌, ◌≡◌, ◌≤◌}
use Rattle.cdf_cuts.proofs.CutWords.{cut, cut_below, words_are, words_of}
unfoldable use Rattle.cdf_edits.specs.Index.Grown.{cut_entries, cut_nodes}
use Rattle.cdf_edits.specs.Index.Grown.{block_if, greatest_last, least_first, lower_if, node_if}

abbrev pub rewrites_at : List Doing → List ℕ
rewrites_at steps = rewrite_places (flat_map rewritten steps)

abbrev pub relinks_at : List Doing → List ℕ
relinks_at steps = map (λ (l : NodeLink). l.place) (flat_map relinked steps)

abbrev pub freed_at : List Doing → List ℕ
freed_at steps = freed_of steps

pub rewrites_both : (xs ys : List Doing) → rewrites_at (xs ++ ys) ≡ rewrites_at xs ++ rewrites_at ys
rewrites_both xs ys = ap rewrite_places (flat_map-append rewritten xs ys) ∙ map-append (λ (r : Rewrite). r.place) (flat_map rewritten xs) (flat_map rewritten ys)

pub relinks_both : (xs ys : List Doing) → relinks_at (xs ++ ys) ≡ relinks_at xs ++ relinks_at ys
relinks_both xs ys = ap (map (λ (l : NodeLink). l.place)) (flat_map-append relinked xs ys) ∙ map-append (λ (l : NodeLink). l.place) (flat_map relinked xs) (flat_map relinked ys)

pub times_cons : (m n : ℕ) (xs : List ℕ) → times m (n ∷ xs) ≡ times m (n ∷ []) + times m xs
times_cons m n xs = times-append m (n ∷ []) xs

module _ (m : ℕ) where
  -- how often a plan rewrites, links and frees what stands there
  abbrev W : List Doing → ℕ
  W steps = times m (rewrites_at steps)

  abbrev L : List Doing → ℕ
  L steps = times m (relinks_at steps)

  abbrev F : List Doing → ℕ
  F steps = times m (freed_at steps)

  w_both : (xs ys : List Doing) → W (xs ++ ys) ≡ W xs + W ys
  w_both xs ys = ap (times m) (rewrites_both xs ys) ∙ times-append m (rewrites_at xs) (rewrites_at ys)

  l_both : (xs ys : List Doing) → L (xs ++ ys) ≡ L xs + L ys
  l_both xs ys = ap (times m) (relinks_both xs ys) ∙ times-append m (relinks_at xs) (relinks_at ys)

  f_both : (xs ys : List Doing) → F (xs ++ ys) ≡ F xs + F ys
  f_both xs ys = omega (arith, times-append m (flat_map released (xs ++ ys)) (flat_map discarded (xs ++ ys)), ap (times m) (flat_map-append released xs ys), ap (times m) (flat_map-append discarded xs ys), times-append m (flat_map released xs) (flat_map released ys), times-append m (flat_map discarded xs) (flat_map discarded ys), times-append m (flat_map released xs) (flat_map discarded xs), times-append m (flat_map released ys) (flat_map discarded ys))

  -- the link of a node that stays
  abbrev pending : ℕ → ℕ
  pending zero = 0
  pending (suc n) = times m (suc n ∷ [])

  link_parts : (prev place : ℕ) → (W (link_if prev place) ≡ 0) × (L (link_if prev place) ≡ pending prev) × (F (link_if prev place) ≡ 0)
  link_parts zero place = (refl, refl, refl)
  link_parts (suc prev) place = (refl, refl, refl)

  -- a record of a node or a block
  abbrev R : Nodes → ℕ
  R nodes = times m (nodes_of nodes) + times m (places_of (leaves_of nodes))

  abbrev RE : Entries → ℕ
  RE entries = times m (lower_nodes entries) + times m (places_of (entry_leaves entries))

  step_parts : (prev place room used : ℕ) (ws : List Entry) → (W (step prev place room used ws) ≤ times m (place ∷ [])) × (L (step prev place room used ws) + pending (stands_after prev place ws) ≤ pending prev + times m (place ∷ []))
  step_parts prev place room used [] = (omega arith, omega arith)
  step_parts prev zero room used (w ∷ ws) = let p = link_parts prev zero in (omega (arith, w_both (link_if prev zero) (rewrite_one zero room used (w ∷ ws)), p.0), omega (arith, l_both (link_if prev zero) (rewrite_one zero room used (w ∷ ws)), p.1))
  step_parts prev (suc place) room used (w ∷ ws) = let p = link_parts prev (suc place) in (omega (arith, w_both (link_if prev (suc place)) (rewrite_one (suc place) room used (w ∷ ws)), p.0), omega (arith, l_both (link_if prev (suc place)) (rewrite_one (suc place) room used (w ∷ ws)), p.1))

  dropped_parts : (rs : List Range) (place : ℕ) → (W (dropped rs place) ≡ 0) × (L (dropped rs place) ≡ 0)
  dropped_parts [] place = (refl, refl)
  dropped_parts (r ∷ rest) place = (refl, refl)

  mutual
    unfolding plan_of plan_below nodes_of lower_nodes

    pub plan_places : (span : Span) (prev : ℕ) (ns : Nodes) → (W (plan_of span prev ns) ≤ times m (nodes_of ns)) × (L (plan_of span prev ns) ≤ pending prev + times m (nodes_of ns))
    plan_places span prev no_node = let p = link_parts prev 0 in (omega (arith, p.0), omega (arith, p.1))
    plan_places span prev (node place room es more) =
        let ws = cut_words span es in
        let here = step prev place room (entry_count es) ws in
        let on = plan_of span (stands_after prev place ws) more in
        let below = below_places span es in
        let s = step_parts prev place room (entry_count es) ws in
        let rest = plan_places span (stands_after prev place ws) more in
        let all = times_cons m place (lower_nodes es ++ nodes_of more) in
        let both = times-append m (lower_nodes es) (nodes_of more) in (
          omega (arith, w_both (plan_below span es) (here ++ on), w_both here on, below.0, s.0, rest.0, all, both),
          omega (arith, l_both (plan_below span es) (here ++ on), l_both here on, below.1, s.1, rest.1, all, both),
        )

    pub below_places : (span : Span) (es : Entries) → (W (plan_below span es) ≤ times m (lower_nodes es)) × (L (plan_below span es) ≤ times m (lower_nodes es))
    below_places span no_entry = (omega arith, omega arith)
    below_places span (block first last place packed es) =
        let d = dropped_parts (kept_by span (range first last)) place in
        let r = below_places span es in
        (omega (arith, w_both (dropped (kept_by span (range first last)) place) (plan_below span es), d.0, r.0), omega (arith, l_both (dropped (kept_by span (range first last)) place) (plan_below span es), d.1, r.1))
    below_places span (lower first last nodes es) =
        let p = plan_places span 0 nodes in
        let r = below_places span es in
        let both = times-append m (nodes_of nodes) (lower_nodes es) in
        (omega (arith, w_both (plan_of span 0 nodes) (plan_below span es), p.0, r.0, both), omega (arith, l_both (plan_of span 0 nodes) (plan_below span es), p.1, r.1, both))

  -- ---- what is freed

  node_freed : (prev place room used : ℕ) (es' : Entries) (ws : List Entry) (rest : Nodes) → ws ≡ words_of es' → F (step prev place room used ws) + R (node_if place room es' rest) ≡ times m (place ∷ []) + RE es' + R rest
  unfolding nodes_of lower_nodes leaves_of entry_leaves
  node_freed prev place room used no_entry ws rest e = rw e (omega arith)
  node_freed prev place room used (block f l q packed es) ws rest e =
      let x = block f l q packed es in
      let p = link_parts prev place in
      rw e (omega (arith, f_both (link_if prev place) (rewrite_one place room used (words_of x)), p.2, times_cons m place (lower_nodes x ++ nodes_of rest), times-append m (lower_nodes x) (nodes_of rest), ap (times m) (map-append (λ (a : Leaf). a.place) (entry_leaves x) (leaves_of rest)), times-append m (places_of (entry_leaves x)) (places_of (leaves_of rest))))
  node_freed prev place room used (lower f l ns es) ws rest e =
      let x = lower f l ns es in
      let p = link_parts prev place in
      rw e (omega (arith, f_both (link_if prev place) (rewrite_one place room used (words_of x)), p.2, times_cons m place (lower_nodes x ++ nodes_of rest), times-append m (lower_nodes x) (nodes_of rest), ap (times m) (map-append (λ (a : Leaf). a.place) (entry_leaves x) (leaves_of rest)), times-append m (places_of (entry_leaves x)) (places_of (leaves_of rest))))

  block_freed : (rs : List Range) (place : ℕ) (packed : Bool) (es : Entries) → F (dropped rs place) + RE (block_if rs place packed es) ≡ times m (place ∷ []) + RE es
  unfolding nodes_of lower_nodes leaves_of entry_leaves
  block_freed [] place packed es = refl
  block_freed (r ∷ rest) place packed es = omega (arith, times_cons m place (places_of (entry_leaves es)))

  lower_freed : (first last : ℕ) (nodes : Nodes) (es : Entries) → RE (lower_if first last nodes es) ≡ R nodes + RE es
  unfolding nodes_of lower_nodes leaves_of entry_leaves
  lower_freed first last no_node es = omega arith
  lower_freed first last (node place room entries more) es =
      let x = node place room entries more in
      omega (arith, times-append m (nodes_of x) (lower_nodes es), ap (times m) (map-append (λ (a : Leaf). a.place) (leaves_of x) (entry_leaves es)), times-append m (places_of (leaves_of x)) (places_of (entry_leaves es)))

  mutual
    unfolding plan_of plan_below cut_nodes cut_entries nodes_of lower_nodes leaves_of entry_leaves

    pub plan_frees : (span : Span) (prev : ℕ) (ns : Nodes) → F (plan_of span prev ns) + R (cut span ns) ≡ R ns
    plan_frees span prev no_node = let p = link_parts prev 0 in omega (arith, p.2)
    plan_frees span prev (node place room es more) =
        let ws = cut_words span es in
        let here = step prev place room (entry_count es) ws in
        let on = plan_of span (stands_after prev place ws) more in
        let n = node_freed prev place room (entry_count es) (cut_below span es) ws (cut span more) (words_are span es) in
        omega (arith, f_both (plan_below span es) (here ++ on), f_both here on, n, below_frees span es, plan_frees span (stands_after prev place ws) more, times_cons m place (lower_nodes es ++ nodes_of more), times-append m (lower_nodes es) (nodes_of more), ap (times m) (map-append (λ (a : Leaf). a.place) (entry_leaves es) (leaves_of more)), times-append m (places_of (entry_leaves es)) (places_of (leaves_of more)))

    pub below_frees : (span : Span) (es : Entries) → F (plan_below span es) + RE (cut_below span es) ≡ RE es
    below_frees span no_entry = refl
    below_frees span (block first last place packed es) =
        omega (arith, f_both (dropped (kept_by span (range first last)) place) (plan_below span es), block_freed (kept_by span (range first last)) place packed (cut_below span es), below_frees span es, times_cons m place (places_of (entry_leaves es)))
    below_frees span (lower first last nodes es) =
        omega (arith, f_both (plan_of span 0 nodes) (plan_below span es), lower_freed (if span.close then least_first (cut span nodes) else first) (if span.close then greatest_last (cut span nodes) else last) (cut span nodes) (cut_below span es), plan_frees span 0 nodes, below_frees span es, times-append m (nodes_of nodes) (lower_nodes es), ap (times m) (map-append (λ (a : Leaf). a.place) (leaves_of nodes) (entry_leaves es)), times-append m (places_of (leaves_of nodes)) (places_of (entry_leaves es)))

module _ (m : ℕ) where
  -- ---- the nodes that are rewritten are those that stay

  node_rewrites : (prev place room used : ℕ) (es' : Entries) (ws : List Entry) (rest : Nodes) → ws ≡ words_of es' → W m (step prev place room used ws) + (times m (lower_nodes es') + times m (nodes_of rest)) ≡ times m (nodes_of (node_if place room es' rest))
  unfolding nodes_of lower_nodes
  node_rewrites prev place room used no_entry ws rest e = rw e (omega arith)
  node_rewrites prev place room used (block f l q packed es) ws rest e =
      let x = block f l q packed es in
      rw e (omega (arith, w_both m (link_if prev place) (rewrite_one place room used (words_of x)), (link_parts m prev place).0, times_cons m place (lower_nodes x ++ nodes_of rest), times-append m (lower_nodes x) (nodes_of rest)))
  node_rewrites prev place room used (lower f l ns es) ws rest e =
      let x = lower f l ns es in
      rw e (omega (arith, w_both m (link_if prev place) (rewrite_one place room used (words_of x)), (link_parts m prev place).0, times_cons m place (lower_nodes x ++ nodes_of rest), times-append m (lower_nodes x) (nodes_of rest)))

  block_same : (rs : List Range) (place : ℕ) (packed : Bool) (es : Entries) → times m (lower_nodes (block_if rs place packed es)) ≡ times m (lower_nodes es)
  unfolding nodes_of lower_nodes
  block_same [] place packed es = refl
  block_same (r ∷ rest) place packed es = refl

  lower_more : (first last : ℕ) (nodes : Nodes) (es : Entries) → times m (lower_nodes (lower_if first last nodes es)) ≡ times m (nodes_of nodes) + times m (lower_nodes es)
  unfolding nodes_of lower_nodes
  lower_more first last no_node es = omega arith
  lower_more first last (node place room entries more) es = times-append m (nodes_of (node place room entries more)) (lower_nodes es)

  mutual
    unfolding plan_of plan_below cut_nodes cut_entries nodes_of lower_nodes

    pub rewrites_stay : (span : Span) (prev : ℕ) (ns : Nodes) → W m (plan_of span prev ns) ≡ times m (nodes_of (cut span ns))
    rewrites_stay span prev no_node = (link_parts m prev 0).0
    rewrites_stay span prev (node place room es more) =
        let ws = cut_words span es in
        let here = step prev place room (entry_count es) ws in
        let on = plan_of span (stands_after prev place ws) more in
        omega (arith, w_both m (plan_below span es) (here ++ on), w_both m here on, node_rewrites prev place room (entry_count es) (cut_below span es) ws (cut span more) (words_are span es), below_stay span es, rewrites_stay span (stands_after prev place ws) more)

    pub below_stay : (span : Span) (es : Entries) → W m (plan_below span es) ≡ times m (lower_nodes (cut_below span es))
    below_stay span no_entry = refl
    below_stay span (block first last place packed es) = omega (arith, w_both m (dropped (kept_by span (range first last)) place) (plan_below span es), (dropped_parts m (kept_by span (range first last)) place).0, block_same (kept_by span (range first last)) place packed (cut_below span es), below_stay span es)
    below_stay span (lower first last nodes es) = omega (arith, w_both m (plan_of span 0 nodes) (plan_below span es), lower_more (if span.close then least_first (cut span nodes) else first) (if span.close then greatest_last (cut span nodes) else last) (cut span nodes) (cut_below span es), rewrites_stay span 0 nodes, below_stay span es)

module _ (m : ℕ) where
  -- ---- only nodes that stay get others behind them

  pending_most : (place : ℕ) → pending m place ≤ times m (place ∷ [])
  pending_most zero = omega arith
  pending_most (suc place) = omega arith

  linked_step : (prev place room used : ℕ) (w : Entry) (ws : List Entry) → L m (step prev place room used (w ∷ ws)) ≡ pending m prev
  linked_step prev place room used w ws = l_both m (link_if prev place) (rewrite_one place room used (w ∷ ws)) ∙ omega (arith, (link_parts m prev place).1)

  node_links : (prev place room used : ℕ) (es' : Entries) (ws : List Entry) (rest : Nodes) (on : List Doing) → ws ≡ words_of es' → L m on ≤ pending m (stands_after prev place ws) + times m (nodes_of rest) → L m (step prev place room used ws ++ on) + times m (lower_nodes es') ≤ pending m prev + times m (nodes_of (node_if place room es' rest))
  unfolding nodes_of lower_nodes
  node_links prev place room used no_entry ws rest on e so =
      let so' : L m on ≤ pending m prev + times m (nodes_of rest) = rw e at so in
      rw e (omega (arith, l_both m (discard place ∷ []) on, so'))
  node_links prev place room used (block f l q packed es) ws rest on e so =
      let x = block f l q packed es in
      let so' : L m on ≤ pending m place + times m (nodes_of rest) = rw e at so in
      rw e (omega (arith, l_both m (step prev place room used (words_of x)) on, linked_step prev place room used (words f l q) (words_of es), so', pending_most place, times_cons m place (lower_nodes x ++ nodes_of rest), times-append m (lower_nodes x) (nodes_of rest)))
  node_links prev place room used (lower f l ns es) ws rest on e so =
      let x = lower f l ns es in
      let so' : L m on ≤ pending m place + times m (nodes_of rest) = rw e at so in
      rw e (omega (arith, l_both m (step prev place room used (words_of x)) on, linked_step prev place room used (words f l (link_to ns)) (words_of es), so', pending_most place, times_cons m place (lower_nodes x ++ nodes_of rest), times-append m (lower_nodes x) (nodes_of rest)))

  mutual
    unfolding plan_of plan_below cut_nodes cut_entries nodes_of lower_nodes

    pub links_stay : (span : Span) (prev : ℕ) (ns : Nodes) → L m (plan_of span prev ns) ≤ pending m prev + times m (nodes_of (cut span ns))
    links_stay span prev no_node = omega (arith, (link_parts m prev 0).1)
    links_stay span prev (node place room es more) =
        let ws = cut_words span es in
        let here = step prev place room (entry_count es) ws in
        let on = plan_of span (stands_after prev place ws) more in
        omega (arith, l_both m (plan_below span es) (here ++ on), node_links prev place room (entry_count es) (cut_below span es) ws (cut span more) on (words_are span es) (links_stay span (stands_after prev place ws) more), below_links span es)

    pub below_links : (span : Span) (es : Entries) → L m (plan_below span es) ≤ times m (lower_nodes (cut_below span es))
    below_links span no_entry = omega arith
    below_links span (block first last place packed es) = omega (arith, l_both m (dropped (kept_by span (range first last)) place) (plan_below span es), (dropped_parts m (kept_by span (range first last)) place).1, block_same m (kept_by span (range first last)) place packed (cut_below span es), below_links span es)
    below_links span (lower first last nodes es) = omega (arith, l_both m (plan_of span 0 nodes) (plan_below span es), lower_more m (if span.close then least_first (cut span nodes) else first) (if span.close then greatest_last (cut span nodes) else last) (cut span nodes) (cut_below span es), links_stay span 0 nodes, below_links span es)

-- ---- each node may be rewritten

pub words_few : (span : Span) (es : Entries) → length (cut_words span es) ≤ entry_count es
unfolding cut_words
words_few span no_entry = omega arith
words_few span (block first last place packed es) = omega (arith, length-append (block_words (kept_by span (range first last)) place) (cut_words span es), one (kept_by span (range first last)), words_few span es)
  where
    one : (rs : List Range) → length (block_words rs place) ≤ 1
    one [] = omega arith
    one (r ∷ rest) = omega arith
words_few span (lower first last nodes es) = omega (arith, length-append (lower_words span.close first last (found_in span None nodes)) (cut_words span es), one span.close (found_in span None nodes), words_few span es)
  where
    one : (c : Bool) (o : Option Entry) → length (lower_words c first last o) ≤ 1
    one c None = omega arith
    one true (Some e) = omega arith
    one false (Some e) = omega arith
