-- What a cut leaves of an index in order is in order.
use Rattle.cdf_cuts.proofs.Common.{Bool, Entries, Entry, IsNode, List, Nodes, None, Option, Range, Some, Span, [], ap, arith, block, cut_words, entry_count, found_after, found_in, if◌then◌else◌, inl, inr, kept_by, last_word, leaves_of, length, link_to, lower, no_entry, no_node, node, past_entries, range, refl, subst, suc, sym, true, words, ℕ, ◌-◌, ◌<◌, ◌∙◌, ◌∷◌, ◌≡◌, ◌≤◌, ◌⊎◌}
unfoldable use Rattle.cdf_index.specs.Order.{AreInOrder, InOrder}
use Rattle.cdf_index.proofs.LeafRules.{widened}
use Rattle.cdf_index.proofs.OrderLemmas.{end_after}
use Rattle.cdf_cuts.proofs.CutWords.{FoundSpans, PlaceIs, cut, cut_below, cut_spans, found_is, least_is, words_are, words_of}
unfoldable use Rattle.cdf_edits.specs.Index.Grown.{cut_entries, cut_nodes}
use Rattle.cdf_edits.specs.Index.Grown.{block_if, greatest_last, least_first, lower_if, node_if}

-- ---- entries in order

pub wider_entries : (low low' high : ℕ) (es : Entries) → low' ≤ low → AreInOrder low high es → AreInOrder low' high es
unfolding AreInOrder
wider_entries low low' high no_entry le o = tt
wider_entries low low' high (block f l p packed es) le o = (omega (arith, o.0), o.1, o.2, o.3)
wider_entries low low' high (lower f l ns es) le o = (omega (arith, o.0), o.1, o.2, o.3, o.4)

pub past_low : (low low' end : ℕ) (es : Entries) → low' ≤ low → past_entries low es ≤ end → past_entries low' es ≤ end
past_low low low' end no_entry le p = omega arith
past_low low low' end (block f l q packed es) le p = p
past_low low low' end (lower f l ns es) le p = p

-- Last of the last of some words, or another number
abbrev pub last_from : ℕ → List Entry → ℕ
last_from n [] = n
last_from n (w ∷ ws) = last_from w.last ws

pub last_from_is : (w : Entry) (ws : List Entry) → last_word (w ∷ ws) ≡ last_from w.last ws
last_from_is w [] = refl
last_from_is w (v ∷ vs) = let z : suc (suc (length vs)) - 1 ≡ suc (suc (length vs) - 1) = omega arith in rw (last_word, z) (last_from_is v vs)

-- they go on behind a record, up to the last one
pub record Goes (last high : ℕ) (es : Entries) : Type 0 where
  most : last ≤ last_from last (words_of es)
  within : last_from last (words_of es) ≤ high
  end_is : past_entries (suc last) es ≡ suc (last_from last (words_of es))
  order : (h : ℕ) → last_from last (words_of es) ≤ h → AreInOrder (suc last) h es

pub goes : (last high : ℕ) (es : Entries) → last ≤ high → AreInOrder (suc last) high es → Goes last high es
unfolding AreInOrder
goes last high no_entry le o = record { most = omega arith; within = le; end_is = refl; order = λ h l. tt }
goes last high (block f l p packed es) le o = let g = goes l high es o.2 o.3 in record { most = omega (arith, o.0, o.1, g.most); within = g.within; end_is = g.end_is; order = λ h k. (o.0, o.1, omega (arith, g.most), g.order h k) }
goes last high (lower f l ns es) le o = let g = goes l high es o.2 o.4 in record { most = omega (arith, o.0, o.1, g.most); within = g.within; end_is = g.end_is; order = λ h k. (o.0, o.1, omega (arith, g.most), o.3, g.order h k) }

-- entries of a node that has some
pub record Begins (low high : ℕ) (es : Entries) (w : Entry) (ws : List Entry) : Type 0 where
  low_is : low ≤ w.first
  some : w.first ≤ last_word (w ∷ ws)
  within : last_word (w ∷ ws) ≤ high
  end_is : past_entries low es ≡ suc (last_word (w ∷ ws))
  order : (h : ℕ) → last_word (w ∷ ws) ≤ h → AreInOrder w.first h es

pub begins_block : (low high f l p : ℕ) (packed : Bool) (es : Entries) → AreInOrder low high (block f l p packed es) → Begins low high (block f l p packed es) (words f l p) (words_of es)
unfolding AreInOrder
begins_block low high f l p packed es o =
    let g = goes l high es o.2 o.3 in
    let last = last_from_is (words f l p) (words_of es) in
    record { low_is = o.0; some = omega (arith, o.1, g.most, last); within = omega (arith, g.within, last); end_is = g.end_is ∙ ap suc (sym last); order = λ h k. (omega arith, o.1, omega (arith, g.most, last, k), g.order h (omega (arith, last, k))) }

pub begins_lower : (low high f l : ℕ) (ns : Nodes) (es : Entries) → AreInOrder low high (lower f l ns es) → Begins low high (lower f l ns es) (words f l (link_to ns)) (words_of es)
unfolding AreInOrder
begins_lower low high f l ns es o =
    let g = goes l high es o.2 o.4 in
    let last = last_from_is (words f l (link_to ns)) (words_of es) in
    record { low_is = o.0; some = omega (arith, o.1, g.most, last); within = omega (arith, g.within, last); end_is = g.end_is ∙ ap suc (sym last); order = λ h k. (omega arith, o.1, omega (arith, g.most, last, k), o.3, g.order h (omega (arith, last, k))) }

-- ---- what is left of a chain, from its first record to its last one

-- a chain that goes on behind what was found
pub record GoesOn (low high first last : ℕ) (found : Option Entry) (rest : Nodes) : Type 0 where
  entry : Entry
  found_it : found ≡ Some entry
  first_is : entry.first ≡ first
  most : last ≤ entry.last
  within : entry.last ≤ high
  order : InOrder low entry.last rest

pub node_goes : (span : Span) (place room low high : ℕ) (e : Entry) (es' : Entries) (ws : List Entry) (more rest : Nodes) → ws ≡ words_of es' → e.last < low → e.last ≤ high → InOrder low high (node_if place room es' rest)
    → ((low : ℕ) (e : Entry) → e.last < low → e.last ≤ high → InOrder low high rest → GoesOn low high e.first e.last (found_in span (Some e) more) rest) → GoesOn low high e.first e.last (found_in span (found_after (Some e) place ws) more) (node_if place room es' rest)
unfolding InOrder
node_goes span place room low high e no_entry ws more rest is lt le o on = rw is (on low e lt le o)
node_goes span place room low high e (block f l p packed es) ws more rest is lt le o on =
    let x = block f l p packed es in
    let b = begins_block low high f l p packed es o.0 in
    let r = on (past_entries low x) (words e.first (last_word (words_of x)) e.place) (omega (arith, b.end_is)) b.within o.1 in
    rw is (record { entry = r.entry; found_it = r.found_it; first_is = r.first_is; most = omega (arith, b.low_is, b.some, r.most); within = r.within; order = (wider_entries f low r.entry.last x b.low_is (b.order r.entry.last r.most), r.order) })
node_goes span place room low high e (lower f l ns es) ws more rest is lt le o on =
    let x = lower f l ns es in
    let b = begins_lower low high f l ns es o.0 in
    let r = on (past_entries low x) (words e.first (last_word (words_of x)) e.place) (omega (arith, b.end_is)) b.within o.1 in
    rw is (record { entry = r.entry; found_it = r.found_it; first_is = r.first_is; most = omega (arith, b.low_is, b.some, r.most); within = r.within; order = (wider_entries f low r.entry.last x b.low_is (b.order r.entry.last r.most), r.order) })

pub goes_on : (span : Span) (ns : Nodes) (low high : ℕ) (e : Entry) → e.last < low → e.last ≤ high → InOrder low high (cut span ns) → GoesOn low high e.first e.last (found_in span (Some e) ns) (cut span ns)
unfolding found_in cut_nodes InOrder
goes_on span no_node low high e lt le o = record { entry = e; found_it = refl; first_is = refl; most = omega arith; within = le; order = tt }
goes_on span (node place room es more) low high e lt le o = node_goes span place room low high e (cut_below span es) (cut_words span es) more (cut span more) (words_are span es) lt le o (λ l x k m p. goes_on span more l high x k m p)

-- the entry that names it is as wide as it is
pub record Narrow (low high : ℕ) (e : Entry) (rest : Nodes) : Type 0 where
  pub low_is : low ≤ e.first
  pub some : e.first ≤ e.last
  pub within : e.last ≤ high
  pub order : InOrder e.first e.last rest

pub some_same : {x y : Entry} → Some x ≡ Some y → x ≡ y
some_same q = cc

pub node_narrow : (span : Span) (place room low high : ℕ) (es' : Entries) (ws : List Entry) (more rest : Nodes) (e : Entry) → ws ≡ words_of es' → InOrder low high (node_if place room es' rest)
    → ((low : ℕ) (e : Entry) → e.last < low → e.last ≤ high → InOrder low high rest → GoesOn low high e.first e.last (found_in span (Some e) more) rest) → (InOrder low high rest → found_in span None more ≡ Some e → Narrow low high e rest)
    → found_in span (found_after None place ws) more ≡ Some e → Narrow low high e (node_if place room es' rest)
unfolding InOrder
node_narrow span place room low high no_entry ws more rest e is o on next f = next o (rw is at f)
node_narrow span place room low high (block g l p packed es) ws more rest e is o on next f =
    let x = block g l p packed es in
    let b = begins_block low high g l p packed es o.0 in
    let r = on (past_entries low x) (words g (last_word (words_of x)) place) (omega (arith, b.end_is)) b.within o.1 in
    let same : r.entry ≡ e = some_same (sym r.found_it ∙ rw is at f) in
    subst (λ (y : Entry). Narrow low high y (node place room x rest)) same (record { low_is = omega (arith, r.first_is, b.low_is); some = omega (arith, r.first_is, b.some, r.most); within = r.within; order = (subst (λ (n : ℕ). AreInOrder n r.entry.last x) (sym r.first_is) (b.order r.entry.last r.most), r.order) })
node_narrow span place room low high (lower g l ns es) ws more rest e is o on next f =
    let x = lower g l ns es in
    let b = begins_lower low high g l ns es o.0 in
    let r = on (past_entries low x) (words g (last_word (words_of x)) place) (omega (arith, b.end_is)) b.within o.1 in
    let same : r.entry ≡ e = some_same (sym r.found_it ∙ rw is at f) in
    subst (λ (y : Entry). Narrow low high y (node place room x rest)) same (record { low_is = omega (arith, r.first_is, b.low_is); some = omega (arith, r.first_is, b.some, r.most); within = r.within; order = (subst (λ (n : ℕ). AreInOrder n r.entry.last x) (sym r.first_is) (b.order r.entry.last r.most), r.order) })

pub narrow : (span : Span) (ns : Nodes) (low high : ℕ) (e : Entry) → InOrder low high (cut span ns) → found_in span None ns ≡ Some e → Narrow low high e (cut span ns)
unfolding found_in cut_nodes
narrow span no_node low high e o f = absurd cc
narrow span (node place room es more) low high e o f = node_narrow span place room low high (cut_below span es) (cut_words span es) more (cut span more) e (words_are span es) o (λ l x k m p. goes_on span more l high x k m p) (λ p g. narrow span more low high e p g) f

-- ---- where later records close up

-- where numbers fall to, and that a block keeps the records from where its first one falls to, to where the one behind its last one does
pub record Falls (span : Span) (to : ℕ → ℕ) : Type 0 where
  pub rises : (m n : ℕ) → m ≤ n → to m ≤ to n
  pub keeps : (first last : ℕ) → (kept_by span (range first last) ≡ []) ⊎ ((kept_by span (range first last) ≡ range (to first) (to (suc last) - 1) ∷ []) × (to first < to (suc last)))
  pub close : span.close ≡ true

module _ (span : Span) (to : ℕ → ℕ) (falls : Falls span to) where
  -- entries that are left, and where they end; where there are some, there is room for them
  record LeftEntries (low high end : ℕ) (es' : Entries) : Type 0 where
    order : AreInOrder (to low) (to (suc high) - 1) es'
    ends : past_entries (to low) es' ≤ to end
    some : 1 ≤ entry_count es' → to low < to (suc high)

  pub record LeftNodes (low high : ℕ) (rest : Nodes) : Type 0 where
    pub order : InOrder (to low) (to (suc high) - 1) rest
    pub some : IsNode rest → to low < to (suc high)

  gone : (low high last end : ℕ) (es' : Entries) → low ≤ suc last → LeftEntries (suc last) high end es' → LeftEntries low high end es'
  gone low high last end es' le r =
      let up = falls.rises low (suc last) le in
      record { order = wider_entries (to (suc last)) (to low) (to (suc high) - 1) es' up r.order; ends = past_low (to (suc last)) (to low) (to end) es' up r.ends; some = λ s. omega (arith, up, r.some s) }

  block_left : (rs : List Range) (low high first last end place : ℕ) (packed : Bool) (es' : Entries) → (rs ≡ []) ⊎ ((rs ≡ range (to first) (to (suc last) - 1) ∷ []) × (to first < to (suc last))) → low ≤ first → first ≤ last → last ≤ high → LeftEntries (suc last) high end es' → LeftEntries low high end (block_if rs place packed es')
  unfolding AreInOrder
  block_left rs low high first last end place packed es' (inl e) l m h r = rw e (gone low high last end es' (omega arith) r)
  block_left rs low high first last end place packed es' (inr e) l m h r =
      let back : to (suc last) ≡ suc (to (suc last) - 1) = omega (arith, e.1) in
      let order : AreInOrder (suc (to (suc last) - 1)) (to (suc high) - 1) es' = subst (λ (n : ℕ). AreInOrder n (to (suc high) - 1) es') back r.order in
      let ends : past_entries (suc (to (suc last) - 1)) es' ≤ to end = subst (λ (n : ℕ). past_entries n es' ≤ to end) back r.ends in
      let up = falls.rises (suc last) (suc high) (omega arith) in
      rw e.0 (record { order = (falls.rises low first l, omega (arith, e.1), omega (arith, up), order); ends = ends; some = λ s. omega (arith, falls.rises low first l, e.1, up) })

  lower_left : (found : Option Entry) (low high first last end : ℕ) (nodes : Nodes) (es' : Entries) → PlaceIs found nodes → FoundSpans found (leaves_of nodes) → ((e : Entry) → found ≡ Some e → Narrow (to first) (to (suc last) - 1) e nodes) → (IsNode nodes → to first < to (suc last)) → low ≤ first → first ≤ last → last ≤ high → LeftEntries (suc last) high end es' → LeftEntries low high end (lower_if (least_first nodes) (greatest_last nodes) nodes es')
  unfolding AreInOrder
  lower_left None low high first last end nodes es' p s n some l m h r = rw p (gone low high last end es' (omega arith) r)
  lower_left (Some e) low high first last end no_node es' p s n some l m h r = absurd p.0
  lower_left (Some e) low high first last end (node place room entries more) es' p s n some l m h r =
      let x = node place room entries more in
      let is = least_is x s in
      let w = n e refl in
      let up = falls.rises (suc last) (suc high) (omega arith) in
      let back : suc e.last ≤ to (suc last) = omega (arith, w.within, some tt) in
      rw (← is.0, ← is.1) (record { order = (omega (arith, falls.rises low first l, w.low_is), w.some, omega (arith, w.within, up), w.order, wider_entries (to (suc last)) (suc e.last) (to (suc high) - 1) es' back r.order); ends = past_low (to (suc last)) (suc e.last) (to end) es' back r.ends; some = λ q. omega (arith, falls.rises low first l, some tt, up) })

  node_left : (place room low end high : ℕ) (es' : Entries) (rest : Nodes) → low ≤ end → LeftEntries low high end es' → LeftNodes end high rest → LeftNodes low high (node_if place room es' rest)
  unfolding InOrder
  node_left place room low end high no_entry rest l e o = record { order = widened (to end) (to low) (to (suc high) - 1) (to (suc high) - 1) rest (falls.rises low end l) (omega arith) o.order; some = λ q. omega (arith, falls.rises low end l, o.some q) }
  node_left place room low end high (block f l p packed es) rest le e o = record { order = (e.order, widened (to end) (past_entries (to low) (block f l p packed es)) (to (suc high) - 1) (to (suc high) - 1) rest e.ends (omega arith) o.order); some = λ q. e.some (omega arith) }
  node_left place room low end high (lower f l ns es) rest le e o = record { order = (e.order, widened (to end) (past_entries (to low) (lower f l ns es)) (to (suc high) - 1) (to (suc high) - 1) rest e.ends (omega arith) o.order); some = λ q. e.some (omega arith) }

  mutual
    unfolding InOrder AreInOrder cut_nodes cut_entries

    pub cut_order : (low high : ℕ) (ns : Nodes) → InOrder low high ns → LeftNodes low high (cut span ns)
    cut_order low high no_node o = record { order = tt; some = λ q. absurd q }
    cut_order low high (node place room es more) o = node_left place room low (past_entries low es) high (cut_below span es) (cut span more) (end_after low high es o.0) (entries_order low high es o.0) (cut_order (past_entries low es) high more o.1)

    entries_order : (low high : ℕ) (es : Entries) → AreInOrder low high es → LeftEntries low high (past_entries low es) (cut_below span es)
    entries_order low high no_entry o = record { order = tt; ends = omega arith; some = λ q. absurd (omega (arith, q)) }
    entries_order low high (block first last place packed es) o =
        block_left (kept_by span (range first last)) low high first last (past_entries (suc last) es) place packed (cut_below span es) (falls.keeps first last) o.0 o.1 o.2 (entries_order (suc last) high es o.3)
    entries_order low high (lower first last nodes es) o =
        let below = cut_order first last nodes o.3 in
        let at_ = lower_left (found_in span None nodes) low high first last (past_entries (suc last) es) (cut span nodes) (cut_below span es) (found_is span nodes) (cut_spans span falls.close None [] nodes refl) (λ e f. narrow span nodes (to first) (to (suc last) - 1) e below.order f) below.some o.0 o.1 o.2 (entries_order (suc last) high es o.4) in
        subst (λ (c : Bool). LeftEntries low high (past_entries (suc last) es) (lower_if (if c then least_first (cut span nodes) else first) (if c then greatest_last (cut span nodes) else last) (cut span nodes) (cut_below span es))) (sym falls.close) at_
