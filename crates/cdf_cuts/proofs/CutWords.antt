-- The words that code plans are those of the index that a cut leaves.
use Rattle.cdf_cuts.proofs.Common.{Bool, Entries, Entry, IsNode, Leaf, List, Nodes, None, Option, Range, Some, Span, [], ap, append-nil, append_assoc, arith, block, block_words, cut_words, entry_count, entry_leaves, false, found_after, found_in, if◌then◌else◌, kept_by, last_word, leaves_of, length, link_to, lower, lower_words, no_entry, no_node, node, range, refl, subst, suc, sym, true, words, ℕ, ◌++◌, ◌-◌, ◌∷◌, ◌≡◌, last_or, option_map}
use Rattle.cdf_edits.specs.Commands.Reindex.{Spans}
unfoldable use Rattle.cdf_edits.specs.Index.Grown.{cut_entries, cut_nodes}
use Rattle.cdf_edits.specs.Index.Grown.{block_if, greatest_last, least_first, lower_if, node_if}

-- what entries say
abbrev pub words_of : Entries → List Entry
words_of no_entry = []
words_of (block first last place packed entries) = words first last place ∷ words_of entries
words_of (lower first last nodes entries) = words first last (link_to nodes) ∷ words_of entries

pub length_words : (entries : Entries) → length (words_of entries) ≡ entry_count entries
length_words no_entry = refl
length_words (block first last place packed entries) = ap suc (length_words entries)
length_words (lower first last nodes entries) = ap suc (length_words entries)

-- what a cut leaves of an index, and of the entries of a node
abbrev pub cut : Span → Nodes → Nodes
cut span nodes = cut_nodes span.close (kept_by span) nodes

abbrev pub cut_below : Span → Entries → Entries
cut_below span entries = cut_entries span.close (kept_by span) entries

pub entry_is : (e : Entry) {first last place : ℕ} → e.first ≡ first → e.last ≡ last → e.place ≡ place → e ≡ words first last place
entry_is e p q r = λ i. record { first = p i; last = q i; place = r i }

-- ---- leaves of what is left

pub leaves_node : (place room : ℕ) (es : Entries) (more : Nodes) → leaves_of (node_if place room es more) ≡ entry_leaves es ++ leaves_of more
unfolding leaves_of entry_leaves
leaves_node place room no_entry more = refl
leaves_node place room (block f l p packed es) more = refl
leaves_node place room (lower f l nodes es) more = refl

pub leaves_lower : (first last : ℕ) (nodes : Nodes) (es : Entries) → entry_leaves (lower_if first last nodes es) ≡ leaves_of nodes ++ entry_leaves es
unfolding leaves_of entry_leaves
leaves_lower first last no_node es = refl
leaves_lower first last (node place room entries more) es = refl

-- ---- the first and the last record

pub last_behind : (o : Option Leaf) (xs ys : List Leaf) (n : ℕ) → option_map (λ (l : Leaf). l.last) (last_or None ys) ≡ Some n → option_map (λ (l : Leaf). l.last) (last_or o (xs ++ ys)) ≡ Some n
last_behind o [] [] n e = absurd cc
last_behind o [] (y ∷ ys) n e = e
last_behind o (x ∷ xs) ys n e = last_behind (Some x) xs ys n e

pub spans_both : {first last first' last' : ℕ} (xs ys : List Leaf) → Spans first last xs → Spans first' last' ys → Spans first last' (xs ++ ys)
spans_both [] ys s t = absurd (cc s.0)
spans_both {last' = last'} (x ∷ xs) ys s t = (s.0, last_behind (Some x) xs ys last' t.1)

-- words name these leaves
abbrev pub WordsSpan : List Entry → List Leaf → Type 0
WordsSpan [] leaves = leaves ≡ []
WordsSpan (w ∷ ws) leaves = Spans w.first (last_word (w ∷ ws)) leaves

abbrev pub FoundSpans : Option Entry → List Leaf → Type 0
FoundSpans None leaves = leaves ≡ []
FoundSpans (Some e) leaves = Spans e.first e.last leaves

pub last_more : (w v : Entry) (vs : List Entry) → last_word (w ∷ v ∷ vs) ≡ last_word (v ∷ vs)
last_more w v vs = let z : suc (suc (length vs)) - 1 ≡ suc (suc (length vs) - 1) = omega arith in rw (last_word, z) refl

pub words_more : (w : Entry) (ws : List Entry) (xs ys : List Leaf) → Spans w.first w.last xs → WordsSpan ws ys → WordsSpan (w ∷ ws) (xs ++ ys)
words_more w [] xs ys s t = rw (t, append-nil xs) s
words_more w (v ∷ vs) xs ys s t = rw (last_more w v vs) (spans_both xs ys s t)

pub found_on : (found : Option Entry) (place : ℕ) (ws : List Entry) (xs ys : List Leaf) → FoundSpans found xs → WordsSpan ws ys → FoundSpans (found_after found place ws) (xs ++ ys)
found_on found place [] xs ys s t = rw (t, append-nil xs) s
found_on None place (w ∷ ws) xs ys s t = rw s t
found_on (Some e) place (w ∷ ws) xs ys s t = spans_both xs ys s t

pub block_spans : (rs : List Range) (place : ℕ) (packed : Bool) (ws : List Entry) (es : Entries) → WordsSpan ws (entry_leaves es) → WordsSpan (block_words rs place ++ ws) (entry_leaves (block_if rs place packed es))
unfolding leaves_of entry_leaves
block_spans [] place packed ws es t = t
block_spans (r ∷ rest) place packed ws es t = words_more (words r.first r.last place) ws (record { first = r.first; last = r.last; place = place; packed = packed } ∷ []) (entry_leaves es) (refl, refl) t

pub lower_spans : (first last : ℕ) (found : Option Entry) (xs : List Leaf) (ws : List Entry) (ys : List Leaf) → FoundSpans found xs → WordsSpan ws ys → WordsSpan (lower_words true first last found ++ ws) (xs ++ ys)
lower_spans first last None xs ws ys s t = rw s t
lower_spans first last (Some e) xs ws ys s t = words_more e ws xs ys s t

module _ (span : Span) (close : span.close ≡ true) where
  mutual
    unfolding cut_nodes cut_entries found_in cut_words leaves_of entry_leaves

    pub cut_spans : (found : Option Entry) (xs : List Leaf) (ns : Nodes) → FoundSpans found xs → FoundSpans (found_in span found ns) (xs ++ leaves_of (cut span ns))
    cut_spans found xs no_node s = rw (append-nil xs) s
    cut_spans found xs (node place room es more) s =
        let es' = cut_below span es in
        let on = found_on found place (cut_words span es) xs (entry_leaves es') s (entries_span es) in
        rw (leaves_node place room es' (cut span more), sym (append_assoc xs (entry_leaves es') (leaves_of (cut span more)))) (cut_spans (found_after found place (cut_words span es)) (xs ++ entry_leaves es') more on)

    pub entries_span : (es : Entries) → WordsSpan (cut_words span es) (entry_leaves (cut_below span es))
    entries_span no_entry = refl
    entries_span (block first last place packed es) = block_spans (kept_by span (range first last)) place packed (cut_words span es) (cut_below span es) (entries_span es)
    entries_span (lower first last nodes es) =
        let below = lower_spans first last (found_in span None nodes) (leaves_of (cut span nodes)) (cut_words span es) (entry_leaves (cut_below span es)) (cut_spans None [] nodes refl) (entries_span es) in
        let b = if span.close then least_first (cut span nodes) else first in
        let e = if span.close then greatest_last (cut span nodes) else last in
        rw (leaves_lower b e (cut span nodes) (cut_below span es)) (subst (λ (c : Bool). WordsSpan (lower_words c first last (found_in span None nodes) ++ cut_words span es) (leaves_of (cut span nodes) ++ entry_leaves (cut_below span es))) (sym close) below)

-- ---- where it stands

abbrev pub PlaceIs : Option Entry → Nodes → Type 0
PlaceIs None nodes = nodes ≡ no_node
PlaceIs (Some e) nodes = IsNode nodes × (e.place ≡ link_to nodes)

abbrev pub HasPlace : ℕ → Option Entry → Type 0
HasPlace place None = ⊥
HasPlace place (Some e) = e.place ≡ place

pub keeps_place : (place at : ℕ) (found : Option Entry) (ws : List Entry) → HasPlace place found → HasPlace place (found_after found at ws)
keeps_place place at found [] h = h
keeps_place place at None (w ∷ ws) h = absurd h
keeps_place place at (Some e) (w ∷ ws) h = h

pub found_kept : (span : Span) (place : ℕ) (found : Option Entry) (ns : Nodes) → HasPlace place found → HasPlace place (found_in span found ns)
unfolding found_in
found_kept span place found no_node h = h
found_kept span place found (node at room es more) h = found_kept span place (found_after found at (cut_words span es)) more (keeps_place place at found (cut_words span es) h)

pub placed : (found : Option Entry) (nodes : Nodes) → IsNode nodes → HasPlace (link_to nodes) found → PlaceIs found nodes
placed None nodes i h = absurd h
placed (Some e) nodes i h = (i, h)

pub place_with : (span : Span) (place room : ℕ) (es' : Entries) (ws : List Entry) (more rest : Nodes) → ws ≡ words_of es' → PlaceIs (found_in span None more) rest → PlaceIs (found_in span (found_after None place ws) more) (node_if place room es' rest)
place_with span place room no_entry ws more rest e p = rw e p
place_with span place room (block f l q packed es) ws more rest e p = rw e (placed _ (node place room (block f l q packed es) rest) tt (found_kept span place _ more refl))
place_with span place room (lower f l ns es) ws more rest e p = rw e (placed _ (node place room (lower f l ns es) rest) tt (found_kept span place _ more refl))

pub block_said : (rs : List Range) (place : ℕ) (packed : Bool) (ws : List Entry) (es : Entries) → ws ≡ words_of es → block_words rs place ++ ws ≡ words_of (block_if rs place packed es)
block_said [] place packed ws es e = e
block_said (r ∷ rest) place packed ws es e = ap (λ (xs : List Entry). words r.first r.last place ∷ xs) e

pub open_said : (first last : ℕ) (found : Option Entry) (nodes : Nodes) (ws : List Entry) (es : Entries) → PlaceIs found nodes → ws ≡ words_of es → lower_words false first last found ++ ws ≡ words_of (lower_if first last nodes es)
open_said first last None nodes ws es p e = rw p e
open_said first last (Some x) no_node ws es p e = absurd p.0
open_said first last (Some x) (node place room entries more) ws es p e = rw (p.1, e) refl

pub least_is : {first last : ℕ} (nodes : Nodes) → Spans first last (leaves_of nodes) → (first ≡ least_first nodes) × (last ≡ greatest_last nodes)
least_is nodes s = (rw s.0 refl, rw s.1 refl)

pub closed_said : (first last : ℕ) (found : Option Entry) (nodes : Nodes) (ws : List Entry) (es : Entries) → PlaceIs found nodes → FoundSpans found (leaves_of nodes) → ws ≡ words_of es → lower_words true first last found ++ ws ≡ words_of (lower_if (least_first nodes) (greatest_last nodes) nodes es)
closed_said first last None nodes ws es p s e = rw p e
closed_said first last (Some x) no_node ws es p s e = absurd p.0
closed_said first last (Some x) (node place room entries more) ws es p s e =
    let is = least_is (node place room entries more) s in
    rw (entry_is x is.0 is.1 p.1, e) refl

pub lower_said : (span : Span) (close : Bool) → span.close ≡ close → (first last : ℕ) (nodes : Nodes) (ws : List Entry) (es : Entries) → PlaceIs (found_in span None nodes) (cut span nodes) → ws ≡ words_of es
    → lower_words close first last (found_in span None nodes) ++ ws ≡ words_of (lower_if (if close then least_first (cut span nodes) else first) (if close then greatest_last (cut span nodes) else last) (cut span nodes) es)
lower_said span true c first last nodes ws es p e = closed_said first last (found_in span None nodes) (cut span nodes) ws es p (cut_spans span c None [] nodes refl) e
lower_said span false c first last nodes ws es p e = open_said first last (found_in span None nodes) (cut span nodes) ws es p e

mutual
  unfolding cut_nodes cut_entries found_in cut_words

  -- the entry that is found names what is left
  pub found_is : (span : Span) (ns : Nodes) → PlaceIs (found_in span None ns) (cut span ns)
  found_is span no_node = refl
  found_is span (node place room es more) = place_with span place room (cut_below span es) (cut_words span es) more (cut span more) (words_are span es) (found_is span more)

  -- and the words are those of what is left
  pub words_are : (span : Span) (es : Entries) → cut_words span es ≡ words_of (cut_below span es)
  words_are span no_entry = refl
  words_are span (block first last place packed es) = block_said (kept_by span (range first last)) place packed (cut_words span es) (cut_below span es) (words_are span es)
  words_are span (lower first last nodes es) = lower_said span span.close refl first last nodes (cut_words span es) (cut_below span es) (found_is span nodes) (words_are span es)
