-- The laws of a cut.
use Rattle.cdf_cuts.proofs.Common.{Bool, Entries, Leaf, List, Nodes, Range, Span, [], ap, append-nil, arith, block, entry_leaves, flat_map, flat_map-append, if◌then◌else◌, inl, inr, kept_by, leaves_of, lower, map, map-append, nat_lt, nat_tests, no_entry, no_node, node, range, refl, suc, sym, ℕ, ◌++◌, ◌+◌, ◌-◌, ◌<◌, ◌∙◌, ◌∷◌, ◌≡◌, ◌≤◌, ◌⊎◌, cases_lt, le-ltb, lt-ltb}
use Rattle.cdf_edits.specs.Index.Blocks.{cut_closed, fallen}
unfoldable use Rattle.cdf_edits.specs.Index.Grown.{cut_entries, cut_nodes}
use Rattle.cdf_edits.specs.Index.Grown.{block_if, greatest_last, kept_closed, least_first}
use Rattle.cdf_edits.specs.Index.Blocks.{ranges_of}
use Rattle.cdf_edits.specs.Index.Grown.{index_cut_closed}
use Rattle.cdf_index.specs.Order.{InOrder}
use Rattle.cdf_model.specs.Limits.{record_number_limit}
use Rattle.cdf_cuts.specs.Planning.{closing}
use Rattle.cdf_cuts.proofs.CutOrder.{Falls, cut_order}
use Rattle.cdf_cuts.proofs.CutWords.{cut, cut_below, leaves_lower, leaves_node}
use Rattle.cdf_index.proofs.LeafRules.{widened}

-- ---- numbers fall

pub rises : (first last m n : ℕ) → first ≤ last → m ≤ n → fallen first last m ≤ fallen first last n
rises first last m n o l = grind (arith, nat_tests)

pub not_past : (first last n : ℕ) → fallen first last n ≤ n
not_past first last n = grind (arith, nat_tests)

pub kept_some : (first last f l : ℕ) → fallen first last f < fallen first last (suc l) → kept_closed first last (range f l) ≡ range (fallen first last f) (fallen first last (suc l) - 1) ∷ []
kept_some first last f l lt = let z : l + 1 ≡ suc l = omega arith in rw (z, lt-ltb _ _ lt) refl

pub keeps : (first last f l : ℕ) → (kept_closed first last (range f l) ≡ []) ⊎ ((kept_closed first last (range f l) ≡ range (fallen first last f) (fallen first last (suc l) - 1) ∷ []) × (fallen first last f < fallen first last (suc l)))
keeps first last f l =
    let z : l + 1 ≡ suc l = omega arith in
    elim (cases_lt (fallen first last f) (fallen first last (suc l))) [
      | inl lt ↦ inr (rw (z, lt-ltb _ _ lt) refl, lt)
      | inr le ↦ inl (rw (z, le-ltb _ _ le) refl)
    ]

pub falls : (first last : ℕ) → first ≤ last → Falls (closing first last) (fallen first last)
falls first last o = record { rises = λ m n l. rises first last m n o l; keeps = λ f l. keeps first last f l; close = refl }

pub is_in_order : (first last : ℕ) (nodes : Nodes) → first ≤ last → InOrder 0 record_number_limit nodes → InOrder 0 record_number_limit (index_cut_closed first last nodes)
is_in_order first last nodes le order =
    let o = cut_order (closing first last) (fallen first last) (falls first last le) 0 2147483646 nodes order in
    widened (fallen first last 0) 0 (fallen first last 2147483647 - 1) 2147483646 (cut (closing first last) nodes) (omega arith) (omega (arith, not_past first last 2147483647)) o.order

-- ---- ranges

abbrev pub rs : List Leaf → List Range
rs leaves = map (λ (l : Leaf). range l.first l.last) leaves

module _ (first last : ℕ) where
  abbrev span : Span
  span = closing first last

  abbrev each : Range → List Range
  each r = if nat_lt (fallen first last r.first) (fallen first last (r.last + 1)) then range (fallen first last r.first) (fallen first last (r.last + 1) - 1) ∷ [] else []

  block_ranges : (f l place : ℕ) (packed : Bool) (es : Entries) → rs (entry_leaves (block_if (kept_by span (range f l)) place packed es)) ≡ each (range f l) ++ rs (entry_leaves es)
  unfolding entry_leaves leaves_of
  block_ranges f l place packed es = elim (keeps first last f l) [
    | inl e ↦ let q : each (range f l) ≡ [] = sym (append-nil (each (range f l))) ∙ e in rw (e, q) refl
    | inr e ↦ let q : each (range f l) ≡ range (fallen first last f) (fallen first last (suc l) - 1) ∷ [] = sym (append-nil (each (range f l))) ∙ e.0 in rw (e.0, q) refl
  ]

  mutual
    unfolding cut_nodes cut_entries leaves_of entry_leaves

    nodes_ranges : (ns : Nodes) → rs (leaves_of (cut span ns)) ≡ cut_closed first last (rs (leaves_of ns))
    nodes_ranges no_node = refl
    nodes_ranges (node place room es more) =
        ap rs (leaves_node place room (cut_below span es) (cut span more)) ∙ map-append (λ (l : Leaf). range l.first l.last) (entry_leaves (cut_below span es)) (leaves_of (cut span more))
        ∙ (λ i. entries_ranges es i ++ nodes_ranges more i)
        ∙ sym (ap (flat_map each) (map-append (λ (l : Leaf). range l.first l.last) (entry_leaves es) (leaves_of more)) ∙ flat_map-append each (rs (entry_leaves es)) (rs (leaves_of more)))

    entries_ranges : (es : Entries) → rs (entry_leaves (cut_below span es)) ≡ cut_closed first last (rs (entry_leaves es))
    entries_ranges no_entry = refl
    entries_ranges (block f l place packed es) = block_ranges f l place packed (cut_below span es) ∙ ap (λ (xs : List Range). each (range f l) ++ xs) (entries_ranges es)
    entries_ranges (lower f l ns es) =
        ap rs (leaves_lower (least_first (cut span ns)) (greatest_last (cut span ns)) (cut span ns) (cut_below span es)) ∙ map-append (λ (x : Leaf). range x.first x.last) (leaves_of (cut span ns)) (entry_leaves (cut_below span es))
        ∙ (λ i. nodes_ranges ns i ++ entries_ranges es i)
        ∙ sym (ap (flat_map each) (map-append (λ (x : Leaf). range x.first x.last) (leaves_of ns) (entry_leaves es)) ∙ flat_map-append each (rs (leaves_of ns)) (rs (entry_leaves es)))

pub has_ranges : (first last : ℕ) (nodes : Nodes) → ranges_of (index_cut_closed first last nodes) ≡ cut_closed first last (ranges_of nodes)
has_ranges first last nodes = nodes_ranges first last nodes
