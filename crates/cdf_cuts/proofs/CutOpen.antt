-- What a cut leaves of an index in order is in order where records keep their numbers too.
use Rattle.cdf_cuts.proofs.Common.{Bool, Entries, List, Nodes, Range, Span, [], arith, block, cases_lt, false, inl, inr, kept_by, le-ltb, lower, lt-ltb, no_entry, no_node, node, past_entries, range, suc, ℕ, ◌∷◌, ◌≤◌}
unfoldable use Rattle.cdf_index.specs.Order.{AreInOrder, InOrder}
use Rattle.cdf_index.proofs.LeafRules.{widened}
use Rattle.cdf_index.proofs.OrderLemmas.{end_after}
use Rattle.cdf_cuts.proofs.CutOrder.{past_low, wider_entries}
use Rattle.cdf_cuts.proofs.CutWords.{cut, cut_below}
unfoldable use Rattle.cdf_edits.specs.Index.Grown.{cut_entries, cut_nodes}
use Rattle.cdf_edits.specs.Index.Grown.{block_if, lower_if, node_if}

-- the first of some ranges lies within these records
abbrev pub Inside : ℕ → ℕ → List Range → Type 0
Inside f l [] = Unit {0}
Inside f l (r ∷ more) = (f ≤ r.first) × (r.first ≤ r.last) × (r.last ≤ l)

pub open_inside : (first last f l : ℕ) → first ≤ last → f ≤ l → Inside f l (kept_by (record { first = first; last = last; close = false }) (range f l))
open_inside first last f l o le = elim (cases_lt f first) [
  | inl lt ↦ rw (lt-ltb _ _ lt) (omega arith, omega (arith, lt), omega arith)
  | inr ge ↦ elim (cases_lt last l) [
    | inl lt ↦ rw (le-ltb _ _ ge, lt-ltb _ _ lt) (omega arith, omega (arith, lt), omega arith)
    | inr none ↦ rw (le-ltb _ _ ge, le-ltb _ _ none) tt
  ]
]

module _ (first last : ℕ) (order : first ≤ last) where
  abbrev span : Span
  span = record { first = first; last = last; close = false }

  abbrev LeftEntries : ℕ → ℕ → ℕ → Entries → Type 0
  LeftEntries low high end es' = AreInOrder low high es' × (past_entries low es' ≤ end)

  block_left : (rs : List Range) (low high f l end place : ℕ) (packed : Bool) (es' : Entries) → Inside f l rs → low ≤ f → f ≤ l → l ≤ high → LeftEntries (suc l) high end es' → LeftEntries low high end (block_if rs place packed es')
  unfolding AreInOrder
  block_left [] low high f l end place packed es' i a m h r = (wider_entries (suc l) low high es' (omega arith) r.0, past_low (suc l) low end es' (omega arith) r.1)
  block_left (x ∷ more) low high f l end place packed es' i a m h r = ((omega (arith, i.0), i.1, omega (arith, i.2), wider_entries (suc l) (suc x.last) high es' (omega (arith, i.2)) r.0), past_low (suc l) (suc x.last) end es' (omega (arith, i.2)) r.1)

  lower_left : (low high f l end : ℕ) (nodes : Nodes) (es' : Entries) → InOrder f l nodes → low ≤ f → f ≤ l → l ≤ high → LeftEntries (suc l) high end es' → LeftEntries low high end (lower_if f l nodes es')
  unfolding AreInOrder
  lower_left low high f l end no_node es' o a m h r = (wider_entries (suc l) low high es' (omega arith) r.0, past_low (suc l) low end es' (omega arith) r.1)
  lower_left low high f l end (node place room entries more) es' o a m h r = ((a, m, h, o, r.0), r.1)

  node_left : (place room low end high : ℕ) (es' : Entries) (rest : Nodes) → low ≤ end → LeftEntries low high end es' → InOrder end high rest → InOrder low high (node_if place room es' rest)
  unfolding InOrder
  node_left place room low end high no_entry rest le e o = widened end low high high rest le (omega arith) o
  node_left place room low end high (block f l p packed es) rest le e o = (e.0, widened end (past_entries low (block f l p packed es)) high high rest e.1 (omega arith) o)
  node_left place room low end high (lower f l ns es) rest le e o = (e.0, widened end (past_entries low (lower f l ns es)) high high rest e.1 (omega arith) o)

  mutual
    unfolding InOrder AreInOrder cut_nodes cut_entries

    pub open_order : (low high : ℕ) (ns : Nodes) → InOrder low high ns → InOrder low high (cut span ns)
    open_order low high no_node o = tt
    open_order low high (node place room es more) o = node_left place room low (past_entries low es) high (cut_below span es) (cut span more) (end_after low high es o.0) (entries_order low high es o.0) (open_order (past_entries low es) high more o.1)

    entries_order : (low high : ℕ) (es : Entries) → AreInOrder low high es → LeftEntries low high (past_entries low es) (cut_below span es)
    entries_order low high no_entry o = (tt, omega arith)
    entries_order low high (block f l place packed es) o = block_left (kept_by span (range f l)) low high f l (past_entries (suc l) es) place packed (cut_below span es) (open_inside first last f l order o.1) o.0 o.1 o.2 (entries_order (suc l) high es o.3)
    entries_order low high (lower f l nodes es) o = lower_left low high f l (past_entries (suc l) es) (cut span nodes) (cut_below span es) (open_order f l nodes o.3) o.0 o.1 o.2 (entries_order (suc l) high es o.4)
