-- A cut of all records leaves no node.
use Rattle.cdf_cuts.proofs.Common.{Entries, Nodes, Span, [], arith, block, false, kept_by, le-ltb, lower, no_entry, no_node, node, past_entries, range, refl, suc, ℕ, ◌≡◌, ◌≤◌}
unfoldable use Rattle.cdf_index.specs.Order.{AreInOrder, InOrder}
use Rattle.cdf_cuts.proofs.CutWords.{cut, cut_below}
unfoldable use Rattle.cdf_edits.specs.Index.Grown.{cut_entries, cut_nodes}
use Rattle.cdf_model.specs.Limits.{record_number_limit}

abbrev pub span : Span
span = record { first = 0; last = 2147483646; close = false }

pub none_kept : (f l : ℕ) → l ≤ 2147483646 → kept_by span (range f l) ≡ []
none_kept f l le =
    let low : 0 ≤ f = omega arith in
    rw (le-ltb _ _ low, le-ltb _ _ le) refl

mutual
  unfolding InOrder AreInOrder cut_nodes cut_entries

  none_left : (low high : ℕ) (ns : Nodes) → high ≤ 2147483646 → InOrder low high ns → cut span ns ≡ no_node
  none_left low high no_node h o = refl
  none_left low high (node place room es more) h o = rw (none_below low high es h o.0, none_left (past_entries low es) high more h o.1) refl

  none_below : (low high : ℕ) (es : Entries) → high ≤ 2147483646 → AreInOrder low high es → cut_below span es ≡ no_entry
  none_below low high no_entry h o = refl
  none_below low high (block f l place packed es) h o = rw (none_kept f l (omega (arith, o.2, h)), none_below (suc l) high es h o.3) refl
  none_below low high (lower f l nodes es) h o = rw (none_left f l nodes (omega (arith, o.2, h)) o.3, none_below (suc l) high es h o.4) refl

pub all_gone : (nodes : Nodes) → InOrder 0 record_number_limit nodes → cut span nodes ≡ no_node
all_gone nodes o = none_left 0 2147483646 nodes (omega arith) o
