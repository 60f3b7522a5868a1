-- What blocks and nodes keep where all records from a first one on go: a block keeps those before it, in their order, and the index that is left is the one of the definition.
use Rattle.cdf_cuts.proofs.Common.{Each, Entries, Leaf, List, Nodes, Range, [], ap, arith, block, cases_lt, false, inl, inr, kept_by, le-ltb, leaves_of, lower, lt-ltb, map, no_entry, no_node, node, past_entries, range, refl, suc, sym, ℕ, ◌++◌, ◌-◌, ◌<◌, ◌∙◌, ◌∷◌, ◌≡◌, ◌≤◌}
use Rattle.std.specs.Prelude.{max, min}
use Rattle.cdf_edits.proofs.Edits.LeafPieces.{each_of, in_order}
use Rattle.cdf_edits.specs.Index.Blocks.{cut_open, left_of, ranges_of}
use Rattle.cdf_edits.specs.Index.Grown.{block_if, lower_if, node_if}
unfoldable use Rattle.cdf_edits.specs.Index.Grown.{cut_entries, cut_nodes}
unfoldable use Rattle.cdf_index.specs.Order.{AreInOrder, InOrder}
use Rattle.cdf_index.proofs.LeavesAscend.{leaves_ascend}
use Rattle.cdf_model.specs.Limits.{record_number_limit}
use Rattle.cdf_cuts.proofs.CutLeaves.{IsLeft}
use Rattle.cdf_cuts.proofs.CutStay.{LeftOf, nodes_left}
use Rattle.cdf_cuts.proofs.CutWords.{cut, cut_below}
use Rattle.cdf_cuts.specs.Past.{before_first, past_span}

module _ (first : ℕ) where
  -- ---- a block

  pub kept_front : (f l : ℕ) → l ≤ 2147483646 → f < first → kept_by (past_span first) (range f l) ≡ range f (min l (first - 1)) ∷ []
  kept_front f l le lt = rw (lt-ltb f first lt) refl

  pub kept_none : (f l : ℕ) → l ≤ 2147483646 → first ≤ f → kept_by (past_span first) (range f l) ≡ []
  kept_none f l le low = let high : l ≤ max first 2147483646 = omega (arith, le) in rw (le-ltb f first low, le-ltb (max first 2147483646) l high) refl

  pub kept_same : (f l : ℕ) → l ≤ 2147483646 → kept_by (past_span first) (range f l) ≡ before_first first (range f l)
  kept_same f l le = elim (cases_lt f first) [
    | inl lt ↦ rw (lt-ltb f first lt) refl
    | inr low ↦ kept_none f l le low ∙ sym (rw (le-ltb f first low, le-ltb 2147483646 l le) refl)
  ]

  -- what is left of a leaf: its records before the first one that goes
  pub record Front (l m : Leaf) : Type 0 where
    pub place_is : m.place ≡ l.place
    pub packed_is : m.packed ≡ l.packed
    pub first_is : m.first ≡ l.first
    pub last_is : m.last ≡ min l.last (first - 1)
    pub reaches : l.first < first

  pub front : (l m : Leaf) → l.last ≤ 2147483646 → IsLeft (past_span first) l m → Front l m
  front l m le left = elim (cases_lt l.first first) [
    | inl lt ↦
        let q : range m.first m.last ∷ left.more ≡ range l.first (min l.last (first - 1)) ∷ [] = sym left.kept_is ∙ kept_front l.first l.last le lt in
        let s : range m.first m.last ≡ range l.first (min l.last (first - 1)) = cc in
        record { place_is = left.place_is; packed_is = left.packed_is; first_is = ap (λ (r : Range). r.first) s; last_is = ap (λ (r : Range). r.last) s; reaches = lt }
    | inr low ↦ (let q : range m.first m.last ∷ left.more ≡ [] = sym left.kept_is ∙ kept_none l.first l.last le low in absurd cc)
  ]

  -- something is left of one that has a record before it
  pub some_left : (l : Leaf) → l.last ≤ 2147483646 → l.first < first → kept_by (past_span first) (range l.first l.last) ≡ [] → ⊥
  some_left l le lt e = let q : range l.first (min l.last (first - 1)) ∷ [] ≡ [] = sym (kept_front l.first l.last le lt) ∙ e in absurd cc

  -- ---- the index

  mutual
    unfolding InOrder AreInOrder cut_nodes cut_entries

    same_left : (low high : ℕ) (ns : Nodes) → high ≤ 2147483646 → InOrder low high ns → cut (past_span first) ns ≡ cut_nodes false (before_first first) ns
    same_left low high no_node h o = refl
    same_left low high (node place room es more) h o = λ i. node_if place room (same_below low high es h o.0 i) (same_left (past_entries low es) high more h o.1 i)

    same_below : (low high : ℕ) (es : Entries) → high ≤ 2147483646 → AreInOrder low high es → cut_below (past_span first) es ≡ cut_entries false (before_first first) es
    same_below low high no_entry h o = refl
    same_below low high (block f l place packed es) h o = λ i. block_if (kept_same f l (omega (arith, o.2, h)) i) place packed (same_below (suc l) high es h o.3 i)
    same_below low high (lower f l nodes es) h o = λ i. lower_if f l (same_left f l nodes (omega (arith, o.2, h)) o.3 i) (same_below (suc l) high es h o.4 i)

  -- it is the one of the definition, also where the first record is past the greatest number of a record
  pub same_index : (nodes : Nodes) → InOrder 0 record_number_limit nodes → cut (past_span first) nodes ≡ cut_nodes false (before_first first) nodes
  same_index nodes o = same_left 0 2147483646 nodes (omega arith) o

  -- ---- the records of its blocks

  abbrev ranges : List Leaf → List Range
  ranges leaves = map (λ (l : Leaf). range l.first l.last) leaves

  all_left : (f l : ℕ) → l ≤ 2147483646 → left_of first 2147483646 (range f l) ≡ kept_by (past_span first) (range f l)
  all_left f l le = elim (cases_lt f first) [
    | inl lt ↦ rw (lt-ltb f first lt, le-ltb 2147483646 l le) refl
    | inr low ↦ sym (kept_none f l le low ∙ sym (rw (le-ltb f first low, le-ltb 2147483646 l le) refl))
  ]

  -- of a leaf one range is left
  one_left : (l m : Leaf) → l.last ≤ 2147483646 → IsLeft (past_span first) l m → left_of first 2147483646 (range l.first l.last) ≡ range m.first m.last ∷ []
  one_left l m le left =
      let e = front l m le left in
      all_left l.first l.last le ∙ kept_front l.first l.last le e.reaches ∙ (λ i. range (sym e.first_is i) (sym e.last_is i) ∷ [])

  leaves_ranges : (ls ms : List Leaf) → Each (λ (l : Leaf). l.last ≤ 2147483646) ls → LeftOf (past_span first) ls ms → ranges ms ≡ cut_open first 2147483646 (ranges ls)
  leaves_ranges [] ms small e = ap ranges e
  leaves_ranges (l ∷ ls) ms small (inl x) = leaves_ranges ls ms small.1 x.1 ∙ sym (ap (λ (rs : List Range). rs ++ cut_open first 2147483646 (ranges ls)) (all_left l.first l.last small.0 ∙ x.0))
  leaves_ranges (l ∷ ls) ms small (inr o) =
      ap ranges o.is ∙ ap (λ (rs : List Range). range o.m.first o.m.last ∷ rs) (leaves_ranges ls o.rest small.1 o.more) ∙ sym (ap (λ (rs : List Range). rs ++ cut_open first 2147483646 (ranges ls)) (one_left l o.m small.0 o.left))

  pub past_ranges : (nodes : Nodes) → InOrder 0 record_number_limit nodes → ranges_of (cut_nodes false (before_first first) nodes) ≡ cut_open first record_number_limit (ranges_of nodes)
  past_ranges nodes o =
      let ascend = leaves_ascend 0 2147483646 nodes o (omega arith) in
      let small = each_of (λ (l : Leaf). l.last ≤ 2147483646) (leaves_of nodes) (λ l i. omega (arith, (in_order 0 2147483647 (leaves_of nodes) ascend l i).before)) in
      ap ranges_of (sym (same_index nodes o)) ∙ leaves_ranges (leaves_of nodes) (leaves_of (cut (past_span first) nodes)) small (nodes_left (past_span first) nodes)
