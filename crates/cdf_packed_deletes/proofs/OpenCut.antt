-- Leaves of which all records go are cut out of an index, and later ones keep their numbers: the others stay as they are.
use Rattle.cdf_edits.proofs.Common.{Act, Each, Kind, Leaf, List, None, Nodes, Range, Some, Stays, Variable, VariableShape, [], ap, arith, eq-eqb, false, flat_map, inl, inr, leaves_of, map, nat_lt, nat_tests, range, record_bytes, record_number_limit, records_of_leaf, refl, stored_bytes, subst, suc, sym, taken, true, variable_of, cases_lt, le-ltb, lt-ltb, ℕ, ◌++◌, ◌+◌, ◌-◌, ◌<◌, ◌∙◌, ◌∷◌, ◌≡◌, ◌≤◌, ◌⊎◌}
use Rattle.cdf_edits.proofs.Edits.LeafPieces.{IsOneOf, find_covering, in_order, of_each}
use Rattle.cdf_edits.proofs.Edits.LeafRecords.{count_is}
use Rattle.cdf_edits.proofs.Edits.PlainLeaves.{leaves_ascend}
use Rattle.cdf_edits.specs.Commands.PutSteps.{Stage}
use Rattle.cdf_edits.specs.Index.Blocks.{shared}
use Rattle.cdf_edits.specs.Index.Cut.{IsPart, StaysWhole, is_whole}
use Rattle.cdf_edits.specs.Index.Grown.{cut_nodes, index_cut_open, kept_open, split_off, with_ranges}
use Rattle.cdf_cuts.proofs.CutLeaves.{IsLeft}
use Rattle.cdf_cuts.proofs.CutStay.{from_left, nodes_left, to_left}
use Rattle.cdf_cuts.specs.Planning.{opening}
use Rattle.cdf_packed_deletes.proofs.LeafKinds.{IsApart, IsInside, IsRanged}
use Rattle.cdf_packed_deletes.proofs.OpenKinds.{open_apart, open_inside}
use Rattle.cdf_packed_deletes.proofs.OutlineLeaves.{ranges, ranges_stay, same_ranges}
use Rattle.cdf_packed_deletes.specs.Steps.{CutsWhole}
use Rattle.cdf_put_steps.proofs.BlockKept.{plain_kept, stays_kept}
use Rattle.cdf_put_steps.proofs.RecordPieces.{piece}
use Rattle.cdf_put_steps.proofs.StepKeeps.{block_unchanged}
use Rattle.cdf_put_steps.proofs.StepStored.{leaf_of, stored_by}
use Rattle.cdf_puts.proofs.CoveringRanges.{some_or_none}
use Rattle.cdf_puts.proofs.PutBytes.{found_covering}
use Rattle.cdf_puts.specs.Going.{GoesOn, found_in}
use Rattle.cdf_sparse.proofs.TwiceLeaves.{same_leaf}

-- nothing is split off of leaves of which none has records on both sides
unsplit : (first last : ℕ) (f l : ℕ) → (l ≤ last) ⊎ (first ≤ f) → split_off first last (range f l) ≡ []
unsplit first last f l (inr low) = elim (cases_lt last l) [ inl lt ↦ rw (le-ltb f first low, lt-ltb last l lt) refl | inr le ↦ rw (le-ltb f first low, le-ltb last l le) refl ]
unsplit first last f l (inl le) = elim (cases_lt f first) [ inl lt ↦ rw (lt-ltb f first lt, le-ltb last l le) refl | inr low ↦ rw (le-ltb f first low, le-ltb last l le) refl ]

pub none_split : (first last : ℕ) (leaves : List Leaf) → ((l : Leaf) → IsOneOf leaves l → (l.last ≤ last) ⊎ (first ≤ l.first)) → flat_map (split_off first last) (map (λ (l : Leaf). range l.first l.last) leaves) ≡ []
none_split first last [] none = refl
none_split first last (x ∷ more) none = λ i. unsplit first last x.first x.last (none x (inl refl)) i ++ none_split first last more (λ l j. none l (inr j)) i

module _ {b : List ℕ} {kind : Kind} {before : List VariableShape} {own : VariableShape} {after : List VariableShape} (first last : ℕ) (order : first ≤ suc last) (from to : Stage) (acts : List Act) (goes : GoesOn b from.image kind before own from.own after acts) (step : CutsWhole (found_in b kind before own) false first last from to)
    (one : GoesOn from.image to.image kind before from.own to.own after to.acts) (whole : (l : Leaf) → IsOneOf (leaves_of from.own.index) l → IsApart first last l ⊎ IsInside first last l) where
  abbrev v : Variable
  v = variable_of b own

  abbrev size : ℕ
  size = record_bytes b own.vdr

  abbrev olds : List Leaf
  olds = leaves_of from.own.index

  abbrev news : List Leaf
  news = leaves_of to.own.index

  abbrev left : Nodes
  left = cut_nodes false (kept_open first last) from.own.index

  abbrev wanted : List Leaf
  wanted = leaves_of (cut_nodes false (kept_open first last) from.own.index)

  abbrev none : List ℕ
  none = map (λ (take : ℕ × ℕ). take.0) (taken to.acts)

  ranged : (l : Leaf) → IsOneOf olds l → IsRanged l
  ranged l i = let o = in_order 0 (suc record_number_limit) olds (leaves_ascend goes.good goes.among) l i in record { ordered = o.ordered; small = omega (arith, o.before) }

  ranged_new : (m : Leaf) → IsOneOf news m → IsRanged m
  ranged_new m i = let o = in_order 0 (suc record_number_limit) news (leaves_ascend one.good one.among) m i in record { ordered = o.ordered; small = omega (arith, o.before) }

  side : (l : Leaf) → IsOneOf olds l → (l.last ≤ last) ⊎ (first ≤ l.first)
  side l i = elim (whole l i) [
    | inl a ↦ elim a [ inl lt ↦ inl (omega (arith, lt, order)) | inr lt ↦ inr (omega (arith, lt, order)) ]
    | inr k ↦ inr k.0
  ]

  wanted_is : index_cut_open first last from.own.index ≡ left
  wanted_is = ap (λ (rs : List Range). with_ranges left rs) (none_split first last olds side)

  ranges_are : ranges news ≡ ranges wanted
  ranges_are = sym (ranges_stay none to.own.index) ∙ ap (λ (ns : Nodes). ranges (leaves_of ns)) step.index.index_is ∙ ranges_stay none (index_cut_open first last from.own.index) ∙ ap (λ (ns : Nodes). ranges (leaves_of ns)) wanted_is

  -- ---- the leaves

  is_apart : (l w : Leaf) → IsOneOf olds l → IsLeft (opening first last) l w → IsApart first last l
  is_apart l w i d = elim (whole l i) [
    | inl a ↦ a
    | inr k ↦ (let q : range w.first w.last ∷ d.more ≡ [] = sym d.kept_is ∙ open_inside first last order l k in absurd cc)
  ]

  same : (l m w : Leaf) → IsOneOf olds l → IsOneOf news m → range m.first m.last ≡ range w.first w.last → IsLeft (opening first last) l w → m ≡ l
  same l m w i j e d =
      let all = open_apart first last order l (ranged l i).ordered (is_apart l w i d) in
      let q : range l.first l.last ∷ [] ≡ range w.first w.last ∷ d.more = sym all ∙ d.kept_is in
      let s : range w.first w.last ≡ range l.first l.last = cc in
      let r : range m.first m.last ≡ range l.first l.last = e ∙ s in
      let many : m.last + 1 - m.first ≡ l.last + 1 - l.first = ap (λ (x : Range). x.last + 1 - x.first) r in
      let count : records_of_leaf m ≡ records_of_leaf l = count_is m (ranged_new m j).small (ranged_new m j).ordered ∙ many ∙ sym (count_is l (ranged l i).small (ranged l i).ordered) in
      let part : IsPart (kept_open first last) l m = all ∙ ap (λ (x : Range). x ∷ []) (sym r) in
      let is_all : is_whole l m ≡ true = eq-eqb (records_of_leaf m) (records_of_leaf l) count in
      let two = of_each (λ (o : Leaf). Each (StaysWhole v (kept_open first last) to.acts o) news) olds l step.index.stay i in
      let st = of_each (StaysWhole v (kept_open first last) to.acts l) news m two j part (rw is_all refl) in
      same_leaf l m st.0 st.1 r

  pub from_cut : (m : Leaf) → IsOneOf (leaves_of to.own.index) m → IsOneOf (leaves_of from.own.index) m × IsApart first last m
  from_cut m j =
      let y = same_ranges news wanted ranges_are m j in
      let r = from_left (opening first last) olds wanted (nodes_left (opening first last) from.own.index) y.0 y.1.0 in
      let is : m ≡ r.0 = same r.0 m y.0 r.1.0 j y.1.1 r.1.1 in
      (subst (IsOneOf olds) (sym is) r.1.0, subst (IsApart first last) (sym is) (is_apart r.0 y.0 r.1.0 r.1.1))

  pub to_cut : (l : Leaf) → IsOneOf (leaves_of from.own.index) l → IsApart first last l → IsOneOf (leaves_of to.own.index) l
  to_cut l i a =
      let r = to_left (opening first last) olds wanted (nodes_left (opening first last) from.own.index) l i (λ gone. clash (sym (open_apart first last order l (ranged l i).ordered a) ∙ gone)) in
      let y = same_ranges wanted news (sym ranges_are) r.0 r.1.0 in
      subst (IsOneOf news) (same l y.0 r.0 i y.1.0 (sym y.1.1) r.1.1) y.1.0
    where
      clash : range l.first l.last ∷ [] ≡ [] → ⊥
      clash e = cc

  -- ---- the blocks

  unshared : (l : Leaf) → l.first ≤ l.last → IsApart first last l → nat_lt 0 (shared first last (range l.first l.last)) ≡ false
  unshared l o (inl lt) = grind (arith, nat_tests, o, lt)
  unshared l o (inr lt) = grind (arith, nat_tests, o, lt)

  pub cut_block : (l : Leaf) → IsOneOf (leaves_of from.own.index) l → IsApart first last l → Stays from.image to.image l.place []
  cut_block l i a = block_unchanged from.image to.image (found_in b kind before own) (λ (r : Range). nat_lt 0 (shared first last r)) to.acts goes.good goes.among refl step.goes.keeps l i (unshared l (ranged l i).ordered a)

  -- ---- what is stored

  found_old : (j : ℕ) (l : Leaf) → IsOneOf olds l → l.first ≤ j → j ≤ l.last → leaf_of j olds ≡ Some l
  found_old j l i f t = find_covering j 0 (suc record_number_limit) olds (leaves_ascend goes.good goes.among) l i f t

  found_new : (j : ℕ) (l : Leaf) → IsOneOf news l → l.first ≤ j → j ≤ l.last → leaf_of j news ≡ Some l
  found_new j l i f t = find_covering j 0 (suc record_number_limit) news (leaves_ascend one.good one.among) l i f t

  apart_at : (k : ℕ) (l : Leaf) → IsOneOf olds l → l.first ≤ k → k ≤ l.last → (k < first) ⊎ (last < k) → IsApart first last l
  apart_at k l i f t out = elim (whole l i) [
    | inl a ↦ a
    | inr x ↦ absurd (elim out [ inl lt ↦ omega (arith, lt, x.0, f) | inr lt ↦ omega (arith, lt, x.1, t) ])
  ]

  pub stored_cut : (k : ℕ) → (k < first) ⊎ (last < k) → stored_bytes to.image to.own.vdr (record_bytes b own.vdr) (leaves_of to.own.index) k ≡ stored_bytes from.image from.own.vdr (record_bytes b own.vdr) (leaves_of from.own.index) k
  stored_cut k out = elim (some_or_none (leaf_of k olds)) [
    | inl y ↦
        let l = y.0 in
        let o = found_covering k olds l y.1 in
        let a = apart_at k l o.0 o.1.0 o.1.1 out in
        let plain = plain_kept goes.good goes.among l o.0 one (stays_kept goes.good goes.among l o.0 (cut_block l o.0 a)) in
        ap (stored_by to.image to.own.vdr size k) (found_new k l (to_cut l o.0 a) o.1.0 o.1.1) ∙ ap (λ (xs : List ℕ). Some (piece size (k - l.first) xs)) plain ∙ sym (ap (stored_by from.image from.own.vdr size k) y.1)
    | inr gone ↦ elim (some_or_none (leaf_of k news)) [
      | inr none ↦ ap (stored_by to.image to.own.vdr size k) none ∙ sym (ap (stored_by from.image from.own.vdr size k) gone)
      | inl y ↦
          let o = found_covering k news y.0 y.1 in
          let q : Some y.0 ≡ None = sym (found_old k y.0 (from_cut y.0 o.0).0 o.1.0 o.1.1) ∙ gone in
          absurd cc
    ]
  ]

  pub stored_gone : (k : ℕ) → first ≤ k → k ≤ last → stored_bytes to.image to.own.vdr (record_bytes b own.vdr) (leaves_of to.own.index) k ≡ None
  stored_gone k low high = elim (some_or_none (leaf_of k news)) [
    | inr none ↦ ap (stored_by to.image to.own.vdr size k) none
    | inl y ↦
        let o = found_covering k news y.0 y.1 in
        absurd (elim (from_cut y.0 o.0).1 [ inl lt ↦ omega (arith, lt, o.1.1, low) | inr lt ↦ omega (arith, lt, o.1.0, high) ])
  ]
