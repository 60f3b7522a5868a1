-- Leaves of which all records go are cut out of an index, and later ones close up: the leaves then, the blocks, and what is stored as each record.
use Rattle.cdf_edits.proofs.Common.{Act, Each, In, Kind, Leaf, List, None, Nodes, Range, Some, Stays, Variable, VariableShape, [], ap, arith, eq-eqb, false, inl, inr, leaves_of, map, nat_lt, nat_tests, plain_bytes, range, record_bytes, record_number_limit, records_of_leaf, refl, stored_bytes, subst, suc, sym, taken, true, variable_of, ℕ, ◌+◌, ◌-◌, ◌<◌, ◌∙◌, ◌∷◌, ◌≡◌, ◌≤◌, ◌⊎◌}
use Rattle.cdf_edits.proofs.Edits.Common.{places_of}
use Rattle.cdf_edits.proofs.Edits.LeafPieces.{IsOneOf, find_covering, in_order, of_each, place_in}
use Rattle.cdf_edits.proofs.Edits.LeafRecords.{count_is}
use Rattle.cdf_edits.proofs.Edits.PlainLeaves.{leaves_ascend}
use Rattle.cdf_edits.specs.Commands.PutSteps.{Stage}
use Rattle.cdf_edits.specs.Index.Blocks.{fallen, shared}
use Rattle.cdf_edits.specs.Index.Cut.{IsPart, StaysWhole, is_whole}
use Rattle.cdf_edits.specs.Index.Grown.{index_cut_closed, kept_closed}
use Rattle.cdf_cuts.proofs.ClosedUp.{fallen_high, fallen_low, fallen_rises, risen, risen_is}
use Rattle.cdf_cuts.proofs.CutLaws.{kept_some}
use Rattle.cdf_cuts.proofs.CutStay.{from_left, nodes_left, to_left}
use Rattle.cdf_cuts.proofs.LeavesKept.{Ends, ends, falls_in, rises_in, some_left}
use Rattle.cdf_cuts.specs.Planning.{closing}
use Rattle.cdf_packed_deletes.proofs.LeafKinds.{IsApart, IsInside, IsRanged}
use Rattle.cdf_packed_deletes.proofs.OutlineLeaves.{ranges, ranges_stay, same_ranges}
use Rattle.cdf_packed_deletes.specs.Steps.{CutsWhole}
use Rattle.cdf_put_steps.proofs.BlockKept.{plain_kept, stays_kept}
use Rattle.cdf_put_steps.proofs.RecordPieces.{piece}
use Rattle.cdf_put_steps.proofs.StepKeeps.{block_unchanged}
use Rattle.cdf_put_steps.proofs.StepStored.{leaf_of, stored_by}
use Rattle.cdf_puts.proofs.CoveringRanges.{some_or_none}
use Rattle.cdf_puts.proofs.PutBytes.{found_covering}
use Rattle.cdf_puts.specs.Going.{GoesOn, found_in}

-- the plain bytes of a leaf are those of one with as many records in the same block
plain_alike : (b : List ℕ) (vdr : ℕ) (l m : Leaf) → m.place ≡ l.place → m.packed ≡ l.packed → records_of_leaf m ≡ records_of_leaf l → plain_bytes b vdr m ≡ plain_bytes b vdr l
plain_alike b vdr l m place packed count = rw (place, packed, count) refl

-- a leaf that moved by as much as went before it
pub record MovedLeaf (first last : ℕ) (l m : Leaf) : Type 0 where
  pub place_is : m.place ≡ l.place
  pub packed_is : m.packed ≡ l.packed
  pub first_is : m.first ≡ fallen first last l.first
  pub last_is : m.last ≡ fallen first last (suc l.last) - 1
  pub some : fallen first last l.first < fallen first last (suc l.last)

module _ {b : List ℕ} {kind : Kind} {before : List VariableShape} {own : VariableShape} {after : List VariableShape} (first last : ℕ) (order : first ≤ last) (from to : Stage) (acts : List Act) (goes : GoesOn b from.image kind before own from.own after acts) (step : CutsWhole (found_in b kind before own) true first last from to)
    (one : GoesOn from.image to.image kind before from.own to.own after to.acts) (whole : (l : Leaf) → IsOneOf (leaves_of from.own.index) l → IsApart first last l ⊎ IsInside first last l) where
  abbrev v : Variable
  v = variable_of b own

  abbrev size : ℕ
  size = record_bytes b own.vdr

  abbrev olds : List Leaf
  olds = leaves_of from.own.index

  abbrev news : List Leaf
  news = leaves_of to.own.index

  abbrev wanted : List Leaf
  wanted = leaves_of (index_cut_closed first last from.own.index)

  abbrev none : List ℕ
  none = map (λ (take : ℕ × ℕ). take.0) (taken to.acts)

  ranges_are : ranges news ≡ ranges wanted
  ranges_are = sym (ranges_stay none to.own.index) ∙ ap (λ (ns : Nodes). ranges (leaves_of ns)) step.index.index_is ∙ ranges_stay none (index_cut_closed first last from.own.index)

  ranged : (l : Leaf) → IsOneOf olds l → IsRanged l
  ranged l i = let o = in_order 0 (suc record_number_limit) olds (leaves_ascend goes.good goes.among) l i in record { ordered = o.ordered; small = omega (arith, o.before) }

  ranged_new : (m : Leaf) → IsOneOf news m → IsRanged m
  ranged_new m i = let o = in_order 0 (suc record_number_limit) news (leaves_ascend one.good one.among) m i in record { ordered = o.ordered; small = omega (arith, o.before) }

  -- ---- numbers that fall

  inside_gone : (l : Leaf) → IsInside first last l → fallen first last l.first < fallen first last (suc l.last) → ⊥
  inside_gone l k lt = omega (arith, k.0, k.1, lt, fallen_rises first last order first l.first k.0, fallen_low first last order first (omega arith), fallen_rises first last order (suc l.last) (suc last) (omega (arith, k.1)), fallen_high first last order (suc last) (omega arith))

  apart_some : (l : Leaf) → l.first ≤ l.last → IsApart first last l → fallen first last l.first < fallen first last (suc l.last)
  apart_some l o (inl lt) = omega (arith, fallen_low first last order l.first (omega arith), fallen_low first last order (suc l.last) (omega arith))
  apart_some l o (inr lt) = omega (arith, fallen_high first last order l.first lt, fallen_high first last order (suc l.last) (omega arith))

  is_apart : (l : Leaf) → IsOneOf olds l → fallen first last l.first < fallen first last (suc l.last) → IsApart first last l
  is_apart l i lt = elim (whole l i) [ inl k ↦ k | inr k ↦ absurd (inside_gone l k lt) ]

  as_many : (l m : Leaf) → l.first ≤ l.last → IsApart first last l → m.first ≡ fallen first last l.first → m.last ≡ fallen first last (suc l.last) - 1 → m.last + 1 - m.first ≡ l.last + 1 - l.first
  as_many l m o (inl lt) f t = omega (arith, f, t, fallen_low first last order l.first (omega arith), fallen_low first last order (suc l.last) (omega arith))
  as_many l m o (inr lt) f t = omega (arith, f, t, fallen_high first last order l.first lt, fallen_high first last order (suc l.last) (omega arith))

  -- ---- the leaves

  moved : (l m w : Leaf) → IsOneOf olds l → IsOneOf news m → range m.first m.last ≡ range w.first w.last → Ends first last order l w → MovedLeaf first last l m
  moved l m w i j e d =
      let f : m.first ≡ fallen first last l.first = ap (λ (r : Range). r.first) e ∙ d.first_is in
      let t : m.last ≡ fallen first last (suc l.last) - 1 = ap (λ (r : Range). r.last) e ∙ d.last_is in
      let a = is_apart l i d.some in
      let many = as_many l m (ranged l i).ordered a f t in
      let count : records_of_leaf m ≡ records_of_leaf l = count_is m (ranged_new m j).small (ranged_new m j).ordered ∙ many ∙ sym (count_is l (ranged l i).small (ranged l i).ordered) in
      let part : IsPart (kept_closed first last) l m = kept_some first last l.first l.last d.some ∙ (λ k. range (sym f k) (sym t k) ∷ []) in
      let all : is_whole l m ≡ true = eq-eqb (records_of_leaf m) (records_of_leaf l) count in
      let two = of_each (λ (o : Leaf). Each (StaysWhole v (kept_closed first last) to.acts o) news) olds l step.index.stay i in
      let s = of_each (StaysWhole v (kept_closed first last) to.acts l) news m two j part (rw all refl) in
      record { place_is = s.0; packed_is = s.1; first_is = f; last_is = t; some = d.some }

  pub from_cut : (m : Leaf) → IsOneOf (leaves_of to.own.index) m → (l : Leaf) × (IsOneOf (leaves_of from.own.index) l × MovedLeaf first last l m)
  from_cut m j =
      let y = same_ranges news wanted ranges_are m j in
      let r = from_left (closing first last) olds wanted (nodes_left (closing first last) from.own.index) y.0 y.1.0 in
      (r.0, (r.1.0, moved r.0 m y.0 r.1.0 j y.1.1 (ends first last order r.0 y.0 r.1.1)))

  pub to_cut : (l : Leaf) → IsOneOf (leaves_of from.own.index) l → fallen first last l.first < fallen first last (suc l.last) → (m : Leaf) × (IsOneOf (leaves_of to.own.index) m × MovedLeaf first last l m)
  to_cut l i lt =
      let r = to_left (closing first last) olds wanted (nodes_left (closing first last) from.own.index) l i (some_left first last order l lt) in
      let y = same_ranges wanted news (sym ranges_are) r.0 r.1.0 in
      (y.0, (y.1.0, moved l y.0 r.0 i y.1.0 (sym y.1.1) (ends first last order l r.0 r.1.1)))

  -- ---- the blocks

  unshared : (l : Leaf) → l.first ≤ l.last → IsApart first last l → nat_lt 0 (shared first last (range l.first l.last)) ≡ false
  unshared l o (inl lt) = grind (arith, nat_tests, o, lt)
  unshared l o (inr lt) = grind (arith, nat_tests, o, lt)

  pub cut_block : (l : Leaf) → IsOneOf (leaves_of from.own.index) l → IsApart first last l → Stays from.image to.image l.place []
  cut_block l i a = block_unchanged from.image to.image (found_in b kind before own) (λ (r : Range). nat_lt 0 (shared first last r)) to.acts goes.good goes.among refl step.goes.keeps l i (unshared l (ranged l i).ordered a)

  pub cut_place : (l : Leaf) → IsOneOf (leaves_of from.own.index) l → IsApart first last l → In l.place (places_of (leaves_of to.own.index))
  cut_place l i a = let r = to_cut l i (apart_some l (ranged l i).ordered a) in subst (λ (p : ℕ). In p (places_of news)) r.1.1.place_is (place_in news r.0 r.1.0)

  -- ---- what is stored

  leaf_stored : (k : ℕ) (l m : Leaf) → IsOneOf olds l → IsOneOf news m → MovedLeaf first last l m → l.first ≤ risen first last order k → risen first last order k ≤ l.last → piece size (k - m.first) (plain_bytes to.image to.own.vdr m) ≡ piece size (risen first last order k - l.first) (plain_bytes from.image from.own.vdr l)
  leaf_stored k l m i j x low high =
      let a = is_apart l i x.some in
      let many = as_many l m (ranged l i).ordered a x.first_is x.last_is in
      let count : records_of_leaf m ≡ records_of_leaf l = count_is m (ranged_new m j).small (ranged_new m j).ordered ∙ many ∙ sym (count_is l (ranged l i).small (ranged l i).ordered) in
      let bytes = plain_alike to.image to.own.vdr l m x.place_is x.packed_is count ∙ plain_kept goes.good goes.among l i one (stays_kept goes.good goes.among l i (cut_block l i a)) in
      let is : k - m.first ≡ risen first last order k - l.first = by a in
      λ n. piece size (is n) (bytes n)
    where
      by : IsApart first last l → k - m.first ≡ risen first last order k - l.first
      by (inl lt) = elim (risen_is first last order k) [
        | inl r ↦ omega (arith, x.first_is, r.1, fallen_low first last order l.first (omega (arith, lt, low, high)))
        | inr r ↦ absurd (omega (arith, lt, high, r.0, r.1))
      ]
      by (inr lt) = elim (risen_is first last order k) [
        | inl r ↦ absurd (omega (arith, lt, low, r.0, r.1, order))
        | inr r ↦ omega (arith, x.first_is, r.1, fallen_high first last order l.first lt)
      ]

  found_old : (j : ℕ) (l : Leaf) → IsOneOf olds l → l.first ≤ j → j ≤ l.last → leaf_of j olds ≡ Some l
  found_old j l i f t = find_covering j 0 (suc record_number_limit) olds (leaves_ascend goes.good goes.among) l i f t

  found_new : (j : ℕ) (l : Leaf) → IsOneOf news l → l.first ≤ j → j ≤ l.last → leaf_of j news ≡ Some l
  found_new j l i f t = find_covering j 0 (suc record_number_limit) news (leaves_ascend one.good one.among) l i f t

  pub stored_cut : (k : ℕ) → stored_bytes to.image to.own.vdr (record_bytes b own.vdr) (leaves_of to.own.index) k ≡ stored_bytes from.image from.own.vdr (record_bytes b own.vdr) (leaves_of from.own.index) (risen first last order k)
  stored_cut k = elim (some_or_none (leaf_of (risen first last order k) olds)) [
    | inl y ↦
        let l = y.0 in
        let o = found_covering (risen first last order k) olds l y.1 in
        let f = falls_in first last order k l o.1.0 o.1.1 in
        let r = to_cut l o.0 (omega (arith, f.0, f.1)) in
        let m = r.0 in
        let x = r.1.1 in
        ap (stored_by to.image to.own.vdr size k) (found_new k m r.1.0 (omega (arith, x.first_is, f.0)) (omega (arith, x.last_is, f.1))) ∙ ap Some (leaf_stored k l m o.0 r.1.0 x o.1.0 o.1.1) ∙ sym (ap (stored_by from.image from.own.vdr size (risen first last order k)) y.1)
    | inr gone ↦ elim (some_or_none (leaf_of k news)) [
      | inr none ↦ ap (stored_by to.image to.own.vdr size k) none ∙ sym (ap (stored_by from.image from.own.vdr size (risen first last order k)) gone)
      | inl y ↦
          let m = y.0 in
          let o = found_covering k news m y.1 in
          let r = from_cut m o.0 in
          let l = r.0 in
          let x = r.1.1 in
          let u = rises_in first last order k l (omega (arith, x.first_is, o.1.0)) (omega (arith, x.last_is, x.some, o.1.1)) in
          let q : Some l ≡ None = sym (found_old (risen first last order k) l r.1.0 u.0 u.1) ∙ gone in
          absurd cc
    ]
  ]
