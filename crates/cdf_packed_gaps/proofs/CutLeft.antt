-- The index of a packed variable of which all from a first record on, the one behind MaxRec, is cut: what its blocks and nodes are by then, and that a leaf which ends before that record is left as it was.
use Rattle.std.proofs.Common.{ap₂}
use Rattle.cdf_puts.proofs.Common.{Ascending, Bool, Each, Good, Kind, Leaf, List, Nodes, Range, StandsAmong, Variable, VariableShape, [], ap, arith, cases_lt, cut_open, eq-eqb, extent, false, inl, inr, le-ltb, leaves_ascend, leaves_of, lt-ltb, map, max_rec_at, min, own_rules, range, ranges_of, record_number_limit, records_of_leaf, refl, shape, subst, suc, sym, taken, true, variable_of, ℕ, ◌++◌, ◌-◌, ◌<◌, ◌∙◌, ◌∷◌, ◌≡◌, ◌≤◌, ◌||◌}
use Rattle.cdf_edits.proofs.Edits.LeafPieces.{IsOneOf, in_order, of_each}
use Rattle.cdf_edits.specs.Commands.Room.{entries_in, widest}
use Rattle.cdf_edits.specs.Index.Blocks.{firsts_of, left_of}
use Rattle.cdf_edits.specs.Index.Cut.{StaysWhole, is_whole}
use Rattle.cdf_edits.specs.Index.Grown.{cut_nodes, outline}
use Rattle.cdf_edits.specs.Index.Written.{AnyOf}
use Rattle.cdf_format.specs.Index.{leaf}
use Rattle.cdf_index.proofs.LeafRules.{index_order}
use Rattle.cdf_index.specs.Order.{InOrder}
use Rattle.cdf_puts.proofs.CoveringRanges.{of_leaves}
use Rattle.cdf_cuts.proofs.PastKept.{past_ranges}
use Rattle.cdf_cuts.specs.Past.{before_first}
use Rattle.cdf_gaps.proofs.PastIndex.{fewer_entries, firsts_early, no_wider}
use Rattle.cdf_packed_cuts.proofs.TwoSteps.{keeps_before}
use Rattle.cdf_packed_cuts.specs.Past.{PackedPast}
use Rattle.cdf_packed_puts.proofs.NothingCut.{whole}
use Rattle.cdf_packed_puts.specs.Putting.{EndsBefore}
use Rattle.cdf_packed_gaps.proofs.Outlined.{entries_same, firsts_same, ranges_same, widest_same}

-- ---- what is left of ranges

-- each ends before the first record that is cut
left_before : (first last low : ℕ) (xs : List Leaf) → Ascending low (suc last) xs → Each (λ (r : Range). r.last < first) (cut_open first last (of_leaves xs))
left_before first last low [] a = tt
left_before first last low (x ∷ xs) a = elim (cases_lt x.first first) [
  | inl lt ↦ rw (lt-ltb x.first first lt, le-ltb last x.last (omega (arith, a.2))) (omega (arith, a.1), left_before first last (suc x.last) xs a.3)
  | inr le ↦ rw (le-ltb x.first first le, le-ltb last x.last (omega (arith, a.2))) (left_before first last (suc x.last) xs a.3)
]

each_last : (first : ℕ) (xs : List Leaf) → Each (λ (r : Range). r.last < first) (of_leaves xs) → Each (λ (l : Leaf). l.last < first) xs
each_last first [] e = tt
each_last first (x ∷ xs) e = (e.0, each_last first xs e.1)

any_behind : (P : Range → Type 0) (rs ss : List Range) → AnyOf P ss → AnyOf P (rs ++ ss)
any_behind P [] ss a = a
any_behind P (r ∷ rs) ss a = inr (any_behind P rs ss a)

-- one that ends before it stays
range_left : (first last low : ℕ) (xs : List Leaf) (l : Leaf) → Ascending low (suc last) xs → IsOneOf xs l → l.last < first → AnyOf (λ (r : Range). r ≡ range l.first l.last) (cut_open first last (of_leaves xs))
range_left first last low [] l a i lt = absurd i
range_left first last low (x ∷ xs) l a (inl q) lt =
    let rest = cut_open first last (of_leaves xs) in
    let ends : x.last < first = subst (λ (y : Leaf). y.last < first) (sym q) lt in
    let is : cut_open first last (of_leaves (x ∷ xs)) ≡ range x.first x.last ∷ rest = ap (λ (rs : List Range). rs ++ rest) (whole first last x.first x.last a.1 ends (omega (arith, a.2))) in
    subst (AnyOf (λ (r : Range). r ≡ range l.first l.last)) (sym is) (inl (ap (λ (y : Leaf). range y.first y.last) q))
range_left first last low (x ∷ xs) l a (inr i) lt = any_behind (λ (r : Range). r ≡ range l.first l.last) (left_of first last (range x.first x.last)) (cut_open first last (of_leaves xs)) (range_left first last (suc x.last) xs l a.3 i lt)

leaf_with : (xs : List Leaf) (r : Range) → AnyOf (λ (x : Range). x ≡ r) (of_leaves xs) → (m : Leaf) × (IsOneOf xs m × (range m.first m.last ≡ r))
leaf_with [] r a = absurd a
leaf_with (x ∷ xs) r (inl q) = (x, (inl refl, q))
leaf_with (x ∷ xs) r (inr a) = let m = leaf_with xs r a in (m.0, (inr m.1.0, m.1.1))

or_first : (p q : Bool) → p ≡ true → (p || q) ≡ true
or_first p q e = rw e refl

module _ {b mid : List ℕ} {kind : Kind} {before : List VariableShape} {own : VariableShape} {after : List VariableShape} {first : ℕ} (good : Good b) (at : StandsAmong b kind before own after) (cut : PackedPast b mid kind before own after first) (first_is : first ≡ extent (max_rec_at b own.vdr)) where
  abbrev v : Variable
  v = variable_of b own

  abbrev left : Nodes
  left = cut_nodes false (before_first first) own.index

  abbrev news : List ℕ
  news = map (λ (take : ℕ × ℕ). take.0) (taken cut.acts)

  abbrev leaves : List Leaf
  leaves = leaves_of own.index

  abbrev lefts : List Leaf
  lefts = leaves_of cut.own'.index

  order : InOrder 0 record_number_limit own.index
  order = index_order b (shape b).records own.vdr own.index (own_rules good at).1

  ascend : Ascending 0 (suc record_number_limit) leaves
  ascend = leaves_ascend good at

  index_is : outline news cut.own'.index ≡ outline news left
  index_is = subst (λ (m : ℕ). outline news cut.own'.index ≡ outline news (cut_nodes false (before_first m) own.index)) (sym first_is) (cut.steps first_is 0).cuts.0.index_is

  pub ranges_left : ranges_of cut.own'.index ≡ cut_open first record_number_limit (ranges_of own.index)
  ranges_left = sym (ranges_same news cut.own'.index) ∙ ap (λ (ns : Nodes). ranges_of ns) index_is ∙ ranges_same news left ∙ past_ranges first own.index order

  firsts_left : firsts_of cut.own'.index ≡ firsts_of left
  firsts_left = sym (firsts_same news cut.own'.index) ∙ ap firsts_of index_is ∙ firsts_same news left

  -- no block has the first record or a later one, and no entry begins there
  pub ends_before : EndsBefore first cut.own'.index
  ends_before = record {
    lasts = each_last first lefts (subst (Each (λ (r : Range). r.last < first)) (sym ranges_left) (left_before first record_number_limit 0 leaves ascend));
    firsts = subst (Each (λ (f : ℕ). f < first)) (sym firsts_left) (firsts_early first own.index order);
  }

  pub entries_left : entries_in cut.own'.index ≤ entries_in own.index
  entries_left =
      let is = sym (entries_same news cut.own'.index) ∙ ap entries_in index_is ∙ entries_same news left in
      let few = fewer_entries false (before_first first) own.index in
      omega (arith, is, few)

  pub widest_left : widest cut.own'.index ≤ widest own.index
  widest_left =
      let is = sym (widest_same news cut.own'.index) ∙ ap widest index_is ∙ widest_same news left in
      let narrow = no_wider false (before_first first) own.index in
      omega (arith, is, narrow)

  -- ---- a leaf that ends before the first record that is cut

  abbrev Kept : ℕ → Leaf → Leaf → Type 0
  Kept m l n = StaysWhole v (before_first m) cut.acts l n

  stay : Each (λ (l : Leaf). Each (Kept first l) lefts) leaves
  stay = subst (λ (m : ℕ). Each (λ (l : Leaf). Each (Kept m l) lefts) leaves) (sym first_is) (cut.steps first_is 0).cuts.0.stay

  same_leaf : (l m : Leaf) → IsOneOf leaves l → IsOneOf lefts m → l.last < first → range m.first m.last ≡ range l.first l.last → m ≡ l
  same_leaf l m i j lt same =
      let o = in_order 0 (suc record_number_limit) leaves ascend l i in
      let first_same : m.first ≡ l.first = ap (λ (r : Range). r.first) same in
      let last_same : m.last ≡ l.last = ap (λ (r : Range). r.last) same in
      let end : min l.last (first - 1) ≡ l.last = omega (arith, lt) in
      let part : before_first first (range l.first l.last) ≡ range m.first m.last ∷ [] = keeps_before first l.first l.last (omega (arith, o.before)) (omega (arith, o.ordered, lt)) ∙ ap (λ (n : ℕ). range l.first n ∷ []) end ∙ ap (λ (r : Range). r ∷ []) (sym same) in
      let count : records_of_leaf m ≡ records_of_leaf l = ap₂ (λ (f t : ℕ). records_of_leaf (leaf f t 0 false)) first_same last_same in
      let is = of_each (Kept first l) lefts m (of_each (λ (x : Leaf). Each (Kept first x) lefts) leaves l stay i) j part (or_first (is_whole l m) _ (eq-eqb (records_of_leaf m) (records_of_leaf l) count)) in
      λ i. leaf (first_same i) (last_same i) (is.0 i) (is.1 i)

  pub leaf_left : (l : Leaf) → IsOneOf leaves l → l.last < first → IsOneOf lefts l
  leaf_left l i lt =
      let m = leaf_with lefts (range l.first l.last) (subst (AnyOf (λ (r : Range). r ≡ range l.first l.last)) (sym ranges_left) (range_left first record_number_limit 0 leaves l ascend i lt)) in
      subst (IsOneOf lefts) (same_leaf l m.0 i m.1.0 lt m.1.1) m.1.0
