-- Records were deleted under a rule for missing records: each record of the image keeps what it has to.
use Rattle.cdf_puts.proofs.Common.{Act, AllKeep, Allowance, Allowances, GoesOn, In, IsOneOf, Keeps, Kind, Leaf, List, Only, Option, Range, Stays, Variable, VariableShape, WritesRecords, [], anything_if, arith, behind_in, block_behind, block_kept, cases_lt, either, eq-eqb, false, found_in, inl, inr, is_sparse, keeps_stood, leaves_of, length, lt-ltb, nat_lt, or_parts, owned, place_in, plain_leaf, PlainLeaf, put_fields, range, range_at, record_bytes, refl, same_as_itself, shape, shared, subst, sym, true, true≢false, variable_of, variable_records, ℕ, ◌&&◌, ◌++◌, ◌<◌, ◌∙◌, ◌≡◌, ◌≤◌, ◌⊎◌, Nodes, index_order, own_rules, record_number_limit}
use Rattle.cdf_edits.proofs.Edits.Common.{stays_then}
use Rattle.cdf_edits.specs.Commands.Cuts.{del_recs_changes, del_recs_cuts}
use Rattle.cdf_edits.specs.Index.Blocks.{extent_after}
use Rattle.cdf_index.proofs.OwnRecords as of_own
use Rattle.cdf_puts.proofs.PutRules.{no_cpr}
use Rattle.cdf_cuts.proofs.CutStay.{LeftOf, nodes_left, to_left}
use Rattle.cdf_puts.proofs.GoesKeep.{each_own, goes_keep}
use Rattle.cdf_cuts.proofs.PastFollows as cutting
use Rattle.cdf_cuts.proofs.PastKept.{front, same_index, some_left}
use Rattle.cdf_cuts.specs.Past.{cut_off, past_acts, past_span}
use Rattle.cdf_sparse.proofs.PastOpens.{ends_before}
use Rattle.cdf_sparse.proofs.TwiceGoes.{twice_goes}
use Rattle.cdf_sparse.proofs.TwiceLeaves.{same_leaf, stays_opened}
use Rattle.cdf_sparse.proofs.TwiceLeft.{TwiceLeft}
use Rattle.cdf_sparse.specs.Opening.{opening_acts}

-- a block shares no record with those that go
apart : (first last f l : ℕ) → first ≤ last → f ≤ l → nat_lt 0 (shared first last (range f l)) ≡ false → (l < first) ⊎ (last < f)
apart first last f l order le e = elim (cases_lt l first) [
  | inl lt ↦ inl lt
  | inr low ↦ elim (cases_lt last f) [
    | inl lt ↦ inr lt
    | inr high ↦ (let some : nat_lt 0 (shared first last (range f l)) ≡ true = lt-ltb 0 (shared first last (range f l)) (omega (arith, low, high, order, le)) in absurd (true≢false (sym some ∙ e)))
  ]
]

module _ {b mid left now : List ℕ} {kind : Kind} {before : List VariableShape} {own own' : VariableShape} {after : List VariableShape} {first last : ℕ} {takes : List Act} (t : TwiceLeft b mid left kind before own own' after first last takes) (w : WritesRecords left now kind (cut_off own' (extent_after (variable_of b own) first last)) []) where
  abbrev v : Variable
  v = variable_of b own

  abbrev end : ℕ
  end = extent_after (variable_of b own) first last

  abbrev rest : VariableShape
  rest = cut_off own' end

  abbrev leaves : List Leaf
  leaves = leaves_of own.index

  abbrev mids : List Leaf
  mids = leaves_of own'.index

  abbrev lefts : List Leaf
  lefts = leaves_of rest.index

  abbrev acts : List Act
  acts = opening_acts b own first last takes ++ past_acts mid own' end

  goes : GoesOn b now kind before own rest after acts
  goes = twice_goes t w

  plain : (l : Leaf) → IsOneOf leaves l → PlainLeaf b (record_bytes b own.vdr) l
  plain l i = plain_leaf t.good t.among t.opened.loose l i

  -- ---- a block that loses no record

  past_left : LeftOf (past_span end) mids lefts
  past_left =
      let z = t.opened.goes in
      subst (λ (y : Nodes). LeftOf (past_span end) mids (leaves_of y)) (same_index end own'.index (index_order mid (shape mid).records own'.vdr own'.index (own_rules z.good z.among).1)) (nodes_left (past_span end) own'.index)

  -- what is before the new MaxRec is left
  stays_left : (l : Leaf) → IsOneOf mids l → l.first ≤ l.last → l.last ≤ record_number_limit → l.last < end → IsOneOf lefts l
  stays_left l i order small lt =
      let o = to_left (past_span end) mids lefts past_left l i (some_left end l small (omega (arith, order, lt))) in
      let f = front end l o.0 small o.1.1 in
      let ends : o.0.last ≡ l.last = f.last_is ∙ omega (arith, lt) in
      subst (λ (m : Leaf). IsOneOf lefts m) (same_leaf l o.0 f.place_is f.packed_is (λ i. range (f.first_is i) (ends i))) o.1.0

  stays_last : (l : Leaf) → IsOneOf lefts l → Stays left now l.place []
  stays_last l i =
      let z = t.past.goes_on in
      let stands = behind_in goes.good goes.among l.place (block_behind rest l.place (place_in lefts l i)) in
      keeps_stood left now l.place (record { stands = stands; whole = block_kept z.good z.among w l.place (place_in lefts l i) (λ none. none) }) (Only [])

  unlost : (l : Leaf) → IsOneOf leaves l → del_recs_cuts v first last (range l.first l.last) ≡ false → Stays b now l.place []
  unlost l i none =
      let p = plain l i in
      let parts = or_parts (nat_lt 0 (shared first last (range l.first l.last))) (is_sparse v.sparse && nat_lt 0 (shared end record_number_limit (range l.first l.last))) none in
      let before_end : nat_lt 0 (shared end record_number_limit (range l.first l.last)) ≡ false = rw t.rule at parts.1 in
      let side = apart first last l.first l.last t.order p.ordered parts.0 in
      let lt = ends_before end l.first l.last p.ordered p.small before_end in
      let j = stays_opened t.good t.among t.order t.opened l i side in
      let z = t.opened.goes in
      let once = t.opened.apart l i side in
      let again = cutting.block_stays z.good z.among t.past l j (omega (arith, lt, p.ordered)) in
      let last_one = stays_last l (stays_left l j p.ordered p.small lt) in
      stays_then b left now l.place [] [] [] (stays_then b mid left l.place [] [] [] once again (λ n out. (tt, tt))) last_one (λ n out. (tt, tt))

  -- ---- all records

  abbrev may : Allowances
  may = del_recs_changes b (shape b) (found_in b kind before own) first last

  abbrev own_may : ℕ → Allowance
  own_may m = may.variables kind (length before) m

  abbrev block_may : Range → Allowance
  block_may rg = anything_if (del_recs_cuts v first last rg)

  allowed : (m : ℕ) (o : Option Range) → range_at (shape b) (found_in b kind before own) m ≡ o → own_may m ≡ of_own.by_range b kind put_fields block_may m o
  allowed m o e = let same = same_as_itself kind in let number = eq-eqb (length before) (length before) refl in rw (same, number, e)

  block_keeps : (l : Leaf) → IsOneOf leaves l → Keeps b now l.place (block_may (range l.first l.last))
  block_keeps l i = elim (either (del_recs_cuts v first last (range l.first l.last))) [ inl e ↦ rw e tt | inr e ↦ rw e (unlost l i e) ]

  own_keeps : (m : ℕ) → In m (variable_records own) → Keeps b now m (own_may m)
  own_keeps = each_own (λ (m : ℕ). Keeps b now m (own_may m)) own (rw (of_own.descriptor_allowed (found_in b kind before own) t.good t.among refl put_fields block_may own_may allowed) goes.descriptor)
      (λ m i. rw (of_own.node_allowed (found_in b kind before own) t.good t.among refl put_fields block_may own_may allowed m i) tt)
      (λ l i. rw (of_own.block_allowed (found_in b kind before own) t.good t.among refl put_fields block_may own_may allowed l i) (block_keeps l i))
      (λ m i. absurd (subst (In m) (no_cpr t.good t.among t.opened.loose) i))

  pub keeps : AllKeep b now may acts (owned b (shape b))
  keeps = goes_keep t.good t.among goes may goes.gdr own_keeps
