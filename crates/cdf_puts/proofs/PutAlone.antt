-- The records of a variable under a sparse rule once a record is put: what its leaves hold then says that they are those of the content, and none between MaxRec and the record is stored.
use Rattle.cdf_puts.proofs.Common.{Ascending, Each, Leaf, List, None, Range, Some, Sparse, Variable, [], ap, arith, cases_eq, cases_lt, covers, cut_open, cuts_before_put, extent, filled, find, greater, inl, inr, is_little, is_sparse, le-ltb, lt-ltb, max_rec_at, nat_tests, option_map, range, ranges_before_put, ranges_of, record_bytes, record_number_limit, records_in, refl, stored_bytes, subst, suc, sym, true, turned, type_of_variable, ℕ, ◌+◌, ◌<◌, ◌∙◌, ◌∷◌, ◌≡◌, ◌≢◌, ◌≤◌}
use Rattle.cdf_edits.proofs.Common.{item_at, with_item}
use Rattle.cdf_edits.proofs.Edits.Common.{record_is, record_past, rising_records}
use Rattle.cdf_edits.proofs.Edits.NumberedLookup.{item_beside, item_with, same_items}
use Rattle.cdf_edits.proofs.Edits.NumberedItems.{rising_with}
use Rattle.cdf_format.specs.Index.{Nodes, leaves_of}
use Rattle.cdf_model.specs.declared.kinds.Sparse.TheVariants.{NoRule, Pad, Previous}
use Rattle.cdf_puts.proofs.CoveringRanges.{of_leaves}

-- ---- what is past MaxRec is cut

-- each range that is left of a cut up to the greatest number ends before the cut begins
left_before : (first last low : ℕ) (leaves : List Leaf) → Ascending low (suc last) leaves → Each (λ (r : Range). r.last < first) (cut_open first last (of_leaves leaves))
left_before first last low [] a = tt
left_before first last low (x ∷ xs) a = elim (cases_lt x.first first) [
  | inl lt ↦ rw (lt-ltb x.first first lt, le-ltb last x.last (omega (arith, a.2))) (omega (arith, a.1), left_before first last (suc x.last) xs a.3)
  | inr le ↦ rw (le-ltb x.first first le, le-ltb last x.last (omega (arith, a.2))) (left_before first last (suc x.last) xs a.3)
]

-- so no block has a record from there on
none_from : (first k : ℕ) (leaves : List Leaf) → first ≤ k → Each (λ (r : Range). r.last < first) (of_leaves leaves) → find (λ (leaf : Leaf). covers k (range leaf.first leaf.last)) leaves ≡ None
none_from first k [] le each = refl
none_from first k (x ∷ xs) le each = grind (arith, nat_tests, each.0, none_from first k xs le each.1)

-- under a rule no block has a record from MaxRec on, where a put past it leaves the ranges
pub none_past : (v : Variable) (index : Nodes) (r k : ℕ) → is_sparse v.sparse ≡ true → extent v.max_rec < r → ranges_before_put v index r ≡ ranges_of index → Ascending 0 (suc record_number_limit) (leaves_of index) → extent v.max_rec ≤ k → find (λ (leaf : Leaf). covers k (range leaf.first leaf.last)) (leaves_of index) ≡ None
none_past v index r k rule lt same ascend le =
    let cut : cuts_before_put v r ≡ true = rw (rule, lt-ltb (extent v.max_rec) r lt) refl in
    let is : cut_open (extent v.max_rec) record_number_limit (ranges_of index) ≡ ranges_of index = rw cut at same in
    none_from (extent v.max_rec) k (leaves_of index) le (subst (Each (λ (x : Range). x.last < extent v.max_rec)) is (left_before (extent v.max_rec) record_number_limit 0 (leaves_of index) ascend))

-- ---- what is stored

-- nothing is filled up
pub filled_ruled : (v : Variable) (r : ℕ) → is_sparse v.sparse ≡ true → filled v.sparse v r ≡ v.recs
filled_ruled v r e = by v.sparse e
  where
    by : (s : Sparse) → is_sparse s ≡ true → filled s v r ≡ v.recs
    by NoRule e = cc
    by Pad e = refl
    by Previous e = refl

-- One record is put under a rule, of a variable whose VDR says now of each record as much as before: it is stored, each from MaxRec on before it is missing, and what was stored up to MaxRec stays.
pub record StoresAlone (b now : List ℕ) (vdr vdr' : ℕ) (leaves leaves' : List Leaf) (r : ℕ) (bytes : List ℕ) : Type 0 where
  pub typed : type_of_variable now vdr' ≡ type_of_variable b vdr
  pub little : is_little now ≡ is_little b
  pub as_long : record_bytes now vdr' ≡ record_bytes b vdr
  pub ascend : Ascending 0 (suc record_number_limit) leaves
  pub ascend_now : Ascending 0 (suc record_number_limit) leaves'
  pub upto : extent (max_rec_at now vdr') ≡ greater (extent (max_rec_at b vdr)) (r + 1)
  pub stored : option_map (turned (type_of_variable b vdr) (is_little b)) (stored_bytes now vdr' (record_bytes b vdr) leaves' r) ≡ Some bytes
  pub missing : (k : ℕ) → extent (max_rec_at b vdr) ≤ k → k < r → stored_bytes now vdr' (record_bytes b vdr) leaves' k ≡ None
  pub kept : (k : ℕ) → k < extent (max_rec_at b vdr) → k ≢ r → stored_bytes now vdr' (record_bytes b vdr) leaves' k ≡ stored_bytes b vdr (record_bytes b vdr) leaves k

module _ {b now : List ℕ} {vdr vdr' : ℕ} {leaves leaves' : List Leaf} {r : ℕ} {bytes : List ℕ} (p : StoresAlone b now vdr vdr' leaves leaves' r bytes) where
  abbrev turn : List ℕ → List ℕ
  turn = turned (type_of_variable b vdr) (is_little b)

  abbrev m : ℕ
  m = extent (max_rec_at b vdr)

  abbrev was : List (ℕ × List ℕ)
  was = records_in b vdr leaves

  abbrev is : List (ℕ × List ℕ)
  is = records_in now vdr' leaves'

  most_is : ((r < extent (max_rec_at now vdr')) × (m ≤ extent (max_rec_at now vdr'))) × ((k : ℕ) → m ≤ k → r < k → extent (max_rec_at now vdr') ≤ k)
  most_is = rw p.upto ((grind (arith, nat_tests), grind (arith, nat_tests)), λ k low past. grind (arith, nat_tests))

  now_is : (k : ℕ) → k < extent (max_rec_at now vdr') → item_at k is ≡ option_map turn (stored_bytes now vdr' (record_bytes b vdr) leaves' k)
  now_is k lt =
      let t = p.typed in
      let l = p.little in
      let n = p.as_long in
      record_is now vdr' leaves' p.ascend_now k lt ∙ (λ i. option_map (turned (t i) (l i)) (stored_bytes now vdr' (n i) leaves' k))

  item_is : (k : ℕ) → item_at k is ≡ item_at k (with_item r bytes was)
  item_is k = elim (cases_eq r k) [
    | inl e ↦ subst (λ (x : ℕ). item_at x is ≡ item_at x (with_item r bytes was)) e (now_is r most_is.0.0 ∙ p.stored ∙ sym (item_with r bytes was))
    | inr ne ↦ rw (item_beside k r bytes was ne) (elim (cases_lt k m) [
      | inl lt ↦ now_is k (omega (arith, most_is.0.1)) ∙ ap (option_map turn) (p.kept k lt (λ e. ne (sym e))) ∙ sym (record_is b vdr leaves p.ascend k lt)
      | inr le ↦ elim (cases_lt k r) [
        | inl lt ↦ now_is k (omega (arith, most_is.0.0)) ∙ ap (option_map turn) (p.missing k le lt) ∙ sym (record_past b vdr leaves p.ascend k le)
        | inr ge ↦ record_past now vdr' leaves' p.ascend_now k (most_is.1 k le (omega arith)) ∙ sym (record_past b vdr leaves p.ascend k le)
      ]
    ])
  ]

  pub records_put_alone : records_in now vdr' leaves' ≡ with_item r bytes (records_in b vdr leaves)
  records_put_alone = same_items 0 0 is (with_item r bytes was) (rising_records now vdr' leaves' p.ascend_now) (rising_with 0 r bytes was (omega arith) (rising_records b vdr leaves p.ascend)) item_is
