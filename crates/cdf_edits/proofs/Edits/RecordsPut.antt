-- The records of a variable once one is put: what its leaves hold then says that they are those of the content.
use Rattle.cdf_edits.proofs.Common.{Leaf, List, NoRule, Pad, Previous, Some, Variable, ap, arith, cases_eq, cases_lt, cuts_before_put, extent, false, filled, greater, inl, inr, is_little, is_sparse, item_at, last_number, le-ltb, lt-ltb, max_rec_at, nat_lt, nat_tests, option_map, pad_record, record_bytes, record_number_limit, records_in, refl, stored_bytes, subst, suc, sym, turned, type_of_variable, with_item, with_items, zero, ℕ, ◌+◌, ◌-◌, ◌<◌, ◌∙◌, ◌≡◌, ◌≢◌, ◌≤◌}
use Rattle.cdf_edits.proofs.Edits.Common.{Ascending, record_is, record_past, rising_records}
use Rattle.cdf_edits.proofs.Edits.NumberedLookup.{item_among, item_before_all, item_beside, item_past_all, item_with, rising_with_items, same_items}
use Rattle.cdf_edits.proofs.Edits.NumberedItems.{rising_with}
use Rattle.std.proofs.Common.{◌&&◌}
use Rattle.cdf_model.specs.declared.kinds.Sparse.{Sparse}

-- One record is put, of a variable whose VDR says now of each record as much as before: it is stored, each from MaxRec on before it is stored as a pad, and what was stored up to MaxRec stays.
pub record StoresPut (b now : List ℕ) (vdr vdr' : ℕ) (leaves leaves' : List Leaf) (r : ℕ) (bytes pad : List ℕ) : Type 0 where
  pub typed : type_of_variable now vdr' ≡ type_of_variable b vdr
  pub little : is_little now ≡ is_little b
  pub as_long : record_bytes now vdr' ≡ record_bytes b vdr
  pub ascend : Ascending 0 (suc record_number_limit) leaves
  pub ascend_now : Ascending 0 (suc record_number_limit) leaves'
  pub upto : extent (max_rec_at now vdr') ≡ greater (extent (max_rec_at b vdr)) (r + 1)
  pub stored : option_map (turned (type_of_variable b vdr) (is_little b)) (stored_bytes now vdr' (record_bytes b vdr) leaves' r) ≡ Some bytes
  pub padded : (k : ℕ) → extent (max_rec_at b vdr) ≤ k → k < r → option_map (turned (type_of_variable b vdr) (is_little b)) (stored_bytes now vdr' (record_bytes b vdr) leaves' k) ≡ Some pad
  pub kept : (k : ℕ) → k < extent (max_rec_at b vdr) → k ≢ r → stored_bytes now vdr' (record_bytes b vdr) leaves' k ≡ stored_bytes b vdr (record_bytes b vdr) leaves k

greater_least : (m n : ℕ) → n ≤ greater m n
greater_least m n = grind (arith, nat_tests)

greater_first : (m n : ℕ) → m ≤ greater m n
greater_first m n = grind (arith, nat_tests)

greater_most : (m n k : ℕ) → m ≤ k → n ≤ k → greater m n ≤ k
greater_most m n k l h = grind (arith, nat_tests)

module _ {b now : List ℕ} {vdr vdr' : ℕ} {leaves leaves' : List Leaf} {r : ℕ} {bytes pad : List ℕ} (p : StoresPut b now vdr vdr' leaves leaves' r bytes pad) where
  abbrev turn : List ℕ → List ℕ
  turn = turned (type_of_variable b vdr) (is_little b)

  abbrev m : ℕ
  m = extent (max_rec_at b vdr)

  abbrev most : ℕ
  most = extent (max_rec_at now vdr')

  abbrev was : List (ℕ × List ℕ)
  was = records_in b vdr leaves

  abbrev filled_up : List (ℕ × List ℕ)
  filled_up = with_items m (r - m) pad was

  now_is : (k : ℕ) → k < most → item_at k (records_in now vdr' leaves') ≡ option_map turn (stored_bytes now vdr' (record_bytes b vdr) leaves' k)
  now_is k lt =
      let t = p.typed in
      let l = p.little in
      let n = p.as_long in
      record_is now vdr' leaves' p.ascend_now k lt ∙ (λ i. option_map (turned (t i) (l i)) (stored_bytes now vdr' (n i) leaves' k))

  each : (k : ℕ) → item_at k (records_in now vdr' leaves') ≡ item_at k (with_item r bytes filled_up)
  each k = elim (cases_eq r k) [
    | inl e ↦ subst (λ (x : ℕ). item_at x (records_in now vdr' leaves') ≡ item_at x (with_item r bytes filled_up)) e (now_is r (omega (arith, p.upto, greater_least m (r + 1))) ∙ p.stored ∙ sym (item_with r bytes filled_up))
    | inr ne ↦ rw (item_beside k r bytes filled_up ne) (elim (cases_lt k m) [
      | inl lt ↦ now_is k (omega (arith, p.upto, greater_first m (r + 1))) ∙ ap (option_map turn) (p.kept k lt (λ e. ne (sym e))) ∙ sym (record_is b vdr leaves p.ascend k lt) ∙ sym (item_before_all k m (r - m) pad was lt)
      | inr le ↦ elim (cases_lt k r) [
        | inl lt ↦ now_is k (omega (arith, p.upto, greater_least m (r + 1))) ∙ p.padded k le lt ∙ sym (item_among k m (r - m) pad was le (omega arith))
        | inr ge ↦ record_past now vdr' leaves' p.ascend_now k (omega (arith, p.upto, greater_most m (r + 1) k le (omega arith))) ∙ sym (record_past b vdr leaves p.ascend k le) ∙ sym (item_past_all k m (r - m) pad was (omega arith))
      ]
    ])
  ]

  pub records_put : records_in now vdr' leaves' ≡ with_item r bytes (with_items m (r - m) pad (records_in b vdr leaves))
  records_put = same_items 0 0 (records_in now vdr' leaves') (with_item r bytes filled_up) (rising_records now vdr' leaves' p.ascend_now) (rising_with 0 r bytes filled_up (omega arith) (rising_with_items 0 m (r - m) pad was (omega arith) (rising_records b vdr leaves p.ascend))) each

-- what is filled up, where nothing is cut before
pub filled_uncut : (v : Variable) (r : ℕ) → cuts_before_put v r ≡ false → filled v.sparse v r ≡ with_items (extent v.max_rec) (r - extent v.max_rec) (pad_record v) v.recs
filled_uncut v r e = by v.sparse e
  where
    by : (s : Sparse) → (is_sparse s && nat_lt (extent v.max_rec) r) ≡ false → filled s v r ≡ with_items (extent v.max_rec) (r - extent v.max_rec) (pad_record v) v.recs
    by NoRule e = refl
    by Pad e = let none : 0 ≡ r - extent v.max_rec = grind (arith, nat_tests) in ap (λ (c : ℕ). with_items (extent v.max_rec) c (pad_record v) v.recs) none
    by Previous e = let none : 0 ≡ r - extent v.max_rec = grind (arith, nat_tests) in ap (λ (c : ℕ). with_items (extent v.max_rec) c (pad_record v) v.recs) none

-- ---- MaxRec

pub extent_last : (n : ℕ) → extent (last_number n) ≡ n
extent_last zero = refl
extent_last (suc n) = omega arith

pub greater_is_first : (m r : ℕ) → r < m → greater m (r + 1) ≡ m
greater_is_first m r lt = rw (le-ltb m (r + 1) (omega arith)) refl

pub greater_is_last : (m r : ℕ) → m ≤ r → greater m (r + 1) ≡ suc r
greater_is_last m r le = rw (lt-ltb m (r + 1) (omega arith)) (omega arith)
