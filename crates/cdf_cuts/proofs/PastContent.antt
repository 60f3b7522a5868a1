-- All records from a first one on were cut out of the index of a variable: what is stored of a record before it stays, of a later one nothing is, and where none of them was a record of the variable the content stays.
use Rattle.cdf_cuts.proofs.Common.{Leaf, List, Nodes, None, Some, [], ap, arith, cases_lt, inl, inr, leaves_of, length, option_map, range, refl, subst, suc, sym, zero, ℕ, ◌*◌, ◌+◌, ◌-◌, ◌<◌, ◌∙◌, ◌∷◌, ◌≡◌, ◌≤◌}
use Rattle.std.proofs.Common.{drop, find, slice_get, slice_set, take}
use Rattle.cdf_edits.proofs.Common.{DataSet, Good, Kind, R, Variable, VariableShape, Z, byte, content, covers, extent, is_little, item_at, max_rec_at, record_bytes, record_number_limit, records_in, same_Some, shape, stored_bytes, turned, type_of_variable, variable_of, variables_of, with_sign, with_variables}
use Rattle.cdf_edits.proofs.Edits.Common.{record_is, record_past, rising_records}
use Rattle.cdf_edits.proofs.Edits.LeafPieces.{IsOneOf, find_covering, plain_piece, record_place, times_le}
use Rattle.cdf_edits.proofs.Edits.LeafRecords.{Ascending}
use Rattle.cdf_edits.proofs.Edits.NumberedLookup.{same_items}
use Rattle.cdf_edits.proofs.Edits.PlainLeaves.{leaves_ascend, own_rules}
use Rattle.cdf_edits.proofs.Edits.StandsAmong.{StandsAmong}
use Rattle.cdf_edits.proofs.Frame.VdrAlike.{type_alike}
use Rattle.cdf_edits.proofs.Frame.VdrStays.{stays_alike, variable_stays}
use Rattle.cdf_index.proofs.LeafRules.{index_order}
use Rattle.cdf_puts.proofs.CoveringRanges.{some_or_none}
use Rattle.cdf_puts.proofs.GoesThen.{stays, variable_there}
use Rattle.cdf_puts.proofs.PutBytes.{found_covering}
use Rattle.cdf_cuts.proofs.BlocksMoved.{piece_shifted}
use Rattle.cdf_cuts.proofs.CutStay.{LeftOf, from_left, nodes_left, to_left}
use Rattle.cdf_cuts.proofs.PastFollows as by
use Rattle.cdf_cuts.proofs.PastKept.{front, same_index, some_left}
use Rattle.cdf_cuts.specs.Past.{CutPast, cut_off, past_span}

-- ---- a data set in which a variable is what it was

pub same_set : {A : Type 0} (xs : List A) (n : ℕ) (a : A) → slice_get xs n ≡ Some a → slice_set xs n a ≡ xs
same_set [] n a e = refl
same_set (x ∷ xs) zero a e = ap (λ (y : _). y ∷ xs) (sym (same_Some x a e))
same_set (x ∷ xs) (suc n) a e = ap (λ (ys : _). x ∷ ys) (same_set xs n a e)

pub same_variables : (d : DataSet) (kind : Kind) → with_variables d kind (variables_of d kind) ≡ d
same_variables d R = refl
same_variables d Z = refl

module _ {b now : List ℕ} {kind : Kind} {before : List VariableShape} {own : VariableShape} {after : List VariableShape} {first : ℕ} (good : Good b) (at : StandsAmong b kind before own after) (x : CutPast b now kind before own (cut_off own first) after first) where
  abbrev v : Variable
  v = variable_of b own

  abbrev own' : VariableShape
  own' = cut_off own first

  abbrev size : ℕ
  size = record_bytes b own.vdr

  abbrev leaves : List Leaf
  leaves = leaves_of own.index

  abbrev leaves' : List Leaf
  leaves' = leaves_of own'.index

  left : LeftOf (past_span first) leaves leaves'
  left = subst (λ (y : Nodes). LeftOf (past_span first) leaves (leaves_of y)) (same_index first own.index (index_order b (shape b).records own.vdr own.index (own_rules good at).1)) (nodes_left (past_span first) own.index)

  ascend : Ascending 0 (suc record_number_limit) leaves
  ascend = leaves_ascend good at

  ascend_now : Ascending 0 (suc record_number_limit) leaves'
  ascend_now = leaves_ascend x.goes_on.good x.goes_on.among

  -- ---- what is stored

  stored_was : (k : ℕ) (l : Leaf) → IsOneOf leaves l → l.first ≤ k → k ≤ l.last → stored_bytes b own.vdr size leaves k ≡ Some (take size (drop (record_place l size k) b))
  stored_was k l i f t = let p = by.plain good at x l i in ap (option_map _) (find_covering k 0 (suc record_number_limit) leaves ascend l i f t) ∙ ap Some (plain_piece b own.vdr size k l p.plain p.small refl f t)

  stored_is : (k : ℕ) (m : Leaf) → IsOneOf leaves' m → m.first ≤ k → k ≤ m.last → stored_bytes now own'.vdr size leaves' k ≡ Some (take size (drop (record_place m size k) now))
  stored_is k m i f t = let p = by.plain_now good at x m i in ap (option_map _) (find_covering k 0 (suc record_number_limit) leaves' ascend_now m i f t) ∙ ap Some (plain_piece now own'.vdr size k m p.plain p.small (by.size_now good at x) f t)

  piece : (k : ℕ) (l : Leaf) → IsOneOf leaves l → l.first ≤ k → k ≤ l.last → l.first < first → take size (drop (record_place l size k) now) ≡ take size (drop (record_place l size k) b)
  piece k l i f t lt =
      let p = by.plain good at x l i in
      let fit = times_le (suc (k - l.first)) (l.last + 1 - l.first) size (omega arith) in
      let inside = by.block_inside good at x l i in
      piece_shifted size (record_place l size k) (record_place l size k) now b (omega (arith, fit, p.room, inside, x.long)) (omega (arith, fit, p.room, inside)) (λ n less.
      let z : record_place l size k + n ≡ l.place + (12 + (k - l.first) * size + n) = omega arith in
      ap (byte now) z ∙ (by.block_stays good at x l i lt).same (12 + (k - l.first) * size + n) (omega (arith, less, fit, p.room)) tt ∙ ap (byte b) (sym z))

  pub stored_front : (k : ℕ) → k < first → stored_bytes now own'.vdr size leaves' k ≡ stored_bytes b own.vdr size leaves k
  stored_front k lt = elim (some_or_none (find (λ (leaf : Leaf). covers k (range leaf.first leaf.last)) leaves)) [
    | inl y ↦
        let l = y.0 in
        let o = found_covering k leaves l y.1 in
        let t = to_left (past_span first) leaves leaves' left l o.0 (some_left first l (by.plain good at x l o.0).small (omega (arith, o.1.0, lt))) in
        let m = t.0 in
        let e = front first l m (by.plain good at x l o.0).small t.1.1 in
        let same : record_place m size k ≡ record_place l size k = λ i. e.place_is i + (12 + (k - e.first_is i) * size) in
        stored_is k m t.1.0 (omega (arith, e.first_is, o.1.0)) (omega (arith, e.last_is, o.1.1, lt)) ∙ ap (λ (n : ℕ). Some (take size (drop n now))) same ∙ ap Some (piece k l o.0 o.1.0 o.1.1 e.reaches) ∙ sym (stored_was k l o.0 o.1.0 o.1.1)
    | inr none ↦ elim (some_or_none (find (λ (leaf : Leaf). covers k (range leaf.first leaf.last)) leaves')) [
      | inl y ↦
          let m = y.0 in
          let o = found_covering k leaves' m y.1 in
          let t = from_left (past_span first) leaves leaves' left m o.0 in
          let e = front first t.0 m (by.plain good at x t.0 t.1.0).small t.1.1 in
          let q : Some t.0 ≡ None = sym (find_covering k 0 (suc record_number_limit) leaves ascend t.0 t.1.0 (omega (arith, e.first_is, o.1.0)) (omega (arith, e.last_is, o.1.1))) ∙ none in
          absurd cc
      | inr gone ↦ ap (option_map _) gone ∙ sym (ap (option_map _) none)
    ]
  ]

  pub stored_gone : (k : ℕ) → first ≤ k → stored_bytes now own'.vdr size leaves' k ≡ None
  stored_gone k le = elim (some_or_none (find (λ (leaf : Leaf). covers k (range leaf.first leaf.last)) leaves')) [
    | inl y ↦
        let m = y.0 in
        let o = found_covering k leaves' m y.1 in
        let t = from_left (past_span first) leaves leaves' left m o.0 in
        let e = front first t.0 m (by.plain good at x t.0 t.1.0).small t.1.1 in
        absurd (omega (arith, e.last_is, e.reaches, o.1.1, le))
    | inr gone ↦ ap (option_map _) gone
  ]

  -- ---- the content

  abbrev turn : List ℕ → List ℕ
  turn = turned (type_of_variable b own.vdr) (is_little b)

  max_now : max_rec_at now own'.vdr ≡ max_rec_at b own.vdr
  max_now = ap with_sign x.max_rec_is

  now_is : (k : ℕ) → k < extent (max_rec_at now own'.vdr) → item_at k (records_in now own'.vdr leaves') ≡ option_map turn (stored_bytes now own'.vdr size leaves' k)
  now_is k lt =
      let t : type_of_variable now own'.vdr ≡ type_of_variable b own.vdr = type_alike x.goes_on.file (stays_alike x.goes_on.file (stays good at x.goes_on.descriptor)) in
      let l = x.goes_on.file.little in
      let n = by.size_now good at x in
      record_is now own'.vdr leaves' ascend_now k lt ∙ (λ i. option_map (turned (t i) (l i)) (stored_bytes now own'.vdr (n i) leaves' k))

  module _ (none_was : (k : ℕ) → first ≤ k → item_at k (records_in b own.vdr leaves) ≡ None) where
    each : (k : ℕ) → item_at k (records_in now own'.vdr leaves') ≡ item_at k (records_in b own.vdr leaves)
    each k = elim (cases_lt k (extent (max_rec_at b own.vdr))) [
      | inl lt ↦
          let lt' : k < extent (max_rec_at now own'.vdr) = omega (arith, ap extent max_now, lt) in
          elim (cases_lt k first) [
            | inl low ↦ now_is k lt' ∙ ap (option_map turn) (stored_front k low) ∙ sym (record_is b own.vdr leaves ascend k lt)
            | inr high ↦ now_is k lt' ∙ ap (option_map turn) (stored_gone k high) ∙ sym (none_was k high)
          ]
      | inr le ↦ record_past now own'.vdr leaves' ascend_now k (omega (arith, ap extent max_now, le)) ∙ sym (record_past b own.vdr leaves ascend k le)
    ]

    same_records : records_in now own'.vdr leaves' ≡ records_in b own.vdr leaves
    same_records = same_items 0 0 (records_in now own'.vdr leaves') (records_in b own.vdr leaves) (rising_records now own'.vdr leaves' ascend_now) (rising_records b own.vdr leaves ascend) each

    pub same_variable : variable_of now own' ≡ v
    same_variable = variable_stays x.goes_on.file own own' (stays good at x.goes_on.descriptor) x.goes_on.vdr_is ∙ (λ i. record v { max_rec = max_now i; recs = same_records i })

    pub content_stays : content now ≡ content b
    content_stays =
        x.goes_on.content_is
        ∙ ap (λ (u : Variable). with_variables (content b) kind (slice_set (variables_of (content b) kind) (length before) u)) same_variable
        ∙ ap (with_variables (content b) kind) (same_set (variables_of (content b) kind) (length before) v (variable_there good at))
        ∙ same_variables (content b) kind

  -- so it does where the first record is past MaxRec
  none_past : extent (max_rec_at b own.vdr) ≤ first → (k : ℕ) → first ≤ k → item_at k (records_in b own.vdr leaves) ≡ None
  none_past le k high = record_past b own.vdr leaves ascend k (omega (arith, le, high))

  pub variable_past : extent (max_rec_at b own.vdr) ≤ first → variable_of now own' ≡ v
  variable_past le = same_variable (none_past le)

  pub content_past : extent (max_rec_at b own.vdr) ≤ first → content now ≡ content b
  content_past le = content_stays (none_past le)
