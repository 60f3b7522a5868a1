-- How many records a variable has once some are gone under a rule for missing records: where those end that its leaves have, before the first that goes and before its extent.
use Rattle.cdf_cuts.proofs.CutCalls as by
use Rattle.cdf_edits.proofs.Common.{Bool, Good, Kind, Leaf, List, None, Option, Some, Variable, VariableShape, ℕ, ap, arith, cases_lt, drop, either, extent, false, inl, inr, is_little, is_sparse, item_at, leaves_of, max_rec_at, nat_le, nat_tests, number, option_map, plain_bytes, record_bytes, record_number_limit, records_in, refl, suc, sym, true, turned, type_of_variable, variable_of, vdr_vxr_head, without, ◌*◌, ◌+◌, ◌-◌, ◌<◌, ◌∙◌, ◌≡◌, ◌≢◌, ◌≤◌, ◌⊎◌}
use Rattle.cdf_edits.proofs.Edits.Common.{StandsAmong, record_is, record_past, rising_records}
use Rattle.cdf_edits.proofs.Edits.LeafRecords.{Ascending}
use Rattle.cdf_edits.proofs.Edits.NumberedItems.{Rising}
use Rattle.cdf_edits.proofs.Edits.NumberedLookup.{item_those, none_those, rising_those}
use Rattle.cdf_edits.proofs.Edits.PlainLeaves.{leaves_ascend}
use Rattle.cdf_edits.specs.Index.Blocks.{extent_after}
use Rattle.cdf_index.specs.Finding.{index_at}
use Rattle.cdf_index.specs.Order.{leaf_of}
use Rattle.cdf_model.specs.Numbered.{greatest}
use Rattle.cdf_sparse.proofs.GreatestLeft.{greatest_below, greatest_is, past_greatest, without_ruled}
use Rattle.std.proofs.Common.{not, take, ◌&&◌}
use Rattle.cdf_sparse_reads.specs.Left.{IsEnd}

-- ---- items

-- one past the last item, or 0 where there is none
end_is : {A : Type 0} (n : ℕ) (items : List (ℕ × A)) → Rising 0 items → ((k : ℕ) → n ≤ k → item_at k items ≡ None) → (0 < n → item_at (n - 1) items ≢ None) → n ≡ extent (greatest_is (greatest items))
end_is n items r none has =
    let e = extent (greatest_is (greatest items)) in
    elim (cases_lt e n) [
      | inl lt ↦ absurd (has (omega arith) (past_greatest 0 (n - 1) items r (omega arith)))
      | inr le ↦ omega (arith, greatest_below 0 n items r none, le)
    ]

-- the numbers that stay
abbrev stays : ℕ → ℕ → ℕ → Bool
stays first last k = not (nat_le first k && nat_le k last)

goes_inside : (first last k : ℕ) → first ≤ k → k ≤ last → stays first last k ≡ false
goes_inside first last k low high = grind (arith, nat_tests)

stays_outside : (first last k : ℕ) → (k < first) ⊎ (last < k) → stays first last k ≡ true
stays_outside first last k side = grind (arith, nat_tests)

-- ---- the records of a variable

none_mapped : {A B : Type 0} (f : A → B) (o : Option A) → option_map f o ≡ None → o ≡ None
none_mapped f None e = refl
none_mapped f (Some a) e = absurd cc

module _ (b : List ℕ) (vdr : ℕ) (leaves : List Leaf) (a : Ascending 0 (suc record_number_limit) leaves) where
  abbrev recs : List (ℕ × List ℕ)
  recs = records_in b vdr leaves

  abbrev most : ℕ
  most = extent (max_rec_at b vdr)

  abbrev turn : List ℕ → List ℕ
  turn = turned (type_of_variable b vdr) (is_little b)

  abbrev piece : ℕ → Leaf → List ℕ
  piece k l = take (record_bytes b vdr) (drop ((k - l.first) * record_bytes b vdr) (plain_bytes b vdr l))

  -- what no leaf has is not stored
  none_stored : (k : ℕ) → (k < most → leaf_of k leaves ≡ None) → item_at k recs ≡ None
  none_stored k none = elim (cases_lt k most) [
    | inl lt ↦ record_is b vdr leaves a k lt ∙ ap (λ (o : Option Leaf). option_map turn (option_map (piece k) o)) (none lt)
    | inr le ↦ record_past b vdr leaves a k le
  ]

  -- what a leaf has is
  some_stored : (k : ℕ) → k < most → leaf_of k leaves ≢ None → item_at k recs ≢ None
  some_stored k lt some gone = some (none_mapped (piece k) (leaf_of k leaves) (none_mapped turn (option_map (piece k) (leaf_of k leaves)) (sym (record_is b vdr leaves a k lt) ∙ gone)))

  module _ (first last : ℕ) (order : first ≤ last) (within : last < most) where
    abbrev left : List (ℕ × List ℕ)
    left = without first last recs

    left_rise : Rising 0 left
    left_rise = rising_those (stays first last) 0 recs (rising_records b vdr leaves a)

    none_left : (k : ℕ) → item_at k recs ≡ None → item_at k left ≡ None
    none_left k none = elim (either (stays first last k)) [
      | inl e ↦ item_those (stays first last) k recs e ∙ none
      | inr e ↦ none_those (stays first last) k recs e
    ]

    some_left : (k : ℕ) → (k < first) ⊎ (last < k) → k < most → leaf_of k leaves ≢ None → item_at k left ≢ None
    some_left k side lt some gone = some_stored k lt some (sym (item_those (stays first last) k recs (stays_outside first last k side)) ∙ gone)

    -- some are left behind the last that goes
    end_behind : (end : ℕ) → IsEnd leaves most end → last + 1 < end → end ≡ extent (greatest_is (greatest left))
    end_behind end is past =
        let inside = is.inside in
        end_is end left left_rise (λ k le. none_left k (none_stored k (λ lt. is.none k le lt))) (λ some. some_left (end - 1) (inr (omega arith)) (omega arith) (is.has some))

    -- none is: the last that is left stands before the first that goes
    end_in_front : (end front : ℕ) → IsEnd leaves most end → end ≤ last + 1 → IsEnd leaves first front → front ≡ extent (greatest_is (greatest left))
    end_in_front end front is upto before =
        let inside = before.inside in
        end_is front left left_rise none (λ some. some_left (front - 1) (inl (omega arith)) (omega arith) (before.has some))
      where
        none : (k : ℕ) → front ≤ k → item_at k left ≡ None
        none k le = elim (cases_lt k first) [
          | inl lt ↦ none_left k (none_stored k (λ less. before.none k le lt))
          | inr from ↦ elim (cases_lt last k) [
            | inl high ↦ none_left k (none_stored k (λ less. is.none k (omega arith) less))
            | inr low ↦ none_those (stays first last) k recs (goes_inside first last k from low)
          ]
        ]

-- ---- a variable of a good image, under a rule

-- its leaves, by the index that its VXRhead leads to
pub leaves_there : {b x : List ℕ} {kind : Kind} {before : List VariableShape} {own : VariableShape} {after : List VariableShape} {head vdr : ℕ} → Good b → StandsAmong b kind before own after → own.vdr ≡ vdr → x ≡ b → head ≡ number b vdr vdr_vxr_head → leaves_of (index_at x head) ≡ leaves_of own.index
leaves_there good among is same head_is = (λ i. leaves_of (index_at (same i) (head_is i))) ∙ ap leaves_of (by.index_is _ good among is).1

module _ {b : List ℕ} (good : Good b) {kind : Kind} {before : List VariableShape} {own : VariableShape} {after : List VariableShape} {vdr : ℕ} (among : StandsAmong b kind before own after) (is : own.vdr ≡ vdr) (ruled : is_sparse (variable_of b own).sparse ≡ true) {leaves : List Leaf} (same : leaves ≡ leaves_of own.index) {first last count : ℕ} (order : first ≤ last) (within : last < count) (count_is : count ≡ extent (max_rec_at b vdr)) where
  count_there : count ≡ extent (max_rec_at b own.vdr)
  count_there = count_is ∙ ap (λ (m : ℕ). extent (max_rec_at b m)) (sym is)

  within_there : last < extent (max_rec_at b own.vdr)
  within_there = omega (arith, within, count_there)

  after_is : extent (greatest_is (greatest (without first last (variable_of b own).recs))) ≡ extent_after (variable_of b own) first last
  after_is = sym (ap (λ (w : Variable). extent w.max_rec) (without_ruled (variable_of b own).sparse (variable_of b own) first last ruled))

  end_there : {end : ℕ} → IsEnd leaves count end → IsEnd (leaves_of own.index) (extent (max_rec_at b own.vdr)) end
  end_there e = rw (same, count_there) at e

  pub extent_behind : (end : ℕ) → IsEnd leaves count end → last + 1 < end → end ≡ extent_after (variable_of b own) first last
  extent_behind end e past = end_behind b own.vdr (leaves_of own.index) (leaves_ascend good among) first last order within_there end (end_there e) past ∙ after_is

  pub extent_before : (end front : ℕ) → IsEnd leaves count end → end ≤ last + 1 → IsEnd leaves first front → front ≡ extent_after (variable_of b own) first last
  extent_before end front e upto f = end_in_front b own.vdr (leaves_of own.index) (leaves_ascend good among) first last order within_there end front (end_there e) upto (rw same at f) ∙ after_is
