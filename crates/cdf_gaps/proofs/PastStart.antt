-- The image in which all that blocks have past MaxRec is cut, where a put under a rule for missing records is past MaxRec + 1: the put goes on with the same variable, with the same ranges and Firsts as it would from the image before the cut, and has room enough.
use Rattle.cdf_puts.proofs.Common.{Good, Kind, List, Nodes, Range, StandsAmong, Variable, VariableShape, ap, arith, block_count, blocks_room, covered, covers, cut_open, cuts_before_put, extent, false, filter, find, first_written, firsts_before_put, if◌then◌else◌, is_sparse, leaves_ascend, leaves_of, lt-ltb, max_rec_at, min, nat_lt, new_range, next_first, own_rules, put_room, range, ranges_after_put, ranges_before_put, ranges_of, record_number_limit, refl, shape, sym, true, uncovered, variable_of, with_range, None, Some, ℕ, ◌+◌, ◌-◌, ◌<◌, ◌∙◌, ◌≡◌, ◌≤◌}
use Rattle.cdf_edits.specs.Index.Blocks.{firsts_of}
unfoldable use Rattle.cdf_edits.specs.Index.Blocks.{cover}
use Rattle.cdf_edits.specs.Commands.Room.{packed_room}
use Rattle.cdf_index.proofs.LeafRules.{index_order}
use Rattle.cdf_index.specs.Order.{InOrder}
use Rattle.cdf_cuts.proofs.PastContent.{variable_past}
use Rattle.cdf_cuts.proofs.PastKept.{past_ranges}
use Rattle.cdf_cuts.specs.Past.{CutPast, before_first, cut_off}
use Rattle.cdf_gaps.proofs.PastIndex.{cut_again, early, fewer_entries, firsts_early, more_room, next_none, no_wider}

-- ---- where the put cuts first

cut_ranges : (v : Variable) (nodes : Nodes) (r first : ℕ) → cuts_before_put v r ≡ true → first ≡ extent v.max_rec → ranges_before_put v nodes r ≡ cut_open first record_number_limit (ranges_of nodes)
cut_ranges v nodes r first e is = rw e (ap (λ (n : ℕ). cut_open n record_number_limit (ranges_of nodes)) (sym is))

cut_firsts : (v : Variable) (nodes : Nodes) (r first : ℕ) → cuts_before_put v r ≡ true → first ≡ extent v.max_rec → firsts_before_put v nodes r ≡ filter (λ f. nat_lt f first) (firsts_of nodes)
cut_firsts v nodes r first e is = rw e (ap (λ (n : ℕ). filter (λ f. nat_lt f n) (firsts_of nodes)) (sym is))

-- ---- one record alone is put

one_step : (v : Variable) (fs fs' : List ℕ) (r : ℕ) (rs : List Range) → next_first r fs ≡ next_first r fs' → cover 1 v fs r r rs ≡ cover 1 v fs' r r rs
unfolding cover
one_step v fs fs' r rs e =
    let new : new_range v fs r ≡ new_range v fs' r = ap (λ (i : ℕ). if nat_lt r (extent v.max_rec) then range r r else range r (min (r + block_count v) i - 1)) e in
    ap (λ (x : Range). if nat_lt r r then rs else elim (find (covers r) rs) as (λ o. List Range) [ None ↦ with_range x rs | Some y ↦ rs ]) new

-- of the Firsts the next one alone counts
cover_alone : (v : Variable) (fs fs' : List ℕ) (r from : ℕ) (rs : List Range) → from ≡ r → next_first r fs ≡ next_first r fs' → cover (r + 1 - from) v fs from r rs ≡ cover (r + 1 - from) v fs' from r rs
cover_alone v fs fs' r from rs is e = let one : r + 1 - r ≡ 1 = omega arith in rw (is, one) (one_step v fs fs' r rs e)

-- nothing is packed
no_packed : (v : Variable) (index : Nodes) (r : ℕ) → v.rle ≡ false → packed_room v index r ≡ 0
no_packed v index r e = rw e refl

module _ {b mid : List ℕ} {kind : Kind} {before : List VariableShape} {own : VariableShape} {after : List VariableShape} {first : ℕ} (good : Good b) (among : StandsAmong b kind before own after) (cut : CutPast b mid kind before own (cut_off own first) after first) (first_is : first ≡ extent (max_rec_at b own.vdr)) (rule : is_sparse (variable_of b own).sparse ≡ true) (r : ℕ) (past : first < r) where
  abbrev v : Variable
  v = variable_of b own

  abbrev index : Nodes
  index = own.index

  abbrev index' : Nodes
  index' = (cut_off own first).index

  order : InOrder 0 record_number_limit index
  order = index_order b (shape b).records own.vdr own.index (own_rules good among).1

  -- ---- the variable

  -- no record of it goes
  pub variable_same : variable_of mid (cut_off own first) ≡ variable_of b own
  variable_same = variable_past good among cut (omega (arith, first_is))

  pub rule_now : is_sparse (variable_of mid (cut_off own first)).sparse ≡ true
  rule_now = ap (λ (x : Variable). is_sparse x.sparse) variable_same ∙ rule

  -- ---- where the put begins, and what it cuts first

  pub written_was : first_written (variable_of b own) r ≡ r
  written_was = rw rule refl

  pub written_now : first_written (variable_of mid (cut_off own first)) r ≡ r
  written_now = ap (λ (x : Variable). first_written x r) variable_same ∙ written_was

  pub cuts_was : cuts_before_put (variable_of b own) r ≡ true
  cuts_was = rw (rule, lt-ltb (extent (max_rec_at b own.vdr)) r (omega (arith, first_is, past))) refl

  -- ---- the ranges

  -- those that are left are those with which the put would begin in the first image
  pub ranges_was : ranges_before_put (variable_of b own) own.index r ≡ ranges_of (cut_off own first).index
  ranges_was = cut_ranges v own.index r first cuts_was first_is ∙ sym (past_ranges first own.index order)

  -- they are not cut again
  same_again : ranges_before_put (variable_of b own) (cut_off own first).index r ≡ ranges_of (cut_off own first).index
  same_again = cut_ranges v (cut_off own first).index r first cuts_was first_is ∙ (ap (cut_open first record_number_limit) (past_ranges first own.index order) ∙ cut_again first record_number_limit 0 (leaves_of own.index) (leaves_ascend good among) ∙ sym (past_ranges first own.index order))

  pub same_now : ranges_before_put (variable_of mid (cut_off own first)) (cut_off own first).index r ≡ ranges_of (cut_off own first).index
  same_now = ap (λ (x : Variable). ranges_before_put x (cut_off own first).index r) variable_same ∙ same_again

  -- ---- the Firsts: none is past the record

  limit_left : (m : ℕ) → first ≤ m → next_first m (firsts_of (cut_off own first).index) ≡ record_number_limit + 1
  limit_left m le = next_none first m (firsts_of (cut_off own first).index) le (firsts_early first own.index order)

  limit_of : (nodes : Nodes) (m : ℕ) → first ≤ m → next_first m (firsts_before_put (variable_of b own) nodes r) ≡ record_number_limit + 1
  limit_of nodes m le = ap (next_first m) (cut_firsts v nodes r first cuts_was first_is) ∙ next_none first m _ le (early first (firsts_of nodes))

  pub nexts_was : (m : ℕ) → first ≤ m → next_first m (firsts_before_put (variable_of b own) own.index r) ≡ next_first m (firsts_of (cut_off own first).index)
  nexts_was m le = limit_of own.index m le ∙ sym (limit_left m le)

  pub nexts_now : (m : ℕ) → first_written (variable_of mid (cut_off own first)) r ≤ m → next_first m (firsts_before_put (variable_of mid (cut_off own first)) (cut_off own first).index r) ≡ next_first m (firsts_of (cut_off own first).index)
  nexts_now m le =
      let low : first ≤ m = omega (arith, le, past, written_now) in
      ap (λ (x : Variable). next_first m (firsts_before_put x (cut_off own first).index r)) variable_same ∙ limit_of (cut_off own first).index m low ∙ sym (limit_left m low)

  -- ---- what the put leaves

  -- so many records have no block before the put
  pub uncovered_same : uncovered (variable_of mid (cut_off own first)) (cut_off own first).index r ≡ uncovered (variable_of b own) own.index r
  uncovered_same = ap (λ (x : Variable). uncovered x (cut_off own first).index r) variable_same ∙ ap (λ (rs : List Range). (r + 1 - first_written v r) - covered (first_written v r) r rs) (same_again ∙ sym ranges_was)

  -- the ranges that it leaves
  pub after_same : ranges_after_put (variable_of mid (cut_off own first)) (cut_off own first).index r ≡ ranges_after_put (variable_of b own) own.index r
  after_same =
      ap (λ (x : Variable). ranges_after_put x (cut_off own first).index r) variable_same
      ∙ ap (λ (rs : List Range). cover (r + 1 - first_written v r) v (firsts_before_put v (cut_off own first).index r) (first_written v r) r rs) (same_again ∙ sym ranges_was)
      ∙ cover_alone v (firsts_before_put v (cut_off own first).index r) (firsts_before_put v own.index r) r (first_written v r) (ranges_before_put v own.index r) written_was (limit_of (cut_off own first).index r (omega (arith, past)) ∙ sym (limit_of own.index r (omega (arith, past))))

  -- ---- the room

  room_is : (nodes : Nodes) → put_room (variable_of b own) nodes r ≡ blocks_room (variable_of b own) nodes (uncovered (variable_of b own) nodes r)
  room_is nodes = omega (arith, no_packed v nodes r cut.loose)

  pub room : put_room (variable_of mid (cut_off own first)) (cut_off own first).index r ≤ put_room (variable_of b own) own.index r
  room =
      let same = ap (λ (x : Variable). put_room x (cut_off own first).index r) variable_same ∙ room_is (cut_off own first).index ∙ ap (blocks_room v (cut_off own first).index) (sym (ap (λ (x : Variable). uncovered x (cut_off own first).index r) variable_same) ∙ uncovered_same) in
      omega (arith, same, room_is own.index, more_room v (cut_off own first).index own.index (uncovered v own.index r) (fewer_entries false (before_first first) own.index) (no_wider false (before_first first) own.index))
