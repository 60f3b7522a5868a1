-- The room of a put past MaxRec + 1 under a rule: that of the new block which the cut may need and that of the put after the cut are within it.
use Rattle.cdf_puts.proofs.Common.{Act, Bool, Each, Kind, Leaf, List, Range, Variable, VariableShape, [], ap, arith, blocks_room, content, covered, cut_open, cuts_before_put, either, extent, false, filter, first_written, inl, inr, is_rewritten, leaves_ascend, leaves_of, length, lt-ltb, map, nat_lt, packed_room, put_room, range, ranges_before_put, ranges_of, record_bytes, record_number_limit, refl, shared, subst, suc, sum_by-cons, sym, taken_bytes, true, uncovered, variable_of, ℕ, ◌++◌, ◌+◌, ◌-◌, ◌<◌, ◌∙◌, ◌∷◌, ◌≡◌, ◌≤◌, ◌&&◌, ◌||◌}
use Rattle.cdf_edits.proofs.Edits.LeafPieces.{IsOneOf, in_order}
use Rattle.cdf_edits.specs.Commands.Room.{range_bytes}
use Rattle.cdf_format.specs.Records.{linked_size}
use Rattle.cdf_puts.proofs.CoveringRanges.{of_leaves}
use Rattle.cdf_puts.proofs.PutRoom.{taken_sum}
use Rattle.cdf_gaps.proofs.PastIndex.{more_room}
use Rattle.cdf_packed_cuts.proofs.PackedContent.{content_past, variable_past}
use Rattle.cdf_packed_cuts.specs.Past.{HasRoom, IsSplit, PackedPast, SplitsWithin}
use Rattle.cdf_packed_puts.proofs.NothingCut.{nothing_cut}
use Rattle.cdf_packed_puts.specs.Putting.{EndsBefore}
use Rattle.cdf_packed_gaps.proofs.CutLeft.{ends_before, entries_left, ranges_left, widest_left}
use Rattle.cdf_packed_gaps.specs.CutThenPut.{CutsForPut}
use Rattle.std.specs.List.{sum}

-- ---- the blocks that are rewritten

-- none is that ends before the first record that is cut, where another one is put past it
none_rewritten : (v : Variable) (n : ℕ) (rs : List Range) → first_written v n ≡ n → extent v.max_rec < n → Each (λ (r : Range). r.last < extent v.max_rec) rs → filter (is_rewritten v n) rs ≡ []
none_rewritten v n [] alone past e = refl
none_rewritten v n (r ∷ rs) alone past e =
    let put : shared (first_written v n) n r ≡ 0 = omega (arith, alone, past, e.0) in
    let gone : shared (extent v.max_rec) record_number_limit r ≡ 0 = omega (arith, e.0) in
    let no : is_rewritten v n r ≡ false = rw (put, gone) (none_both (cuts_before_put v n)) in
    rw no (none_rewritten v n rs alone past e.1)
  where
    none_both : (p : Bool) → (false || (p && false)) ≡ false
    none_both true = refl
    none_both false = refl

-- one of some ranges takes no more than all of them
one_of_sum : (h : Range → ℕ) (f : Range → Bool) (xs : List Leaf) (l : Leaf) → IsOneOf xs l → f (range l.first l.last) ≡ true → h (range l.first l.last) ≤ sum (map h (filter f (of_leaves xs)))
one_of_sum h f [] l i t = absurd i
one_of_sum h f (x ∷ xs) l (inl q) t =
    let here : f (range x.first x.last) ≡ true = ap (λ (y : Leaf). f (range y.first y.last)) q ∙ t in
    let same : h (range x.first x.last) ≡ h (range l.first l.last) = ap (λ (y : Leaf). h (range y.first y.last)) q in
    let more = sum_by-cons (λ n. n) (h (range x.first x.last)) (map h (filter f (of_leaves xs))) in
    rw here (omega (arith, more, same))
one_of_sum h f (x ∷ xs) l (inr i) t =
    let rest = one_of_sum h f xs l i t in
    elim (either (f (range x.first x.last))) [
      | inl u ↦ let more = sum_by-cons (λ n. n) (h (range x.first x.last)) (map h (filter f (of_leaves xs))) in rw u (omega (arith, more, rest))
      | inr u ↦ rw u rest
    ]

each_range : (first : ℕ) (xs : List Leaf) → Each (λ (l : Leaf). l.last < first) xs → Each (λ (r : Range). r.last < first) (of_leaves xs)
each_range first [] e = tt
each_range first (x ∷ xs) e = (e.0, each_range first xs e.1)

module _ {b : List ℕ} {kind : Kind} {before : List VariableShape} {own : VariableShape} {after : List VariableShape} {first n : ℕ} (c : CutsForPut b kind before own after first n) where
  abbrev v : Variable
  v = variable_of b own

  pub cuts_was : cuts_before_put (variable_of b own) n ≡ true
  cuts_was = let past = c.past in rw (c.rule, lt-ltb (extent v.max_rec) n (omega (arith, c.first_is))) refl

  pub alone : first_written (variable_of b own) n ≡ n
  alone = rw (c.rule) refl

  -- ---- the new block of the cut

  split_rewritten : (l : Leaf) → l.last ≤ record_number_limit → IsSplit first l → is_rewritten v n (range l.first l.last) ≡ true
  split_rewritten l small s =
      let from = s.before in
      let upto = s.behind in
      let some : nat_lt 0 (shared (extent v.max_rec) record_number_limit (range l.first l.last)) ≡ true = lt-ltb 0 _ (omega (arith, c.first_is)) in
      rw (cuts_was, some) (or_true (nat_lt 0 (shared (first_written v n) n (range l.first l.last))))
    where
      or_true : (p : Bool) → (p || true) ≡ true
      or_true true = refl
      or_true false = refl

  pub split_room : v.rle ≡ true → (l : Leaf) → IsOneOf (leaves_of own.index) l → IsSplit first l → linked_size + range_bytes (variable_of b own) (range l.first l.last) ≤ packed_room (variable_of b own) own.index n
  split_room rle l i s =
      let o = in_order 0 (suc record_number_limit) (leaves_of own.index) (leaves_ascend c.good c.among) l i in
      rw rle (one_of_sum (λ r. linked_size + range_bytes v r) (is_rewritten v n) (leaves_of own.index) l i (split_rewritten l (omega (arith, o.before)) s))

  -- so there is room for it where there is for the put
  pub room_for_cut : (limit : ℕ) → v.rle ≡ true → length b + put_room (variable_of b own) own.index n ≤ limit → HasRoom b (leaves_of own.index) (record_bytes b own.vdr) first limit
  room_for_cut limit rle room l i s = let one = split_room rle l i s in omega arith

  -- and what the cut takes is within it
  pub split_within : v.rle ≡ true → SplitsWithin (leaves_of own.index) (record_bytes b own.vdr) first (packed_room (variable_of b own) own.index n)
  split_within rle l i s = let one = split_room rle l i s in omega arith

  -- ---- the put after the cut

  module _ {mid : List ℕ} (cut : PackedPast b mid kind before own after first) where
    pub variable_mid : variable_of mid cut.own' ≡ variable_of b own
    variable_mid = variable_past c.good c.among cut (omega (arith, c.first_is))

    pub content_mid : content mid ≡ content b
    content_mid = content_past c.good c.among cut (omega (arith, c.first_is))

    gone : EndsBefore (extent v.max_rec) cut.own'.index
    gone = subst (λ (m : ℕ). EndsBefore m cut.own'.index) c.first_is (ends_before c.good c.among cut c.first_is)

    pub gone_mid : EndsBefore (extent (variable_of mid cut.own').max_rec) cut.own'.index
    gone_mid = subst (λ (w : Variable). EndsBefore (extent w.max_rec) cut.own'.index) (sym variable_mid) gone

    same_ranges : ranges_before_put v cut.own'.index n ≡ ranges_before_put v own.index n
    same_ranges =
        nothing_cut v cut.own'.index n (leaves_ascend cut.goes_on.good cut.goes_on.among) (λ t. gone)
        ∙ ranges_left c.good c.among cut c.first_is
        ∙ (rw cuts_was (ap (λ (m : ℕ). cut_open m record_number_limit (ranges_of own.index)) c.first_is))

    uncovered_same : uncovered v cut.own'.index n ≡ uncovered v own.index n
    uncovered_same = ap (λ (rs : List Range). (n + 1 - first_written v n) - covered (first_written v n) n rs) same_ranges

    no_packed : packed_room v cut.own'.index n ≡ 0
    no_packed =
        let past = c.past in
        let none : filter (is_rewritten v n) (ranges_of cut.own'.index) ≡ [] = none_rewritten v n (ranges_of cut.own'.index) alone (omega (arith, c.first_is)) (each_range (extent v.max_rec) (leaves_of cut.own'.index) gone.lasts) in
        elim (either v.rle) [ inl t ↦ rw t (ap (λ (rs : List Range). sum (map (λ r. linked_size + range_bytes v r) rs)) none) | inr t ↦ rw t refl ]

    pub put_within : put_room (variable_of mid cut.own') cut.own'.index n + packed_room (variable_of b own) own.index n ≤ put_room (variable_of b own) own.index n
    put_within =
        let same = ap (λ (w : Variable). put_room w cut.own'.index n) variable_mid in
        let blocks = ap (blocks_room v cut.own'.index) uncovered_same in
        let more = more_room v cut.own'.index own.index (uncovered v own.index n) (entries_left c.good c.among cut c.first_is) (widest_left c.good c.among cut c.first_is) in
        omega (arith, same, no_packed, blocks, more)

    pub both_within : v.rle ≡ true → taken_bytes cut.acts + put_room (variable_of mid cut.own') cut.own'.index n ≤ put_room (variable_of b own) own.index n
    both_within rle = let one = cut.fits (packed_room (variable_of b own) own.index n) (split_within rle) in omega (arith, one, put_within)

    -- both take no more than the put has room for
    pub both_fit : (acts : List Act) → v.rle ≡ true → taken_bytes acts ≤ put_room (variable_of mid cut.own') cut.own'.index n → taken_bytes (cut.acts ++ acts) ≤ put_room (variable_of b own) own.index n
    both_fit acts rle fits =
        let one = cut.fits (packed_room (variable_of b own) own.index n) (split_within rle) in
        let both = taken_sum cut.acts acts in
        omega (arith, one, both, fits, put_within)
