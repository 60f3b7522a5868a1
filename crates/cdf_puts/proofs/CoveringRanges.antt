-- Records that get a block one after the other: by their ranges, in the room of a put, which is enough for them, and in an index.
use Rattle.cdf_puts.proofs.Common.{least_below, Bool, Ahead, Ascending, Counted, Covering, Entries, InOrder, Leaf, List, Nodes, None, Option, Range, Some, Variable, [], ap, arith, block, block_bytes, block_count, blocks_room, cases_eq, cases_lt, count_upto, cover, covered, covers, entries_below, entries_in, entry_count, entry_firsts, filter, find, find_covering, first_written, firsts_of, fold, inl, inr, le-ltb, leaf, leaves_more, leaves_of, length, length-append, lower, lt-ltb, ltb, map, max, min, nat_tests, new_last, new_range, new_room, next_first, no_entry, no_node, node, node_bytes, option_map, order_with_leaf, quotient_up, range, ranges_after_put, ranges_new, ranges_of, record_length, record_number_limit, refl, shared, subst, suc, sum_by-cons, sym, times_le, uncovered, unwrap_or, vxr_bytes, widest, with_leaf, with_range, zero, ℕ, ◌*◌, ◌+◌, ◌-◌, ◌<◌, ◌∙◌, ◌∷◌, ◌≡◌, ◌≤◌, ◌⊎◌, by_leaf, least_first_past, if◌then◌else◌, nat_lt, extent, ranges_before_put, firsts_before_put}
use Rattle.cdf_index.proofs.LeavesAscend.{leaves_ascend}
use Rattle.cdf_puts.proofs.PutBytes.{found_covering}
use Rattle.cdf_puts.proofs.LeafCounts.{entries_grow, next_firsts_with_leaf, wide_grows}

abbrev pub of_leaves : List Leaf → List Range
of_leaves leaves = map (λ (leaf : Leaf). range leaf.first leaf.last) leaves

-- ---- found by a record

pub find_range : (k : ℕ) (leaves : List Leaf) → find (covers k) (of_leaves leaves) ≡ option_map (λ (leaf : Leaf). range leaf.first leaf.last) (find (λ (leaf : Leaf). covers k (range leaf.first leaf.last)) leaves)
find_range k [] = refl
find_range k (x ∷ xs) = grind (arith, find_range k xs)

pub some_or_none : {X : Type 0} (o : Option X) → ((x : X) × (o ≡ Some x)) ⊎ (o ≡ None)
some_or_none None = inr refl
some_or_none (Some x) = inl (x, refl)

-- ---- the last record of a new block

pub one_at_least : (v : Variable) → 1 ≤ block_count v
one_at_least v = grind arith

pub least_past : (k i : ℕ) (fs : List ℕ) → k < i → k < fold min i (filter (ltb k) fs)
least_past k i [] lt = lt
least_past k i (f ∷ fs) lt = grind (arith, nat_tests, least_past k (min i f) fs, least_past k i fs lt)

pub next_past : (k : ℕ) (fs : List ℕ) → k ≤ record_number_limit → k < next_first k fs
next_past k fs le = least_past k (record_number_limit + 1) fs (omega arith)

-- the answer of a search, and one past the greatest number where there is none
pub bound_is : (index : Nodes) (k : ℕ) (next : Option ℕ) → next ≡ least_first_past k index → unwrap_or next (record_number_limit + 1) ≡ next_first k (firsts_of index)
bound_is index k next e = grind (arith, nat_tests, e, least_below (record_number_limit + 1) (filter (ltb k) (firsts_of index)))

-- so two indexes with the same answer have the same least First
pub next_same : (index index' : Nodes) (k : ℕ) → least_first_past k index ≡ least_first_past k index' → next_first k (firsts_of index) ≡ next_first k (firsts_of index')
next_same index index' k e = sym (bound_is index k (least_first_past k index) refl) ∙ bound_is index' k (least_first_past k index) e

-- a new block ends at its record, or where it is full, or before the next First

abbrev pub Ends : ℕ → ℕ → ℕ → ℕ → Type 0
Ends k next most last = (k ≤ last) × (last < next) × (last + 1 - k ≤ most)

pub ends : (v : Variable) (fs : List ℕ) (k : ℕ) → k ≤ record_number_limit → Ends k (next_first k fs) (block_count v) (new_range v fs k).last
ends v fs k le = grind (arith, nat_tests, next_past k fs le, one_at_least v)

-- ---- one record after the other

module _ (v : Variable) (firsts : List ℕ) (n : ℕ) where
  -- a record that has a block, or gets one, and the end
  next_step : (m k : ℕ) (rs after : List Range) → k ≤ n → n < m + k → cover m v firsts k n rs ≡ after
      → ((r : Range) → find (covers k) rs ≡ Some r → cover (m - 1) v firsts (r.last + 1) n rs ≡ after) × (find (covers k) rs ≡ None → cover (m - 1) v firsts ((new_range v firsts k).last + 1) n (with_range (new_range v firsts k) rs) ≡ after)
  unfolding cover
  next_step zero k rs after le lt e = absurd (omega arith)
  next_step (suc m) k rs after le lt e =
      let one : suc m - 1 ≡ m = omega arith in
      let on = rw (le-ltb n k le) at e in
      rw one (λ r h. rw h at on, λ h. rw h at on)

  end_step : (m k : ℕ) (rs : List Range) → n < k → cover m v firsts k n rs ≡ rs
  unfolding cover
  end_step zero k rs lt = refl
  end_step (suc m) k rs lt = rw (lt-ltb n k lt) refl

module _ {v : Variable} {firsts : List ℕ} {n k : ℕ} {rs after : List Range} (a : Ahead v firsts n k rs after) (le : k ≤ n) where
  on : a.next ≡ k → ((r : Range) → find (covers k) rs ≡ Some r → cover (a.steps - 1) v firsts (r.last + 1) n rs ≡ after) × (find (covers k) rs ≡ None → cover (a.steps - 1) v firsts ((new_range v firsts k).last + 1) n (with_range (new_range v firsts k) rs) ≡ after)
  on e = next_step v firsts n a.steps k rs after le (omega (arith, a.enough)) (rw e at a.leads)

  ahead_has : (r : Range) → k ≤ r.last → find (covers k) rs ≡ Some r → ((j : ℕ) → k < j → j ≤ r.last → find (covers j) rs ≡ None → ⊥) → Ahead v firsts n (k + 1) rs after
  ahead_has r upto found again = elim (cases_eq a.next k) [
    | inl e ↦ record { next = r.last + 1; steps = a.steps - 1; upto = omega arith; enough = omega (arith, a.enough); between = λ j low high small. again j (omega arith) (omega arith); leads = (on e).0 r found }
    | inr ne ↦ record { next = a.next; steps = a.steps; upto = omega (arith, a.upto); enough = a.enough; between = λ j low. a.between j (omega arith); leads = a.leads }
  ]

  -- the records of a block up to its last one have it, too
  ahead_past : (r : Range) → k ≤ r.last → ((j : ℕ) → k ≤ j → j ≤ r.last → find (covers j) rs ≡ Some r) → Ahead v firsts n (min (r.last + 1) (n + 1)) rs after
  ahead_past r upto there = elim (cases_lt a.next (min (r.last + 1) (n + 1))) [
    | inl less ↦
        let here = there a.next a.upto (omega arith) in
        let on = (next_step v firsts n a.steps a.next rs after (omega arith) (omega (arith, a.enough)) a.leads).0 r here in
        record { next = r.last + 1; steps = a.steps - 1; upto = omega arith; enough = omega (arith, a.enough); between = λ j low high small. absurd (omega arith); leads = on }
    | inr ge ↦ record { next = a.next; steps = a.steps; upto = ge; enough = a.enough; between = λ j low. a.between j (omega arith); leads = a.leads }
  ]

  -- the next one is the first behind the new block, or that behind the last
  ahead_new : k ≤ (new_range v firsts k).last → find (covers k) rs ≡ None → Ahead v firsts n (min ((new_range v firsts k).last + 1) (n + 1)) (with_range (new_range v firsts k) rs) after
  ahead_new upto none = elim (cases_eq a.next k) [
    | inl e ↦ record { next = (new_range v firsts k).last + 1; steps = a.steps - 1; upto = omega arith; enough = omega (arith, a.enough); between = λ j low high small. absurd (omega arith); leads = (on e).1 none }
    | inr ne ↦ absurd (a.between k (omega arith) (omega (arith, a.upto)) le none)
  ]

-- ---- how many records are covered

pub covered_more : (s n : ℕ) (r : Range) (rs : List Range) → covered s n (r ∷ rs) ≡ shared s n r + covered s n rs
covered_more s n r rs = sum_by-cons (λ x. x) (shared s n r) (map (shared s n) rs)

pub covered_with : (s n : ℕ) (new : Range) (rs : List Range) → covered s n (with_range new rs) ≡ shared s n new + covered s n rs
covered_with s n new [] = covered_more s n new []
covered_with s n new (r ∷ rs) = grind (arith, covered_with s n new rs, covered_more s n new (r ∷ rs), covered_more s n r (with_range new rs), covered_more s n r rs)

-- no more of the records from s to n than are there from `low` on, and one less where one of them is not covered
covered_most : (s n k low upto : ℕ) (xs : List Leaf) → Ascending low upto xs → (covered s n (of_leaves xs) ≤ (n + 1) - max s low) × (s ≤ k → low ≤ k → k ≤ n → find (covers k) (of_leaves xs) ≡ None → covered s n (of_leaves xs) + 1 ≤ (n + 1) - max s low)
covered_most s n k low upto [] a = (omega arith, λ sk lk kn e. omega arith)
covered_most s n k low upto (x ∷ xs) a = grind (arith, nat_tests, covered_most s n k (suc x.last) upto xs a.3, covered_more s n (range x.first x.last) (of_leaves xs), a.0, a.1)

-- ---- the Firsts that are passed

pub count_more : (k k' : ℕ) (fs : List ℕ) → k ≤ k' → count_upto k fs ≤ count_upto k' fs
count_more k k' [] le = omega arith
count_more k k' (f ∷ fs) le = grind (arith, nat_tests, count_more k k' fs le)

pub count_most : (k : ℕ) (fs : List ℕ) → count_upto k fs ≤ length fs
count_most k [] = omega arith
count_most k (f ∷ fs) = grind (arith, count_most k fs)

-- where the least of some numbers past k is one of them, one more is passed by then
one_passed : (k i : ℕ) (fs : List ℕ) → k < i → fold min i (filter (ltb k) fs) < i → suc (count_upto k fs) ≤ count_upto (fold min i (filter (ltb k) fs)) fs
one_passed k i [] lt less = absurd (omega arith)
one_passed k i (f ∷ fs) lt less = grind (arith, nat_tests, one_passed k (min i f) fs, one_passed k i fs lt, least_past k (min i f) fs, least_past k i fs lt, least_below (min i f) (filter (ltb k) fs), count_more k (fold min (min i f) (filter (ltb k) fs)) fs)

-- ---- as many Firsts as entries

mutual
  unfolding firsts_of entry_firsts entries_in entries_below

  pub firsts_count : (nodes : Nodes) → length (firsts_of nodes) ≡ entries_in nodes
  firsts_count no_node = refl
  firsts_count (node place room entries more) = omega (arith, length-append (entry_firsts entries) (firsts_of more), entry_firsts_count entries, firsts_count more)

  entry_firsts_count : (entries : Entries) → length (entry_firsts entries) ≡ entry_count entries + entries_below entries
  entry_firsts_count no_entry = refl
  entry_firsts_count (block first last place packed entries) = omega (arith, entry_firsts_count entries)
  entry_firsts_count (lower first last nodes entries) = omega (arith, length-append (firsts_of nodes) (entry_firsts entries), entry_firsts_count entries, firsts_count nodes)

-- ---- how many blocks, and how many bytes

-- c records are in j blocks, each of them full but for q; then one block more is no more than the room counts for u + 1 records
many_blocks : (j c q e u most : ℕ) → 1 ≤ most → j * most ≤ c + q * most → c ≤ u → q ≤ e → suc j ≤ quotient_up (suc u) most + e + 1
many_blocks j c q e u most one h cu qe = elim (cases_lt j (quotient_up (suc u) most + e)) [ inl lt ↦ omega arith | inr ge ↦ absurd (omega (arith, times_le (quotient_up (suc u) most + e) j most ge, times_le q e most qe)) ]

-- ---- the room of a put

-- where c of the records that had no block have one, and a record is left, a block more and a node are no more than the room counts
room_enough : (v : Variable) (nodes : Nodes) (c m j q unstored : ℕ) → c + 1 ≤ unstored → m ≤ block_count v → j * block_count v ≤ c + q * block_count v → q ≤ entries_in nodes
    → (c + m) * record_length v + suc j * (28 + vxr_bytes (widest nodes)) ≤ blocks_room v nodes unstored
room_enough v nodes c m j q zero some few full passed = absurd (omega arith)
room_enough v nodes c m j q (suc u) some few full passed =
    let r = times_le (c + m) (u + block_count v) (record_length v) (omega arith) in
    let s = times_le (suc j) (quotient_up (suc u) (block_count v) + entries_in nodes + 1) (28 + vxr_bytes (widest nodes)) (many_blocks j c q (entries_in nodes) u (block_count v) (one_at_least v) full (omega arith) passed) in
    omega arith

-- ---- where a put begins

pub written_upto : (v : Variable) (n : ℕ) → first_written v n ≤ n
written_upto v n = grind arith

pub written_from : (v : Variable) (n : ℕ) → min n (extent v.max_rec) ≤ first_written v n
written_from v n = grind arith

found_upto : (k : ℕ) (rs : List Range) (r : Range) → find (covers k) rs ≡ Some r → k ≤ r.last
found_upto k [] r e = grind (arith, e)
found_upto k (x ∷ xs) r e = grind (arith, nat_tests, e, found_upto k xs r)

-- of the Firsts, the least ones past the records from a first on alone count
cover_same : (m : ℕ) (v : Variable) (fs fs' : List ℕ) (from k n : ℕ) (rs : List Range) → n ≤ record_number_limit → ((j : ℕ) → from ≤ j → next_first j fs ≡ next_first j fs') → from ≤ k → cover m v fs k n rs ≡ cover m v fs' k n rs
unfolding cover
cover_same zero v fs fs' from k n rs small same le = refl
cover_same (suc m) v fs fs' from k n rs small same le = elim (cases_lt n k) [
  | inl past ↦ rw (lt-ltb n k past) refl
  | inr upto ↦ rw (le-ltb n k upto) (elim (some_or_none (find (covers k) rs)) [
    | inl x ↦ rw x.1 (cover_same m v fs fs' from (x.0.last + 1) n rs small same (omega (arith, found_upto k rs x.0 x.1)))
    | inr none ↦
        let new : new_range v fs k ≡ new_range v fs' k = ap (λ (i : ℕ). if nat_lt k (extent v.max_rec) then range k k else range k (min (k + block_count v) i - 1)) (same k le) in
        rw none (cover_same m v fs fs' from ((new_range v fs k).last + 1) n (with_range (new_range v fs k) rs) small same (omega (arith, (ends v fs k (omega arith)).0)) ∙ ap (λ (r : Range). cover m v fs' (r.last + 1) n (with_range r rs)) new)
  ])
]

-- so many records had no block before the put
uncovered_is : (v : Variable) (index : Nodes) (n : ℕ) → ranges_before_put v index n ≡ ranges_of index → uncovered v index n ≡ (n + 1 - first_written v n) - covered (first_written v n) n (ranges_of index)
uncovered_is v index n same = ap (λ (rs : List Range). (n + 1 - first_written v n) - covered (first_written v n) n rs) same

-- ---- a put under way

pub covering_starts : (v : Variable) (index : Nodes) (n : ℕ) → n ≤ record_number_limit → ranges_before_put v index n ≡ ranges_of index → ((m : ℕ) → first_written v n ≤ m → next_first m (firsts_before_put v index n) ≡ next_first m (firsts_of index)) → InOrder 0 record_number_limit index
    → Covering v index index n (first_written v n) 0
covering_starts v index n small same nexts o =
    let leads : cover (n + 1 - first_written v n) v (firsts_of index) (first_written v n) n (ranges_of index) ≡ ranges_after_put v index n =
    cover_same (n + 1 - first_written v n) v (firsts_of index) (firsts_before_put v index n) (first_written v n) (first_written v n) n (ranges_of index) small (λ m le. sym (nexts m le)) (omega arith)
    ∙ ap (λ (rs : List Range). cover (n + 1 - first_written v n) v (firsts_before_put v index n) (first_written v n) n rs) (sym same) in
    let ahead : Ahead v (firsts_of index) n (first_written v n) (ranges_of index) (ranges_after_put v index n) = record { next = first_written v n; steps = n + 1 - first_written v n; upto = omega arith; enough = omega arith; between = λ j low high. absurd (omega arith); leads = leads } in
    let counted : first_written v n ≤ n → Counted v index index n (first_written v n) 0 = λ le. record { records = 0; blocks = 0; records_are = omega arith; blocks_are = omega arith; bytes_are = omega arith } in
    let grown : entries_in index + covered (first_written v n) n (ranges_of index) ≤ entries_in index + covered (first_written v n) n (ranges_of index) = omega arith in
    grind (arith, o, ahead, counted, grown)

pub covering_done : {v : Variable} {index index' : Nodes} {n k taken : ℕ} → Covering v index index' n k taken → n < k → ranges_of index' ≡ ranges_after_put v index n
covering_done {v = v} {index = index} {n = n} c lt = let u = c.ahead.upto in sym (end_step v (firsts_of index) n c.ahead.steps c.ahead.next _ (omega arith)) ∙ c.ahead.leads

-- another index with the same ranges, Firsts, entries and widths
pub covering_same : {v : Variable} {index index' index'' : Nodes} {n k taken : ℕ} → Covering v index index' n k taken → InOrder 0 record_number_limit index'' → ranges_of index'' ≡ ranges_of index' → firsts_of index'' ≡ firsts_of index' → widest index'' ≡ widest index' → entries_in index'' ≡ entries_in index' → Covering v index index'' n k taken
covering_same {v = v} {index = index} {index'' = index''} {n = n} {k = k} {taken = taken} c order ranges firsts wide entries =
    let covers = ap (covered (first_written v n) n) ranges in
    record {
      ordered = order;
      from = c.from;
      ahead = subst (λ (rs : List Range). Ahead v (firsts_of index) n k rs (ranges_after_put v index n)) (sym ranges) c.ahead;
      nexts = λ m le. ap (next_first m) firsts ∙ c.nexts m le;
      as_wide = omega (arith, wide, c.as_wide);
      grown = omega (arith, entries, covers, c.grown);
      fits = c.fits;
      counted = λ le. (let was = c.counted le in record { records = was.records; blocks = was.blocks; records_are = covers ∙ was.records_are; blocks_are = was.blocks_are; bytes_are = was.bytes_are });
    }

-- at most as many entries come as records had no block
pub covering_entries : {v : Variable} {index index' : Nodes} {n k taken : ℕ} → Covering v index index' n k taken → ranges_before_put v index n ≡ ranges_of index → entries_in index' ≤ entries_in index + uncovered v index n
covering_entries {v = v} {index = index} {index' = index'} {n = n} c same =
    let most = (covered_most (first_written v n) n 0 0 (suc record_number_limit) (leaves_of index') (leaves_ascend 0 record_number_limit index' c.ordered (omega arith))).0 in
    omega (arith, uncovered_is v index n same, most, c.grown)

module _ {v : Variable} {index index' : Nodes} {n k taken : ℕ} (c : Covering v index index' n k taken) (small : n ≤ record_number_limit) (le : k ≤ n) where
  abbrev fs : List ℕ
  fs = firsts_of index

  abbrev so_far : Counted v index index' n k taken
  so_far = c.counted le

  ascends : Ascending 0 (suc record_number_limit) (leaves_of index')
  ascends = leaves_ascend 0 record_number_limit index' c.ordered (omega arith)

  -- so it is as far as a later record, where no block is added
  counted_on : (k' : ℕ) → k ≤ k' → Counted v index index' n k' taken
  counted_on k' later = record { records = so_far.records; blocks = so_far.blocks; records_are = so_far.records_are; blocks_are = omega (arith, so_far.blocks_are, times_le (count_upto k fs) (count_upto k' fs) (block_count v) (count_more k k' fs later)); bytes_are = so_far.bytes_are }

  -- a record that has a block
  pub covering_has : (l : Leaf) → find (λ (leaf : Leaf). covers k (range leaf.first leaf.last)) (leaves_of index') ≡ Some l → Covering v index index' n (k + 1) taken
  covering_has l e =
      let is = found_covering k (leaves_of index') l e in
      let rng = λ (leaf : Leaf). range leaf.first leaf.last in
      let found = λ (j : ℕ) (e : find (λ (leaf : Leaf). covers j (range leaf.first leaf.last)) (leaves_of index') ≡ Some l). (find_range j (leaves_of index') ∙ ap (option_map rng) e) in
      let ahead = ahead_has c.ahead le (rng l) is.1.1 (found k e) (λ j low high none. let there = found j (find_covering j 0 (suc record_number_limit) (leaves_of index') ascends l is.0 (omega (arith, is.1.0)) high) in cc) in
      let counted : Counted v index index' n (k + 1) taken = counted_on (k + 1) (omega arith) in
      grind (arith, c, ahead, counted)

  -- a leaf that has the record, up to its last one
  pub covering_past : (l : Leaf) → find (λ (leaf : Leaf). covers k (range leaf.first leaf.last)) (leaves_of index') ≡ Some l → Covering v index index' n (min (l.last + 1) (n + 1)) taken
  covering_past l e =
      let is = found_covering k (leaves_of index') l e in
      let rng = λ (leaf : Leaf). range leaf.first leaf.last in
      let there = λ (j : ℕ) (low : k ≤ j) (high : j ≤ l.last). (find_range j (leaves_of index') ∙ ap (option_map rng) (find_covering j 0 (suc record_number_limit) (leaves_of index') ascends l is.0 (omega (arith, is.1.0)) high)) in
      let past : k ≤ min (l.last + 1) (n + 1) = omega (arith, is.1.1) in
      let ahead = ahead_past c.ahead le (rng l) is.1.1 there in
      let nexts = λ (m : ℕ) (low : min (l.last + 1) (n + 1) ≤ m). c.nexts m (omega arith) in
      let counted = λ (more : min (l.last + 1) (n + 1) ≤ n). counted_on (min (l.last + 1) (n + 1)) past in
      record { ordered = c.ordered; from = omega (arith, c.from); ahead = ahead; nexts = nexts; as_wide = c.as_wide; grown = c.grown; fits = c.fits; counted = counted }

  -- one that has none gets a block that ends here
  abbrev last : ℕ
  last = new_last v index' k

  pub covering_ends : Ends k (next_first k (firsts_of index')) (block_count v) last
  covering_ends = ends v (firsts_of index') k (omega arith)

  module _ (same : ranges_before_put v index n ≡ ranges_of index) (vacant : find (λ (leaf : Leaf). covers k (range leaf.first leaf.last)) (leaves_of index') ≡ None) where
    none : find (covers k) (ranges_of index') ≡ None
    none = find_range k (leaves_of index') ∙ ap (option_map _) vacant

    -- of those that had no block, one at least has none yet
    one_left : so_far.records + 1 ≤ uncovered v index n
    one_left = omega (arith, uncovered_is v index n same, (covered_most (first_written v n) n k 0 (suc record_number_limit) (leaves_of index') ascends).1 c.from (omega arith) le none, so_far.records_are)

    in_room : (so_far.records + (last + 1 - k)) * record_length v + suc so_far.blocks * (28 + vxr_bytes (widest index)) ≤ blocks_room v index (uncovered v index n)
    in_room = omega (arith, room_enough v index so_far.records (last + 1 - k) so_far.blocks (count_upto k fs) (uncovered v index n) one_left covering_ends.2 so_far.blocks_are (omega (arith, count_most k fs, firsts_count index)))

    pub covering_room : taken + block_bytes v k last + vxr_bytes (widest index') ≤ blocks_room v index (uncovered v index n)
    covering_room = omega (arith, in_room, so_far.bytes_are, c.as_wide)

    module _ (place at : ℕ) (packed : Bool) (narrow : new_room k index' ≤ widest index') where
      abbrev new : Leaf
      new = leaf k last place packed

      abbrev taken' : ℕ
      taken' = taken + block_bytes v k last + node_bytes k index'

      ranges_are : ranges_of (with_leaf new at index') ≡ with_range (range k last) (ranges_of index')
      ranges_are = ap of_leaves (leaves_more new at 0 record_number_limit index' c.ordered) ∙ ranges_new new (leaves_of index')

      -- it ends where one would that is made in the index before the put
      same_new : range k last ≡ new_range v fs k
      same_new = grind (arith, c.nexts k)

      bytes' : taken' ≤ (so_far.records + (last + 1 - k)) * record_length v + suc so_far.blocks * (28 + vxr_bytes (widest index))
      bytes' = grind (arith, nat_tests, narrow, c.as_wide, so_far.bytes_are)

      counted' : last + 1 ≤ n → Counted v index (with_leaf new at index') n (last + 1) taken'
      counted' more =
          -- the new block is full, or one more First is passed
          let full : (last + 1 - k ≡ block_count v) ⊎ (suc (count_upto k fs) ≤ count_upto (last + 1) fs) = grind (arith, nat_tests, one_passed k (record_number_limit + 1) fs, c.nexts k, next_past k (firsts_of index') (omega arith)) in
          record {
            records = so_far.records + (last + 1 - k);
            blocks = suc so_far.blocks;
            records_are = ap (covered (first_written v n) n) ranges_are ∙ covered_with (first_written v n) n (range k last) (ranges_of index') ∙ omega (arith, so_far.records_are);
            blocks_are = grind (arith, so_far.blocks_are, full, times_le (count_upto k fs) (count_upto (last + 1) fs) (block_count v) (count_more k (last + 1) fs (omega (arith, covering_ends.0))), times_le (suc (count_upto k fs)) (count_upto (last + 1) fs) (block_count v));
            bytes_are = bytes';
          }

      -- an entry more, and a record more that has a block
      grown' : entries_in (with_leaf new at index') + covered (first_written v n) n (ranges_of index) ≤ entries_in index + covered (first_written v n) n (ranges_of (with_leaf new at index'))
      grown' =
          let more = ap (covered (first_written v n) n) ranges_are ∙ covered_with (first_written v n) n (range k last) (ranges_of index') in
          omega (arith, by_leaf (entries_grow new at) index', more, c.grown, c.from, covering_ends.0, le)

      pub covering_leaf : Covering v index (with_leaf (leaf k (new_last v index' k) place packed) at index') n (min (new_last v index' k + 1) (n + 1)) (taken + block_bytes v k (new_last v index' k) + node_bytes k index')
      covering_leaf =
          let ends = covering_ends in
          let ahead = subst (λ (rs : List Range). Ahead v fs n (min (last + 1) (n + 1)) rs (ranges_after_put v index n)) (sym ranges_are)
          (subst (λ (r : Range). Ahead v fs n (min (r.last + 1) (n + 1)) (with_range r (ranges_of index')) (ranges_after_put v index n)) (sym same_new) (ahead_new c.ahead le (subst (λ (r : Range). k ≤ r.last) same_new ends.0) none)) in
          let nexts : (m : ℕ) → min (last + 1) (n + 1) ≤ m → next_first m (firsts_of (with_leaf new at index')) ≡ next_first m fs = λ m lm. next_firsts_with_leaf new at index' m (omega arith) ∙ c.nexts m (omega arith) in
          let counted : min (last + 1) (n + 1) ≤ n → Counted v index (with_leaf new at index') n (min (last + 1) (n + 1)) taken' = λ more. subst (λ (x : ℕ). Counted v index (with_leaf new at index') n x taken') (omega arith) (counted' (omega arith)) in
          search (arith, order_with_leaf new at index' c.ordered ends.0 vacant ends.1, c.from, ahead, nexts, by_leaf (wide_grows new at) index', narrow, c.as_wide, grown', bytes', in_room, counted)
